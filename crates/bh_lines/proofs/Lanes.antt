-- Sixteen bytes at once: where the first stands that passes a test.
use Rattle.std.proofs.Common.{◌≡◌, ℕ, zero, suc, ◌+◌, ◌-◌, ◌*◌, ◌/◌, ◌%◌, ◌^◌, ◌<◌, ◌≤◌, Bool, true, false, not, ◌&&◌, cond, eqb, ltb, List, [], ◌∷◌, map, length, drop, Fits, w8, inl, inr, refl, sym, ap, ap₂, ◌∙◌, arith, length-drop, ne_eqb}
use Rattle.std.proofs.lemmas.Bool.{false≢true, cases_eq, and_parts, eq-eqb}
use Rattle.std.proofs.Math.Nat.{div-div-eq-div-mul, div-one, zero-div}
use Rattle.std.proofs.lemmas.List.{drop-drop, drop-map, length-map, take_all}
use Rattle.std.proofs.lemmas.List.Folds.{prefix_len-append}
use Rattle.std.proofs.lemmas.List.Sums.{prefix_len-le-length}
use Rattle.std.proofs.lemmas.Simd.{mask_l-mod, chunk-drop, length-chunk, trailing_mask_l, leading_from_mask_l}
use Rattle.std.specs.List.{prefix_len}
use native.Mathlib.Numerals.{unary_clauses}
use lib.Count.{count_trailing_zeros}
use lib.Lanes.{Each1, chunk, mask_l, top}

-- the test holds of each number below n
abbrev holds_below : (ℕ → Bool) → ℕ → Bool
holds_below p zero = true
holds_below p (suc n) = p n && holds_below p n

each_below : (p : ℕ → Bool) (n : ℕ) → holds_below p n ≡ true → (x : ℕ) → x < n → p x ≡ true
each_below p zero h x less = absurd (omega arith)
each_below p (suc n) h x less =
    elim (cases_eq x n) [
      | inl e ↦ ap p e ∙ (and_parts (p n) (holds_below p n) h).0
      | inr ne ↦ each_below p n (and_parts (p n) (holds_below p n) h).1 x (omega arith)
    ]

abbrev same : Bool → Bool → Bool
same true b = b
same false b = not b

same_is : (a b : Bool) → same a b ≡ true → a ≡ b
same_is true b h = sym h
same_is false true h = absurd (false≢true h)
same_is false false h = refl

-- the lanes of a comparison
abbrev pub hit : ℕ → ℕ → ℕ
hit a b = cond (eqb a b) 255 0

abbrev pub below : ℕ → ℕ → ℕ
below a b = cond (ltb a b) 255 0

-- the lane of each byte has its highest bit set where the byte passes the test
abbrev pub agree : (ℕ → ℕ) → (ℕ → Bool) → Bool
agree lane p = holds_below (λ y. same (top 7 (lane y)) (p y)) 256

each_lane : (lane : ℕ → ℕ) (p : ℕ → Bool) → agree lane p ≡ true → (v : List ℕ) → Each1 (Fits w8) v → map (top 7) (map lane v) ≡ map p v
each_lane lane p all [] fits = refl
each_lane lane p all (x ∷ xs) fits = ap₂ (λ a b. a ∷ b) (same_is _ _ (each_below (λ y. same (top 7 (lane y)) (p y)) 256 all x fits.0.fits)) (each_lane lane p all xs fits.1)

-- the highest bits of such lanes are the mask of the bytes that pass
pub lanes_found : (lane : ℕ → ℕ) (p : ℕ → Bool) → agree lane p ≡ true → (v : List ℕ) → length v ≡ 16 → Each1 (Fits w8) v → mask_l (map (top 7) (map lane v)) % 2 ^ 64 ≡ mask_l (map p v)
lanes_found lane p all v long fits =
    ap (λ l. mask_l l % 2 ^ 64) (each_lane lane p all v fits) ∙ mask_l-mod (map p v) 64 (omega (arith, length-map v p))

no_bit : (b : Bool) (n l m : ℕ) → n ≤ l → cond (not b) (1 + n) 0 ≡ 1 + l → (n ≡ l → m ≡ 0) → cond b 1 0 + 2 * m ≡ 0
no_bit true n l m le e ih = absurd (omega arith)
no_bit false n l m le e ih = let none = ih (omega arith) in omega (arith, none)

all_fail : (p : ℕ → Bool) (xs : List ℕ) → prefix_len (λ x. not (p x)) xs ≡ length xs → mask_l (map p xs) ≡ 0
all_fail p [] e = refl
all_fail p (x ∷ xs) e = no_bit (p x) (prefix_len (λ y. not (p y)) xs) (length xs) _ (prefix_len-le-length (λ y. not (p y)) xs) (omega arith) (all_fail p xs)

-- the first that passes among sixteen bytes ends the ones that do not
pub first_among : (p : ℕ → Bool) (d : List ℕ) (i : ℕ) → i + 16 ≤ length d → 0 < mask_l (map p (chunk i 16 d)) → prefix_len (λ x. not (p x)) (drop i d) ≡ count_trailing_zeros 64 (mask_l (map p (chunk i 16 d)))
first_among p d i room some =
    let c = chunk i 16 d in
    let ahead = drop (i + 16) d in
    let others = λ (x : ℕ). not (p x) in
    let ends : prefix_len others c ≡ length c → ⊥ = λ e. omega (arith, some, all_fail p c e) in
    ap (prefix_len others) (chunk-drop i 16 d) ∙ prefix_len-append others c ahead
    ∙ ap (λ b. cond b (length c + prefix_len others ahead) (prefix_len others c)) (ne_eqb (prefix_len others c) (length c) ends)
    ∙ sym (trailing_mask_l p 64 c (omega (arith, length-chunk i 16 d room)) some)

-- it is one of the sixteen
pub first_within : (p : ℕ → Bool) (d : List ℕ) (i : ℕ) → i + 16 ≤ length d → 0 < mask_l (map p (chunk i 16 d)) → count_trailing_zeros 64 (mask_l (map p (chunk i 16 d))) < 16
first_within p d i room some =
    let c = chunk i 16 d in
    let others = λ (x : ℕ). not (p x) in
    let long = length-chunk i 16 d room in
    let ends : prefix_len others c ≡ length c → ⊥ = λ e. omega (arith, some, all_fail p c e) in
    let less : prefix_len others c < length c = omega (arith, ends, prefix_len-le-length others c) in
    omega (arith, less, long, trailing_mask_l p 64 c (omega (arith, long)) some)

-- where none passes among sixteen bytes, those that do not go on behind them
pub none_among : (p : ℕ → Bool) (d : List ℕ) (i : ℕ) → i + 16 ≤ length d → mask_l (map p (chunk i 16 d)) ≡ 0 → prefix_len (λ x. not (p x)) (drop i d) ≡ 16 + prefix_len (λ x. not (p x)) (drop (i + 16) d)
none_among p d i room none =
    let c = chunk i 16 d in
    let ahead = drop (i + 16) d in
    let others = λ (x : ℕ). not (p x) in
    ap (prefix_len others) (chunk-drop i 16 d) ∙ prefix_len-append others c ahead
    ∙ ap (λ b. cond b (length c + prefix_len others ahead) (prefix_len others c)) (eq-eqb (prefix_len others c) (length c) (leading_from_mask_l p c none))
    ∙ ap (λ n. n + prefix_len others ahead) (length-chunk i 16 d room)

half : (b : Bool) (m : ℕ) → (cond b 1 0 + 2 * m) / 2 ≡ m
half true m = omega arith
half false m = omega arith

pow_suc : (k : ℕ) → 2 ^ suc k ≡ 2 * 2 ^ k
pow_suc k = simp unary_clauses (omega arith)

-- a mask without its lowest bits is that of the lanes behind them
shifted : (k : ℕ) (ms : List Bool) → mask_l ms / 2 ^ k ≡ mask_l (drop k ms)
shifted zero ms = div-one (mask_l ms)
shifted (suc k) [] = zero-div (2 ^ suc k)
shifted (suc k) (b ∷ bs) =
    let m = cond b 1 0 + 2 * mask_l bs in
    ap (λ n. m / n) (pow_suc k) ∙ sym (div-div-eq-div-mul m 2 (2 ^ k)) ∙ ap (λ n. n / 2 ^ k) (half b (mask_l bs)) ∙ shifted k bs

-- the mask of the last sixteen, k of which are passed over, is that of those behind them
in_tail : (p : ℕ → Bool) (d : List ℕ) (i k : ℕ) → i + 16 ≡ length d → mask_l (map p (chunk i 16 d)) / 2 ^ k ≡ mask_l (map p (drop (i + k) d))
in_tail p d i k all =
    let c = chunk i 16 d in
    let is_tail : c ≡ drop i d = take_all 16 (drop i d) (omega (arith, length-drop i d, all)) in
    shifted k (map p c) ∙ ap mask_l (drop-map p k c) ∙ ap (λ l. mask_l (map p l)) (ap (drop k) is_tail ∙ drop-drop k i d)

-- where none of them passes, all are others
pub none_in_tail : (p : ℕ → Bool) (d : List ℕ) (i k : ℕ) → i + 16 ≡ length d → mask_l (map p (chunk i 16 d)) / 2 ^ k ≡ 0 → prefix_len (λ x. not (p x)) (drop (i + k) d) ≡ 16 - k
none_in_tail p d i k all none =
    leading_from_mask_l p (drop (i + k) d) (sym (in_tail p d i k all) ∙ none) ∙ omega (arith, length-drop (i + k) d, all)

-- the first of them that passes ends the others
pub first_in_tail : (p : ℕ → Bool) (d : List ℕ) (i k : ℕ) → i + 16 ≡ length d → 0 < mask_l (map p (chunk i 16 d)) / 2 ^ k → prefix_len (λ x. not (p x)) (drop (i + k) d) ≡ count_trailing_zeros 64 (mask_l (map p (chunk i 16 d)) / 2 ^ k)
first_in_tail p d i k all some =
    sym (trailing_mask_l p 64 (drop (i + k) d) (omega (arith, length-drop (i + k) d, all)) (omega (arith, some, in_tail p d i k all)))
    ∙ ap (count_trailing_zeros 64) (sym (in_tail p d i k all))
