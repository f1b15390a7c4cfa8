-- The first line feed of some bytes.
use Rattle.std.proofs.Common.{◌≡◌, ℕ, suc, ◌+◌, ◌<◌, ◌≤◌, ◌==◌, Bool, true, false, cond, not, List, [], ◌∷◌, ◌++◌, length, take, drop, refl, sym, ap, ◌∙◌, subst, arith, Some, None, inl, inr}
use Rattle.std.proofs.lemmas.Bool.Decides.{nat_tests}
use Rattle.std.proofs.lemmas.List.Sums.{position_or_len_is}
use Rattle.std.specs.List.{list_any}
use Rattle.std.specs.Prelude.{slice_index, ◌||◌, nat_lt}
use Rattle.memchr.specs.Find.{IsFirstByte, is_byte}
use Rattle.bh_lines.specs.Lines.{cut, has_line, stopped}
use Rattle.bh_lines.proofs.Cutting.{feed}
use Rattle.bh_lines.proofs.Fronting.{front-missing}
use Rattle.bh_cut.proofs.Pieces.{NoFeed}

-- the first line feed stands at the place
pub record SplitsAt (bytes : List ℕ) (place : ℕ) : Type 0 where
  pub none : NoFeed (take place bytes)
  pub whole : bytes ≡ take place bytes ++ 10 ∷ drop (place + 1) bytes
  pub front : take (place + 1) bytes ≡ take place bytes ++ 10 ∷ []

splits : (xs : List ℕ) → feed xs < length xs → SplitsAt xs (feed xs)
splits [] h = absurd (omega (arith, h))
splits (b ∷ bs) h =
    elim (b == 10) as (λ v. (b == 10) ≡ v → cond (not v) (1 + feed bs) 0 < suc (length bs) → SplitsAt (b ∷ bs) (cond (not v) (1 + feed bs) 0)) [
      | true ↦ λ e _. let is : b ≡ 10 = grind (arith, nat_tests) in record { none = tt; whole = ap (λ k. k ∷ bs) is; front = ap (λ k. k ∷ []) is }
      | false ↦ λ e k.
          let low : feed bs < length bs = omega (arith, k) in
          let s = splits bs low in
          let one : 1 + feed bs ≡ suc (feed bs) = omega arith in
          let two : suc (feed bs) + 1 ≡ suc (feed bs + 1) = omega arith in
          let later : SplitsAt (b ∷ bs) (suc (feed bs)) =
          record { none = (e, s.none); whole = rw two (ap (λ ys. b ∷ ys) s.whole); front = rw two (ap (λ ys. b ∷ ys) s.front) } in
          subst (λ (n : ℕ). SplitsAt (b ∷ bs) n) (sym one) later
    ] refl h

none-before : (xs : List ℕ) → length xs ≤ feed xs → NoFeed xs
none-before [] h = tt
none-before (b ∷ bs) h =
    elim (b == 10) as (λ v. (b == 10) ≡ v → suc (length bs) ≤ cond (not v) (1 + feed bs) 0 → NoFeed (b ∷ bs)) [
      | true ↦ λ _ k. absurd (omega (arith, k))
      | false ↦ λ e k. (e, none-before bs (omega (arith, k)))
    ] refl h

false_unless : (b : Bool) → ¬ (b ≡ true) → b ≡ false
false_unless true h = absurd (h refl)
false_unless false h = refl

-- the byte that was found is the first line feed
feed-at : (xs : List ℕ) (end : ℕ) → IsFirstByte (is_byte 10) xs (Some end) → feed xs ≡ end
feed-at xs end found =
    position_or_len_is (λ b. b == 10) xs end 0 (omega (arith, found.0.high)) (λ k h. false_unless (slice_index xs k == 10) (found.0.before k (omega arith) h)) (λ _. found.1)

feed-none : (xs : List ℕ) → IsFirstByte (is_byte 10) xs None → feed xs ≡ length xs
feed-none xs none =
    position_or_len_is (λ b. b == 10) xs (length xs) 0 (omega arith) (λ k h. false_unless (slice_index xs k == 10) (none k (omega arith) h)) (λ bad. absurd (omega (arith, bad)))

pub found-splits : (xs : List ℕ) (end : ℕ) → IsFirstByte (is_byte 10) xs (Some end) → SplitsAt xs end
found-splits xs end found =
    let at = feed-at xs end found in
    subst (λ (n : ℕ). SplitsAt xs n) at (splits xs (omega (arith, at, found.0.high)))

pub none-found : (xs : List ℕ) → IsFirstByte (is_byte 10) xs None → NoFeed xs
none-found xs none = none-before xs (omega (arith, feed-none xs none))

any-none : (xs : List ℕ) → NoFeed xs → list_any (λ b. b == 10) xs ≡ false
any-none [] none = refl
any-none (b ∷ bs) none = ap (λ v. v || list_any (λ x. x == 10) bs) none.0 ∙ any-none bs none.1

none-any : (xs : List ℕ) → list_any (λ b. b == 10) xs ≡ false → NoFeed xs
none-any [] h = tt
none-any (b ∷ bs) h =
    elim (b == 10) as (λ v. (b == 10) ≡ v → (v || list_any (λ x. x == 10) bs) ≡ false → NoFeed (b ∷ bs)) [
      | true ↦ λ _ k. absurd (let bad : true ≡ false = k in cc)
      | false ↦ λ e k. (e, none-any bs k)
    ] refl h

any-feed : (front more : List ℕ) → list_any (λ b. b == 10) (front ++ 10 ∷ more) ≡ true
any-feed [] more = refl
any-feed (b ∷ bs) more = elim (b == 10) as (λ v. (v || list_any (λ x. x == 10) (bs ++ 10 ∷ more)) ≡ true) [ true ↦ refl | false ↦ any-feed bs more ]

-- no line has ended in few bytes with no line feed
pub has_line-none : (xs : List ℕ) → NoFeed xs → length xs ≤ 1024 → has_line xs ≡ false
has_line-none xs none few =
    let short : nat_lt 1024 (length xs) ≡ false = grind (arith, nat_tests) in
    ap (λ v. v || list_any (λ b. b == 10) xs) short ∙ any-none xs none

pub no_line-none : (xs : List ℕ) → has_line xs ≡ false → NoFeed xs
no_line-none xs h =
    elim (nat_lt 1024 (length xs)) as (λ v. (v || list_any (λ b. b == 10) xs) ≡ false → NoFeed xs) [
      | true ↦ λ k. absurd (let bad : true ≡ false = k in cc)
      | false ↦ λ k. none-any xs k
    ] h

-- one has in a piece
pub piece-has_line : (xs : List ℕ) (place : ℕ) → SplitsAt xs place → has_line (take (place + 1) xs) ≡ true
piece-has_line xs place s = ap has_line s.front ∙ feed-line (take place xs)
  where
    feed-line : (front : List ℕ) → has_line (front ++ 10 ∷ []) ≡ true
    feed-line front = elim (nat_lt 1024 (length (front ++ 10 ∷ []))) as (λ v. (v || list_any (λ b. b == 10) (front ++ 10 ∷ [])) ≡ true) [ true ↦ refl | false ↦ any-feed front [] ]

-- too many bytes with no line feed
pub long-stopped : (xs : List ℕ) → IsFirstByte (is_byte 10) xs None → 1024 < length xs → (more : List ℕ) → cut (xs ++ more) ≡ stopped
long-stopped xs none long more =
    let far : nat_lt 1024 (length xs) ≡ true = grind (arith, nat_tests) in
    let some : has_line xs ≡ true = ap (λ v. v || list_any (λ b. b == 10) xs) far in
    elim (front-missing xs none) [
      | inl bad ↦ absurd (let both : true ≡ false = sym some ∙ bad in cc)
      | inr stops ↦ stops more
    ]
