-- The line in front, where it is ASCII: the byte at which its run of ASCII ends.
use Rattle.std.proofs.Common.{◌≡◌, ℕ, ◌%◌, ◌^◌, ◌<◌, ◌≤◌, ◌==◌, true, cond, leb, List, map, length, take, replicate, get_or, bit_or, Fits, w8, refl, sym, ap, ◌∙◌, subst, arith, length-take-le, eq-eqb}
use Rattle.std.proofs.lemmas.Bool.Decides.{nat_tests}
use Rattle.std.proofs.lemmas.List.{get_or-take}
use Rattle.std.proofs.lemmas.List.Sums.{prefix_len_passes}
use Rattle.std.proofs.lemmas.Simd.{zip2_splat, zip2_splat_left, zip2_of_maps}
use Rattle.std.proofs.lemmas.Str.Ascii.{IsAscii-from_reads}
use Rattle.std.specs.List.{prefix_len}
use lib.Lanes.{Each1, zip2, mask_l, top}
use Rattle.bh_lines.specs.Ascii.{is_mark, is_unmarked, IsAsciiEnd}
use Rattle.bh_lines.proofs.Lanes.{hit, lanes_found}

-- the lanes of a comparison
abbrev no_more : ℕ → ℕ → ℕ
no_more a b = cond (leb a b) 255 0

abbrev mark_lane : ℕ → ℕ
mark_lane x = bit_or (hit x 10) (no_more 128 x)

-- the two comparisons find the marks
pub marks_found : (v : List ℕ) → length v ≡ 16 → Each1 (Fits w8) v
    → mask_l (map (top 7) (zip2 bit_or (zip2 hit v (replicate 16 10)) (zip2 no_more (replicate 16 128) v))) % 2 ^ 64 ≡ mask_l (map is_mark v)
marks_found v long fits =
    let lanes = zip2_of_maps bit_or (λ x. hit x 10) (λ x. no_more 128 x) v (zip2_splat hit v 16 10 long) (zip2_splat_left no_more 128 16 v long) in
    ap (λ l. mask_l (map (top 7) l) % 2 ^ 64) lanes ∙ lanes_found mark_lane is_mark refl v long fits

no_feed : (x : ℕ) → is_unmarked x ≡ true → (x == 10) ≡ true → ⊥
no_feed x h feed = grind (arith, nat_tests)

below_128 : (x : ℕ) → is_unmarked x ≡ true → x < 128
below_128 x h = grind (arith, nat_tests)

-- the first mark is a line feed
pub ascii_end-is : (xs : List ℕ) (n : ℕ) → n ≡ prefix_len is_unmarked xs → n < length xs → n ≤ 1024 → get_or xs n 0 ≡ 10 → IsAsciiEnd xs n
ascii_end-is xs n is within near feed =
    let unmarked : (k : ℕ) → k < n → is_unmarked (get_or xs k 0) ≡ true = λ k h. prefix_len_passes is_unmarked xs k 0 (omega (arith, is, h)) in (
      (record { low = omega arith; high = within; before = λ k _ h. no_feed (get_or xs k 0) (unmarked k h) }, eq-eqb (get_or xs n 0) 10 feed),
      IsAscii-from_reads (take n xs) n (omega (arith, length-take-le n xs (omega (arith, within)))) (λ k h. subst (λ (x : ℕ). x < 128) (sym (get_or-take n xs k 0 h)) (below_128 (get_or xs k 0) (unmarked k h))),
      near,
    )
