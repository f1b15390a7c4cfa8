-- Slots put last, one after another.
use Rattle.std.proofs.Common.{◌≡◌, ℕ, zero, suc, ◌+◌, ◌<◌, List, [], ◌∷◌, ◌++◌, length, set, ap, ◌∙◌, arith, append_assoc, get_or-set_same}
use Rattle.std.specs.List.{range_with_len}
use Rattle.std.proofs.lemmas.List.{set-set}
use Rattle.bh_slot_arena.specs.Lists.{list_at, put_last}

-- a range that is one longer has one more number at its end
pub range_with_len-suc : (a n : ℕ) → range_with_len a (suc n) ≡ range_with_len a n ++ (a + n) ∷ []
range_with_len-suc a zero = let e : a ≡ a + 0 = omega arith in ap (λ (z : ℕ). z ∷ []) e
range_with_len-suc a (suc n) = let e : a + 1 + n ≡ a + suc n = omega arith in ap (λ (zs : List ℕ). a ∷ zs) (range_with_len-suc (a + 1) n ∙ ap (λ (z : ℕ). range_with_len (a + 1) n ++ z ∷ []) e)

-- slots put last on a list one part after the other are put last as one
pub put_last-put_last : (xs ys : List ℕ) (to : ℕ) (lists : List (List ℕ)) → to < length lists → put_last ys to (put_last xs to lists) ≡ put_last (xs ++ ys) to lists
put_last-put_last xs ys to lists lt =
    set-set lists to (list_at lists to ++ xs) (list_at (put_last xs to lists) to ++ ys)
    ∙ ap (λ (zs : List ℕ). set lists to (zs ++ ys)) (get_or-set_same lists to (list_at lists to ++ xs) [] lt)
    ∙ ap (λ (zs : List ℕ). set lists to zs) (append_assoc (list_at lists to) xs ys)
