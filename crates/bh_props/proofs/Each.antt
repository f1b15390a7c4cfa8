-- Items with their numbers, and one more at the end.
use Rattle.std.proofs.Common.{◌≡◌, ℕ, suc, ◌+◌, List, [], ◌∷◌, ◌++◌, length, map, slice_index, refl, sym, ap, ◌∙◌, append_assoc, arith}
use Rattle.std.proofs.lemmas.List.{append-nil}
use Rattle.std.specs.List.{flat_map}
use Rattle.bh_base.specs.Commands.{each_from}

module _ {X Y : Type 0} where
  -- one more item stands last, with the number behind the others'
  pub each_from-last : (from : ℕ) (f : ℕ → X → Y) (xs : List X) (x : X) → each_from from f (xs ++ x ∷ []) ≡ each_from from f xs ++ f (from + length xs) x ∷ []
  each_from-last from f [] x = let here : from ≡ from + 0 = omega arith in ap (λ n. f n x ∷ []) here
  each_from-last from f (y ∷ xs) x =
      let there : from + 1 + length xs ≡ from + length (y ∷ xs) = omega arith in
      ap (λ later. f from y ∷ later) (each_from-last (from + 1) f xs x ∙ ap (λ n. each_from (from + 1) f xs ++ f n x ∷ []) there)

  -- as many as there are
  pub length-each_from : (from : ℕ) (f : ℕ → X → Y) (xs : List X) → length (each_from from f xs) ≡ length xs
  length-each_from from f [] = refl
  length-each_from from f (x ∷ xs) = ap suc (length-each_from (from + 1) f xs)

-- the lists of the items and of one more, in a row
pub rows-last : {X A : Type 0} (from : ℕ) (f : ℕ → X → List A) (xs : List X) (x : X)
    → flat_map (λ row. row) (each_from from f (xs ++ x ∷ [])) ≡ flat_map (λ row. row) (each_from from f xs) ++ f (from + length xs) x
rows-last from f [] x = let here : from ≡ from + 0 = omega arith in append-nil (f from x) ∙ ap (λ n. f n x) here
rows-last from f (y ∷ xs) x =
    let there : from + 1 + length xs ≡ from + length (y ∷ xs) = omega arith in
    ap (λ later. f from y ++ later) (rows-last (from + 1) f xs x ∙ ap (λ n. flat_map (λ row. row) (each_from (from + 1) f xs) ++ f n x) there)
    ∙ sym (append_assoc (f from y) (flat_map (λ row. row) (each_from (from + 1) f xs)) (f (from + length (y ∷ xs)) x))

-- the same, where the list of the one more is written in two parts
pub rows-next : {X A : Type 0} (f : ℕ → X → List A) (xs : List X) (x : X) (place : ℕ) (front back : List A) → place ≡ length xs → front ++ back ≡ f place x
    → (flat_map (λ row. row) (each_from 0 f xs) ++ front) ++ back ≡ flat_map (λ row. row) (each_from 0 f (xs ++ x ∷ []))
rows-next f xs x place front back at parts =
    let here : place ≡ 0 + length xs = omega arith in
    append_assoc (flat_map (λ row. row) (each_from 0 f xs)) front back
    ∙ ap (λ row. flat_map (λ row. row) (each_from 0 f xs) ++ row) (parts ∙ ap (λ n. f n x) here)
    ∙ sym (rows-last 0 f xs x)

-- what is said of the item behind others
pub index-behind : {X : Type 0} (f : X → ℕ) (done rest : List X) (x : X) → slice_index (map f (done ++ x ∷ rest)) (length done) ≡ f x
index-behind f [] rest x = refl
index-behind f (y ∷ done) rest x = index-behind f done rest x
