-- The number of a group, found by comparing the name from either side.
use Rattle.std.proofs.Common.{◌≡◌, ℕ, ◌+◌, Bool, List, [], ◌∷◌, cond, refl, ◌∙◌, ap, Some}
use Rattle.std.specs.Prelude.{position, nat_eq}
use Rattle.std.specs.List.{position_from}
use Rattle.std.specs.Cmp.Lexicographic.{pointwise}
use Rattle.std.specs.Str.{bytes_eq}
use Rattle.std.proofs.lemmas.Cmp.{nat_list_eq_equiv}
use Rattle.bh_lines.specs.StepLine.{group_number}
use Rattle.std.proofs.lemmas.Iterator.Adapters.{position_from-zero}

same_position : {X : Type 0} (p q : X → Bool) → ((x : X) → p x ≡ q x) → (i : ℕ) (xs : List X) → position_from p i xs ≡ position_from q i xs
same_position p q same i [] = refl
same_position p q same i (x ∷ xs) = ap (λ b. cond b (Some i) (position_from p (i + 1) xs)) (same x) ∙ ap (cond (q x) (Some i)) (same_position p q same (i + 1) xs)

-- the name that is looked up may stand before the one it is compared with, or behind it
pub position-key : (key name : List ℕ) (names : List (List ℕ)) → key ≡ name → position (pointwise nat_eq key) names ≡ group_number names name
position-key key name names is =
    ap (λ k. position (pointwise nat_eq k) names) is ∙ position_from-zero (pointwise nat_eq name) names
    ∙ same_position (pointwise nat_eq name) (λ n. bytes_eq n name) (λ n. nat_list_eq_equiv.symm name n) 0 names
