-- The further commands in lists by group: no commands, and one more.
use Rattle.std.proofs.Common.{◌≡◌, ◌==◌, ◌≢◌, ℕ, ◌<◌, List, [], ◌∷◌, ◌++◌, length, get_or, Bool, true, false, Vec, Global, refl, sym, ap, subst, ◌∙◌, arith}
use Rattle.std.proofs.Math.ListN.{set, length-set}
use Rattle.std.proofs.lemmas.Bool.Decides.{nat_tests}
use Rattle.std.proofs.lemmas.Bool.{eqb-true}
use Rattle.std.proofs.lemmas.Grind.{common_steps}
use Rattle.std.proofs.lemmas.List.{append-nil, get_or-set_same, get_or-set_other}
use Rattle.std.proofs.lemmas.List.Elements.{filter-append}
use Rattle.std.specs.List.{AllByRecursion}
use Rattle.bh_props.specs.Commands.{Commands, commands_in}
use Rattle.bh_props.specs.ByGroup.{AreByGroup}

abbrev Command : Type 0
Command = List ℕ × (ℕ × ℕ)

abbrev Lists : Type 0
Lists = List (Vec Command Global)

-- one more empty list
pub empty-next : (lists : Lists) (fresh : Vec Command Global) → AreByGroup [] lists → fresh.items ≡ [] → AreByGroup [] (lists ++ fresh ∷ [])
empty-next lists fresh h empty place none within = by (place == length lists) refl
  where
    by : (b : Bool) → (place == length lists) ≡ b → (get_or (lists ++ fresh ∷ []) place none).items ≡ []
    by true e =
        let last : place ≡ length lists = eqb-true place (length lists) e in
        let here : get_or (lists ++ fresh ∷ []) place none ≡ fresh = grind (arith, common_steps) in
        ap (λ v. v.items) here ∙ empty
    by false e =
        let other : place < length lists = grind (arith, nat_tests, common_steps) in
        let here : get_or (lists ++ fresh ∷ []) place none ≡ get_or lists place none = grind (arith, common_steps) in
        ap (λ v. v.items) here ∙ h place none other

module _ (done : Commands) (lists : Lists) (c : Command) (h : AreByGroup done lists) where
  parts : (place : ℕ) → commands_in place (done ++ c ∷ []) ≡ commands_in place done ++ commands_in place (c ∷ [])
  parts place = filter-append (λ x. x.1.0 == place) done (c ∷ [])

  elsewhere : (place : ℕ) → (c.1.0 == place) ≡ false → commands_in place (done ++ c ∷ []) ≡ commands_in place done
  elsewhere place e = parts place ∙ rw e (append-nil (commands_in place done))

  -- a command of one of the groups goes last in its list
  pub by_group-next : (place : ℕ) (none list : Vec Command Global) → place ≡ c.1.0 → place < length lists → list.items ≡ (get_or lists place none).items ++ c ∷ [] → AreByGroup (done ++ c ∷ []) (set lists place list)
  by_group-next place none list is within grown q nothing below = by (c.1.0 == q) refl
    where
      by : (b : Bool) → (c.1.0 == q) ≡ b → (get_or (set lists place list) q nothing).items ≡ commands_in q (done ++ c ∷ [])
      by true e =
          let same : place ≡ q = is ∙ eqb-true c.1.0 q e in
          let here : get_or (set lists place list) q nothing ≡ list = subst (λ k. get_or (set lists place list) k nothing ≡ list) same (get_or-set_same lists place list nothing within) in
          let old : (get_or lists place none).items ≡ commands_in q done = h place none within ∙ ap (λ k. commands_in k done) same in
          let last : commands_in q (c ∷ []) ≡ c ∷ [] = rw e refl in
          ap (λ v. v.items) here ∙ grown ∙ ap (λ xs. xs ++ c ∷ []) old ∙ ap (λ xs. commands_in q done ++ xs) (sym last) ∙ sym (parts q)
      by false e =
          let other : q ≢ place = λ is_place. not_itself (is_place ∙ is) e in
          let here : get_or (set lists place list) q nothing ≡ get_or lists q nothing = get_or-set_other lists place q list nothing other in
          let inside : q < length lists = let long : length (set lists place list) ≡ length lists = length-set lists place list in omega arith in
          ap (λ v. v.items) here ∙ h q nothing inside ∙ sym (elsewhere q e)
        where
          not_itself : q ≡ c.1.0 → (c.1.0 == q) ≡ false → ⊥
          not_itself is_place is_not = grind (arith, nat_tests)

  -- and one of none of them in no list
  pub by_group-other : ¬ (c.1.0 < length lists) → AreByGroup (done ++ c ∷ []) lists
  by_group-other outside q nothing below = h q nothing below ∙ sym (elsewhere q other)
    where
      other : (c.1.0 == q) ≡ false
      other = grind (arith, nat_tests)

-- what the list at a place holds
pub list-at : (commands : Commands) (lists : Lists) (groups place : ℕ) (list : Vec Command Global) (read : List Command) → AreByGroup commands lists → length lists ≡ groups → place < groups
    → list ≡ get_or lists place list → read ≡ list.items → read ≡ commands_in place commands
list-at commands lists groups place list read h long within at is = is ∙ ap (λ (v : Vec Command Global). v.items) at ∙ h place list (omega arith)

-- what holds of the commands of a group among all holds of those in its list
pub own-known : (commands : Commands) (place most : ℕ) → AllByRecursion (λ c. c.1.0 ≡ place → c.1.1 < most) commands → AllByRecursion (λ c. c.1.1 < most) (commands_in place commands)
own-known [] place most h = tt
own-known (c ∷ commands) place most h = by (c.1.0 == place) refl (own-known commands place most h.1)
  where
    by : (b : Bool) → (c.1.0 == place) ≡ b → AllByRecursion (λ c. c.1.1 < most) (commands_in place commands) → AllByRecursion (λ c. c.1.1 < most) (commands_in place (c ∷ commands))
    by true e later = rw e (h.0 (eqb-true c.1.0 place e), later)
    by false e later = rw e later
