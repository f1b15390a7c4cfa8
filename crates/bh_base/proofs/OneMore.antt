-- A list of steps with one more step behind.
use Rattle.std.proofs.Common.{◌≡◌, ℕ, true, false, List, [], ◌∷◌, ◌++◌, refl, ◌∙◌, ap, append-nil}
use Rattle.std.specs.Prelude.{◌==◌, if◌then◌else◌}
use Rattle.std.proofs.lemmas.List.Elements.{filter-append}
use Rattle.bh_base.specs.declared.step.Step.{Step}
use Rattle.bh_base.specs.Runs.{State, step, replies, state_after, own}

-- the replies to a list of steps with one more behind
pub replies-push : (s : State) (xs : List Step) (x : Step) → replies s (xs ++ x ∷ []) ≡ replies s xs ++ (step (state_after s xs) x.op x.now).reply ∷ []
replies-push s [] x = refl
replies-push s (y ∷ ys) x = ap (λ rs. (step s y.op y.now).reply ∷ rs) (replies-push (step s y.op y.now).state ys x)

-- and the state after it
pub state_after-push : (s : State) (xs : List Step) (x : Step) → state_after s (xs ++ x ∷ []) ≡ (step (state_after s xs) x.op x.now).state
state_after-push s [] x = refl
state_after-push s (y ∷ ys) x = state_after-push (step s y.op y.now).state ys x

-- the own steps of a group with one more step behind
pub own-push : (group : ℕ) (xs : List Step) (x : Step) → own group (xs ++ x ∷ []) ≡ own group xs ++ (if x.group.0 == group then x ∷ [] else [])
own-push group xs x = filter-append (λ y. y.group.0 == group) xs (x ∷ [])

-- it is one of the group's own
pub own-push_same : (group : ℕ) (xs : List Step) (x : Step) → (x.group.0 == group) ≡ true → own group (xs ++ x ∷ []) ≡ own group xs ++ x ∷ []
own-push_same group xs x test = own-push group xs x ∙ ap (λ b. own group xs ++ (if b then x ∷ [] else [])) test

-- it is one of another group
pub own-push_other : (group : ℕ) (xs : List Step) (x : Step) → (x.group.0 == group) ≡ false → own group (xs ++ x ∷ []) ≡ own group xs
own-push_other group xs x test = own-push group xs x ∙ ap (λ b. own group xs ++ (if b then x ∷ [] else [])) test ∙ append-nil (own group xs)
