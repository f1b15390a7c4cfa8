-- A run goes on by one step.
use Rattle.std.proofs.Common.{◌≡◌, ◌≢◌, ℕ, ◌+◌, Bool, true, false, List, [], ◌∷◌, ◌++◌, length, map, take, None, refl, ◌∙◌, sym, ap, subst, arith, append-nil}
use Rattle.std.specs.Prelude.{◌==◌, slice_get, if◌then◌else◌}
use Rattle.std.proofs.lemmas.Bool.Decides.{nat_tests}
use Rattle.bh_base.specs.declared.step.Step.{Step}
use Rattle.bh_base.specs.declared.reply.Reply.{Reply}
use Rattle.bh_base.specs.declared.reply.Reply.TheVariants.{NoGroup}
use Rattle.bh_base.specs.Runs.{State, step, replies, state_after, own}
use Rattle.bh_base.proofs.OneMore.{replies-push, state_after-push, own-push_same, own-push_other}
use Rattle.bh_core.specs.CoreView.{CoreView, Shows, own_replies, shown_by, view_at}
use Rattle.bh_core.specs.Step.{IsStep}

-- what a step adds to the own replies of a group
abbrev added : Bool → Reply → List Reply
added b r = if b then r ∷ [] else []

own_replies-push : (group : ℕ) (xs : List Step) (x : Step) (rs : List Reply) (r : Reply) → length xs ≡ length rs → own_replies group (xs ++ x ∷ []) (rs ++ r ∷ []) ≡ own_replies group xs rs ++ added (x.group.0 == group) r
own_replies-push group [] x [] r same = last (x.group.0 == group)
  where
    last : (b : Bool) → (if b then r ∷ [] else []) ≡ [] ++ added b r
    last true = refl
    last false = refl
own_replies-push group [] x (q ∷ qs) r same = absurd (omega arith)
own_replies-push group (y ∷ ys) x [] r same = absurd (omega arith)
own_replies-push group (y ∷ ys) x (q ∷ qs) r same =
    front (y.group.0 == group) (x.group.0 == group) (own_replies-push group ys x qs r (omega arith))
  where
    front : (b z : Bool) → own_replies group (ys ++ x ∷ []) (qs ++ r ∷ []) ≡ own_replies group ys qs ++ added z r → (if b then q ∷ own_replies group (ys ++ x ∷ []) (qs ++ r ∷ []) else own_replies group (ys ++ x ∷ []) (qs ++ r ∷ [])) ≡ (if b then q ∷ own_replies group ys qs else own_replies group ys qs) ++ added z r
    front true z e = ap (λ us. q ∷ us) e
    front false z e = e

-- so far the group was told what its machine tells, and shows its state
pub record GoesAs (group : ℕ) (s : State) (xs : List Step) (rs : List Reply) (now : CoreView) : Type 0 where
  pub told : own_replies group xs rs ≡ replies s (own group xs)
  pub shown : Shows now group (state_after s (own group xs))

its_own : (group : ℕ) (s : State) (xs : List Step) (x : Step) (rs : List Reply) (r : Reply) (old new : CoreView) → length xs ≡ length rs → x.group.0 ≡ group → (x.group.0 == group) ≡ true → GoesAs group s xs rs old → IsStep old x r new → GoesAs group s (xs ++ x ∷ []) (rs ++ r ∷ []) new
its_own group s xs x rs r old new same is test so applied =
    let mine : own group (xs ++ x ∷ []) ≡ own group xs ++ x ∷ [] = own-push_same group xs x test in
    let shown : Shows old x.group.0 (state_after s (own group xs)) = subst (λ (g : ℕ). Shows old g (state_after s (own group xs))) (sym is) so.shown in
    record {
      told = own_replies-push group xs x rs r same
          ∙ ap (λ b. own_replies group xs rs ++ added b r) test
          ∙ ap (λ us. us ++ r ∷ []) so.told
          ∙ ap (λ q. replies s (own group xs) ++ q ∷ []) (applied.reply (state_after s (own group xs)) shown)
          ∙ sym (replies-push s (own group xs) x)
          ∙ ap (replies s) (sym mine);
      shown = subst (Shows new group) (sym (state_after-push s (own group xs) x) ∙ ap (state_after s) (sym mine))
          (subst (λ (g : ℕ). Shows new g (step (state_after s (own group xs)) x.op x.now).state) is (applied.own (state_after s (own group xs)) shown));
    }

not_its_own : (group : ℕ) (s : State) (xs : List Step) (x : Step) (rs : List Reply) (r : Reply) (old new : CoreView) → length xs ≡ length rs → group ≢ x.group.0 → (x.group.0 == group) ≡ false → GoesAs group s xs rs old → IsStep old x r new → GoesAs group s (xs ++ x ∷ []) (rs ++ r ∷ []) new
not_its_own group s xs x rs r old new same differ test so applied =
    let mine : own group (xs ++ x ∷ []) ≡ own group xs = own-push_other group xs x test in
    record {
      told = own_replies-push group xs x rs r same
          ∙ ap (λ b. own_replies group xs rs ++ added b r) test
          ∙ append-nil (own_replies group xs rs)
          ∙ so.told
          ∙ ap (replies s) (sym mine);
      shown = subst (λ ys. Shows new group (state_after s ys)) (sym mine) (record {
        sound = so.shown.sound;
        view_is = ap shown_by (applied.others group differ) ∙ so.shown.view_is;
      });
    }

-- with one more step, the group was still told what its machine tells, and shows its state
pub goes_on : (group : ℕ) (s : State) (xs : List Step) (x : Step) (rs : List Reply) (r : Reply) (old new : CoreView) → length xs ≡ length rs → GoesAs group s xs rs old → IsStep old x r new → GoesAs group s (xs ++ x ∷ []) (rs ++ r ∷ []) new
goes_on group s xs x rs r old new same so applied = at (x.group.0 == group) refl
  where
    at : (b : Bool) → (x.group.0 == group) ≡ b → GoesAs group s (xs ++ x ∷ []) (rs ++ r ∷ []) new
    at true test = its_own group s xs x rs r old new same (grind (arith, nat_tests)) test so applied
    at false test = not_its_own group s xs x rs r old new same (grind (arith, nat_tests)) test so applied

abbrev no_groups : List Step → List Reply
no_groups xs = map (λ x. NoGroup) xs

no_groups-push : (xs : List Step) (x : Step) → no_groups (xs ++ x ∷ []) ≡ no_groups xs ++ NoGroup ∷ []
no_groups-push [] x = refl
no_groups-push (y ∷ ys) x = ap (λ rs. NoGroup ∷ rs) (no_groups-push ys x)

-- so far a group that is not registered was told so, and is not registered still
pub record IsUnknown (group : ℕ) (xs : List Step) (rs : List Reply) (now : CoreView) : Type 0 where
  pub told : own_replies group xs rs ≡ no_groups (own group xs)
  pub none : view_at now group ≡ None

-- with one more step, a group that is not registered was still told so, and is not registered
pub stays_unknown : (group : ℕ) (xs : List Step) (x : Step) (rs : List Reply) (r : Reply) (old new : CoreView) → length xs ≡ length rs → IsUnknown group xs rs old → IsStep old x r new → IsUnknown group (xs ++ x ∷ []) (rs ++ r ∷ []) new
stays_unknown group xs x rs r old new same so applied = at (x.group.0 == group) refl
  where
    mine : x.group.0 ≡ group → (x.group.0 == group) ≡ true → IsUnknown group (xs ++ x ∷ []) (rs ++ r ∷ []) new
    mine is test =
        let none : view_at old x.group.0 ≡ None = ap (view_at old) is ∙ so.none in
        record {
          told = own_replies-push group xs x rs r same
              ∙ ap (λ b. own_replies group xs rs ++ added b r) test
              ∙ ap (λ us. us ++ r ∷ []) so.told
              ∙ ap (λ q. no_groups (own group xs) ++ q ∷ []) (applied.unknown none)
              ∙ sym (no_groups-push (own group xs) x)
              ∙ ap no_groups (sym (own-push_same group xs x test));
          none = ap (λ (gs : CoreView). view_at gs group) (applied.unknown_same none) ∙ so.none;
        }

    other : group ≢ x.group.0 → (x.group.0 == group) ≡ false → IsUnknown group (xs ++ x ∷ []) (rs ++ r ∷ []) new
    other differ test = record {
      told = own_replies-push group xs x rs r same
          ∙ ap (λ b. own_replies group xs rs ++ added b r) test
          ∙ append-nil (own_replies group xs rs)
          ∙ so.told
          ∙ ap no_groups (sym (own-push_other group xs x test));
      none = ap shown_by (applied.others group differ) ∙ so.none;
    }

    at : (b : Bool) → (x.group.0 == group) ≡ b → IsUnknown group (xs ++ x ∷ []) (rs ++ r ∷ []) new
    at true test = mine (grind (arith, nat_tests)) test
    at false test = other (grind (arith, nat_tests)) test

-- and is what it was
pub stays_kept : (group : ℕ) (x : Step) (r : Reply) (old new : CoreView) → view_at old group ≡ None → IsStep old x r new → slice_get new.lives group ≡ slice_get old.lives group
stays_kept group x r old new none applied = at (x.group.0 == group) refl
  where
    at : (b : Bool) → (x.group.0 == group) ≡ b → slice_get new.lives group ≡ slice_get old.lives group
    at true test =
        let is : x.group.0 ≡ group = grind (arith, nat_tests) in
        ap (λ (gs : CoreView). slice_get gs.lives group) (applied.unknown_same (ap (view_at old) is ∙ none))
    at false test = applied.others group (grind (arith, nat_tests))

-- the steps before the place
abbrev seen : List Step → ℕ → List Step
seen steps i = take i steps

-- the step at the place i, as a loop over the steps sees it
pub goes_on_in : (group : ℕ) (s : State) (steps : List Step) (i : ℕ) (x : Step) (rs us : List Reply) (r : Reply) (old new : CoreView) → length (seen steps i) ≡ length rs → seen steps (i + 1) ≡ seen steps i ++ x ∷ [] → us ≡ rs ++ r ∷ [] → GoesAs group s (seen steps i) rs old → IsStep old x r new → GoesAs group s (seen steps (i + 1)) us new
goes_on_in group s steps i x rs us r old new same next pushed so applied =
    subst (λ ys. GoesAs group s ys us new) (sym next) (subst (λ vs. GoesAs group s (seen steps i ++ x ∷ []) vs new) (sym pushed) (goes_on group s (seen steps i) x rs r old new same so applied))

-- the same of a group that is not registered: the step at the place i, as a loop over the steps sees it
pub stays_unknown_in : (group : ℕ) (steps : List Step) (i : ℕ) (x : Step) (rs us : List Reply) (r : Reply) (old new : CoreView) → length (seen steps i) ≡ length rs → seen steps (i + 1) ≡ seen steps i ++ x ∷ [] → us ≡ rs ++ r ∷ [] → IsUnknown group (seen steps i) rs old → IsStep old x r new → IsUnknown group (seen steps (i + 1)) us new
stays_unknown_in group steps i x rs us r old new same next pushed so applied =
    subst (λ ys. IsUnknown group ys us new) (sym next) (subst (λ vs. IsUnknown group (seen steps i ++ x ∷ []) vs new) (sym pushed) (stays_unknown group (seen steps i) x rs r old new same so applied))
