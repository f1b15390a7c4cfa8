-- The life of a group in a list of acts.
use Rattle.std.proofs.Common.{◌≡◌, ◌⊎◌, inl, inr, ℕ, zero, suc, ◌+◌, ◌<◌, ◌≤◌, Bool, true, false, List, [], ◌∷◌, ◌++◌, length, Option, Some, None, refl, ◌∙◌, sym, ap, subst, arith, get_or, length-append, length-take-le, take}
use Rattle.std.specs.Prelude.{◌≢◌, ◌==◌, ◌||◌, is_some, slice_get, if◌then◌else◌}
use Rattle.std.specs.List.{AllByRecursion, list_any}
use Rattle.std.specs.Option.{option_map}
use Rattle.std.proofs.lemmas.Bool.Decides.{nat_tests}
use Rattle.std.proofs.lemmas.List.{length-set, take_more}
use Rattle.std.proofs.lemmas.Option.{slice_get_past}
use Rattle.bh_base.specs.Props.{GroupProps}
use Rattle.bh_base.specs.declared.reply.Reply.{Reply}
use Rattle.bh_base.specs.declared.reply.Reply.TheVariants.{NoGroup}
use Rattle.bh_base.specs.declared.step.Step.{Step}
use Rattle.bh_base.specs.Runs.{State, View, opened, replies, state_after, step, view}
use Rattle.bh_base.specs.Seen.{view_after}
use Rattle.bh_base.proofs.Views.{stays_sound}
use Rattle.bh_core.specs.declared.service.acts.Act.{Act}
use Rattle.bh_core.specs.declared.service.acts.Act.TheVariants as act
use Rattle.bh_core.specs.declared.service.acts.Outcome.{Outcome}
use Rattle.bh_core.specs.declared.service.acts.Outcome.TheVariants as outcome
use Rattle.bh_core.specs.Acts.{AreActs, Call, IsAct, with_opened}
use Rattle.bh_core.specs.CoreView.{CoreView, Life, Shows, living, retired, shown_by, view_at, with_retired}
use Rattle.bh_core.specs.Lives.{AreOutside, IsBegun, IsOutside, after_begin, after_end, before_begin, begins, calls_of, ends, has_begun, life_of, opened_by, own_steps, own_told, start_of, steps_in_life, told_in_life, until_end}
use Rattle.bh_core.specs.Step.{IsStep}
use Rattle.bh_core.proofs.OneOfMany.{shown_living, slice_get-set_other, slice_get-set_same}
use Rattle.bh_core.proofs.Registered.{within_list}

-- ---- one act, as a group sees it

push_before : (ls : List Life) (l : Life) (i : ℕ) → i < length ls → slice_get (ls ++ l ∷ []) i ≡ slice_get ls i
push_before [] l i lt = absurd (omega (arith, lt))
push_before (x ∷ xs) l zero lt = refl
push_before (x ∷ xs) l (suc i) lt = push_before xs l i (omega (arith, lt))

push_here : (ls : List Life) (l : Life) → slice_get (ls ++ l ∷ []) (length ls) ≡ Some l
push_here [] l = refl
push_here (x ∷ xs) l = push_here xs l

push_past : (ls : List Life) (l : Life) (i : ℕ) → length ls < i → slice_get (ls ++ l ∷ []) i ≡ None
push_past [] l zero lt = absurd (omega (arith, lt))
push_past [] l (suc i) lt = refl
push_past (x ∷ xs) l zero lt = absurd (omega (arith, lt))
push_past (x ∷ xs) l (suc i) lt = push_past xs l i (omega (arith, lt))

eq_of : (m n : ℕ) → (m == n) ≡ true → m ≡ n
eq_of m n e = grind (arith, nat_tests)

ne_of : (m n : ℕ) → (m == n) ≡ false → n ≢ m
ne_of m n e = grind (arith, nat_tests)

-- where a group that shows a view stands
shown_within : (groups : CoreView) (group : ℕ) (v : View) → view_at groups group ≡ Some v → group < length groups.lives
shown_within groups group v e = within_list groups.lives group (living v) (shown_living (slice_get groups.lives group) v e)

-- a registration leaves what each group shows
opened_keeps : (p : GroupProps) (limit : ℕ) (old : CoreView) (group : ℕ) → group ≢ length old.lives → view_at (with_opened p limit old) group ≡ view_at old group
opened_keeps p limit old group differ = elim (less group (length old.lives)) [
  | inl lt ↦ ap shown_by (push_before old.lives (living (view (opened p limit))) group lt)
  | inr ge ↦ ap shown_by (push_past old.lives (living (view (opened p limit))) group (omega (arith, ge, differ))) ∙ sym (ap shown_by (slice_get_past old.lives group ge))
]
  where
    less : (m n : ℕ) → (m < n) ⊎ (n ≤ m)
    less m n = grind arith

-- so does the retirement of another one
retired_keeps : (id : ℕ) (v : View) (old : CoreView) (group : ℕ) → group ≢ id → view_at (with_retired id v old) group ≡ view_at old group
retired_keeps id v old group differ = ap shown_by (slice_get-set_other old.lives id (retired v.present.props v.present.limit) group differ)

retired_here : (id : ℕ) (v : View) (old : CoreView) → view_at old id ≡ Some v → slice_get (with_retired id v old).lives id ≡ Some (retired v.present.props v.present.limit)
retired_here id v old shown = slice_get-set_same old.lives id (living v) (retired v.present.props v.present.limit) (shown_living (slice_get old.lives id) v shown)

-- ---- a group in its life

-- the group was told what its machine tells from the state, and shows the machine's state at the end, if it was not retired
record Lived (group : ℕ) (s : State) (cs : List Call) (new : CoreView) : Type 0 where
  pub told : own_told group (until_end group cs) ≡ replies s (own_steps group (until_end group cs))
  pub shown : list_any (ends group) cs ≡ false → Shows new group (state_after s (own_steps group (until_end group cs)))

-- what the group sees of an act: nothing
record Other (group : ℕ) (old : CoreView) (c : Call) (new : CoreView) : Type 0 where
  pub same : view_at new group ≡ view_at old group
  pub longer : length old.lives ≤ length new.lives
  pub not_begun : begins group c ≡ false
  pub not_ended : ends group c ≡ false
  pub steps : (cs : List Call) → own_steps group (c ∷ cs) ≡ own_steps group cs
  pub told : (cs : List Call) → own_told group (c ∷ cs) ≡ own_told group cs

-- a step of its own
record OwnStep (group : ℕ) (old : CoreView) (c : Call) (new : CoreView) : Type 0 where
  pub x : Step
  pub r : Reply
  pub did : IsStep old x r new
  pub mine : x.group.0 ≡ group
  pub not_begun : begins group c ≡ false
  pub not_ended : ends group c ≡ false
  pub steps : (cs : List Call) → own_steps group (c ∷ cs) ≡ x ∷ own_steps group cs
  pub told : (cs : List Call) → own_told group (c ∷ cs) ≡ r ∷ own_told group cs

-- its registration
record Beginning (props : List GroupProps) (group : ℕ) (old : CoreView) (c : Call) (new : CoreView) : Type 0 where
  pub p : GroupProps
  pub limit : ℕ
  pub opens : opened_by props c ≡ Some (opened p limit)
  pub fresh : group ≡ length old.lives
  pub after : view_at new group ≡ Some (view (opened p limit))
  pub begun : begins group c ≡ true
  pub not_ended : ends group c ≡ false

-- its retirement
record Ending (group : ℕ) (old : CoreView) (c : Call) (new : CoreView) : Type 0 where
  pub v : View
  pub before : view_at old group ≡ Some v
  pub after : view_at new group ≡ None
  pub there : group < length new.lives
  pub not_begun : begins group c ≡ false
  pub ended : ends group c ≡ true

abbrev Seen : List GroupProps → ℕ → CoreView → Call → CoreView → Type 0
Seen props group old c new = Other group old c new ⊎ (OwnStep group old c new ⊎ (Beginning props group old c new ⊎ Ending group old c new))

none_is : (groups : CoreView) (v : View) (group : ℕ) → slice_get groups.lives group ≡ Some (retired v.present.props v.present.limit) → view_at groups group ≡ None
none_is groups v group e = ap shown_by e

-- an act is one of these for each group
sees : (props : List GroupProps) (group : ℕ) (old : CoreView) (c : Call) (new : CoreView) → IsAct props old c new → Seen props group old c new
sees props group old (act.Step x, outcome.Replied r) new did = at (x.group.0 == group) refl
  where
    at : (b : Bool) → (x.group.0 == group) ≡ b → Seen props group old (act.Step x, outcome.Replied r) new
    at true test = inr (inl (record {
      x = x;
      r = r;
      did = did;
      mine = eq_of x.group.0 group test;
      not_begun = refl;
      not_ended = refl;
      steps = λ cs. ap (λ b. if b then x ∷ own_steps group cs else own_steps group cs) test;
      told = λ cs. ap (λ b. if b then r ∷ own_told group cs else own_told group cs) test;
    }))
    at false test = inl (record {
      same = ap shown_by (did.others group (ne_of x.group.0 group test));
      longer = omega (arith, did.count);
      not_begun = refl;
      not_ended = refl;
      steps = λ cs. ap (λ b. if b then x ∷ own_steps group cs else own_steps group cs) test;
      told = λ cs. ap (λ b. if b then r ∷ own_told group cs else own_told group cs) test;
    })
sees props group old (act.Register place limit, outcome.Registered id) new did = at (id.0 == group) refl
  where
    p : GroupProps
    p = did.0

    new_is : new ≡ with_opened p limit old
    new_is = did.5

    at : (b : Bool) → (id.0 == group) ≡ b → Seen props group old (act.Register place limit, outcome.Registered id) new
    at true test =
        let fresh : group ≡ length old.lives = sym (eq_of id.0 group test) ∙ did.2 in
        inr (inr (inl (record {
          p = p;
          limit = limit;
          opens = ap (option_map (λ q. opened q limit)) did.1;
          fresh = fresh;
          after = ap (λ (gs : CoreView). view_at gs group) new_is ∙ ap (λ n. shown_by (slice_get (old.lives ++ living (view (opened p limit)) ∷ []) n)) fresh ∙ ap shown_by (push_here old.lives (living (view (opened p limit))));
          begun = test;
          not_ended = refl;
        })))
    at false test =
        let differ : group ≢ length old.lives = λ e. ne_of id.0 group test (e ∙ sym did.2) in
        inl (record {
          same = ap (λ (gs : CoreView). view_at gs group) new_is ∙ opened_keeps p limit old group differ;
          longer = omega (arith, ap (λ (gs : CoreView). length gs.lives) new_is, length-append old.lives (living (view (opened p limit)) ∷ []));
          not_begun = test;
          not_ended = refl;
          steps = λ cs. refl;
          told = λ cs. refl;
        })
sees props group old (act.Register place limit, outcome.NotRegistered e) new did = inl (record {
  same = ap (λ (gs : CoreView). view_at gs group) did.3;
  longer = omega (arith, ap (λ (gs : CoreView). length gs.lives) did.3);
  not_begun = refl;
  not_ended = refl;
  steps = λ cs. refl;
  told = λ cs. refl;
})
sees props group old (act.Retire id, outcome.Retired) new did = at (id.0 == group) refl
  where
    v : View
    v = did.0

    shown : view_at old id.0 ≡ Some v
    shown = did.1

    new_is : new ≡ with_retired id.0 v old
    new_is = did.3

    long : length new.lives ≡ length old.lives
    long = ap (λ (gs : CoreView). length gs.lives) new_is ∙ length-set old.lives id.0 (retired v.present.props v.present.limit)

    at : (b : Bool) → (id.0 == group) ≡ b → Seen props group old (act.Retire id, outcome.Retired) new
    at true test =
        let is : id.0 ≡ group = eq_of id.0 group test in
        inr (inr (inr (record {
          v = v;
          before = ap (view_at old) (sym is) ∙ shown;
          after = ap (view_at new) (sym is) ∙ ap (λ (gs : CoreView). view_at gs id.0) new_is ∙ none_is (with_retired id.0 v old) v id.0 (retired_here id.0 v old shown);
          there = omega (arith, long, is, shown_within old id.0 v shown);
          not_begun = refl;
          ended = test;
        })))
    at false test = inl (record {
      same = ap (λ (gs : CoreView). view_at gs group) new_is ∙ retired_keeps id.0 v old group (ne_of id.0 group test);
      longer = omega (arith, long);
      not_begun = refl;
      not_ended = test;
      steps = λ cs. refl;
      told = λ cs. refl;
    })
sees props group old (act.Retire id, outcome.NotRetired e) new did = inl (record {
  same = ap (λ (gs : CoreView). view_at gs group) did.1;
  longer = omega (arith, ap (λ (gs : CoreView). length gs.lives) did.1);
  not_begun = refl;
  not_ended = refl;
  steps = λ cs. refl;
  told = λ cs. refl;
})
sees props group old (act.Step x, outcome.Registered id) new did = absurd did
sees props group old (act.Step x, outcome.NotRegistered e) new did = absurd did
sees props group old (act.Step x, outcome.Retired) new did = absurd did
sees props group old (act.Step x, outcome.NotRetired e) new did = absurd did
sees props group old (act.Register place limit, outcome.Replied r) new did = absurd did
sees props group old (act.Register place limit, outcome.Retired) new did = absurd did
sees props group old (act.Register place limit, outcome.NotRetired e) new did = absurd did
sees props group old (act.Retire id, outcome.Replied r) new did = absurd did
sees props group old (act.Retire id, outcome.Registered k) new did = absurd did
sees props group old (act.Retire id, outcome.NotRegistered e) new did = absurd did

-- ---- a group in its life, act by act

until_on : (group : ℕ) (c : Call) (cs : List Call) → ends group c ≡ false → until_end group (c ∷ cs) ≡ c ∷ until_end group cs
until_on group c cs e = ap (λ b. if b then [] else c ∷ until_end group cs) e

until_done : (group : ℕ) (c : Call) (cs : List Call) → ends group c ≡ true → until_end group (c ∷ cs) ≡ []
until_done group c cs e = ap (λ b. if b then [] else c ∷ until_end group cs) e

any_on : (group : ℕ) (c : Call) (cs : List Call) (b : Bool) → ends group c ≡ b → list_any (ends group) (c ∷ cs) ≡ (b || list_any (ends group) cs)
any_on group c cs b e = ap (λ z. z || list_any (ends group) cs) e

-- a group that shows something is none that shows nothing
both_ways : {P : Type 0} (groups : CoreView) (group : ℕ) (v : View) → view_at groups group ≡ None → view_at groups group ≡ Some v → P
both_ways groups group v none shown = absurd cc

lived : (props : List GroupProps) (group : ℕ) (s : State) (cs : List Call) (old new : CoreView) → Shows old group s → AreActs props old cs new → Lived group s cs new
lived props group s [] old new shows all = record { told = refl; shown = λ none. subst (λ (gs : CoreView). Shows gs group s) (sym all) shows }
lived props group s (c ∷ cs) old new shows all = elim (sees props group old c all.0 all.1) [
  | inl o ↦
      let next = lived props group s cs all.0 new (record { sound = shows.sound; view_is = o.same ∙ shows.view_is }) all.2 in
      let steps : own_steps group (until_end group (c ∷ cs)) ≡ own_steps group (until_end group cs) = ap (own_steps group) (until_on group c cs o.not_ended) ∙ o.steps (until_end group cs) in
      record {
        told = ap (own_told group) (until_on group c cs o.not_ended) ∙ o.told (until_end group cs) ∙ next.told ∙ ap (replies s) (sym steps);
        shown = λ none. subst (λ xs. Shows new group (state_after s xs)) (sym steps) (next.shown (sym (any_on group c cs false o.not_ended) ∙ none));
      }
  | inr (inl o) ↦
      let here : Shows old o.x.group.0 s = subst (λ g. Shows old g s) (sym o.mine) shows in
      let t : State = (step s o.x.op o.x.now).state in
      let next = lived props group t cs all.0 new (subst (λ g. Shows all.0 g t) o.mine (o.did.own s here)) all.2 in
      let steps : own_steps group (until_end group (c ∷ cs)) ≡ o.x ∷ own_steps group (until_end group cs) = ap (own_steps group) (until_on group c cs o.not_ended) ∙ o.steps (until_end group cs) in
      record {
        told = ap (own_told group) (until_on group c cs o.not_ended) ∙ o.told (until_end group cs) ∙ (λ i. o.did.reply s here i ∷ next.told i) ∙ ap (replies s) (sym steps);
        shown = λ none. subst (λ xs. Shows new group (state_after s xs)) (sym steps) (next.shown (sym (any_on group c cs false o.not_ended) ∙ none));
      }
  | inr (inr (inl o)) ↦ absurd (let lt = shown_within old group (view s) shows.view_is in let e = o.fresh in omega arith)
  | inr (inr (inr o)) ↦
      let done = until_done group c cs o.ended in
      record {
        told = ap (own_told group) done ∙ ap (λ us. replies s (own_steps group us)) (sym done);
        shown = λ none. absurd (let both : true ≡ false = sym (any_on group c cs true o.ended) ∙ none in cc);
      }
]

-- a group that is registered by one of the acts
begun_on : (group : ℕ) (c : Call) (cs : List Call) → begins group c ≡ false → after_begin group (c ∷ cs) ≡ after_begin group cs
begun_on group c cs e = ap (λ b. if b then cs else after_begin group cs) e

begun_here : (group : ℕ) (c : Call) (cs : List Call) → begins group c ≡ true → after_begin group (c ∷ cs) ≡ cs
begun_here group c cs e = ap (λ b. if b then cs else after_begin group cs) e

start_on : (props : List GroupProps) (group : ℕ) (c : Call) (cs : List Call) (b : Bool) → begins group c ≡ b → start_of props group (c ∷ cs) ≡ (if b then opened_by props c else start_of props group cs)
start_on props group c cs b e = ap (λ z. if z then opened_by props c else start_of props group cs) e

lived_later : (props : List GroupProps) (group : ℕ) (s : State) (cs : List Call) (old new : CoreView) → view_at old group ≡ None → start_of props group cs ≡ Some s → AreActs props old cs new → Lived group s (after_begin group cs) new
lived_later props group s [] old new none start all = absurd cc
lived_later props group s (c ∷ cs) old new none start all = elim (sees props group old c all.0 all.1) [
  | inl o ↦ subst (λ us. Lived group s us new) (sym (begun_on group c cs o.not_begun)) (lived_later props group s cs all.0 new (o.same ∙ none) (sym (start_on props group c cs false o.not_begun) ∙ start) all.2)
  | inr (inl o) ↦
      let same : all.0 ≡ old = o.did.unknown_same (ap (view_at old) o.mine ∙ none) in
      subst (λ us. Lived group s us new) (sym (begun_on group c cs o.not_begun)) (lived_later props group s cs all.0 new (ap (λ (gs : CoreView). view_at gs group) same ∙ none) (sym (start_on props group c cs false o.not_begun) ∙ start) all.2)
  | inr (inr (inl o)) ↦
      let is : opened o.p o.limit ≡ s = one_state (opened o.p o.limit) s (sym o.opens ∙ sym (start_on props group c cs true o.begun) ∙ start) in
      let shows : Shows all.0 group s = subst (Shows all.0 group) is (record { sound = stays_sound.opened o.p o.limit; view_is = o.after }) in
      subst (λ us. Lived group s us new) (sym (begun_here group c cs o.begun)) (lived props group s cs all.0 new shows all.2)
  | inr (inr (inr o)) ↦ both_ways old group o.v none o.before
]
  where
    one_state : (a b : State) → Some a ≡ Some b → a ≡ b
    one_state a b e = cc

-- ---- steps of a group before and after its life

abbrev AllNone : List Reply → Type 0
AllNone rs = AllByRecursion (λ r. r ≡ NoGroup) rs

-- a retired group is never registered again
dead : (props : List GroupProps) (group : ℕ) (cs : List Call) (old new : CoreView) → view_at old group ≡ None → group < length old.lives → AreActs props old cs new → AllNone (own_told group cs)
dead props group [] old new none there all = tt
dead props group (c ∷ cs) old new none there all = elim (sees props group old c all.0 all.1) [
  | inl o ↦ subst AllNone (sym (o.told cs)) (dead props group cs all.0 new (o.same ∙ none) (let le = o.longer in omega arith) all.2)
  | inr (inl o) ↦
      let unknown : view_at old o.x.group.0 ≡ None = ap (view_at old) o.mine ∙ none in
      let same : all.0 ≡ old = o.did.unknown_same unknown in
      subst AllNone (sym (o.told cs)) (o.did.unknown unknown, dead props group cs all.0 new (ap (λ (gs : CoreView). view_at gs group) same ∙ none) (subst (λ (gs : CoreView). group < length gs.lives) (sym same) there) all.2)
  | inr (inr (inl o)) ↦ absurd (let e = o.fresh in omega arith)
  | inr (inr (inr o)) ↦ both_ways old group o.v none o.before
]

-- after the retirement of a group that is there
over : (props : List GroupProps) (group : ℕ) (cs : List Call) (v : View) (old new : CoreView) → view_at old group ≡ Some v → AreActs props old cs new → AllNone (own_told group (after_end group cs))
over props group [] v old new shown all = tt
over props group (c ∷ cs) v old new shown all = elim (sees props group old c all.0 all.1) [
  | inl o ↦ subst (λ us. AllNone (own_told group us)) (sym (end_on c cs o.not_ended)) (over props group cs v all.0 new (o.same ∙ shown) all.2)
  | inr (inl o) ↦
      let here : view_at old o.x.group.0 ≡ Some v = ap (view_at old) o.mine ∙ shown in
      let after = (o.did.seen v here).1 in
      subst (λ us. AllNone (own_told group us)) (sym (end_on c cs o.not_ended)) (over props group cs (view_after v o.x.op o.x.now) all.0 new (ap (view_at all.0) (sym o.mine) ∙ after) all.2)
  | inr (inr (inl o)) ↦ absurd (let lt = shown_within old group v shown in let e = o.fresh in omega arith)
  | inr (inr (inr o)) ↦ subst (λ us. AllNone (own_told group us)) (sym (end_here c cs o.ended)) (dead props group cs all.0 new o.after o.there all.2)
]
  where
    end_on : (c : Call) (cs : List Call) → ends group c ≡ false → after_end group (c ∷ cs) ≡ after_end group cs
    end_on c cs e = ap (λ b. if b then cs else after_end group cs) e

    end_here : (c : Call) (cs : List Call) → ends group c ≡ true → after_end group (c ∷ cs) ≡ cs
    end_here c cs e = ap (λ b. if b then cs else after_end group cs) e

-- before a group is registered, and after the retirement of one that is registered later
unborn : (props : List GroupProps) (group : ℕ) (cs : List Call) (old new : CoreView) → view_at old group ≡ None → AreActs props old cs new → IsOutside group false cs
unborn props group [] old new none all = (tt, tt)
unborn props group (c ∷ cs) old new none all = elim (sees props group old c all.0 all.1) [
  | inl o ↦
      let next = unborn props group cs all.0 new (o.same ∙ none) all.2 in
      (subst (λ us. AllNone (own_told group us)) (sym (before_on c cs o.not_begun)) (subst AllNone (sym (o.told (before_begin group cs))) next.0), later c cs o.not_begun next.1)
  | inr (inl o) ↦
      let unknown : view_at old o.x.group.0 ≡ None = ap (view_at old) o.mine ∙ none in
      let same : all.0 ≡ old = o.did.unknown_same unknown in
      let next = unborn props group cs all.0 new (ap (λ (gs : CoreView). view_at gs group) same ∙ none) all.2 in
      (subst (λ us. AllNone (own_told group us)) (sym (before_on c cs o.not_begun)) (subst AllNone (sym (o.told (before_begin group cs))) (o.did.unknown unknown, next.0)), later c cs o.not_begun next.1)
  | inr (inr (inl o)) ↦
      (subst (λ us. AllNone (own_told group us)) (sym (before_here c cs o.begun)) tt, subst (λ us. AllNone (own_told group (after_end group us))) (sym (begun_here group c cs o.begun)) (over props group cs (view (opened o.p o.limit)) all.0 new o.after all.2))
  | inr (inr (inr o)) ↦ both_ways old group o.v none o.before
]
  where
    before_on : (c : Call) (cs : List Call) → begins group c ≡ false → before_begin group (c ∷ cs) ≡ c ∷ before_begin group cs
    before_on c cs e = ap (λ b. if b then [] else c ∷ before_begin group cs) e

    before_here : (c : Call) (cs : List Call) → begins group c ≡ true → before_begin group (c ∷ cs) ≡ []
    before_here c cs e = ap (λ b. if b then [] else c ∷ before_begin group cs) e

    later : (c : Call) (cs : List Call) → begins group c ≡ false → AllNone (own_told group (after_end group (after_begin group cs))) → AllNone (own_told group (after_end group (after_begin group (c ∷ cs))))
    later c cs e next = subst (λ us. AllNone (own_told group (after_end group us))) (sym (begun_on group c cs e)) next

-- ---- whole lists

none_later : (group : ℕ) (c : Call) (cs : List Call) → list_any (ends group) (c ∷ cs) ≡ false → list_any (ends group) cs ≡ false
none_later group c cs none = at (ends group c) refl
  where
    at : (b : Bool) → ends group c ≡ b → list_any (ends group) cs ≡ false
    at true e = absurd (let both : true ≡ false = sym (any_on group c cs true e) ∙ none in cc)
    at false e = sym (any_on group c cs false e) ∙ none

any_after : (group : ℕ) (cs : List Call) → list_any (ends group) cs ≡ false → list_any (ends group) (after_begin group cs) ≡ false
any_after group [] none = refl
any_after group (c ∷ cs) none = at (begins group c) refl (any_after group cs (none_later group c cs none))
  where
    at : (b : Bool) → begins group c ≡ b → list_any (ends group) (after_begin group cs) ≡ false → list_any (ends group) (after_begin group (c ∷ cs)) ≡ false
    at true e rest = ap (list_any (ends group)) (begun_here group c cs e) ∙ none_later group c cs none
    at false e rest = ap (list_any (ends group)) (begun_on group c cs e) ∙ rest

-- whether a group shows something
shown_or : (o : Option View) → ((v : View) × (o ≡ Some v)) ⊎ (o ≡ None)
shown_or None = inr refl
shown_or (Some v) = inl (v, refl)

-- in its life each group was told what its machine tells
pub life_told : (props : List GroupProps) (cs : List Call) (old new : CoreView) (group : ℕ) (s : State) → AreActs props old cs new → IsBegun props old cs group s → told_in_life old cs group ≡ replies s (steps_in_life old cs group)
life_told props cs old new group s all (inl shows) =
    let begun : has_begun old group ≡ true = ap is_some shows.view_is in
    ap (λ b. own_told group (life_of group b cs)) begun ∙ (lived props group s cs old new shows all).told ∙ ap (λ b. replies s (own_steps group (life_of group b cs))) (sym begun)
life_told props cs old new group s all (inr (none, start)) =
    let begun : has_begun old group ≡ false = ap is_some none in
    ap (λ b. own_told group (life_of group b cs)) begun ∙ (lived_later props group s cs old new none start all).told ∙ ap (λ b. replies s (own_steps group (life_of group b cs))) (sym begun)

-- and shows its machine's state at the end, if it was not retired
pub life_shown : (props : List GroupProps) (cs : List Call) (old new : CoreView) (group : ℕ) (s : State) → AreActs props old cs new → IsBegun props old cs group s → list_any (ends group) cs ≡ false → Shows new group (state_after s (steps_in_life old cs group))
life_shown props cs old new group s all (inl shows) none_ends =
    let begun : has_begun old group ≡ true = ap is_some shows.view_is in
    subst (λ b. Shows new group (state_after s (own_steps group (life_of group b cs)))) (sym begun) ((lived props group s cs old new shows all).shown none_ends)
life_shown props cs old new group s all (inr (none, start)) none_ends =
    let begun : has_begun old group ≡ false = ap is_some none in
    subst (λ b. Shows new group (state_after s (own_steps group (life_of group b cs)))) (sym begun) ((lived_later props group s cs old new none start all).shown (any_after group cs none_ends))

-- outside of its life each step of a group is told that there is no such group
pub outside_told : (props : List GroupProps) (cs : List Call) (old new : CoreView) → AreActs props old cs new → AreOutside old cs
outside_told props cs old new all group = elim (shown_or (view_at old group)) [
  | inl w ↦ subst (λ b. IsOutside group b cs) (sym (ap is_some w.1)) (over props group cs w.0 old new w.1 all)
  | inr none ↦ subst (λ b. IsOutside group b cs) (sym (ap is_some none)) (unborn props group cs old new none all)
]

-- one act more at the end
pub acts-push : (props : List GroupProps) (cs : List Call) (c : Call) (old mid new : CoreView) → AreActs props old cs mid → IsAct props mid c new → AreActs props old (cs ++ c ∷ []) new
acts-push props [] c old mid new all did = (new, subst (λ (gs : CoreView). IsAct props gs c new) all did, refl)
acts-push props (x ∷ cs) c old mid new all did = (all.0, all.1, acts-push props cs c all.0 mid new all.2 did)

zip-push : (xs : List Act) (x : Act) (os : List Outcome) (o : Outcome) → length xs ≡ length os → calls_of (xs ++ x ∷ []) (os ++ o ∷ []) ≡ calls_of xs os ++ (x, o) ∷ []
zip-push [] x [] o same = refl
zip-push [] x (q ∷ os) o same = absurd (omega (arith, same))
zip-push (y ∷ xs) x [] o same = absurd (omega (arith, same))
zip-push (y ∷ xs) x (q ∷ os) o same = ap (λ cs. (y, q) ∷ cs) (zip-push xs x os o (omega (arith, same)))

-- the act at the place i, as a loop over the acts sees it
pub acts_on : (props : List GroupProps) (acts : List Act) (i : ℕ) (x : Act) (os us : List Outcome) (o : Outcome) (old mid new : CoreView) → i < length acts → x ≡ get_or acts i x → length os ≡ i → us ≡ os ++ o ∷ [] → AreActs props old (calls_of (take i acts) os) mid → IsAct props mid (x, o) new → AreActs props old (calls_of (take (i + 1) acts) us) new
acts_on props acts i x os us o old mid new inside read count pushed so did =
    let next : take (i + 1) acts ≡ take i acts ++ x ∷ [] = take_more acts i x inside ∙ ap (λ y. take i acts ++ y ∷ []) (sym read) in
    let same : length (take i acts) ≡ length os = length-take-le i acts (omega (arith, inside)) ∙ sym count in
    subst (λ cs. AreActs props old cs new) (sym ((λ k. calls_of (next k) (pushed k)) ∙ zip-push (take i acts) x os o same)) (acts-push props (calls_of (take i acts) os) (x, o) old mid new so did)
