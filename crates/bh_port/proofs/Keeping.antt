-- The groups by name are those of the core, whatever is done.
use Rattle.std.proofs.Common.{◌≡◌, ◌≢◌, ◌⊎◌, inl, inr, ◌+◌, ◌<◌, ◌≤◌, ℕ, Bool, true, false, List, [], ◌∷◌, ◌++◌, length, Option, Some, None, refl, ◌∙◌, sym, ap, subst, arith, length-append}
use Rattle.std.proofs.lemmas.Bool.Decides.{nat_tests}
use Rattle.std.proofs.lemmas.List.{length-map, length-set}
use Rattle.std.proofs.lemmas.Option.{slice_get-map, slice_get_past}
use Rattle.std.specs.Prelude.{◌==◌, is_some, option_map, slice_get}
use Rattle.bh_base.specs.Props.{GroupProps}
use Rattle.bh_base.specs.declared.reply.Reply.{Reply}
use Rattle.bh_base.specs.declared.step.Step.{Step}
use Rattle.bh_base.specs.Runs.{View, opened, view}
use Rattle.bh_base.proofs.Kept.{length-each_from}
use Rattle.bh_core.specs.Acts.{with_opened}
use Rattle.bh_core.specs.CoreView.{CoreView, Life, living, retired, shown_by, view_at, with_retired}
use Rattle.bh_core.specs.Step.{IsStep}
use Rattle.bh_core.proofs.OneOfMany.{shown_living, slice_get-set_other, slice_get-set_same}
use Rattle.bh_props.specs.SettingsView.{SettingsView}
use Rattle.bh_port.specs.declared.groups.Entry.{Entry}
use Rattle.bh_port.specs.Course.{listed_entries, opened_core, opened_group}
use Rattle.bh_port.specs.Entries.{entry_at, new_entry, unless_retired, without}
use Rattle.bh_port.specs.Kept.{AreOf}
use Rattle.bh_port.proofs.Lists.{each_at, push_before, push_here, push_past}
use Rattle.bh_port.proofs.Naming.{entry-push, entry-pushed, entry-without_other, entry-without_same, length-without}

pub either : (m n : ℕ) → (m ≡ n) ⊎ (m ≢ n)
either m n = cases (m == n) refl
  where
    cases : (b : Bool) → (m == n) ≡ b → (m ≡ n) ⊎ (m ≢ n)
    cases true is = inl (grind (arith, nat_tests))
    cases false is = inr (grind (arith, nat_tests))

pub read : {X : Type 0} (o : Option X) → (o ≡ None) ⊎ ((x : X) × (o ≡ Some x))
read None = inl refl
read (Some x) = inr (x, refl)

-- the group is there after a step where it was there before
abbrev AreAlike : CoreView → CoreView → ℕ → Type 0
AreAlike old new group = is_some (view_at new group) ≡ is_some (view_at old group)

step_keeps : (old new : CoreView) (x : Step) (r : Reply) (group : ℕ) → IsStep old x r new → AreAlike old new group
step_keeps old new x r group stepped = elim (either group x.group.0) [
  | inr differ ↦ ap is_some (ap shown_by (stepped.others group differ))
  | inl is ↦ subst (AreAlike old new) (sym is) own
]
  where
    own : AreAlike old new x.group.0
    own = elim (read (view_at old x.group.0)) [
      | inl none ↦ ap is_some (ap (λ c. view_at c x.group.0) (stepped.unknown_same none))
      | inr at ↦ ap is_some (stepped.seen at.0 at.1).1 ∙ sym (ap is_some at.1)
    ]

-- a step
pub of_step : (old new : CoreView) (es : List Entry) (x : Step) (r : Reply) → IsStep old x r new → AreOf old es → AreOf new es
of_step old new es x r stepped kept = record {
  count = stepped.count ∙ kept.count;
  there = λ number. step_keeps old new x r number stepped ∙ kept.there number;
}

-- what is seen of the groups with one more
pub opened_other : (old : CoreView) (p : GroupProps) (limit group : ℕ) → group ≢ length old.lives → view_at (with_opened p limit old) group ≡ view_at old group
opened_other old p limit group differ = elim (cases group (length old.lives)) [
  | inl inside ↦ ap shown_by (push_before old.lives (living (view (opened p limit))) group inside)
  | inr past ↦ ap shown_by (push_past old.lives (living (view (opened p limit))) group (omega (arith, past, differ))) ∙ sym (ap shown_by (slice_get_past old.lives group past))
]
  where
    cases : (m k : ℕ) → (m < k) ⊎ (k ≤ m)
    cases m k = grind arith

pub opened_here : (old : CoreView) (p : GroupProps) (limit : ℕ) → view_at (with_opened p limit old) (length old.lives) ≡ Some (view (opened p limit))
opened_here old p limit = ap shown_by (push_here old.lives (living (view (opened p limit))))

-- one group more
pub of_opened : (old new : CoreView) (es : List Entry) (name : List ℕ) (place : ℕ) (p : GroupProps) (limit : ℕ) → new ≡ with_opened p limit old → AreOf old es → AreOf new (es ++ new_entry name place ∷ [])
of_opened old new es name place p limit is kept = subst (λ c. AreOf c (es ++ new_entry name place ∷ [])) (sym is) (record {
  count = omega (arith, length-append old.lives (living (view (opened p limit)) ∷ []), length-append es (new_entry name place ∷ []), kept.count);
  there = λ number. elim (either number (length old.lives)) [
    | inl here ↦ subst (λ n. is_some (view_at (with_opened p limit old) n) ≡ is_some (entry_at (es ++ new_entry name place ∷ []) n)) (sym here) (ap is_some (opened_here old p limit) ∙ sym (ap (λ n. is_some (entry_at (es ++ new_entry name place ∷ []) n)) kept.count ∙ ap is_some (entry-pushed es name place)))
    | inr differ ↦ ap is_some (opened_other old p limit number differ) ∙ kept.there number ∙ sym (ap is_some (entry-push es (new_entry name place) number (λ h. differ (h ∙ sym kept.count))))
  ];
})

-- what is seen of the groups with one fewer
pub retired_other : (n : ℕ) (v : View) (old : CoreView) (group : ℕ) → group ≢ n → view_at (with_retired n v old) group ≡ view_at old group
retired_other n v old group differ = ap shown_by (slice_get-set_other old.lives n (retired v.present.props v.present.limit) group differ)

pub retired_here : (n : ℕ) (v : View) (old : CoreView) → view_at old n ≡ Some v → view_at (with_retired n v old) n ≡ None
retired_here n v old shown = ap shown_by (slice_get-set_same old.lives n (living v) (retired v.present.props v.present.limit) (shown_living (slice_get old.lives n) v shown))

-- one group fewer
pub of_retired : (old new : CoreView) (es : List Entry) (n : ℕ) (v : View) → view_at old n ≡ Some v → new ≡ with_retired n v old → AreOf old es → AreOf new (without n es)
of_retired old new es n v shown is kept = subst (λ c. AreOf c (without n es)) (sym is) (record {
  count = length-set old.lives n (retired v.present.props v.present.limit) ∙ kept.count ∙ sym (length-without es n);
  there = λ number. elim (either number n) [
    | inl here ↦ subst (λ k. is_some (view_at (with_retired n v old) k) ≡ is_some (entry_at (without n es) k)) (sym here) (ap is_some (retired_here n v old shown) ∙ sym (ap is_some (entry-without_same es n)))
    | inr differ ↦ ap is_some (retired_other n v old number differ) ∙ kept.there number ∙ sym (ap is_some (entry-without_other es n number differ))
  ];
})

-- ---- the groups of the settings

pub listed_at : (service : SettingsView) (number : ℕ) → entry_at (listed_entries service) number ≡ option_map (λ group. new_entry group.0 number) (slice_get service.groups number)
listed_at service number = elim (read (slice_get service.groups number)) [
  | inl none ↦ ap unless (each_at 0 entry service.groups number ∙ ap (option_map (entry (0 + number))) none) ∙ sym (ap (option_map (entry number)) none)
  | inr at ↦ ap unless (each_at 0 entry service.groups number ∙ ap (option_map (entry (0 + number))) at.1) ∙ ap (λ n. Some (entry n at.0)) (omega arith) ∙ sym (ap (option_map (entry number)) at.1)
]
  where
    entry : ℕ → List ℕ × GroupProps → Entry
    entry place group = new_entry group.0 place

    unless : Option Entry → Option Entry
    unless None = None
    unless (Some e) = unless_retired e

pub opened_at : (service : SettingsView) (number : ℕ) → view_at (opened_core service) number ≡ option_map (λ group. view (opened_group service group.1)) (slice_get service.groups number)
opened_at service number = elim (read (slice_get service.groups number)) [
  | inl none ↦ ap shown_by (slice_get-map life service.groups number ∙ ap (option_map life) none) ∙ sym (ap (option_map shown) none)
  | inr at ↦ ap shown_by (slice_get-map life service.groups number ∙ ap (option_map life) at.1) ∙ sym (ap (option_map shown) at.1)
]
  where
    shown : List ℕ × GroupProps → View
    shown group = view (opened_group service group.1)

    life : List ℕ × GroupProps → Life
    life group = living (shown group)

-- all groups of the settings are new
pub of_listed : (service : SettingsView) → AreOf (opened_core service) (listed_entries service)
of_listed service = record {
  count = length-map service.groups _ ∙ sym (length-each_from 0 _ service.groups);
  there = λ number. elim (read (slice_get service.groups number)) [
    | inl none ↦ ap is_some (opened_at service number ∙ ap (option_map _) none) ∙ sym (ap is_some (listed_at service number ∙ ap (option_map _) none))
    | inr at ↦ ap is_some (opened_at service number ∙ ap (option_map _) at.1) ∙ sym (ap is_some (listed_at service number ∙ ap (option_map _) at.1))
  ];
}
