-- What steps, registrations and retirements do to all groups.
use Rattle.std.specs.Prelude.{◌≡◌, ◌+◌, ◌<◌, ◌≤◌, ◌^◌, ℕ, false, true, List, [], ◌∷◌, ◌++◌, None, Some, length, slice_get}
use Rattle.bh_base.specs.Props.{GroupProps}
use Rattle.bh_base.specs.Runs.{View, opened, view}
use Rattle.bh_core.specs.declared.service.acts.Act.{Act}
use Rattle.bh_core.specs.declared.service.acts.Act.TheVariants as act
use Rattle.bh_core.specs.declared.service.acts.Outcome.{Outcome}
use Rattle.bh_core.specs.declared.service.acts.Outcome.TheVariants as outcome
use Rattle.bh_core.specs.declared.service.RegisterError.{RegisterError}
use Rattle.bh_core.specs.declared.service.RegisterError.TheVariants as register
use Rattle.bh_core.specs.declared.service.RetireError.{RetireError}
use Rattle.bh_core.specs.declared.service.RetireError.TheVariants as retire
use Rattle.bh_core.specs.CoreView.{CoreView, living, most_groups, slots_in, view_at, with_retired}
use Rattle.bh_core.specs.Looks.{is_in_use}
use Rattle.bh_core.specs.Step.{IsStep}

-- an act with what it was told
abbrev pub Call : Type 0
Call = Act × Outcome

-- what can be asked for, where there are properties of so many groups: places within them, and limits in range
abbrev pub IsActOf : ℕ → Act → Type 0
IsActOf count (act.Register place limit) = (place < count) × (1 ≤ limit) × (limit ≤ 2 ^ 40)
IsActOf count _ = Unit {0}

-- with a group more, which did no step
abbrev pub with_opened : GroupProps → ℕ → CoreView → CoreView
with_opened p limit groups = record groups { lives = groups.lives ++ living (view (opened p limit)) ∷ [] }

-- why a group of the properties is not registered
abbrev pub IsUnregistered : RegisterError → GroupProps → CoreView → Type 0
IsUnregistered register.TooManyGroups p groups = most_groups ≤ length groups.lives
IsUnregistered register.TooManySlots p groups = (length groups.lives < most_groups) × (groups.slot_limit < slots_in groups.lives + p.slots)
IsUnregistered register.Memory p groups = (length groups.lives < most_groups) × (slots_in groups.lives + p.slots ≤ groups.slot_limit)

-- why a group is not retired
abbrev pub IsUnretired : RetireError → ℕ → CoreView → Type 0
IsUnretired retire.NoGroup group groups = view_at groups group ≡ None
IsUnretired retire.Busy group groups = (v : View) × (view_at groups group ≡ Some v) × (is_in_use v ≡ true)

-- an act took all groups from old to new, and was told the outcome
abbrev pub IsAct : List GroupProps → CoreView → Call → CoreView → Type 0
IsAct props old (act.Step x, outcome.Replied r) new = IsStep old x r new
IsAct props old (act.Register place limit, outcome.Registered id) new =
    (p : GroupProps) × (slice_get props place ≡ Some p) × (id.0 ≡ length old.lives) × (length old.lives < most_groups) × (slots_in old.lives + p.slots ≤ old.slot_limit) × (new ≡ with_opened p limit old)
IsAct props old (act.Register place limit, outcome.NotRegistered e) new =
    (p : GroupProps) × (slice_get props place ≡ Some p) × IsUnregistered e p old × (new ≡ old)
IsAct props old (act.Retire group, outcome.Retired) new =
    (v : View) × (view_at old group.0 ≡ Some v) × (is_in_use v ≡ false) × (new ≡ with_retired group.0 v old)
IsAct props old (act.Retire group, outcome.NotRetired e) new = IsUnretired e group.0 old × (new ≡ old)
IsAct props old _ new = ⊥

-- acts one after another
abbrev pub AreActs : List GroupProps → CoreView → List Call → CoreView → Type 0
AreActs props old [] new = new ≡ old
AreActs props old (c ∷ cs) new = (mid : CoreView) × IsAct props old c mid × AreActs props mid cs new
