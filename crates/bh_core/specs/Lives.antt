-- The life of a group in a list of acts: the part after its registration and before its retirement.
use Rattle.std.specs.Prelude.{◌≡◌, ◌⊎◌, ℕ, ◌==◌, Bool, false, true, List, [], ◌∷◌, None, Option, Some, is_some, option_map, slice_get, if◌then◌else◌}
use Rattle.std.specs.List.{AllByRecursion, zip}
use Rattle.bh_base.specs.Props.{GroupProps}
use Rattle.bh_base.specs.declared.reply.Reply.{Reply}
use Rattle.bh_base.specs.declared.reply.Reply.TheVariants.{NoGroup}
use Rattle.bh_base.specs.declared.step.Step.{Step}
use Rattle.bh_base.specs.Runs.{State, opened}
use Rattle.bh_core.specs.declared.service.acts.Act.{Act}
use Rattle.bh_core.specs.declared.service.acts.Act.TheVariants as act
use Rattle.bh_core.specs.declared.service.acts.Outcome.{Outcome}
use Rattle.bh_core.specs.declared.service.acts.Outcome.TheVariants as outcome
use Rattle.bh_core.specs.Acts.{Call}
use Rattle.bh_core.specs.CoreView.{CoreView, Shows, view_at}

-- the acts with what they were told
abbrev pub calls_of : List Act → List Outcome → List Call
calls_of acts outs = zip acts outs

-- the group's registration was accepted
abbrev pub begins : ℕ → Call → Bool
begins group (act.Register place limit, outcome.Registered id) = id.0 == group
begins group _ = false

-- the group's retirement was accepted
abbrev pub ends : ℕ → Call → Bool
ends group (act.Retire id, outcome.Retired) = id.0 == group
ends group _ = false

-- what follows until the group is retired
abbrev pub until_end : ℕ → List Call → List Call
until_end group [] = []
until_end group (c ∷ cs) = if ends group c then [] else c ∷ until_end group cs

-- what comes after the group was retired
abbrev pub after_end : ℕ → List Call → List Call
after_end group [] = []
after_end group (c ∷ cs) = if ends group c then cs else after_end group cs

-- what comes before the group is registered, and what after
abbrev pub before_begin : ℕ → List Call → List Call
before_begin group [] = []
before_begin group (c ∷ cs) = if begins group c then [] else c ∷ before_begin group cs

abbrev pub after_begin : ℕ → List Call → List Call
after_begin group [] = []
after_begin group (c ∷ cs) = if begins group c then cs else after_begin group cs

-- the calls in the group's life, which has begun before them where the group shows something
abbrev pub life_of : ℕ → Bool → List Call → List Call
life_of group true cs = until_end group cs
life_of group false cs = until_end group (after_begin group cs)

-- the group's own steps among the calls, and the replies to them
abbrev pub own_steps : ℕ → List Call → List Step
own_steps group [] = []
own_steps group ((act.Step x, o) ∷ cs) = if x.group.0 == group then x ∷ own_steps group cs else own_steps group cs
own_steps group ((_, o) ∷ cs) = own_steps group cs

abbrev pub own_told : ℕ → List Call → List Reply
own_told group [] = []
own_told group ((act.Step x, outcome.Replied r) ∷ cs) = if x.group.0 == group then r ∷ own_told group cs else own_told group cs
own_told group (_ ∷ cs) = own_told group cs

-- whether the group's life has begun before the calls
abbrev pub has_begun : CoreView → ℕ → Bool
has_begun old group = is_some (view_at old group)

abbrev pub steps_in_life : CoreView → List Call → ℕ → List Step
steps_in_life old cs group = own_steps group (life_of group (has_begun old group) cs)

abbrev pub told_in_life : CoreView → List Call → ℕ → List Reply
told_in_life old cs group = own_told group (life_of group (has_begun old group) cs)

-- the state of the group that a call registers
abbrev pub opened_by : List GroupProps → Call → Option State
opened_by props (act.Register place limit, o) = option_map (λ p. opened p limit) (slice_get props place)
opened_by props _ = None

-- the state of the group when it is registered by one of the calls
abbrev pub start_of : List GroupProps → ℕ → List Call → Option State
start_of props group [] = None
start_of props group (c ∷ cs) = if begins group c then opened_by props c else start_of props group cs

-- the state from which the group goes in its life: one that it may be in before the calls, or that of its registration
abbrev pub IsBegun : List GroupProps → CoreView → List Call → ℕ → State → Type 0
IsBegun props old cs group s = Shows old group s ⊎ ((view_at old group ≡ None) × (start_of props group cs ≡ Some s))

-- each step of a group before and after its life is told that there is no such group
abbrev pub IsOutside : ℕ → Bool → List Call → Type 0
IsOutside group true cs = AllByRecursion (λ r. r ≡ NoGroup) (own_told group (after_end group cs))
IsOutside group false cs = AllByRecursion (λ r. r ≡ NoGroup) (own_told group (before_begin group cs)) × AllByRecursion (λ r. r ≡ NoGroup) (own_told group (after_end group (after_begin group cs)))

abbrev pub AreOutside : CoreView → List Call → Type 0
AreOutside old cs = (group : ℕ) → IsOutside group (has_begun old group) cs
