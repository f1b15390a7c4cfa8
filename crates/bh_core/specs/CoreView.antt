-- What callers see of all groups, and of the replies to many steps.
use Rattle.std.specs.Prelude.{◌≡◌, ℕ, ◌^◌, ◌==◌, Bool, false, true, List, [], ◌∷◌, sum_by, Option, Some, None, slice_get, slice_set, if◌then◌else◌}
use Rattle.bh_base.specs.declared.step.Step.{Step}
use Rattle.bh_base.specs.declared.reply.Reply.{Reply}
use Rattle.bh_base.specs.Props.{GroupProps}
use Rattle.bh_base.specs.Runs.{State, View, IsSound, view}

-- a group, from its registration on: what it shows, and once it is retired, the properties that it had at last and its step limit
pub data Life : Type 0 where
  living : View → Life
  retired : GroupProps → ℕ → Life

-- the groups by their numbers, and how many slots there may be in all; a number that was given is never given again
pub record CoreView : Type 0 where
  pub slot_limit : ℕ
  pub lives : List Life

-- what a group shows, as long as it is not retired
abbrev pub shown_by : Option Life → Option View
shown_by None = None
shown_by (Some (living v)) = Some v
shown_by (Some (retired props limit)) = None

-- what the group of the number shows, where it is registered and not retired
abbrev pub view_at : CoreView → ℕ → Option View
view_at groups group = shown_by (slice_get groups.lives group)

-- the group shows the view of the sound state
pub record Shows (groups : CoreView) (group : ℕ) (s : State) : Type 0 where
  pub sound : IsSound s
  pub view_is : view_at groups group ≡ Some (view s)

-- the properties of a group that are in force, or were when it was retired, and how many steps it may do
abbrev pub in_force : Life → GroupProps × ℕ
in_force (living v) = (v.present.props, v.present.limit)
in_force (retired props limit) = (props, limit)

abbrev pub is_retired : Life → Bool
is_retired (living v) = false
is_retired (retired props limit) = true

-- the replies at the places of a group's own steps
abbrev pub own_replies : ℕ → List Step → List Reply → List Reply
own_replies group [] rs = []
own_replies group (x ∷ xs) [] = []
own_replies group (x ∷ xs) (r ∷ rs) = if x.group.0 == group then r ∷ own_replies group xs rs else own_replies group xs rs

-- the slots of a group, which a retired one has no more
abbrev pub slots_of_life : Life → ℕ
slots_of_life (living v) = v.present.props.slots
slots_of_life (retired props limit) = 0

-- the slots of all groups
abbrev pub slots_in : List Life → ℕ
slots_in lives = sum_by slots_of_life lives

-- how many groups may be registered in all, retired ones included
abbrev pub most_groups : ℕ
most_groups = 2 ^ 40

-- with the group retired
abbrev pub with_retired : ℕ → View → CoreView → CoreView
with_retired group v groups = record groups { lives = slice_set groups.lives group (retired v.present.props v.present.limit) }
