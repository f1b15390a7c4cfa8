-- The tickets of a group stand by rising serial, and each is of one of its commands; and what no step changes of the properties.
use Rattle.std.specs.Prelude.{ℕ, ◌+◌, ◌<◌, ◌≤◌, List, [], ◌∷◌}
use Rattle.std.specs.List.{AllByRecursion}
use Rattle.bh_base.specs.declared.ticket.Ticket.{Ticket}
use Rattle.bh_base.specs.declared.step.Op.{Op}
use Rattle.bh_base.specs.Props.{GroupProps}
use Rattle.bh_base.specs.Commands.{command_count}
use Rattle.bh_base.specs.Ranges.{IsInRange}
use Rattle.bh_base.specs.Runs.{State, opened, step}
use Rattle.bh_base.specs.Tunings.{AreOfOneShape}

-- the serials rise, from `from` on, and stay below `next`
abbrev pub Rise : ℕ → List Ticket → ℕ → Type 0
Rise from [] next = from ≤ next
Rise from (t ∷ ts) next = (from ≤ t.serial) × Rise (t.serial + 1) ts next

-- the tickets stand by rising serial from 1 on, so no two have the same, and the next serial is above all
abbrev pub IsRising : State → Type 0
IsRising s = Rise 1 s.present.tickets s.present.serial

-- of a new group, and after each step of a group where they rise
pub record SerialsRise : Type 0 where
  pub opened : (props : GroupProps) (limit : ℕ) → IsRising (opened props limit)
  pub stepped : (s : State) (op : Op) (now : ℕ) → IsRising s → IsRising (step s op now).state

-- each ticket is of a command that the group has
abbrev pub AreKnown : GroupProps → List Ticket → Type 0
AreKnown props tickets = AllByRecursion (λ t. t.command < command_count props) tickets

-- of a new group, and after each step of a group where they are
pub record CommandsStayKnown : Type 0 where
  pub opened : (props : GroupProps) (limit : ℕ) → AreKnown props (opened props limit).present.tickets
  pub stepped : (s : State) (op : Op) (now : ℕ) → AreKnown s.present.props s.present.tickets → AreKnown (step s op now).state.present.props (step s op now).state.present.tickets

-- no step changes the shape of the properties, nor brings it one of them out of its range
pub record PropsKeepShape : Type 0 where
  pub shape : (s : State) (op : Op) (now : ℕ) → AreOfOneShape s.present.props (step s op now).state.present.props
  pub ranges : (s : State) (op : Op) (now : ℕ) → IsInRange s.present.props → IsInRange (step s op now).state.present.props
