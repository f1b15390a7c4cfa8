-- Whole runs of one group's machine, and what can be seen of its state.
use Rattle.std.specs.Prelude.{◌≡◌, ℕ, ◌+◌, ◌≤◌, ◌==◌, Bool, true, false, max, List, [], ◌∷◌, ◌++◌, map, filter, length, slice_index_or, Option, Some, None, if◌then◌else◌}
use Rattle.std.specs.List.{AllByRecursion}
use Rattle.bh_base.specs.Props.{GroupProps}
use Rattle.bh_base.specs.declared.step.Op.{Op}
use Rattle.bh_base.specs.declared.step.Op.TheVariants as operation
use Rattle.bh_base.specs.declared.step.Step.{Step}
use Rattle.bh_base.specs.declared.reply.Reply.{Reply}
use Rattle.bh_base.specs.declared.reply.Reply.TheVariants as reply
use Rattle.bh_base.specs.declared.event.Event.{Event}
use Rattle.bh_base.specs.declared.event.EventKind.{EventKind}
use Rattle.bh_base.specs.Commands.{each_command, has_command, is_known}
use Rattle.bh_base.specs.History.{window_of, totals_of, Past, new_past, no_past, past_rolling, PastView, past_view}
use Rattle.bh_base.specs.Circuit.{new_circuit}
use Rattle.bh_base.specs.Tickets.{is_kept}
use Rattle.bh_base.specs.Machine.{Present, CommandEvent, Outcome, outcome}

-- a group: what it has now, and the past of each of its commands
pub record State : Type 0 where
  pub present : Present
  pub pasts : List Past

-- a new group
abbrev pub opened : GroupProps → ℕ → State
opened props limit = record {
  present = record { props = props; limit = limit; steps = 0; latest = 0; serial = 1; tickets = []; circuits = map (λ c. new_circuit) props.commands };
  pasts = map new_past props.commands;
}

-- no event is later than the moment, and health begins within the history
pub record IsPastSound (moment : ℕ) (p : Past) : Type 0 where
  pub past : AllByRecursion (λ event. event.moment ≤ moment) p.history
  pub from : p.health_from ≤ length p.history

-- what every state of a run has: each command has a past, in the window of its properties, and a circuit breaker; no
-- event is later than the latest moment, and health begins within the history
pub record IsSound (s : State) : Type 0 where
  pub windows : map (λ p. p.window) s.pasts ≡ map window_of s.present.props.commands
  pub circuits : length s.present.circuits ≡ length s.present.props.commands
  pub pasts : AllByRecursion (IsPastSound s.present.latest) s.pasts

-- the step's number and moment
abbrev pub begun : ℕ → Present → Present
begun now g = record g { steps = g.steps + 1; latest = max g.latest now }

-- tickets that no one needs are gone
abbrev pub released : Present → Present
released g = record g { tickets = filter is_kept g.tickets }

-- events of the kinds, all at one moment, as those of a step are
abbrev pub events_at : ℕ → List EventKind → List Event
events_at moment kinds = map (λ k. record { moment = moment; kind = k }) kinds

-- the past of the command
abbrev pub past_of : ℕ → State → Past
past_of command s = slice_index_or s.pasts command no_past

-- what the op does in a group that looks so at the step's moment
abbrev pub outcome_in : State → Op → ℕ → Outcome
outcome_in s op now =
    let g = begun now s.present in
    outcome op (λ command. past_rolling (past_of command s) g.latest) g

-- the kinds of the command's events
abbrev pub kinds_of : ℕ → List CommandEvent → List EventKind
kinds_of command events = map (λ e. e.kind) (filter (λ e. e.command == command) events)

-- whether it is the command's circuit that closed
abbrev pub is_closed : Option ℕ → ℕ → Bool
is_closed None command = false
is_closed (Some closed) command = closed == command

-- a command's past with events of the kinds; where its circuit closed, health looks at no event up to then
abbrev pub past_with : ℕ → List EventKind → Bool → Past → Past
past_with moment kinds closed p =
    let history = p.history ++ events_at moment kinds in
    record {
      window = p.window;
      history = history;
      health_from = (if closed then length history else p.health_from);
    }

-- the past of the command with its events of a step
abbrev pub past_after : Outcome → ℕ → Past → Past
past_after out command p = past_with out.present.latest (kinds_of command out.events) (is_closed out.closed command) p

-- the state after a step, with its events
abbrev pub left_by : State → Outcome → State
left_by s out = record { present = released out.present; pasts = each_command (past_after out) s.pasts }

-- what a step gives: the reply, and the group after it
pub record Stepped : Type 0 where
  pub reply : Reply
  pub state : State

-- a step that names a command that the group lacks changes nothing; and a group that has done its limit of steps is worn,
-- and changes no more
abbrev pub stepped : Bool → Bool → State → Outcome → Stepped
stepped false worn s out = record { reply = reply.NoCommand; state = s }
stepped true true s out = record { reply = reply.Worn; state = s }
stepped true false s out = record { reply = out.reply; state = left_by s out }

-- whether the group has done all the steps that it may
abbrev pub is_worn : Present → Bool
is_worn g = g.steps == g.limit

-- one step of a group that is alone: what the operation at the moment replies and leaves
abbrev pub step : State → Op → ℕ → Stepped
step s op now = stepped (is_known op s.present.props) (is_worn s.present) s (outcome_in s op now)

-- what can be seen of a state: the events of each command are counted by buckets
pub record View : Type 0 where
  pub present : Present
  pub pasts : List PastView

-- all that replies can depend on: what is present, and the counts of each command's window
abbrev pub view : State → View
view s = record { present = s.present; pasts = map (past_view s.present.latest) s.pasts }

-- whole runs

-- a group's replies to the steps, one for each, in order
abbrev pub replies : State → List Step → List Reply
replies s [] = []
replies s (x ∷ xs) = (step s x.op x.now).reply ∷ replies (step s x.op x.now).state xs

-- the group after all of the steps
abbrev pub state_after : State → List Step → State
state_after s [] = s
state_after s (x ∷ xs) = state_after (step s x.op x.now).state xs

-- the steps of one group, in order
abbrev pub own : ℕ → List Step → List Step
own group steps = filter (λ x. x.group.0 == group) steps

-- two states with equal views give equal replies to every step, and equal views after it
abbrev pub ViewLaw : Type 0
ViewLaw =
    (s t : State) (op : Op) (now : ℕ) → IsSound s → IsSound t → view s ≡ view t
    → ((step s op now).reply ≡ (step t op now).reply) × (view (step s op now).state ≡ view (step t op now).state)

-- a new group is sound, and each step keeps it so
pub record StaysSound : Type 0 where
  pub opened : (props : GroupProps) (limit : ℕ) → IsSound (opened props limit)
  pub stepped : (s : State) (op : Op) (now : ℕ) → IsSound s → IsSound (step s op now).state

-- the state with the number and the moment of one more step, and nothing else changed
abbrev pub moved_on : State → ℕ → State
moved_on s now = record s { present = begun now s.present }

-- what a Totals of a group that is not worn is told of a command that it has: how many events of each kind its history has, all
-- of them since the group was opened
abbrev pub TotalsAreOfTheHistory : Type 0
TotalsAreOfTheHistory =
    (s : State) (command now : ℕ) → has_command command s.present.props ≡ true → is_worn s.present ≡ false
    → (step s (operation.Totals command) now).reply ≡ reply.Totals (totals_of (past_of command s).history)
