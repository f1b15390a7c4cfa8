-- What a step did to the commands of its group.
use Rattle.std.specs.Prelude.{ℕ, ◌-◌, ◌&&◌, ◌==◌, nat_lt, List, Option, Some, None, option_map, count_by, if◌then◌else◌}
use Rattle.bh_base.specs.Commands.{command_count}
use Rattle.bh_base.specs.Machine.{circuit_of, is_due}
use Rattle.bh_base.specs.Runs.{State, View, begun, is_worn, view}
use Rattle.bh_base.specs.Seen.{view_after, view_reply}
use Rattle.bh_base.specs.Tickets.{is_of}
use Rattle.bh_base.specs.declared.step.Op.{Op}
use Rattle.bh_base.specs.declared.step.Op.TheVariants as op
use Rattle.bh_base.specs.declared.step.Step.{Step}
use Rattle.bh_base.specs.declared.ticket.Ticket.{Ticket}
use Rattle.bh_core.specs.Looks.{ticket_meant}
use Rattle.bh_look.specs.declared.kind.Kind.{Kind}
use Rattle.bh_look.specs.declared.tally.Tally.{Tally}
use Rattle.bh_look.specs.Kinds.{kind_told}
use Rattle.bh_look.specs.Tallies.{with_kind, with_time, with_timeouts, with_trip}

-- the command of the request that a step is of: of the request itself, or of the ticket that the step goes by
abbrev pub command_meant : Op → List Ticket → Option ℕ
command_meant (op.Submit request) ts = Some request.command
command_meant o ts = option_map (λ t. t.command) (ticket_meant o ts)

-- with what the reply tells of a request, where that is of this command
abbrev pub with_told : Option ℕ → Option Kind → ℕ → Tally → Tally
with_told None kind command t = t
with_told (Some n) None command t = t
with_told (Some n) (Some k) command t = if n == command then with_kind k t else t

-- how many tickets of the command time out in the step
abbrev pub timed_out : View → Op → ℕ → ℕ → ℕ
timed_out v op.Expire now command =
    if is_worn v.present then 0 else count_by (λ t. is_of command t && is_due (begun now v.present) t) v.present.tickets
timed_out v _ now command = 0

-- the command's tally with what a step of its group did, which was in this view before: the time that passed since the step
-- before is of the state that the circuit was in; what timed out is of its ticket's command, and what the reply tells of that
-- of its request
abbrev pub tally_with : View → Op → ℕ → ℕ → Tally → Tally
tally_with v o now command t =
    let w = view_after v o now in
    let before = (circuit_of command v.present).state in
    with_told (command_meant o v.present.tickets) (kind_told o (view_reply v o now)) command
    (with_timeouts (timed_out v o now command)
    (with_trip before (circuit_of command w.present).state
    (with_time before (w.present.latest - v.present.latest) t)))

-- the same of a group in this state, where it is there and has the command
abbrev pub tally_in : Option State → Step → ℕ → Tally → Tally
tally_in None x command t = t
tally_in (Some s) x command t =
    if nat_lt command (command_count s.present.props) then tally_with (view s) x.op x.now command t else t
