-- What a step that a connection asks for is answered, and when it has to wait.
use Rattle.std.specs.Prelude.{◌≡◌, ℕ, Bool, false, ◌&&◌, not, List, Option, Some, None}
use Rattle.bh_base.specs.declared.reply.Reply.{Reply}
use Rattle.bh_base.specs.declared.reply.Reply.TheVariants as replies
use Rattle.bh_base.specs.declared.step.GroupId.{GroupId}
use Rattle.bh_base.specs.declared.step.Op.{Op}
use Rattle.bh_base.specs.declared.step.Op.TheVariants as op
use Rattle.bh_base.specs.declared.step.Step.{Step}
use Rattle.bh_base.specs.Runs.{View}
use Rattle.bh_base.specs.Seen.{view_reply}
use Rattle.bh_core.specs.CoreView.{CoreView, view_at}
use Rattle.bh_core.specs.Looks.{is_assigned, is_worn_out}
use Rattle.bh_in_force.specs.declared.properties.InForce.{InForce}
use Rattle.bh_in_force.specs.PropertiesLine.{properties_line}
use Rattle.bh_lease.specs.declared.leases.Refusal.{Refusal}
use Rattle.bh_lease.specs.Leases.{LeasesView, leases_after, refusal}
use Rattle.bh_lender.specs.Lender.{DoesStep, LenderView}
use Rattle.bh_lender.specs.Settling.{would_wait}
use Rattle.bh_lines.specs.Names.{Names, command_name}
use Rattle.bh_replies.specs.ReplyLine.{reply_line}
use Rattle.bh_share.specs.Answer.{refusal_line}

-- whether a Start would be answered Idle, which no moment plays a part in: neither with a run nor with a refusal
abbrev pub would_idle : Option View → Bool
would_idle None = false
would_idle (Some v) = not (is_assigned (view_reply v op.Start 0)) && not (is_worn_out (view_reply v op.Start 0))

-- whether an operation that a connection may ask for would be answered Pending or Idle
abbrev pub would_have_to : Op → GroupId → CoreView → Bool
would_have_to op.Start group groups = would_idle (view_at groups group.0)
would_have_to (op.Collect serial) group groups = would_wait (view_at groups group.0) serial
would_have_to _ group groups = false

-- whoever may not ask for it does not wait
abbrev pub unless_refused : Option Refusal → Bool → Bool
unless_refused None waits = waits
unless_refused (Some why) waits = false

abbrev pub has_to_wait : LenderView → LeasesView → GroupId → Op → Bool
has_to_wait lender leases group o = unless_refused (refusal group o leases) (would_have_to o group lender.recorded.groups)

-- the name that stands in the line of a reply: of a run that was assigned the further command's
abbrev pub told_name : Names → GroupId → Reply → Option (List ℕ)
told_name names group (replies.Assigned serial command arg) = command_name names group.0 command
told_name names group _ = None

-- what came of a step, by why the connection may not ask for it: nothing was done; or the step was made, and what it lets
-- holders that are left do, and the connection has then what the step says
abbrev pub IsDoneUnless : Option Refusal → Step → Reply → LenderView → LeasesView → LenderView → LeasesView → Type 0
IsDoneUnless (Some why) step reply old had new has = (new ≡ old) × (has ≡ had)
IsDoneUnless None step reply old had new has =
    DoesStep step reply old new × (has ≡ leases_after step.group step.op reply had)

-- what comes of a step that a connection with these leases asks for
abbrev pub IsDone : Step → Reply → LenderView → LeasesView → LenderView → LeasesView → Type 0
IsDone step reply old had new has = IsDoneUnless (refusal step.group step.op had) step reply old had new has

-- the line that tells it: that of the refusal, or that of the step's reply
abbrev pub answer_line : Option Refusal → Names → GroupId → Reply → List ℕ
answer_line (Some why) names group reply = refusal_line why
answer_line None names group reply = reply_line (told_name names group reply) reply

-- the line of what is in force of a command, or of why nothing is: its group is not there
abbrev pub in_force_line : Option InForce → List ℕ
in_force_line (Some properties) = properties_line properties
in_force_line None = reply_line None replies.NoGroup

-- how a step is answered that a connection with these leases asks for
abbrev pub IsAnswered : Names → Step → LenderView → LeasesView → LenderView → LeasesView → List ℕ → Type 0
IsAnswered names step old had new has line =
    (reply : Reply) × IsDone step reply old had new has × (line ≡ answer_line (refusal step.group step.op had) names step.group reply)
