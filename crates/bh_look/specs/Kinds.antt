-- What a reply tells of one request.
use Rattle.std.specs.Prelude.{false, Option, Some, None}
use Rattle.bh_base.specs.declared.reply.Answer.{Answer}
use Rattle.bh_base.specs.declared.reply.Answer.TheVariants as answer
use Rattle.bh_base.specs.declared.reply.Cause.{Cause}
use Rattle.bh_base.specs.declared.reply.Cause.TheVariants as cause
use Rattle.bh_base.specs.declared.reply.Reply.{Reply}
use Rattle.bh_base.specs.declared.reply.Reply.TheVariants as reply
use Rattle.bh_base.specs.declared.step.Op.{Op}
use Rattle.bh_base.specs.declared.step.Op.TheVariants as op
use Rattle.bh_look.specs.declared.kind.Kind.{Kind}
use Rattle.bh_look.specs.declared.kind.Kind.TheVariants as kind

-- why a request does not run
abbrev pub refusal_kind : Cause → Kind
refusal_kind cause.ShortCircuited = kind.ShortCircuited
refusal_kind _ = kind.Rejected

-- what a caller got
abbrev pub answer_kind : Answer → Kind
answer_kind (answer.Value body) = kind.Value
answer_kind (answer.FallbackValue cause body) = kind.FallbackValue
answer_kind (answer.Error cause fallback) = kind.Error
answer_kind answer.BadRequest = kind.BadRequest

-- an end that was taken tells of a request where its run failed
abbrev pub done_kind : Op → Option Kind
done_kind (op.Fail serial false) = Some kind.Failure
done_kind _ = None

-- a group that has done its steps refuses requests, too
abbrev pub worn_kind : Op → Option Kind
worn_kind (op.Submit request) = Some kind.Worn
worn_kind _ = None

-- what a reply to the operation tells of a request
abbrev pub kind_told : Op → Reply → Option Kind
kind_told o (reply.Queued serial) = Some kind.Admitted
kind_told o (reply.Inline serial) = Some kind.Admitted
kind_told o (reply.Joined serial) = Some kind.Joined
kind_told o reply.GroupFull = Some kind.GroupFull
kind_told o (reply.FallbackDue serial cause) = Some (refusal_kind cause)
kind_told o reply.Late = Some kind.Late
kind_told o (reply.Answered a) = Some (answer_kind a)
kind_told o reply.Done = done_kind o
kind_told o reply.Worn = worn_kind o
kind_told o _ = None
