-- The lines that answer operations which make no step.
use Rattle.std.specs.Prelude.{ℕ, List, codes, Option, None, Some}
use Rattle.serde_json.specs.Data.{no_members, object}
use Rattle.bh_base.specs.declared.reply.Reply.TheVariants as reply
use Rattle.bh_lease.specs.declared.leases.Refusal.{Refusal}
use Rattle.bh_lease.specs.declared.leases.Refusal.TheVariants as refuses
use Rattle.bh_replies.specs.FaultLine.{error_data}
use Rattle.bh_replies.specs.ReplyLine.{json_line, reply_line, text_member}

-- a ticket of another connection is as one that nobody has; a connection with as many leases or contexts as it may have is told
-- so, and one that may not change properties is, too
unfoldable pub refusal_line : Refusal → List ℕ
refusal_line refuses.Full = json_line (error_data (codes "full"))
refusal_line refuses.NotRunning = reply_line None reply.NotRunning
refusal_line refuses.NoTicket = reply_line None reply.NoTicket
refusal_line refuses.NotInFallback = reply_line None reply.NotInFallback
refusal_line refuses.NotTunable = json_line (error_data (codes "tune"))

-- what a connection is told that is within a request context from now on
unfoldable pub entered_line : List ℕ
entered_line = json_line (object (text_member (codes "reply") (codes "entered") no_members))

-- what one is told that asked to be: that it is, or why not
abbrev pub entry_line : Option Refusal → List ℕ
entry_line None = entered_line
entry_line (Some why) = refusal_line why
