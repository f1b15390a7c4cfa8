-- The numbers of the kinds of replies.
use Rattle.std.specs.Prelude.{ℕ}
use Rattle.bh_c.specs.declared.kind.ReplyKind.{ReplyKind}
use Rattle.bh_c.specs.declared.kind.ReplyKind.TheVariants as kinds

-- the number that C sees
abbrev pub kind_number : ReplyKind → ℕ
kind_number kinds.Queued = 1
kind_number kinds.Inline = 2
kind_number kinds.FallbackDue = 3
kind_number kinds.Joined = 4
kind_number kinds.GroupFull = 5
kind_number kinds.Assigned = 6
kind_number kinds.Idle = 7
kind_number kinds.Done = 8
kind_number kinds.Late = 9
kind_number kinds.NotRunning = 10
kind_number kinds.Expired = 11
kind_number kinds.Pending = 12
kind_number kinds.RunFallback = 13
kind_number kinds.Value = 14
kind_number kinds.FallbackValue = 15
kind_number kinds.Error = 16
kind_number kinds.BadRequest = 17
kind_number kinds.NoTicket = 18
kind_number kinds.NotInFallback = 19
kind_number kinds.Closed = 20
kind_number kinds.Metrics = 21
kind_number kinds.Worn = 22
kind_number kinds.NoGroup = 23
kind_number kinds.NoCommand = 24
kind_number kinds.Tuned = 25
kind_number kinds.OutOfRange = 26
kind_number kinds.Totals = 27
