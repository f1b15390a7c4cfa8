-- What a change leaves of a ticket.
use Rattle.std.proofs.Common.{◌≡◌, true, refl}
use Rattle.bh_base.specs.declared.ticket.Ticket.{Ticket}
use Rattle.bh_base.specs.Tickets.{is_queued}
use Rattle.bh_tickets.specs.declared.changes.RunEnd.TheVariants as run
use Rattle.bh_tickets.specs.declared.changes.TicketChange.{TicketChange}
use Rattle.bh_tickets.specs.declared.changes.TicketChange.TheVariants as change
use Rattle.bh_tickets.specs.Changes.{IsAllowed, changed_by}

-- a ticket keeps its serial, whatever happens to it
pub serial_kept : (c : TicketChange) (t : Ticket) → (changed_by c t).serial ≡ t.serial
serial_kept change.StartRun t = refl
serial_kept (change.EndRun end) t = refl
serial_kept change.StopRun t = refl
serial_kept change.ReleaseHolder t = refl
serial_kept (change.AnswerHolder a) t = refl
serial_kept (change.Answer a) t = refl
serial_kept (change.StartFallback c) t = refl
serial_kept change.AddHolder t = refl
serial_kept change.TimeOut t = refl

-- a ticket keeps its command
pub command_kept : (c : TicketChange) (t : Ticket) → (changed_by c t).command ≡ t.command
command_kept change.StartRun t = refl
command_kept (change.EndRun end) t = refl
command_kept change.StopRun t = refl
command_kept change.ReleaseHolder t = refl
command_kept (change.AnswerHolder a) t = refl
command_kept (change.Answer a) t = refl
command_kept (change.StartFallback c) t = refl
command_kept change.AddHolder t = refl
command_kept change.TimeOut t = refl

-- a ticket keeps the moment of its submit
pub submitted_kept : (c : TicketChange) (t : Ticket) → (changed_by c t).submitted ≡ t.submitted
submitted_kept change.StartRun t = refl
submitted_kept (change.EndRun end) t = refl
submitted_kept change.StopRun t = refl
submitted_kept change.ReleaseHolder t = refl
submitted_kept (change.AnswerHolder a) t = refl
submitted_kept (change.Answer a) t = refl
submitted_kept (change.StartFallback c) t = refl
submitted_kept change.AddHolder t = refl
submitted_kept change.TimeOut t = refl

-- a ticket keeps its cache name
pub cache_kept : (c : TicketChange) (t : Ticket) → (changed_by c t).cache ≡ t.cache
cache_kept change.StartRun t = refl
cache_kept (change.EndRun end) t = refl
cache_kept change.StopRun t = refl
cache_kept change.ReleaseHolder t = refl
cache_kept (change.AnswerHolder a) t = refl
cache_kept (change.Answer a) t = refl
cache_kept (change.StartFallback c) t = refl
cache_kept change.AddHolder t = refl
cache_kept change.TimeOut t = refl

-- a ticket is cached afterwards if it was before
pub cached_kept : (c : TicketChange) (t : Ticket) → (changed_by c t).cached ≡ t.cached
cached_kept change.StartRun t = refl
cached_kept (change.EndRun end) t = refl
cached_kept change.StopRun t = refl
cached_kept change.ReleaseHolder t = refl
cached_kept (change.AnswerHolder a) t = refl
cached_kept (change.Answer a) t = refl
cached_kept (change.StartFallback c) t = refl
cached_kept change.AddHolder t = refl
cached_kept change.TimeOut t = refl

-- a ticket waits afterwards only if it did before
pub waits_kept : (c : TicketChange) (t : Ticket) → IsAllowed c t → is_queued (changed_by c t) ≡ true → is_queued t ≡ true
waits_kept change.StartRun t ok e = cc
waits_kept (change.EndRun (run.Value body)) t ok e = cc
waits_kept (change.EndRun run.BadRequest) t ok e = cc
waits_kept (change.EndRun run.Failure) t ok e = cc
waits_kept change.StopRun t ok e = e
waits_kept change.ReleaseHolder t ok e = e
waits_kept (change.AnswerHolder a) t ok e = cc
waits_kept (change.Answer a) t ok e = cc
waits_kept (change.StartFallback c) t ok e = cc
waits_kept change.AddHolder t ok e = e
waits_kept change.TimeOut t ok e = cc
