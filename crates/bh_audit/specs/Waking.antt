-- Whom a step lets go on, of those that wait in its group.
use Rattle.std.specs.Prelude.{◌≡◌, ℕ, ◌==◌, Bool, Some, true, false}
use Rattle.bh_base.specs.declared.step.GroupId.{GroupId}
use Rattle.bh_base.specs.declared.step.Op.{Op}
use Rattle.bh_base.specs.declared.step.Op.TheVariants as op
use Rattle.bh_base.specs.Order.{Rise}
use Rattle.bh_base.specs.Runs.{View, is_worn}
use Rattle.bh_base.specs.Seen.{view_reply}
use Rattle.bh_core.specs.CoreView.{CoreView, view_at}
use Rattle.bh_core.specs.Looks.{is_assigned, is_pending}
use Rattle.bh_audit.specs.declared.freed.Freed.{Freed}
use Rattle.bh_audit.specs.declared.freed.FreedCallers.{FreedCallers}
use Rattle.bh_audit.specs.declared.freed.FreedCallers.TheVariants as callers
use Rattle.bh_audit.specs.declared.freed.Notice.{Notice}
use Rattle.bh_audit.specs.declared.freed.Notice.TheVariants as notice

-- whether at least one is notified
abbrev pub frees_one : Notice → Bool
frees_one notice.Nobody = false
frees_one notice.One = true
frees_one notice.All = true

-- whether the callers that wait for the ticket of a serial are notified
abbrev pub frees_caller : FreedCallers → ℕ → Bool
frees_caller callers.Nobody serial = false
frees_caller (callers.Of told) serial = told == serial
frees_caller callers.All serial = true

-- all that wait in the group are notified
pub record IsEverybody (freed : Freed) : Type 0 where
  pub workers : freed.workers ≡ notice.All
  pub callers : freed.callers ≡ callers.All

-- whoever is notified by the one is notified by the other too
pub record FreesToo (fewer more : Freed) : Type 0 where
  pub worker : frees_one fewer.workers ≡ true → frees_one more.workers ≡ true
  pub caller : (serial : ℕ) → frees_caller fewer.callers serial ≡ true → frees_caller more.callers serial ≡ true
  pub everybody : IsEverybody fewer → IsEverybody more

-- the callers whose wait a step of the operation can end, where the group is not worn after it; a Tune ends none, as it changes
-- no ticket. The workers whom it lets go on are told as after every step: where none would have got a run before it and one would
-- after it
abbrev pub frees_by : Op → FreedCallers
frees_by (op.Finish serial body) = callers.Of serial
frees_by (op.Fail serial bad) = callers.Of serial
frees_by (op.FallbackDone serial e) = callers.Of serial
frees_by op.Expire = callers.All
frees_by _ = callers.Nobody

-- after these a worker is notified wherever one would get a run, also where one was notified before: a request that was
-- queued brings a worker of its own, and a worker that took a run tells the next one
abbrev pub is_told_again : Op → Bool
is_told_again (op.Submit request) = true
is_told_again op.Start = true
is_told_again _ = false

-- no wake-up is lost: whoever had to wait before a step of the operation and need not wait after it is notified
pub record LosesNoWakeUp (before : View) (o : Op) (after : View) (freed : Freed) : Type 0 where
  -- a worker, where none would have got a run before the step and one would after it
  pub worker : (m m' : ℕ) → is_assigned (view_reply before op.Start m) ≡ false → is_assigned (view_reply after op.Start m') ≡ true → frees_one freed.workers ≡ true
  -- one more worker, where a request was made or a worker took a run, and one would get a run after it
  pub next_worker : (m : ℕ) → is_told_again o ≡ true → is_assigned (view_reply after op.Start m) ≡ true → frees_one freed.workers ≡ true
  -- every caller that had to wait for the ticket of its serial and has not to wait any more, where no two tickets have one serial
  pub caller : (serial next m m' : ℕ) → Rise 1 before.present.tickets next → is_pending (view_reply before (op.Collect serial) m) ≡ true → is_pending (view_reply after (op.Collect serial) m') ≡ false → frees_caller freed.callers serial ≡ true
  -- everybody, where the group is worn
  pub worn : is_worn after.present ≡ true → IsEverybody freed

-- no wake-up is lost in the group by a step of the operation that took all groups from old to new
abbrev pub KeepsWakeUps : CoreView → GroupId → Op → CoreView → Freed → Type 0
KeepsWakeUps old group o new freed =
    (before after : View) → view_at old group.0 ≡ Some before → view_at new group.0 ≡ Some after → LosesNoWakeUp before o after freed
