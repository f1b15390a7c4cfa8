use Rattle.std.proofs.Common.{◌≡◌, ◌<◌, ℕ, IfSome, false, slice_get}
use Rattle.bh_journal.specs.Passes.{PassView}
use Rattle.bh_audit.specs.Calls.{is_due}
use Rattle.bh_audit.proofs.locked.Locked.first_due.Given as goal

abbrev pub invariant-loop-place : goal.invariant-loop-place
invariant-loop-place g l = record {
  book : l.self.book ≡ l.initial.self.book;
  stopped : l.self.stopped ≡ l.initial.self.stopped;
  before : (k : ℕ) → k < l.place → IfSome (slice_get l.passes k) (λ (p : PassView). is_due l.initial.self.book.groups p.group l.now ≡ false);
}
