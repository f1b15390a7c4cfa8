use Rattle.std.proofs.Common.{◌≡◌, []}
use Rattle.std.specs.List.{AllByRecursion}
use Rattle.bh_journal.specs.Passes.{PassView}
use Rattle.bh_workers.proofs.service_threads.timer_passes.Given as goal

abbrev pub invariant-loop-number : goal.invariant-loop-number
invariant-loop-number g l = AllByRecursion (λ (p : PassView). p.receipts ≡ []) l.passes.items
