use Rattle.std.proofs.Common.{◌≡◌, take}
use Rattle.std.specs.List.{list_any}
use Rattle.bh_sharing.specs.Waiters.{has_number, is_ready_to_run, is_told}
use Rattle.bh_sharing.proofs.Waking.{AreFirst}
use Rattle.bh_sharing.proofs.waiters.Waiters.ready_in.Given as goal

abbrev pub invariant-loop-number : goal.invariant-loop-number
invariant-loop-number l = record {
  told : AreFirst (is_told l.core l.group l.self) l.number (has_number l.ready);
  run : l.has_run ≡ list_any (is_ready_to_run l.core l.group) (take l.number l.self);
}
