use Rattle.std.proofs.Common.{take}
use Rattle.bh_tickets.specs.Sweeps.{IsReleasedFrom}
use Rattle.bh_tickets.specs.Whole.{KeepsTable}
use Rattle.bh_tickets.proofs.sweeps.release_few.Given as goal

abbrev pub invariant-loop-index : goal.invariant-loop-index
invariant-loop-index l = record {
  released : IsReleasedFrom (take l.index l.few.slots) l.initial.arena l.initial.group l.arena l.group;
  table : KeepsTable l.initial.arena l.initial.group l.initial.table l.arena l.group l.table;
}
