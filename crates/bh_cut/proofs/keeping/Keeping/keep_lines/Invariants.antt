use Rattle.std.proofs.Common.{length, Some}
use Rattle.bh_cut.specs.Named.{texts}
use Rattle.bh_cut.specs.Outcome.{IsCutUpTo}
use Rattle.bh_cut.proofs.keeping.Keeping.keep_lines.Given as goal

abbrev pub invariant-loop : goal.invariant-loop
invariant-loop l = IsCutUpTo (Some l.fn.self.out.items) (Some l.self.out.items) (texts l.names) l.fn.buffer.items l.buffer.items

abbrev pub decreases-loop : goal.decreases-loop
decreases-loop l = length l.buffer.items
