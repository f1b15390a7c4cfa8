use Rattle.std.proofs.Common.{List}
use Rattle.bh_lender.specs.Steps.{Made}
use Rattle.bh_lender.specs.Settling.{Settles}
use Rattle.bh_lender.proofs.Counting.{holders}
use Rattle.bh_lender.proofs.settling.settle.Given as goal

abbrev pub invariant-loop-place : goal.invariant-loop-place
invariant-loop-place l = (chunks : List (List Made)) × Settles l.now l.initial.core l.initial.left.items chunks l.core l.left.items

abbrev pub decreases-loop-place : goal.decreases-loop-place
decreases-loop-place l = holders l.left.items
