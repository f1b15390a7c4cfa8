use Rattle.std.proofs.Common.{◌≡◌, ◌+◌, drop, map}
use Rattle.bh_props.specs.Names.{first_bad}
use Rattle.bh_props.proofs.names.first_bad.Given as goal

abbrev pub invariant-loop-i : goal.invariant-loop-i
invariant-loop-i l = first_bad (l.i + 1) (map (λ s. s.now) (drop l.i l.names)) ≡ first_bad 1 (map (λ s. s.now) l.names)
