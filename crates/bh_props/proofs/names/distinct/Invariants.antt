use Rattle.std.proofs.Common.{◌≡◌, ◌+◌, [], take, drop, map}
use Rattle.bh_props.specs.Names.{first_twice}
use Rattle.bh_props.proofs.names.distinct.Given as goal

abbrev pub invariant-loop-i : goal.invariant-loop-i
invariant-loop-i l = record {
  kept : l.kept.keys ≡ map (λ s. s.now) (take l.i l.names);
  same : first_twice (map (λ s. s.now) (take l.i l.names)) (l.i + 1) (map (λ s. s.now) (drop l.i l.names)) ≡ first_twice [] 1 (map (λ s. s.now) l.names);
}
