use Rattle.std.proofs.Common.{◌≡◌, drop}
use Rattle.bh_cut.specs.Named.{is_among, texts}
use Rattle.bh_cut.proofs.named.is_among.Given as goal

abbrev pub invariant-loop-other : goal.invariant-loop-other
invariant-loop-other l = is_among (texts (drop l.other-index l.names)) l.name ≡ is_among (texts l.names) l.name
