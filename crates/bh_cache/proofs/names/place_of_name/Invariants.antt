use Rattle.std.proofs.Common.{◌≡◌, drop}
use Rattle.bh_cache.specs.Names.{mixed}
use Rattle.bh_cache.proofs.names.place_of_name.Given as goal

abbrev pub invariant-loop-byte : goal.invariant-loop-byte
invariant-loop-byte l = record {
  items : l.byte-items ≡ l.key;
  rest : mixed l.fn.context l.key ≡ mixed l.hash (drop l.byte-index l.key);
}
