use Rattle.std.proofs.Common.{◌≡◌, drop, map}
use Rattle.toml.specs.View.{view}
use Rattle.bh_props.specs.Tree.{look_up}
use Rattle.bh_props.proofs.look_up.look_up_keys.Given as goal

abbrev pub invariant-loop-key : goal.invariant-loop-key
invariant-loop-key l = look_up (map (λ s. s.now) (drop l.key-index l.keys)) (view l.found) ≡ look_up (map (λ s. s.now) l.keys) (view l.value)
