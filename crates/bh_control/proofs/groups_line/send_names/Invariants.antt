use Rattle.std.proofs.Common.{◌≡◌, ◌++◌, map, take}
use Rattle.json.specs.Token.{Token}
use Rattle.bh_control.proofs.groups_line.send_names.Given as goal

abbrev pub invariant-loop-name : goal.invariant-loop-name
invariant-loop-name l =
    (l.writer.before ≡ l.fn.writer.before)
    × (l.writer.tokens ≡ l.fn.writer.tokens ++ map (λ name. Token.string name) (take l.name-index l.names))
