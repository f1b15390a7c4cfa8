use Rattle.std.proofs.Common.{◌≡◌, ◌++◌, take, string_bytes}
use Rattle.std.specs.List.{flat_map}
use Rattle.bh_lint.specs.Lines.{line_in}
use Rattle.bh_lint.proofs.lines.put_each.Given as goal

abbrev pub invariant-loop-one : goal.invariant-loop-one
invariant-loop-one l = string_bytes l.out ≡ string_bytes l.initial.out ++ flat_map (line_in l.coloured l.file) (take l.one-index l.told)
