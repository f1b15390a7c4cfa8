use Rattle.std.proofs.Common.{◌≡◌, ◌++◌, take}
use Rattle.std.specs.List.{flat_map}
use Rattle.bh_lint.specs.Objects.{object_line}
use Rattle.bh_lint.proofs.objects.put_each_object.Given as goal

abbrev pub invariant-loop-one : goal.invariant-loop-one
invariant-loop-one l = l.out.items ≡ l.initial.out.items ++ flat_map (object_line l.file) (take l.one-index l.told)
