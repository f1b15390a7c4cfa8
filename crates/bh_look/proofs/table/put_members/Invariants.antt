use Rattle.std.proofs.Common.{◌≡◌, ◌++◌, take}
use Rattle.std.specs.List.{flat_map}
use Rattle.bh_look.specs.Objects.{member_text}
use Rattle.bh_look.proofs.table.put_members.Given as goal

abbrev pub invariant-loop-name : goal.invariant-loop-name
invariant-loop-name l = l.out.items ≡ l.initial.out.items ++ flat_map (λ m. member_text (m.0.now, m.1)) (take l.name-index l.members)
