use Rattle.std.proofs.Common.{◌≡◌, ◌++◌, List, ℕ, IfSome, length}
use Rattle.std.specs.List.{flat_map}
use Rattle.std.specs.Fmt.{HasWritten, IsPlainFormatter}
use Rattle.bh_base.specs.Commands.{each_from}
use Rattle.bh_base.specs.Props.{GroupProps}
use Rattle.bh_props.specs.ByGroup.{AreByGroup}
use Rattle.bh_props.specs.Printed.{group_lines}
use Rattle.bh_props.specs.Shown.{settings_view}
use Rattle.bh_props.proofs.print.SettingsDisplay.fmt.Given as goal

abbrev pub invariant-loop-name : goal.invariant-loop-name
invariant-loop-name g l =
    (done : List (List ℕ × GroupProps)) × (l.self.groups.entries ≡ done ++ l.name-iterator) × (l.place ≡ length done)
    × IfSome l.lists (λ lists. AreByGroup l.self.commands.entries lists.items)
    × (IsPlainFormatter l.initial.f
    → HasWritten g.W.Write.write_str_gives l.initial.f (flat_map (λ lines. lines) (each_from 0 (group_lines (settings_view l.self)) done)) l.f)
