use Rattle.std.proofs.Common.{length, Some}
use Rattle.bh_props.specs.Shown.{settings_view}
use Rattle.bh_port.specs.Course.{Course}
use Rattle.bh_port.specs.Script.{ScriptAnswered, GroupsShow}
use Rattle.bh_port.proofs.run.Run.answer_lines.Given as goal

abbrev pub invariant-loop : goal.invariant-loop
invariant-loop l =
    (before : Course) → GroupsShow (settings_view l.settings) l.fn.self.groups before
    → ScriptAnswered (Some l.fn.self.out.items) (Some l.self.out.items) (settings_view l.settings) before l.self.groups l.fn.buffer.items l.buffer.items

abbrev pub decreases-loop : goal.decreases-loop
decreases-loop l = length l.buffer.items
