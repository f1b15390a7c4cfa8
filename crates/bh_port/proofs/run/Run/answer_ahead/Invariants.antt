use Rattle.std.proofs.Common.{◌≤◌, ◌-◌, length, drop, Some}
use Rattle.bh_props.specs.Shown.{settings_view}
use Rattle.bh_port.specs.Course.{Course}
use Rattle.bh_port.specs.Script.{ScriptAnswered, GroupsShow}
use Rattle.bh_port.proofs.run.Run.answer_ahead.Given as goal

-- the lines up to the place were answered
abbrev pub invariant-loop-ahead : goal.invariant-loop-ahead
invariant-loop-ahead l =
    (l.taken ≤ length l.bytes)
    × ((before : Course) → GroupsShow (settings_view l.settings) l.fn.self.groups before
    → ScriptAnswered (Some l.fn.self.out.items) (Some l.self.out.items) (settings_view l.settings) before l.self.groups l.bytes (drop l.taken l.bytes))

abbrev pub decreases-loop-ahead : goal.decreases-loop-ahead
decreases-loop-ahead l = length l.bytes - l.taken
