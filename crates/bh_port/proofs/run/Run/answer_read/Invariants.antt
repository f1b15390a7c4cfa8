use Rattle.std.proofs.Common.{◌≡◌, ℕ, List, drop}
use Rattle.bh_props.specs.Shown.{settings_view}
use Rattle.bh_port.specs.Ahead.{AreRead}
use Rattle.bh_port.specs.Course.{Course}
use Rattle.bh_port.specs.Script.{GroupsShow}
use Rattle.bh_port.proofs.ReadLines.{IsAnsweredTo}
use Rattle.bh_port.proofs.run.Run.answer_read.Given as goal

-- the lines up to the place were answered, and no name has changed
abbrev pub invariant-loop-line : goal.invariant-loop-line
invariant-loop-line l =
    (l.self.groups.entries ≡ l.fn.self.groups.entries)
    × ((before : Course) (bytes left : List ℕ) → GroupsShow (settings_view l.settings) l.fn.self.groups before → AreRead (settings_view l.settings) l.fn.self.groups.entries l.lines bytes left
    → IsAnsweredTo l.fn.self.out.items l.self.out.items (settings_view l.settings) before l.self.groups l.fn.self.groups.entries (drop l.line-index l.lines) bytes left)
