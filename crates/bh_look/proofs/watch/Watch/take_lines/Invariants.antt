use Rattle.std.proofs.Common.{length}
use Rattle.bh_props.specs.Shown.{settings_view}
use Rattle.bh_port.specs.Course.{Course}
use Rattle.bh_look.specs.Watched.{IsWatched, TakenUpTo}
use Rattle.bh_look.proofs.watch.Watch.take_lines.Given as goal

abbrev pub invariant-loop : goal.invariant-loop
invariant-loop l =
    (before : Course) → IsWatched (settings_view l.settings) l.fn.self.groups l.fn.self.lanes.items before
    → TakenUpTo (settings_view l.settings) before l.self.groups l.fn.self.lanes.items l.self.lanes.items l.fn.buffer.items l.buffer.items

abbrev pub decreases-loop : goal.decreases-loop
decreases-loop l = length l.buffer.items
