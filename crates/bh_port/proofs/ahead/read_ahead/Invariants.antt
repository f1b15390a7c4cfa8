use Rattle.std.proofs.Common.{◌≡◌, ◌≤◌, ◌-◌, length, take, drop}
use Rattle.bh_props.specs.Shown.{settings_view}
use Rattle.bh_port.specs.Ahead.{AreRead, AreReady}
use Rattle.bh_port.proofs.ahead.read_ahead.Given as goal

-- the lines so far were read
abbrev pub invariant-loop-count : goal.invariant-loop-count
invariant-loop-count l = record {
  count : l.count ≤ length l.lines;
  within : l.taken ≤ length l.bytes;
  room : length l.lines ≡ length l.fn.lines;
  read : AreRead (settings_view l.settings) l.groups.entries (take l.count l.lines) l.bytes (drop l.taken l.bytes);
  ready : AreReady l.groups.entries (take l.count l.lines);
}

abbrev pub decreases-loop-count : goal.decreases-loop-count
decreases-loop-count l = length l.initial.lines - l.count
