use Rattle.std.proofs.Common.{◌≡◌, ◌++◌}
use Rattle.bh_base.specs.Commands.{each_from}
use Rattle.bh_props.specs.Shown.{settings_view}
use Rattle.bh_port.specs.Course.{listed_entries}
use Rattle.bh_port.specs.Entries.{new_entry}
use Rattle.bh_port.specs.Kept.{AreNumbered}
use Rattle.bh_port.specs.Latest.{AreLatest}
use Rattle.bh_port.proofs.groups.Groups.open.Given as goal

abbrev pub invariant-loop-place : goal.invariant-loop-place
invariant-loop-place l = record {
  numbered : AreNumbered l.entries.items l.numbers;
  latest : AreLatest l.entries.items l.latest;
  listed : l.entries.items ++ each_from l.place-iterator.count (λ place name. new_entry name place) l.place-iterator.iter ≡ listed_entries (settings_view l.settings);
}
