use Rattle.std.proofs.Common.{◌≡◌, map}
use Rattle.std.specs.Iterator.Adapters.{zip_first, zip_second}
use Rattle.std.specs.Slice.Iter.{iter_rest}
use Rattle.bh_props.specs.Shown.{settings_view}
use Rattle.bh_look.specs.Rows.{ArePlaces, row_said, rows_of, tallies_in, with_groups}
use Rattle.bh_look.proofs.rows.rows.Given as goal

abbrev pub invariant-loop-entry : goal.invariant-loop-entry
invariant-loop-entry l = record {
  places : ArePlaces (map row_said l.rows.items) l.places;
  rows : with_groups (settings_view l.settings) (iter_rest (zip_first l.entry-iterator)) (tallies_in (iter_rest (zip_second l.entry-iterator))) (map row_said l.rows.items) ≡ rows_of (settings_view l.settings) l.watch.groups.entries (tallies_in l.watch.lanes.items);
}
