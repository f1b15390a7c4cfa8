use Rattle.std.proofs.Common.{◌≡◌, map, drop}
use Rattle.bh_props.specs.SettingsView.{SettingsView}
use Rattle.bh_look.specs.Rows.{AreNamesIn, ArePlaces, row_said, with_tallies}
use Rattle.bh_look.proofs.rows.add_group.Given as goal

abbrev pub invariant-loop-number : goal.invariant-loop-number
invariant-loop-number l = record {
  places : ArePlaces (map row_said l.rows.items) l.places;
  rows : (service : SettingsView) → AreNamesIn service l.names → with_tallies service l.entry l.number (map (λ lane. lane.tally) (drop l.number l.lanes)) (map row_said l.rows.items) ≡ with_tallies service l.entry 0 (map (λ lane. lane.tally) l.lanes) (map row_said l.fn.rows.items);
}
