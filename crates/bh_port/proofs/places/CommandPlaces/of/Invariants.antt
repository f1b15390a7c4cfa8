use Rattle.std.proofs.Common.{◌≤◌, length}
use Rattle.bh_port.proofs.FoundFrom.{AreFoundFrom}
use Rattle.bh_port.proofs.places.CommandPlaces.of.Given as goal

abbrev pub invariant-commands : goal.invariant-commands
invariant-commands l = record {
  within : l.at ≤ length l.settings.commands.entries;
  found : AreFoundFrom l.at l.settings.commands.entries l.places.items;
}

abbrev pub decreases-commands : goal.decreases-commands
decreases-commands l = l.at
