use Rattle.std.proofs.Common.{◌≡◌, ℕ}
use Rattle.std.specs.HashMap.{get}
use Rattle.std.specs.Option.{option_or}
use Rattle.bh_look.specs.Rows.{same_numbers}
use Rattle.bh_look.proofs.Naming.{name_among}
use Rattle.bh_look.proofs.rows.further_names.Given as goal

abbrev pub invariant-loop-name : goal.invariant-loop-name
invariant-loop-name l = (like number : ℕ) → option_or (get same_numbers l.names (like, number)) (name_among like number l.name-iterator) ≡ name_among like number l.settings.commands.entries
