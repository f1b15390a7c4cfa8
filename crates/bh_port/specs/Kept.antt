-- What holds of the groups of a run between lines.
use Rattle.std.specs.Prelude.{◌≡◌, ℕ, List, length, String, None, Some, is_some}
use Rattle.std.specs.HashMap.{HashMap, get_by_text}
use Rattle.bh_base.specs.Runs.{View}
use Rattle.bh_core.specs.CoreView.{CoreView, view_at}
use Rattle.bh_port.specs.declared.groups.Entry.{Entry}
use Rattle.bh_port.specs.Entries.{entry_at, last_named}

-- the map has the number that was given last under each name
abbrev pub AreNumbered : {Y S : Type 0} → List Entry → HashMap (String Y) ℕ S → Type 0
AreNumbered entries numbers = (name : List ℕ) → get_by_text numbers name ≡ last_named name entries 0 None

-- the groups by name are those of the core
pub record AreOf (core : CoreView) (entries : List Entry) : Type 0 where
  pub count : length core.lives ≡ length entries
  pub there : (number : ℕ) → is_some (view_at core number) ≡ is_some (entry_at entries number)
