-- What the fields of a table show, and what holds of them.
use Rattle.std.specs.Prelude.{◌≤◌, vec_capacity}
use Rattle.bh_serials.specs.declared.table.SerialTable.TheInside.{Inside}
use Rattle.bh_serials.specs.TableView.{TableView}
use Rattle.bh_serials.specs.Entries.{IsRising, alive_in}

abbrev pub table_of : Inside → TableView
table_of t = record { entries = alive_in t.entries.items; latest = t.latest; room = t.room }

-- the serials rise up to the latest, and the memory is enough
pub record IsTable (t : Inside) : Type 0 where
  pub rising : IsRising 0 t.latest t.entries.items
  pub memory : t.room ≤ vec_capacity t.entries
