-- What contracts see of the groups of a run.
use Rattle.std.specs.Prelude.{List}
use Rattle.bh_core.specs.CoreView.{CoreView}
use Rattle.bh_port.specs.declared.groups.Entry.{Entry}

-- the groups by their numbers, with their names, and what each of them shows
pub record GroupsView : Type 0 where
  pub entries : List Entry
  pub core : CoreView
