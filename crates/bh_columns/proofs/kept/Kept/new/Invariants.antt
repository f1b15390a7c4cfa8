use Rattle.std.proofs.Common.{◌≡◌, ◌++◌, [], List, length}
use Rattle.bh_base.specs.Commands.{each_from}
use Rattle.bh_props.specs.Shown.{settings_view}
use Rattle.bh_port.specs.declared.groups.Entry.{Entry}
use Rattle.bh_port.specs.Course.{listed_entries}
use Rattle.bh_port.specs.Entries.{new_entry}
use Rattle.bh_columns.specs.Named.{no_fills}
use Rattle.bh_columns.specs.Recorded.{IsKept}
use Rattle.bh_columns.proofs.kept.Kept.new.Given as goal

abbrev pub invariant-loop-place : goal.invariant-loop-place
invariant-loop-place l = (done : List Entry) × IsKept (settings_view l.settings) l.fn.selection l.kept (record { entries = done; steps = [] }) no_fills
    × (l.place-iterator.count ≡ length done)
    × (done ++ each_from l.place-iterator.count (λ place name. new_entry name place) l.place-iterator.iter ≡ listed_entries (settings_view l.settings))
