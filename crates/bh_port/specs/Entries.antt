-- The groups of a run by name and number.
use Rattle.std.specs.Prelude.{ℕ, ◌+◌, true, false, List, [], ◌∷◌, Option, Some, None, option_and_then, is_some, slice_get, slice_set, if◌then◌else◌}
use Rattle.std.specs.Option.{option_map_or}
use Rattle.std.specs.Str.{bytes_eq}
use Rattle.bh_port.specs.declared.groups.Entry.{Entry}

-- a group of the name that is there, like the group of the settings at the place
abbrev pub new_entry : List ℕ → ℕ → Entry
new_entry name place = record { name = name; like = place; live = true }

-- the group, unless it was retired
abbrev pub unless_retired : Entry → Option Entry
unless_retired e = if e.live then Some e else None

-- the group of the number, where it is there
abbrev pub entry_at : List Entry → ℕ → Option Entry
entry_at entries number = option_and_then unless_retired (slice_get entries number)

-- the number that was given last under the name, among groups of which the first has the number `from`; where none has the
-- name, what was found before
abbrev pub last_named : List ℕ → List Entry → ℕ → Option ℕ → Option ℕ
last_named name [] from found = found
last_named name (e ∷ es) from found = last_named name es (from + 1) (if bytes_eq e.name name then Some from else found)

-- the number, where its group is there
abbrev pub if_there : List Entry → ℕ → Option ℕ
if_there entries number = if is_some (entry_at entries number) then Some number else None

-- the number of the group of the name, where it is there: of several that had the name, it is that of the last
abbrev pub number_of : List Entry → List ℕ → Option ℕ
number_of entries name = option_and_then (if_there entries) (last_named name entries 0 None)

-- the group of the number is there no longer
abbrev pub without : ℕ → List Entry → List Entry
without number entries = option_map_or (λ e. slice_set entries number (record e { live = false })) (slice_get entries number) entries
