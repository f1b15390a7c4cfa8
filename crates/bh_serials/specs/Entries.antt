-- The entries that a table keeps.
use Rattle.std.specs.Prelude.{◌≡◌, ℕ, ◌<◌, ◌≤◌, List, [], ◌∷◌, length, Option, Some, None, slice_index_or}
use Rattle.bh_serials.specs.declared.entries.Entry.{Entry}

-- what is read past the last entry
abbrev pub no_entry : Entry
no_entry = record { serial = 0; slot = None }

-- the entry at a place
abbrev pub entry_at : List Entry → ℕ → Entry
entry_at es k = slice_index_or es k no_entry

-- the serial is at the place
pub record IsAt (place serial : ℕ) (es : List Entry) : Type 0 where
  pub within : place < length es
  pub here : (entry_at es place).serial ≡ serial

-- the serials rise from above the low one up to the high one
abbrev pub IsRising : ℕ → ℕ → List Entry → Type 0
IsRising low high [] = low ≤ high
IsRising low high (e ∷ es) = (low < e.serial) × IsRising e.serial high es

-- a serial that has a slot, in front of others
abbrev pub with_alive : ℕ → Option ℕ → List (ℕ × ℕ) → List (ℕ × ℕ)
with_alive serial None ps = ps
with_alive serial (Some slot) ps = (serial, slot) ∷ ps

-- the serials that have a slot
abbrev pub alive_in : List Entry → List (ℕ × ℕ)
alive_in [] = []
alive_in (e ∷ es) = with_alive e.serial e.slot (alive_in es)
