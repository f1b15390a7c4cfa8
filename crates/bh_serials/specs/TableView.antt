-- What callers see of a table.
use Rattle.std.specs.Prelude.{ℕ, eqb, not, List, [], ◌∷◌, ◌++◌, filter, Option, Some, None, if◌then◌else◌}

-- the serials of the tickets with their slots, by rising serial, the serial that was added last, or 0, and how many tickets
-- there may be at a time
pub record TableView : Type 0 where
  pub entries : List (ℕ × ℕ)
  pub latest : ℕ
  pub room : ℕ

-- no ticket, nor was there one
abbrev pub no_entries : ℕ → TableView
no_entries room = record { entries = []; latest = 0; room = room }

-- the slot beside a serial
abbrev pub slot_of : List (ℕ × ℕ) → ℕ → Option ℕ
slot_of [] serial = None
slot_of (e ∷ es) serial = if eqb e.0 serial then Some e.1 else slot_of es serial

-- with a ticket more, which is the latest
abbrev pub with_entry : ℕ → ℕ → TableView → TableView
with_entry serial slot t = record t { entries = t.entries ++ (serial, slot) ∷ []; latest = serial }

-- without the ticket of the serial
abbrev pub without_serial : ℕ → TableView → TableView
without_serial serial t = record t { entries = filter (λ e. not (eqb e.0 serial)) t.entries }
