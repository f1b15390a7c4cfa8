-- Columns side by side, by their indexes.
use Rattle.std.specs.Prelude.{◌≡◌, ◌≢◌, ◌+◌, ◌*◌, ◌-◌, ◌/◌, ◌^◌, ◌<◌, ◌≤◌, ℕ, zero, suc, Bool, ◌&&◌, nat_lt, nat_le, Option, Some, None, slice_index_or, length, if◌then◌else◌}
use Rattle.bh_look.specs.declared.tally.Tally.{Tally}
use Rattle.bh_columns.specs.Columns.{bare, joined, no_column, with_stay, with_told_at}
use Rattle.bh_columns.specs.Spans.{Fill, stay_within}
use Rattle.bh_columns.specs.declared.column.Column.{Column}
use Rattle.bh_columns.specs.declared.stay.Stay.{Stay}
use Rattle.bh_columns.specs.declared.track.Reach.{Reach}
use Rattle.bh_columns.specs.declared.track.Track.{Track}

-- the place of the column of the index, where one is kept
abbrev pub place_at : Track → ℕ → Option ℕ
place_at t index = if nat_le t.first index && nat_lt (index - t.first) (length t.columns.items) then Some (index - t.first) else None

-- the column of the index: one in which nothing was where none is kept
abbrev pub column_at : Track → ℕ → Column
column_at t index = if nat_le t.first index && nat_lt index (2 ^ 64) then slice_index_or t.columns.items (index - t.first) no_column else no_column

-- two tracks have the same columns
abbrev pub SameColumns : Track → Track → Type 0
SameColumns s t = (index : ℕ) → column_at t index ≡ column_at s index

-- there is a place for the column of each index from one on and before another
pub record HasRoom (t : Track) (from to : ℕ) : Type 0 where
  pub begin : t.first ≤ from
  pub end : to ≤ t.first + length t.columns.items

-- so many columns from the index on as one
abbrev pub joined_run : (ℕ → Column) → ℕ → ℕ → Column
joined_run at from zero = no_column
joined_run at from (suc n) = joined (joined_run at from n) (at (from + n))

-- the moments from one on and before another lie in columns so wide from one index on and before another
pub record IsReach (r : Reach) (since until : ℕ) : Type 0 where
  pub some_width : 0 < r.width
  pub some_time : since < until
  pub fits : until < 2 ^ 64
  pub first : r.first ≡ since / r.width
  pub end : r.end ≡ (until - 1) / r.width + 1

-- a column of the index with the time of a stay that lies in it
abbrev pub with_stay_in : ℕ → ℕ → Stay → Column → Column
with_stay_in width index s c = with_stay (stay_within (index * width) (index * width + width) s) c

-- the columns, which are so wide, are those of the moments that lie in them, all but the usage
abbrev pub IsFilled : Track → ℕ → Fill → Type 0
IsFilled t width f = (index : ℕ) → bare (column_at t index) ≡ f (index * width) (index * width + width)

-- the index lies from the least to the greatest of an extent, where there is one
abbrev pub IsIn : Option (ℕ × ℕ) → ℕ → Type 0
IsIn None index = ⊥
IsIn (Some extent) index = (extent.0 ≤ index) × (index ≤ extent.1)

-- the extent where ten columns are one
abbrev pub tenth : Option (ℕ × ℕ) → Option (ℕ × ℕ)
tenth None = None
tenth (Some extent) = Some (extent.0 / 10, extent.1 / 10)

-- nothing is kept of the moments of columns, which are so wide, whose indexes do not lie in the extent
abbrev pub IsWithin : Option (ℕ × ℕ) → ℕ → Fill → Type 0
IsWithin extent width f = (index : ℕ) → (IsIn extent index → ⊥) → f (index * width) (index * width + width) ≡ no_column

-- the column of the index has the stay, and each other is as it was
pub record IsSpentAt (index : ℕ) (s : Stay) (old new : Track) : Type 0 where
  pub here : column_at new index ≡ with_stay s (column_at old index)
  pub other : (i : ℕ) → i ≢ index → column_at new i ≡ column_at old i

-- the column of the index has what a step told, and each other is as it was
pub record IsToldAt (index moment : ℕ) (told : Tally) (closes : Bool) (old new : Track) : Type 0 where
  pub here : column_at new index ≡ with_told_at moment told closes (column_at old index)
  pub other : (i : ℕ) → i ≢ index → column_at new i ≡ column_at old i
