-- What a picture is drawn from, by what is kept.
use Rattle.std.specs.Prelude.{◌≡◌, ◌+◌, ◌-◌, ◌*◌, ◌/◌, ◌^◌, ◌<◌, ◌≤◌, ◌⊎◌, ℕ, true, false, List, [], length, Option, Some, None, slice_get, slice_index_or}
use Rattle.bh_look.specs.Tallies.{sum_up_to}
use Rattle.bh_columns.specs.Columns.{bare, no_column, product_up_to}
use Rattle.bh_columns.specs.Layouts.{Layout}
use Rattle.bh_columns.specs.Named.{NamedFills}
use Rattle.bh_columns.specs.Panels.{any_pooled}
use Rattle.bh_columns.specs.Tracks.{column_at, joined_run}
use Rattle.bh_columns.specs.declared.chart.Chart.{Chart}
use Rattle.bh_columns.specs.declared.chart.Lane.{Lane}
use Rattle.bh_columns.specs.declared.chart.Panel.{Panel}
use Rattle.bh_columns.specs.declared.column.Column.{Column}
use Rattle.bh_columns.specs.declared.column.Usage.{Usage}
use Rattle.bh_columns.specs.declared.kept.Kept.{Kept}
use Rattle.bh_columns.specs.declared.lane.KeptLane.{KeptLane}
use Rattle.bh_columns.specs.declared.panel.KeptPanel.{KeptPanel}
use Rattle.bh_columns.specs.declared.track.Track.{Track}

-- 1, 2 or 5
abbrev pub IsStep : ℕ → Type 0
IsStep times = (times ≡ 1) ⊎ ((times ≡ 2) ⊎ (times ≡ 5))

-- 1, 2 or 5 times a power of ten
pub record IsRound (many : ℕ) : Type 0 where
  pub times : ℕ
  pub power : ℕ
  pub step : IsStep times
  pub is : many ≡ times * 10 ^ power

-- how many columns there are from that of the least index to that of the greatest, where so many of those that are kept are one
abbrev pub count_in : ℕ × ℕ → ℕ → ℕ
count_in extent many = sum_up_to (extent.1 / many) 1 - extent.0 / many

-- the least number that is round and gives at most so many columns
pub record IsNarrowest (extent : ℕ × ℕ) (columns many : ℕ) : Type 0 where
  pub round : IsRound many
  pub fits : count_in extent many ≤ columns
  pub least : (other : ℕ) → IsRound other → other < many → columns < count_in extent other

-- the least of 1, 2 and 5 times the power that gives at most so many columns
pub record IsNarrowestOf (extent : ℕ × ℕ) (columns power many : ℕ) : Type 0 where
  pub times : ℕ
  pub step : IsStep times
  pub is : many ≡ times * power
  pub fits : count_in extent many ≤ columns
  pub least : (other : ℕ) → IsStep other → other < times → columns < count_in extent (other * power)

-- 1, 2 and 5 times the power give more than so many columns
abbrev pub NoneFits : ℕ × ℕ → ℕ → ℕ → Type 0
NoneFits extent columns power = (times : ℕ) → IsStep times → columns < count_in extent (times * power)

-- the columns of a chart, of which each is so many of those that are kept, go from the first index on and before the end: from
-- the least index that was ever kept to the greatest. There is none where nothing was
abbrev pub IsFitted : Option (ℕ × ℕ) → ℕ → ℕ → ℕ → ℕ → Type 0
IsFitted None columns many first end = (many ≡ 1) × (first ≡ 0) × (end ≡ 0)
IsFitted (Some extent) columns many first end = IsNarrowest extent columns many × (first ≡ extent.0 / many) × (end ≡ sum_up_to (extent.1 / many) 1)

-- the column of the index, where so many of those that are kept are one
abbrev pub drawn_at : Track → ℕ → ℕ → Column
drawn_at track many index = joined_run (column_at track) (index * many) many

-- the columns are those of the indexes from the first on and before the end
pub record AreDrawn (many first end : ℕ) (track : Track) (columns : List Column) : Type 0 where
  pub count : length columns ≡ end - first
  pub each : (k : ℕ) (column : Column) → slice_get columns k ≡ Some column → column ≡ drawn_at track many (first + k)

-- the usages are those of these columns
pub record AreUsed (many first end : ℕ) (track : Track) (usages : List Usage) : Type 0 where
  pub count : length usages ≡ end - first
  pub each : (k : ℕ) (usage : Usage) → slice_get usages k ≡ Some usage → usage ≡ (drawn_at track many (first + k)).usage

-- all columns as one
abbrev pub total_of : List Column → Column
total_of columns = joined_run (λ k. slice_index_or columns k no_column) 0 (length columns)

-- the one at each place of a list is drawn of the one at its place of another
pub record EachDrawn {X Y : Type 0} (kept : List X) (drawn : List Y) (R : X → Y → Type 0) : Type 0 where
  pub count : length drawn ≡ length kept
  pub each : (k : ℕ) (x : X) (y : Y) → slice_get kept k ≡ Some x → slice_get drawn k ≡ Some y → R x y

-- the lane has the columns that are kept of its command, and all of them as one
pub record IsLaneOf (many first end : ℕ) (kept : KeptLane) (lane : Lane) : Type 0 where
  pub pooled : lane.pooled ≡ kept.pooled
  pub columns : AreDrawn many first end kept.track lane.columns.items
  pub total : lane.total ≡ total_of lane.columns.items

-- the panel has a lane for each that is kept, in their order, and what the commands in the pool use together, where there are any
pub record IsDrawnOf (many first end : ℕ) (kept : KeptPanel) (panel : Panel) : Type 0 where
  pub group : panel.group ≡ kept.group
  pub like : panel.like ≡ kept.like
  pub lives : panel.lives.items ≡ kept.lives.items
  pub lanes : EachDrawn kept.lanes.items panel.lanes.items (λ one lane. IsLaneOf many first end one lane)
  pub pool : any_pooled kept.lanes.items ≡ true → AreUsed many first end kept.pool panel.pool.items
  pub no_pool : any_pooled kept.lanes.items ≡ false → panel.pool.items ≡ []

-- the chart has a panel for each that is kept, in their order, in the narrowest columns of which there are at most so many
pub record IsChartOf (kept : Kept) (columns : ℕ) (chart : Chart) : Type 0 where
  pub many : ℕ
  pub first : ℕ
  pub end : ℕ
  pub fitted : IsFitted kept.grid.extent columns many first end
  pub width : chart.width ≡ product_up_to kept.grid.width many
  pub begin : chart.begin ≡ product_up_to first chart.width
  pub count : chart.count ≡ end - first
  pub panels : EachDrawn kept.panels.items chart.panels.items (λ one panel. IsDrawnOf many first end one panel)
  pub left_out : chart.left_out ≡ kept.left_out

-- the chart has the panels of the layout, in its order, and as many groups are left out
pub record IsLaidOut (l : Layout) (chart : Chart) : Type 0 where
  pub panels : EachDrawn l.panels chart.panels.items (λ one panel. (panel.group ≡ one.name) × (panel.like ≡ one.like))
  pub left_out : chart.left_out ≡ l.left_out

-- the moments of the chart's columns, and of one more, are all counted
abbrev pub IsCounted : Chart → Type 0
IsCounted chart = chart.begin + chart.count * chart.width + chart.width < 18_446_744_073_709_551_615

-- each column of each command has what is kept of its group's name and properties in the moments that lie in it, all but the
-- usage; and in a column before the first or behind the last there would be nothing
pub record HasHappened (fills : NamedFills) (chart : Chart) : Type 0 where
  pub shown : IsCounted chart → (place command p : ℕ) (panel : Panel) (lane : Lane) (column : Column)
      → slice_get chart.panels.items place ≡ Some panel → slice_get panel.lanes.items command ≡ Some lane → slice_get lane.columns.items p ≡ Some column
      → bare column ≡ fills panel.group panel.like command (chart.begin + p * chart.width) (chart.begin + p * chart.width + chart.width)
  pub none : IsCounted chart → (place command i : ℕ) (panel : Panel) → slice_get chart.panels.items place ≡ Some panel → i * chart.width < 18_446_744_073_709_551_615
      → (i * chart.width + chart.width ≤ chart.begin) ⊎ (chart.begin + chart.count * chart.width ≤ i * chart.width) → fills panel.group panel.like command (i * chart.width) (i * chart.width + chart.width) ≡ no_column
