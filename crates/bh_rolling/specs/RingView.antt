-- What callers see of a ring: the window, the latest moment at which an event was recorded, and the table then.
use Rattle.std.specs.Prelude.{◌≡◌, ℕ, ◌≤◌, List, [], ◌∷◌}
use Rattle.std.specs.List.{AllByRecursion}
use Rattle.bh_base.specs.declared.event.Counts.{Counts}
use Rattle.bh_base.specs.declared.event.Event.{Event}
use Rattle.bh_base.specs.declared.event.EventKind.{EventKind}
use Rattle.bh_base.specs.declared.event.Window.{Window}
use Rattle.bh_base.specs.History.{table}
use Rattle.bh_base.specs.Tables.{later_table, no_rows, sum_in}

pub record RingView : Type 0 where
  pub window : Window
  -- the latest moment recorded, 0 where there is none
  pub latest : ℕ
  -- the counts of the window's buckets at that moment, the newest bucket first
  pub table : List Counts

-- no event
abbrev pub empty_ring : Window → RingView
empty_ring w = record { window = w; latest = 0; table = no_rows w }

-- with one more event, of the kind, at the moment
abbrev pub ring_recorded : ℕ → EventKind → RingView → RingView
ring_recorded moment kind r = record { window = r.window; latest = moment; table = later_table r.window r.latest r.table moment (kind ∷ []) }

-- how many events of the kind lie in the window at the moment
abbrev pub ring_count : RingView → ℕ → EventKind → ℕ
ring_count r moment kind = sum_in r.window r.latest r.table moment kind

-- the table of the window at the moment
abbrev pub ring_table : RingView → ℕ → List Counts
ring_table r moment = later_table r.window r.latest r.table moment []

-- the table is that of the events, none of which is later than the latest moment recorded
pub record IsTableOf (r : RingView) (events : List Event) : Type 0 where
  pub past : AllByRecursion (λ event. event.moment ≤ r.latest) events
  pub table : r.table ≡ table r.window events r.latest
