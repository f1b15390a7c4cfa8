-- The history of a command's events: two rings of counts and the numbers of all events, and what they show at a moment.
use Rattle.std.specs.Prelude.{◌≡◌, ◌<◌, ◌≤◌, ℕ, [], ◌∷◌, if◌then◌else◌}
use Rattle.bh_base.specs.declared.event.EventKind.{EventKind}
use Rattle.bh_base.specs.declared.event.Rolling.{Rolling}
use Rattle.bh_base.specs.declared.event.Window.{Window}
use Rattle.bh_base.specs.History.{PastView, is_of_health, rolling_by}
use Rattle.bh_base.specs.Tables.{no_counts, totals_with}
use Rattle.bh_core.specs.declared.history.History.{History}
use Rattle.bh_rolling.specs.RingView.{empty_ring, ring_count, ring_recorded, ring_table}

-- no event yet
abbrev pub history_opened : Window → History
history_opened w = record { reported = empty_ring w; health = empty_ring w; totals = no_counts }

-- with one more event of the kind, at the moment
abbrev pub history_recorded : ℕ → EventKind → History → History
history_recorded moment kind h = record {
  reported = ring_recorded moment kind h.reported;
  health = (if is_of_health kind then ring_recorded moment kind h.health else h.health);
  totals = totals_with (kind ∷ []) h.totals;
}

-- no event so far counts for health
abbrev pub history_restarted : History → History
history_restarted h = record h { health = empty_ring h.health.window }

-- the rolling counts and health at the moment
abbrev pub history_rolling : ℕ → History → Rolling
history_rolling moment h = rolling_by (ring_count h.reported moment) (ring_count h.health moment) h.totals

-- what is seen of it at the moment
abbrev pub history_seen : ℕ → History → PastView
history_seen moment h = record { window = h.reported.window; table = ring_table h.reported moment; health = ring_table h.health moment; totals = h.totals }

-- both rings are of one window, which has buckets, and no event is later than the moment
pub record IsUpTo (moment : ℕ) (h : History) : Type 0 where
  pub some : 0 < h.reported.window.buckets
  pub window : h.health.window ≡ h.reported.window
  pub reported : h.reported.latest ≤ moment
  pub health : h.health.latest ≤ moment
