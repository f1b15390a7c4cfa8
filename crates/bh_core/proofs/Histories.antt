-- Rings and histories that move on, get an event, and are counted.
use Rattle.std.proofs.Common.{◌≡◌, ℕ, ◌<◌, ◌≤◌, Bool, true, false, [], ◌∷◌, filter, cond, refl, ◌∙◌, sym, ap, arith}
use Rattle.bh_base.specs.declared.event.EventKind.{EventKind}
use Rattle.bh_base.specs.declared.event.Rolling.{Rolling}
use Rattle.bh_base.specs.declared.event.Window.{Window}
use Rattle.bh_base.specs.History.{count_in, counts_by, health_by, is_of_health}
use Rattle.bh_base.specs.Tables.{no_counts, no_rows, sum_in, later_table, totals_with}
use Rattle.bh_base.proofs.LaterTables.{later_table-later, later_table-none, sum_in-later}
use Rattle.bh_base.proofs.Tables.{later_table-again, totals_with-none}
use Rattle.bh_base.proofs.Views.{rolling_by_same}
use Rattle.bh_rolling.specs.RingView.{RingView, ring_count, ring_recorded, ring_table}
use Rattle.bh_base.specs.Seen.{past_view_rolling, past_view_with}
use Rattle.bh_core.specs.declared.history.History.{History}
use Rattle.bh_core.specs.Counted.{counted_past}
use Rattle.bh_core.specs.History.{IsUpTo, history_opened, history_recorded, history_restarted, history_rolling, history_seen}
use Rattle.bh_core.specs.Stepping.{health_restarted}
use Rattle.bh_core.proofs.Counting.{counted-past, kind-le-total}
use Rattle.std.specs.Prelude.{if◌then◌else◌}

-- the table at a moment counts what the ring does
pub ring_now : (r : RingView) (moment : ℕ) (k : EventKind) → 0 < r.window.buckets → sum_in r.window moment (ring_table r moment) moment k ≡ ring_count r moment k
ring_now r moment k some =
    let now = sum_in-later r.window r.latest moment r.table [] k some in omega (arith, now)

-- a ring that is read later
pub ring_moved : (r : RingView) (latest moment : ℕ) → r.latest ≤ latest → latest ≤ moment → ring_table r moment ≡ later_table r.window latest (ring_table r latest) moment []
ring_moved r latest moment before later = sym (later_table-later r.window r.latest latest moment r.table [] before later)

-- what it counts then
pub ring_moved-count : (r : RingView) (latest moment : ℕ) (k : EventKind) → 0 < r.window.buckets → r.latest ≤ latest → latest ≤ moment → sum_in r.window moment (ring_table r moment) moment k ≡ sum_in r.window latest (ring_table r latest) moment k
ring_moved-count r latest moment k some before later =
    let now = sum_in-later r.window latest moment (ring_table r latest) [] k some in
    ap (λ rows. sum_in r.window moment rows moment k) (ring_moved r latest moment before later) ∙ omega (arith, now)

-- a ring that gets an event at the moment
pub ring_with : (r : RingView) (moment : ℕ) (k : EventKind) → ring_table (ring_recorded moment k r) moment ≡ later_table r.window moment (ring_table r moment) moment (k ∷ [])
ring_with r moment k =
    later_table-again r.window r.latest moment r.table (k ∷ []) [] ∙ sym (later_table-again r.window r.latest moment r.table [] (k ∷ []))

-- and one that gets none
pub ring_same : (r : RingView) (moment : ℕ) → ring_table r moment ≡ later_table r.window moment (ring_table r moment) moment []
ring_same r moment = sym (later_table-again r.window r.latest moment r.table [] [])

-- equal counts of each kind make equal health
health_same : (f g : EventKind → ℕ) → ((k : EventKind) → f k ≡ g k) → health_by f ≡ health_by g
health_same f g h = ap (λ (r : Rolling). r.health) (rolling_by_same f f f g (counts_by f) (counts_by f) (λ k. refl) h refl)

-- a new history is at the moment 0 seen as one that has no event
pub opened_seen : (w : Window) → history_seen 0 (history_opened w) ≡ record { window = w; table = no_rows w; health = no_rows w; totals = no_counts }
opened_seen w = λ i. record { window = w; table = later_table-none w 0 0 i; health = later_table-none w 0 0 i; totals = no_counts }

module _ (h : History) (latest : ℕ) (ok : IsUpTo latest h) where
  -- read at a later moment, it is what was seen then, with no event added
  pub moved_seen : (moment : ℕ) → latest ≤ moment → history_seen moment h ≡ past_view_with latest moment [] false (history_seen latest h)
  moved_seen moment later = λ i. record {
    window = h.reported.window;
    table = ring_moved h.reported latest moment ok.reported later i;
    health = (ring_moved h.health latest moment ok.health later ∙ ap (λ w. later_table w latest (ring_table h.health latest) moment []) ok.window) i;
    totals = sym (totals_with-none h.totals) i;
  }

  -- the ring of health gets events of its kinds alone
  pub recorded_seen : (k : EventKind) → history_seen latest (history_recorded latest k h) ≡ past_view_with latest latest (k ∷ []) false (history_seen latest h)
  recorded_seen k = λ i. record {
    window = h.reported.window;
    table = ring_with h.reported latest k i;
    health = (of_kind (is_of_health k) ∙ ap (λ w. later_table w latest (ring_table h.health latest) latest (filter is_of_health (k ∷ []))) ok.window) i;
    totals = totals_with (k ∷ []) h.totals;
  }
    where
      of_kind : (yes : Bool) → ring_table (if yes then ring_recorded latest k h.health else h.health) latest ≡ later_table h.health.window latest (ring_table h.health latest) latest (cond yes (k ∷ []) [])
      of_kind true = ring_with h.health latest k
      of_kind false = ring_same h.health latest

  -- with an empty ring of health it has no event in its table of health, and is the same else
  pub restarted_seen : history_seen latest (history_restarted h) ≡ health_restarted (history_seen latest h)
  restarted_seen = λ i. record (history_seen latest h) { health = (later_table-none h.health.window 0 latest ∙ ap no_rows ok.window) i }

  -- what is counted of the second ring, by the window of the first
  health_now : (k : EventKind) → ring_count h.health latest k ≡ sum_in h.reported.window latest (ring_table h.health latest) latest k
  health_now k =
      sym (ring_now h.health latest k (omega (arith, ok.some, ap (λ (w : Window). w.buckets) ok.window))) ∙ ap (λ w. sum_in w latest (ring_table h.health latest) latest k) ok.window

  -- each kind is counted within the sum of all
  pub reported_within : (most : ℕ) (k : EventKind) → counted_past latest (history_seen latest h) < most → ring_count h.reported latest k < most
  reported_within most k few =
      omega (arith, counted-past latest (history_seen latest h), ring_now h.reported latest k ok.some, kind-le-total (sum_in h.reported.window latest (ring_table h.reported latest) latest) k)

  -- in the ring of health, too, each kind is counted within the sum of all
  pub health_within : (most : ℕ) (k : EventKind) → counted_past latest (history_seen latest h) < most → ring_count h.health latest k < most
  health_within most k few =
      omega (arith, counted-past latest (history_seen latest h), health_now k, kind-le-total (sum_in h.reported.window latest (ring_table h.health latest) latest) k)

  -- and so is each of all events
  pub totals_within : (most : ℕ) (k : EventKind) → counted_past latest (history_seen latest h) < most → count_in h.totals k < most
  totals_within most k few =
      omega (arith, counted-past latest (history_seen latest h), kind-le-total (count_in h.totals) k)

  -- what the rings count is what the tables say
  pub rolling_seen : history_rolling latest h ≡ past_view_rolling latest (history_seen latest h) latest
  rolling_seen = rolling_by_same _ _ _ _ _ _ (λ k. sym (ring_now h.reported latest k ok.some)) (λ k. health_now k) refl

  -- the ring of health at a later moment
  moved_health : (moment : ℕ) (k : EventKind) → latest ≤ moment → sum_in h.reported.window moment (ring_table h.health moment) moment k ≡ sum_in h.reported.window latest (ring_table h.health latest) moment k
  moved_health moment k later =
      (λ i. sum_in (turned i) moment (ring_table h.health moment) moment k)
      ∙ ring_moved-count h.health latest moment k (omega (arith, ok.some, ap (λ (w : Window). w.buckets) ok.window)) ok.health later
      ∙ (λ i. sum_in (ok.window i) latest (ring_table h.health latest) moment k)
    where
      turned : h.reported.window ≡ h.health.window
      turned = sym ok.window

  -- what is seen at a later moment counts then as what was seen before
  pub moved_rolling : (moment : ℕ) → latest ≤ moment → past_view_rolling moment (history_seen moment h) moment ≡ past_view_rolling latest (history_seen latest h) moment
  moved_rolling moment later =
      rolling_by_same _ _ _ _ _ _ (λ k. ring_moved-count h.reported latest moment k ok.some ok.reported later) (λ k. moved_health moment k later) refl
