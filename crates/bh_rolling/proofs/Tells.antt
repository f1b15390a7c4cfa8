-- A ring whose table is that of a list of events.
use Rattle.std.proofs.Common.{◌≡◌, ℕ, ◌≤◌, List, [], ◌∷◌, ◌++◌, ◌∙◌, sym, ap}
use Rattle.bh_base.specs.declared.event.Event.{Event}
use Rattle.bh_base.specs.declared.event.EventKind.{EventKind}
use Rattle.bh_base.specs.History.{count}
use Rattle.bh_base.specs.Tables.{sum_in, later_table}
use Rattle.bh_base.proofs.Tables.{table_later}
use Rattle.bh_base.proofs.Views.{past_later}
use Rattle.bh_base.proofs.Windows.{count_from_table}
use Rattle.bh_rolling.specs.RingView.{RingView, IsTableOf, ring_count, ring_recorded}

-- with one more event
pub tells_more : (r : RingView) (events : List Event) (moment : ℕ) (kind : EventKind) → r.latest ≤ moment → IsTableOf r events → IsTableOf (ring_recorded moment kind r) (events ++ record { moment = moment; kind = kind } ∷ [])
tells_more r events moment kind later is = record {
  past = past_later r.latest moment events (kind ∷ []) later is.past;
  table = ap (λ rows. later_table r.window r.latest rows moment (kind ∷ [])) is.table ∙ sym (table_later r.window events r.latest moment (kind ∷ []) is.past later);
}

-- its counts are those of the events
pub tells_count : (r : RingView) (events : List Event) (moment : ℕ) (kind : EventKind) → r.latest ≤ moment → IsTableOf r events → ring_count r moment kind ≡ count r.window events moment kind
tells_count r events moment kind later is =
    ap (λ rows. sum_in r.window r.latest rows moment kind) is.table ∙ count_from_table r.window events r.latest moment kind is.past later
