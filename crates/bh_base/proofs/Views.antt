-- The view of a state says each reply, and the view after it.
use Rattle.std.proofs.Common.{◌≡◌, ℕ, ◌+◌, ◌≤◌, Bool, true, false, cond, max, List, [], ◌∷◌, ◌++◌, map, get_or, filter, drop, length, refl, ◌∙◌, sym, ap, arith, length-append, zero, suc}
use Rattle.std.specs.Prelude.{if◌then◌else◌}
use Rattle.std.specs.List.{AllByRecursion}
use Rattle.std.proofs.Math.ListN.{get_or-map}
use Rattle.std.proofs.lemmas.List.{drop-append-le, drop_all, length-map}
use Rattle.std.proofs.lemmas.List.Elements.{All-drop, All-from_recursion, recursion_from_All, filter-append}
use Rattle.bh_base.specs.declared.event.EventKind.{EventKind}
use Rattle.bh_base.specs.declared.event.EventKind.TheVariants as kind
use Rattle.bh_base.specs.declared.event.Counts.{Counts}
use Rattle.bh_base.specs.declared.event.Event.{Event}
use Rattle.bh_base.specs.declared.step.Op.{Op}
use Rattle.bh_base.specs.declared.step.Op.TheVariants as op
use Rattle.bh_base.specs.declared.reply.Reply.TheVariants as reply
use Rattle.bh_base.specs.declared.event.Window.{Window}
use Rattle.bh_base.specs.declared.props.CommandProps.{CommandProps}
use Rattle.bh_base.specs.Commands.{each_from, has_command, is_known}
use Rattle.bh_base.specs.Circuit.{new_circuit}
use Rattle.bh_base.specs.History.{window_of, totals_of, rolling_by, health_by, table, health_events, is_of_health, Past, new_past, no_past, past_rolling, past_view}
use Rattle.bh_base.specs.Machine.{Outcome, outcome}
use Rattle.bh_base.specs.Runs.{State, IsPastSound, IsSound, StaysSound, view, step, stepped, left_by, outcome_in, past_of, past_after, kinds_of, is_closed, events_at, begun, released, is_worn}
use Rattle.bh_base.specs.Tables.{no_rows, later_table}
use Rattle.bh_base.specs.Seen.{past_view_rolling, past_view_of, past_view_after, view_outcome, view_recorded, view_reply, view_after}
use Rattle.bh_base.proofs.Windows.{count_from_table}
use Rattle.bh_base.proofs.Tables.{cong_add, counts_by_same, table_later, totals_later}
use Rattle.bh_base.specs.Ranges.{IsInRange}
use Rattle.bh_base.specs.Tunings.{AreOfOneShape}
use Rattle.bh_base.proofs.Tuned.{same_shape}
use Rattle.bh_base.proofs.Kept.{Keeps, outcome_keeps}

-- equal numbers give the same rolling counts and health
pub rolling_by_same : (f g p q : EventKind → ℕ) (c d : Counts) → ((k : EventKind) → f k ≡ g k) → ((k : EventKind) → p k ≡ q k) → c ≡ d → rolling_by f p c ≡ rolling_by g q d
rolling_by_same f g p q c d h l e = λ i. record {
  counts = counts_by_same f g h i;
  health = record { errors = errors_same i; total = (cong_add errors_same (l kind.Success)) i };
  totals = e i;
}
  where
    errors_same : (health_by p).errors ≡ (health_by q).errors
    errors_same = omega (arith, l kind.Failure, l kind.Timeout, l kind.ThreadPoolRejected, l kind.SemaphoreRejected)

-- no event is later than the moment
abbrev pub AllPast : ℕ → List Event → Type 0
AllPast latest history = AllByRecursion (λ e. e.moment ≤ latest) history

past_drop : (latest from : ℕ) (history : List Event) → AllPast latest history → AllPast latest (drop from history)
past_drop latest from history past =
    recursion_from_All (λ e. e.moment ≤ latest) _ (All-drop (λ e. e.moment ≤ latest) from history (All-from_recursion (λ e. e.moment ≤ latest) history past))

past_if : (latest : ℕ) (b : Bool) (e : Event) (rest : List Event) → e.moment ≤ latest → AllPast latest rest → AllPast latest (cond b (e ∷ rest) rest)
past_if latest true e rest here past = (here, past)
past_if latest false e rest here past = past

past_filter : (latest : ℕ) (p : Event → Bool) (history : List Event) → AllPast latest history → AllPast latest (filter p history)
past_filter latest p [] past = past
past_filter latest p (e ∷ history) past = past_if latest (p e) e (filter p history) past.0 (past_filter latest p history past.1)

-- nor is one of those that health looks at
pub past_health : (latest from : ℕ) (history : List Event) → AllPast latest history → AllPast latest (health_events from history)
past_health latest from history past = past_filter latest _ _ (past_drop latest from history past)

-- with the events of a later moment added, none is later than that moment
pub past_later : (latest moment : ℕ) (history : List Event) (kinds : List EventKind) → latest ≤ moment → AllPast latest history → AllPast moment (history ++ events_at moment kinds)
past_later latest moment [] [] later past = past
past_later latest moment [] (k ∷ kinds) later past = (omega arith, past_later latest moment [] kinds later past)
past_later latest moment (e ∷ history) kinds later past = (omega (arith, past.0), past_later latest moment history kinds later past.1)

no_past_sound : (moment : ℕ) → IsPastSound moment no_past
no_past_sound moment = record { past = tt; from = omega arith }

-- each past of a sound list is sound, and so is the one that stands for a past that it lacks
sound_at : (moment : ℕ) (ps : List Past) (command : ℕ) → AllByRecursion (IsPastSound moment) ps → IsPastSound moment (get_or ps command no_past)
sound_at moment [] command all = no_past_sound moment
sound_at moment (p ∷ ps) zero all = all.0
sound_at moment (p ∷ ps) (suc command) all = sound_at moment ps command all.1

past_rolling_seen : (p : Past) (latest moment : ℕ) → IsPastSound latest p → latest ≤ moment → past_view_rolling latest (past_view latest p) moment ≡ past_rolling p moment
past_rolling_seen p latest moment sound later =
    rolling_by_same _ _ _ _ _ _
    (λ k. count_from_table p.window p.history latest moment k sound.past later)
    (λ k. count_from_table p.window (health_events p.health_from p.history) latest moment k (past_health _ _ _ sound.past) later)
    refl

rolling_seen : (s : State) (moment command : ℕ) → IsSound s → s.present.latest ≤ moment → past_view_rolling s.present.latest (past_view_of command (view s)) moment ≡ past_rolling (past_of command s) moment
rolling_seen s moment command sound later =
    ap (λ p. past_view_rolling s.present.latest p moment) (get_or-map (past_view s.present.latest) s.pasts command no_past)
    ∙ past_rolling_seen (past_of command s) s.present.latest moment (sound_at s.present.latest s.pasts command sound.pasts) later

outcome_seen : (s : State) (o : Op) (now : ℕ) → IsSound s → view_outcome (view s) o now ≡ outcome_in s o now
outcome_seen s o now sound = λ i. outcome o (λ command. rolling_seen s (max s.present.latest now) command sound (omega arith) i) (begun now s.present)

filter_events : (moment : ℕ) (kinds : List EventKind) → filter (λ e. is_of_health e.kind) (events_at moment kinds) ≡ events_at moment (filter is_of_health kinds)
filter_events moment [] = refl
filter_events moment (k ∷ kinds) = at (is_of_health k) (filter_events moment kinds)
  where
    at : (b : Bool) → filter (λ e. is_of_health e.kind) (events_at moment kinds) ≡ events_at moment (filter is_of_health kinds) → cond b (record { moment = moment; kind = k } ∷ filter (λ e. is_of_health e.kind) (events_at moment kinds)) (filter (λ e. is_of_health e.kind) (events_at moment kinds)) ≡ events_at moment (cond b (k ∷ filter is_of_health kinds) (filter is_of_health kinds))
    at true e = cc
    at false e = e

-- health looks at the new events of its kinds beside those that it looked at
pub health_later : (from moment : ℕ) (history : List Event) (kinds : List EventKind) → from ≤ length history → health_events from (history ++ events_at moment kinds) ≡ health_events from history ++ events_at moment (filter is_of_health kinds)
health_later from moment history kinds inside =
    ap (λ es. filter (λ e. is_of_health e.kind) es) (drop-append-le from history (events_at moment kinds) inside)
    ∙ filter-append (λ e. is_of_health e.kind) (drop from history) (events_at moment kinds)
    ∙ ap (λ es. health_events from history ++ es) (filter_events moment kinds)

-- health that begins at the end of the history looks at no event
pub health_anew : (history : List Event) → health_events (length history) history ≡ []
health_anew history = ap (λ es. filter (λ e. is_of_health e.kind) es) (drop_all (length history) history (omega arith))

health_at : (closed : Bool) (props : Window) (history : List Event) (from latest moment : ℕ) (kinds : List EventKind) → AllPast latest history → from ≤ length history → latest ≤ moment → table props (health_events (if closed then length (history ++ events_at moment kinds) else from) (history ++ events_at moment kinds)) moment ≡ (if closed then no_rows props else later_table props latest (table props (health_events from history) latest) moment (filter is_of_health kinds))
health_at true props history from latest moment kinds past inside later =
    ap (λ es. table props es moment) (health_anew (history ++ events_at moment kinds))
health_at false props history from latest moment kinds past inside later =
    ap (λ es. table props es moment) (health_later from moment history kinds inside)
    ∙ table_later props (health_events from history) latest moment (filter is_of_health kinds) (past_health _ _ _ past) later

past_seen : (out : Outcome) (command latest : ℕ) (p : Past) → IsPastSound latest p → latest ≤ out.present.latest → past_view out.present.latest (past_after out command p) ≡ past_view_after latest out command (past_view latest p)
past_seen out command latest p sound later = λ i. record {
  window = p.window;
  table = table_later p.window p.history latest out.present.latest (kinds_of command out.events) sound.past later i;
  health = health_at (is_closed out.closed command) p.window p.history p.health_from latest out.present.latest (kinds_of command out.events) sound.past sound.from later i;
  totals = totals_later p.history out.present.latest (kinds_of command out.events) i;
}

pasts_seen : (out : Outcome) (from latest : ℕ) (ps : List Past) → AllByRecursion (IsPastSound latest) ps → latest ≤ out.present.latest → map (past_view out.present.latest) (each_from from (past_after out) ps) ≡ each_from from (past_view_after latest out) (map (past_view latest) ps)
pasts_seen out from latest [] sound later = refl
pasts_seen out from latest (p ∷ ps) sound later = λ i. past_seen out from latest p sound.0 later i ∷ pasts_seen out (from + 1) latest ps sound.1 later i

recorded_seen : (s : State) (out : Outcome) → IsSound s → s.present.latest ≤ out.present.latest → view (left_by s out) ≡ view_recorded (view s) out
recorded_seen s out sound later = λ i. record {
  present = released out.present;
  pasts = pasts_seen out 0 s.present.latest s.pasts sound.pasts later i;
}

-- the reply of a step is the one that the view of the state says
pub reply_seen : (s : State) (o : Op) (now : ℕ) → IsSound s → (step s o now).reply ≡ view_reply (view s) o now
reply_seen s o now sound = at (is_known o s.present.props) (is_worn s.present)
  where
    at : (known worn : Bool) → (stepped known worn s (outcome_in s o now)).reply ≡ (if known then (if worn then reply.Worn else (view_outcome (view s) o now).reply) else reply.NoCommand)
    at false worn = refl
    at true true = refl
    at true false = ap (λ (x : Outcome). x.reply) (sym (outcome_seen s o now sound))

-- what an operation keeps of a group whose step has begun
kept_in : (s : State) (o : Op) (now : ℕ) → Keeps (begun now s.present) (outcome_in s o now).present
kept_in s o now = outcome_keeps o _ (begun now s.present)

-- the view after a step is the one that the view before it says
pub after_seen : (s : State) (o : Op) (now : ℕ) → IsSound s → view (step s o now).state ≡ view_after (view s) o now
after_seen s o now sound = at (is_known o s.present.props) (is_worn s.present)
  where
    keeps : Keeps (begun now s.present) (outcome_in s o now).present
    keeps = kept_in s o now

    at : (known worn : Bool) → view (stepped known worn s (outcome_in s o now)).state ≡ (if known then (if worn then view s else view_recorded (view s) (view_outcome (view s) o now)) else view s)
    at false worn = refl
    at true true = refl
    at true false = recorded_seen s (outcome_in s o now) sound (omega (arith, keeps.latest)) ∙ ap (view_recorded (view s)) (sym (outcome_seen s o now sound))

from_inside : (closed : Bool) (from n : ℕ) → from ≤ n → (if closed then n else from) ≤ n
from_inside true from n h = omega arith
from_inside false from n h = h

past_sound : (out : Outcome) (command latest : ℕ) (p : Past) → IsPastSound latest p → latest ≤ out.present.latest → IsPastSound out.present.latest (past_after out command p)
past_sound out command latest p sound later = record {
  past = past_later latest out.present.latest p.history (kinds_of command out.events) later sound.past;
  from = from_inside (is_closed out.closed command) p.health_from (length (p.history ++ events_at out.present.latest (kinds_of command out.events))) (omega (arith, sound.from, length-append p.history (events_at out.present.latest (kinds_of command out.events))));
}

pasts_sound : (out : Outcome) (from latest : ℕ) (ps : List Past) → AllByRecursion (IsPastSound latest) ps → latest ≤ out.present.latest → AllByRecursion (IsPastSound out.present.latest) (each_from from (past_after out) ps)
pasts_sound out from latest [] sound later = tt
pasts_sound out from latest (p ∷ ps) sound later = (past_sound out from latest p sound.0 later, pasts_sound out (from + 1) latest ps sound.1 later)

same_windows : (out : Outcome) (from : ℕ) (ps : List Past) → map (λ p. p.window) (each_from from (past_after out) ps) ≡ map (λ p. p.window) ps
same_windows out from [] = refl
same_windows out from (p ∷ ps) = ap (λ ws. p.window ∷ ws) (same_windows out (from + 1) ps)

-- a step keeps a state sound
pub step_sound : (s : State) (o : Op) (now : ℕ) → IsSound s → IsSound (step s o now).state
step_sound s o now sound = at (is_known o s.present.props) (is_worn s.present)
  where
    keeps : Keeps (begun now s.present) (outcome_in s o now).present
    keeps = kept_in s o now

    at : (known worn : Bool) → IsSound (stepped known worn s (outcome_in s o now)).state
    at false worn = sound
    at true true = sound
    at true false = record {
      windows = same_windows (outcome_in s o now) 0 s.pasts ∙ sound.windows ∙ sym keeps.props.windows;
      circuits = keeps.circuits ∙ sound.circuits ∙ sym keeps.props.count;
      pasts = pasts_sound (outcome_in s o now) 0 s.present.latest s.pasts sound.pasts (omega (arith, keeps.latest));
    }

-- two states with equal views give equal replies to every step, and equal views after it
pub equal_views : (s t : State) (o : Op) (now : ℕ) → IsSound s → IsSound t → view s ≡ view t → ((step s o now).reply ≡ (step t o now).reply) × (view (step s o now).state ≡ view (step t o now).state)
equal_views s t o now sound_s sound_t same = (
  reply_seen s o now sound_s ∙ ap (λ v. view_reply v o now) same ∙ sym (reply_seen t o now sound_t),
  after_seen s o now sound_s ∙ ap (λ v. view_after v o now) same ∙ sym (after_seen t o now sound_t),
)

-- no step changes the shape of the properties
pub step_shape : (s : State) (o : Op) (now : ℕ) → AreOfOneShape s.present.props (step s o now).state.present.props
step_shape s o now = at (is_known o s.present.props) (is_worn s.present)
  where
    keeps : Keeps (begun now s.present) (outcome_in s o now).present
    keeps = kept_in s o now

    at : (known worn : Bool) → AreOfOneShape s.present.props (stepped known worn s (outcome_in s o now)).state.present.props
    at false worn = same_shape s.present.props
    at true true = same_shape s.present.props
    at true false = keeps.props

-- nor brings a step one of them out of its range
pub step_ranges : (s : State) (o : Op) (now : ℕ) → IsInRange s.present.props → IsInRange (step s o now).state.present.props
step_ranges s o now ranges = at (is_known o s.present.props) (is_worn s.present)
  where
    keeps : Keeps (begun now s.present) (outcome_in s o now).present
    keeps = kept_in s o now

    at : (known worn : Bool) → IsInRange (stepped known worn s (outcome_in s o now)).state.present.props
    at false worn = ranges
    at true true = ranges
    at true false = keeps.ranges ranges

opened_windows : (commands : List CommandProps) → map (λ p. p.window) (map new_past commands) ≡ map window_of commands
opened_windows [] = refl
opened_windows (c ∷ commands) = ap (λ ws. window_of c ∷ ws) (opened_windows commands)

opened_pasts : (commands : List CommandProps) → AllByRecursion (IsPastSound 0) (map new_past commands)
opened_pasts [] = tt
opened_pasts (c ∷ commands) = (record { past = tt; from = omega arith }, opened_pasts commands)

-- a new group's state is sound, and each step keeps it so
pub stays_sound : StaysSound
stays_sound = record {
  opened = λ props limit. record {
    windows = opened_windows props.commands;
    circuits = length-map props.commands (λ c. new_circuit);
    pasts = opened_pasts props.commands;
  };
  stepped = step_sound;
}

-- the totals that are told are those of the history
pub totals_told : (s : State) (command now : ℕ) → has_command command s.present.props ≡ true → is_worn s.present ≡ false → (step s (op.Totals command) now).reply ≡ reply.Totals (totals_of (past_of command s).history)
totals_told s command now known fresh =
    ap (λ b. (stepped b (is_worn s.present) s (outcome_in s (op.Totals command) now)).reply) known
    ∙ ap (λ b. (stepped true b s (outcome_in s (op.Totals command) now)).reply) fresh
