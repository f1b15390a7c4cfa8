-- What a step adds to the lanes of its group, by what is looked at and told.
use Rattle.std.proofs.Common.{◌≡◌, ℕ, ◌-◌, ◌<◌, ◌≤◌, Bool, true, false, ◌≢◌, inl, inr, ◌+◌, List, [], ◌∷◌, map, get_or, set, length, zero, suc, Option, Some, refl, sym, ap, subst, ◌∙◌, arith}
use Rattle.std.specs.Prelude.{◌==◌, slice_get, if◌then◌else◌}
use Rattle.std.proofs.lemmas.Bool.Decides.{nat_tests}
use Rattle.bh_port.proofs.Keeping.{either}
use Rattle.std.proofs.lemmas.List.{get_or-map, length-map}
use Rattle.std.proofs.lemmas.Option.{get_or_from_slice_get, slice_get_within}
use Rattle.std.specs.List.{AllByRecursion}
use Rattle.bh_base.specs.Commands.{command_count}
use Rattle.bh_base.specs.History.{Past, PastView, no_past, past_view, window_of}
use Rattle.bh_base.specs.Machine.{circuit_of}
use Rattle.bh_base.specs.Ranges.{IsCommandInRange, IsInRange}
use Rattle.bh_base.specs.Runs.{IsSound, State, View, step, view}
use Rattle.bh_base.specs.Seen.{no_past_view, view_after, view_reply}
use Rattle.bh_base.specs.declared.event.Window.{Window}
use Rattle.bh_base.specs.declared.props.CommandProps.{CommandProps}
use Rattle.bh_base.specs.declared.reply.Reply.{Reply}
use Rattle.bh_base.specs.declared.step.Op.{Op}
use Rattle.bh_base.proofs.Views.{step_shape}
use Rattle.bh_look.specs.declared.kind.Kind.{Kind}
use Rattle.bh_look.specs.declared.lane.Lane.{Lane}
use Rattle.bh_look.specs.declared.tally.Tally.{Tally}
use Rattle.bh_look.specs.Kinds.{kind_told}
use Rattle.bh_look.specs.Looked.{AsksTimeouts, EachLane, Fits, HasAdded, HasNoted}
use Rattle.bh_look.specs.Steps.{command_meant, tally_with, timed_out, with_told}
use Rattle.bh_look.specs.Tallies.{with_kind, with_time, with_timeouts, with_trip}
use Rattle.bh_look.proofs.Timeouts.{timeouts_differ}

-- a step leaves its group as many commands as it had
pub count_kept : (s : State) (o : Op) (now : ℕ) → command_count (step s o now).state.present.props ≡ command_count s.present.props
count_kept s o now = (step_shape s o now).count

abbrev behind : {X : Type 0} → List X → List X
behind [] = []
behind (x ∷ xs) = xs

-- each of the windows has buckets
windows_some : (ps : List Past) (cs : List CommandProps) (k : ℕ) (d : Past) → map (λ (p : Past). p.window) ps ≡ map window_of cs → AllByRecursion IsCommandInRange cs → k < length ps → 0 < (get_or ps k d).window.buckets
windows_some [] cs k d same all inside = absurd (omega (arith, inside))
windows_some (p ∷ ps) [] k d same all inside = absurd (let no : length (map (λ (q : Past). q.window) (p ∷ ps)) ≡ 0 = ap length same in omega (arith, no))
windows_some (p ∷ ps) (c ∷ cs) zero d same all inside =
    let first : p.window ≡ window_of c = ap (λ ws. get_or ws 0 p.window) same in
    omega (arith, ap (λ (w : Window). w.buckets) first, all.0.some_buckets)
windows_some (p ∷ ps) (c ∷ cs) (suc k) d same all inside =
    let rest : map (λ (q : Past). q.window) ps ≡ map window_of cs = ap behind same in
    windows_some ps cs k d rest all.1 (omega (arith, inside))

-- what a sound state shows fits lanes of as many commands
pub fits : (s : State) (lanes : List Lane) → IsSound s → IsInRange s.present.props → length lanes ≡ command_count s.present.props → Fits (view s) lanes
fits s lanes sound in_range count =
    let many : length s.pasts ≡ command_count s.present.props = sym (length-map s.pasts (λ (p : Past). p.window)) ∙ ap length sound.windows ∙ length-map s.present.props.commands window_of in
    record {
      pasts = length-map s.pasts (past_view s.present.latest) ∙ many;
      count = count;
      few = in_range.few_commands;
      buckets = λ k inside.
          let within : k < length s.pasts = omega (arith, many, inside) in
          subst (λ (q : PastView). 0 < q.window.buckets) (sym (get_or-map (past_view s.present.latest) s.pasts k no_past no_past_view within))
          (windows_some s.pasts s.present.props.commands k no_past sound.windows in_range.commands within);
    }

module _ (v w : View) (o : Op) (now passed : ℕ) (asks : Bool) (says : AsksTimeouts v o now asks) (is : w ≡ view_after v o now) (spent : passed ≡ w.present.latest - v.present.latest) where
  -- what is looked at of a lane
  looked : (l0 l1 l2 : Lane) (lanes : List Lane) (k : ℕ) → Fits v lanes → k < length lanes → HasNoted v k now asks l0 l1 → HasAdded w k now asks passed l1 l2
      → l2.tally ≡ with_timeouts (timed_out v o now k) (with_trip (circuit_of k v.present).state (circuit_of k (view_after v o now).present).state (with_time (circuit_of k v.present).state ((view_after v o now).present.latest - v.present.latest) l0.tally))
  looked l0 l1 l2 lanes k fit inside noted added =
      let within : k < command_count v.present.props = omega (arith, inside, fit.count) in
      let more = timeouts_differ v w o now k asks l1.before added.after says is (omega (arith, fit.pasts, within)) (fit.buckets k within) noted.shown added.shown in
      let after = added.shown.circuit ∙ ap (λ (u : View). (circuit_of k u.present).state) is in
      let time = spent ∙ ap (λ (u : View). u.present.latest - v.present.latest) is in
      added.tally ∙ (λ i. with_timeouts (more i) (with_trip (noted.shown.circuit i) (after i) (with_time (noted.shown.circuit i) (time i) (noted.tally i))))

  -- the tallies of all lanes, once looks and reply were added
  pub each_step : (r : Reply) (command : Option ℕ) (kind : Option Kind) (l0 l1 l2 l3 : List Lane) → Fits v l0
      → EachLane l0 l1 (λ k lane next. HasNoted v k now asks lane next) → EachLane l1 l2 (λ k lane next. HasAdded w k now asks passed lane next) → EachLane l2 l3 (λ k lane next. next.tally ≡ with_told command kind k lane.tally)
      → command ≡ command_meant o v.present.tickets → kind ≡ kind_told o r → r ≡ view_reply v o now
      → EachLane l0 l3 (λ k lane next. next.tally ≡ tally_with v o now k lane.tally)
  each_step r command kind l0 l1 l2 l3 fit noted added told of_command of_kind reply = λ k lane at.
      let a = noted k lane at in
      let b = added k a.0 a.1 in
      let c = told k b.0 b.1 in
      (c.0, c.1, c.2 ∙ (λ i. with_told (of_command i) ((of_kind ∙ ap (kind_told o) reply) i) k (looked lane a.0 b.0 l0 k fit (slice_get_within l0 k lane at) a.2 b.2 i)))

-- the same, where the times were added, too
pub then_times : (l0 l3 l4 : List Lane) (f : ℕ → Tally → Tally) → EachLane l0 l3 (λ k lane next. next.tally ≡ f k lane.tally) → EachLane l3 l4 (λ k lane next. next.tally ≡ lane.tally) → EachLane l0 l4 (λ k lane next. next.tally ≡ f k lane.tally)
then_times l0 l3 l4 f did same = λ k lane at.
    let a = did k lane at in
    let b = same k a.0 a.1 in
    (b.0, b.1, b.2 ∙ a.2)

-- one of a list is another
pub set_here : {X : Type 0} (xs : List X) (n : ℕ) (x : X) → n < length xs → slice_get (set xs n x) n ≡ Some x
set_here [] n x inside = absurd (omega (arith, inside))
set_here (y ∷ ys) zero x inside = refl
set_here (y ∷ ys) (suc n) x inside = set_here ys n x (omega (arith, inside))

pub set_other : {X : Type 0} (xs : List X) (n k : ℕ) (x : X) → k ≢ n → slice_get (set xs n x) k ≡ slice_get xs k
set_other [] n k x differ = refl
set_other (y ∷ ys) zero zero x differ = absurd (differ refl)
set_other (y ∷ ys) zero (suc k) x differ = refl
set_other (y ∷ ys) (suc n) zero x differ = refl
set_other (y ∷ ys) (suc n) (suc k) x differ = set_other ys n k x (λ same. differ (ap suc same))

same_number : (m n : ℕ) → m ≡ n → (m == n) ≡ true
same_number m n is = grind (arith, nat_tests)

other_number : (m n : ℕ) → m ≢ n → (m == n) ≡ false
other_number m n differ = grind (arith, nat_tests)

-- the lane of a command has one request more
pub told_at : (lanes : List Lane) (n k : ℕ) (kind : Kind) (r next lane : Lane) → n < length lanes → next.tally ≡ with_kind kind (get_or lanes n r).tally → slice_get lanes k ≡ Some lane
    → (x : Lane) × (slice_get (set lanes n next) k ≡ Some x) × (x.tally ≡ with_told (Some n) (Some kind) k lane.tally)
told_at lanes n k kind r next lane inside is at = elim (either k n) [
  | inl here ↦ (
      let mine : get_or lanes n r ≡ lane = get_or_from_slice_get lanes n lane r (ap (slice_get lanes) (sym here) ∙ at) in (
        next,
        ap (slice_get (set lanes n next)) here ∙ set_here lanes n next inside,
        is ∙ ap (λ (l : Lane). with_kind kind l.tally) mine ∙ sym (ap (λ b. if b then with_kind kind lane.tally else lane.tally) (same_number n k (sym here))),
      ))
  | inr differ ↦ (
    lane,
    set_other lanes n k next differ ∙ at,
    sym (ap (λ b. if b then with_kind kind lane.tally else lane.tally) (other_number n k (λ e. differ (sym e)))),
  )
]

-- a command without a lane has none
pub told_past : (lanes : List Lane) (n k : ℕ) (kind : Kind) (lane : Lane) → length lanes ≤ n → slice_get lanes k ≡ Some lane → lane.tally ≡ with_told (Some n) (Some kind) k lane.tally
told_past lanes n k kind lane past at =
    let inside : k < length lanes = slice_get_within lanes k lane at in
    sym (ap (λ b. if b then with_kind kind lane.tally else lane.tally) (other_number n k (λ e. absurd (omega (arith, past, inside, e)))))

-- the lane at a place is another, and so each lane up to it became one to which it stands so
pub each_more : (first lanes : List Lane) (n : ℕ) (next : Lane) (R : ℕ → Lane → Lane → Type 0) → n < length lanes
    → ((k : ℕ) (lane : Lane) → k < n → slice_get first k ≡ Some lane → (x : Lane) × (slice_get lanes k ≡ Some x) × R k lane x)
    → ((lane : Lane) → slice_get first n ≡ Some lane → R n lane next)
    → (k : ℕ) (lane : Lane) → k < n + 1 → slice_get first k ≡ Some lane → (x : Lane) × (slice_get (set lanes n next) k ≡ Some x) × R k lane x
each_more first lanes n next R inside before here k lane below at = elim (either k n) [
  | inl is ↦ (
    next,
    ap (slice_get (set lanes n next)) is ∙ set_here lanes n next inside,
    subst (λ m. R m lane next) (sym is) (here lane (ap (slice_get first) (sym is) ∙ at)),
  )
  | inr differ ↦ (
      let (x, found, holds) = before k lane (omega (arith, below, differ)) at in
      (x, set_other lanes n k next differ ∙ found, holds))
]

-- a lane that is another, and has the same tally
pub same_tally : (lanes : List Lane) (n k : ℕ) (r next lane : Lane) → n < length lanes → next.tally ≡ (get_or lanes n r).tally → slice_get lanes k ≡ Some lane → (x : Lane) × (slice_get (set lanes n next) k ≡ Some x) × (x.tally ≡ lane.tally)
same_tally lanes n k r next lane inside is at = elim (either k n) [
  | inl here ↦ (
      let mine : get_or lanes n r ≡ lane = get_or_from_slice_get lanes n lane r (ap (slice_get lanes) (sym here) ∙ at) in
      (next, ap (slice_get (set lanes n next)) here ∙ set_here lanes n next inside, is ∙ ap (λ (l : Lane). l.tally) mine))
  | inr differ ↦ (lane, set_other lanes n k next differ ∙ at, refl)
]
