-- The commands of a group: one of them is changed, or all are seen at a later moment.
use Rattle.std.proofs.Common.{◌≡◌, ℕ, ◌+◌, ◌-◌, ◌<◌, ◌≤◌, Bool, true, false, List, [], ◌∷◌, map, get_or, set, length, take, Some, refl, sym, ap, subst, ◌∙◌, arith, zero, suc}
use Rattle.std.specs.Prelude.{sum_by, if◌then◌else◌}
use Rattle.std.specs.List.{AllByRecursion}
use Rattle.std.proofs.lemmas.List.Sums.{sum_by-cons}
use Rattle.std.proofs.Math.Seq.{map-set_same}
use Rattle.std.proofs.lemmas.List.{map-set, get_or-map, length-map}
use Rattle.bh_base.specs.declared.event.EventKind.{EventKind}
use Rattle.bh_base.specs.declared.props.CommandProps.{CommandProps}
use Rattle.bh_base.specs.Circuit.{AreBefore, Circuit, new_circuit}
use Rattle.bh_base.specs.Commands.{each_from}
use Rattle.bh_base.specs.History.{bucket_of, count_in, is_of_health, new_past, past_view, window_of}
use Rattle.bh_base.proofs.Views.{rolling_by_same}
use Rattle.bh_base.specs.Tables.{totals_with}
use Rattle.bh_base.specs.Seen.{no_past_view, past_view_rolling, past_view_with}
use Rattle.bh_core.specs.declared.command.Command.{Command}
use Rattle.bh_core.specs.Command.{IsCommandUpTo, circuit_in, new_command, past_in, window_in}
use Rattle.bh_rolling.specs.RingView.{ring_recorded}
use Rattle.bh_core.specs.History.{IsUpTo, history_recorded, history_restarted, history_rolling, history_seen}
use Rattle.bh_core.specs.Stepping.{IsCommandServed, health_restarted, pasts_with_event, with_closed}
use Rattle.bh_core.specs.Counted.{counted_past, counted_pasts}
use Rattle.bh_core.proofs.Counting.{HaveBuckets, past-none}
use Rattle.bh_core.proofs.Histories.{moved_rolling, moved_seen, opened_seen, recorded_seen, restarted_seen, rolling_seen}

-- there are as many as the properties say
pub as_many : (cs : List Command) (ps : List CommandProps) → map window_in cs ≡ map window_of ps → length cs ≡ length ps
as_many cs ps same = sym (length-map cs window_in) ∙ ap length same ∙ length-map ps window_of

-- what holds of all holds of the one at a place
pub all_at : {X : Type 0} (P : X → Type 0) (xs : List X) (i : ℕ) (x : X) → i < length xs → x ≡ get_or xs i x → AllByRecursion P xs → P x
all_at P [] i x inside is all = absurd (omega (arith, inside))
all_at P (y ∷ ys) zero x inside is all = subst P (sym is) all.0
all_at P (y ∷ ys) (suc i) x inside is all = all_at P ys i x (omega (arith, inside)) is all.1

-- and stays where the one at a place is another of which it holds
pub all_set : {X : Type 0} (P : X → Type 0) (xs : List X) (i : ℕ) (y : X) → AllByRecursion P xs → P y → AllByRecursion P (set xs i y)
all_set P [] i y all ok = tt
all_set P (x ∷ xs) zero y all ok = (ok, all.1)
all_set P (x ∷ xs) (suc i) y all ok = (all.0, all_set P xs i y all.1 ok)

-- what is read of the command at a place
pub read_at : {X : Type 0} (f : Command → X) (cs : List Command) (i : ℕ) (x : Command) (d : X) → i < length cs → x ≡ get_or cs i x → get_or (map f cs) i d ≡ f x
read_at f cs i x d inside is = get_or-map f cs i x d inside ∙ ap f (sym is)

-- what a change leaves
pub same_at : {X : Type 0} (f : Command → X) (cs : List Command) (i : ℕ) (x y : Command) → x ≡ get_or cs i x → f y ≡ f x → map f (set cs i y) ≡ map f cs
same_at f cs i x y is same = map-set_same f cs i y x (same ∙ ap f is)

-- what is seen of them at a later moment
pub moved_pasts : (latest moment from : ℕ) (cs : List Command) → latest ≤ moment → AllByRecursion (IsCommandUpTo latest) cs → map (past_in moment) cs ≡ each_from from (λ command p. past_view_with latest moment [] false p) (map (past_in latest) cs)
moved_pasts latest moment from [] later all = refl
moved_pasts latest moment from (c ∷ cs) later all = λ i. moved_seen c.history latest all.0.history moment later i ∷ moved_pasts latest moment (from + 1) cs later all.1 i

take_none : {X : Type 0} (n : ℕ) → take {A = X} n [] ≡ []
take_none zero = refl
take_none (suc n) = refl

-- a table without a row counts nothing at any moment
none_moved : (latest moment : ℕ) → past_view_rolling moment no_past_view moment ≡ past_view_rolling latest no_past_view moment
none_moved latest moment =
    let before : ℕ = no_past_view.window.buckets - (bucket_of no_past_view.window moment - bucket_of no_past_view.window latest) in
    let now : ℕ = no_past_view.window.buckets - (bucket_of no_past_view.window moment - bucket_of no_past_view.window moment) in
    rolling_by_same _ _ _ _ _ _ (λ k. same k now before) (λ k. same k now before) refl
  where
    same : (k : EventKind) (a b : ℕ) → sum_by (λ c. count_in c k) (take a []) ≡ sum_by (λ c. count_in c k) (take b [])
    same k a b = ap (sum_by (λ c. count_in c k)) (take_none a ∙ sym (take_none b))

-- and what is counted then
pub moved_rollings : (latest moment : ℕ) (cs : List Command) (command : ℕ) → latest ≤ moment → AllByRecursion (IsCommandUpTo latest) cs
    → past_view_rolling moment (get_or (map (past_in moment) cs) command no_past_view) moment ≡ past_view_rolling latest (get_or (map (past_in latest) cs) command no_past_view) moment
moved_rollings latest moment [] command later all = none_moved latest moment
moved_rollings latest moment (c ∷ cs) zero later all = moved_rolling c.history latest all.0.history moment later
moved_rollings latest moment (c ∷ cs) (suc command) later all = moved_rollings latest moment cs command later all.1

-- the commands of a new group are seen as its pasts
pub new_pasts : (ps : List CommandProps) → map (past_in 0) (map new_command ps) ≡ map (past_view 0) (map new_past ps)
new_pasts [] = refl
new_pasts (p ∷ ps) = λ i. opened_seen (window_of p) i ∷ new_pasts ps i

-- each with the window of its properties
pub new_windows : (ps : List CommandProps) → map window_in (map new_command ps) ≡ map window_of ps
new_windows [] = refl
new_windows (p ∷ ps) = λ i. window_of p ∷ new_windows ps i

-- and with nothing later than the beginning
pub new_up_to : (ps : List CommandProps) → AllByRecursion IsCommandServed ps → AllByRecursion (IsCommandUpTo 0) (map new_command ps)
new_up_to [] all = tt
new_up_to (p ∷ ps) all = (
  record {
    circuit = record { opened = omega arith; taken = omega arith };
    history = record { some = all.0.buckets; window = refl; reported = omega arith; health = omega arith };
  },
  new_up_to ps all.1,
)

-- each with a closed circuit
pub new_circuits : (ps : List CommandProps) → map circuit_in (map new_command ps) ≡ map (λ p. new_circuit) ps
new_circuits [] = refl
new_circuits (p ∷ ps) = λ i. new_circuit ∷ new_circuits ps i

-- and count no event
pub new_counted : (ps : List CommandProps) → counted_pasts 0 (map (past_in 0) (map new_command ps)) ≡ 0
new_counted [] = refl
new_counted (p ∷ ps) =
    omega (arith, ap (counted_past 0) (opened_seen (window_of p)), past-none (window_of p), new_counted ps, sum_by-cons (counted_past 0) (past_in 0 (new_command p)) (map (past_in 0) (map new_command ps)))

-- the events of one are among those of all
pub counted_at : (moment : ℕ) (cs : List Command) (i : ℕ) (x : Command) → i < length cs → x ≡ get_or cs i x → counted_past moment (past_in moment x) ≤ counted_pasts moment (map (past_in moment) cs)
counted_at moment [] i x inside is = absurd (omega (arith, inside))
counted_at moment (c ∷ cs) zero x inside is =
    omega (arith, ap (λ (y : Command). counted_past moment (past_in moment y)) is, sum_by-cons (counted_past moment) (past_in moment c) (map (past_in moment) cs))
counted_at moment (c ∷ cs) (suc i) x inside is =
    omega (arith, counted_at moment cs i x (omega (arith, inside)) is, sum_by-cons (counted_past moment) (past_in moment c) (map (past_in moment) cs))

-- with one more event at the moment, nothing is later
pub recorded_up_to : (moment : ℕ) (k : EventKind) (x y : Command) → y.circuit ≡ x.circuit → y.history ≡ history_recorded moment k x.history → IsCommandUpTo moment x → IsCommandUpTo moment y
recorded_up_to moment k x y same did ok = record {
  circuit = subst (AreBefore moment) (sym same) ok.circuit;
  history = subst (IsUpTo moment) (sym did) (at (is_of_health k));
}
  where
    at : (b : Bool) → IsUpTo moment (record { reported = ring_recorded moment k x.history.reported; health = (if b then ring_recorded moment k x.history.health else x.history.health); totals = totals_with (k ∷ []) x.history.totals })
    at true = record { some = ok.history.some; window = ok.history.window; reported = omega arith; health = omega arith }
    at false = record { some = ok.history.some; window = ok.history.window; reported = omega arith; health = ok.history.health }

-- each window of the commands has buckets
pub have_buckets : (moment : ℕ) (cs : List Command) → AllByRecursion (IsCommandUpTo moment) cs → HaveBuckets (map (past_in moment) cs)
have_buckets moment [] all = tt
have_buckets moment (c ∷ cs) all = (all.0.history.some, have_buckets moment cs all.1)

-- one more event of a command
pub event_seen : (moment : ℕ) (cs : List Command) (n : ℕ) (x y : Command) (k : EventKind) → n < length cs → x ≡ get_or cs n x → AllByRecursion (IsCommandUpTo moment) cs → y.history ≡ history_recorded moment k x.history
    → map (past_in moment) (set cs n y) ≡ pasts_with_event moment (record { command = n; kind = k }) (map (past_in moment) cs)
event_seen moment cs n x y k inside is all did =
    let ok : IsCommandUpTo moment x = all_at (IsCommandUpTo moment) cs n x inside is all in
    map-set (past_in moment) cs n y
    ∙ ap (set (map (past_in moment) cs) n) (ap (history_seen moment) did ∙ recorded_seen x.history moment ok.history k ∙ ap (past_view_with moment moment (k ∷ []) false) (sym (read_at (past_in moment) cs n x no_past_view inside is)))

-- health of a command starts anew
pub restart_seen : (moment : ℕ) (cs : List Command) (n : ℕ) (x y : Command) → n < length cs → x ≡ get_or cs n x → AllByRecursion (IsCommandUpTo moment) cs → y.history ≡ history_restarted x.history
    → map (past_in moment) (set cs n y) ≡ with_closed (Some n) (map (past_in moment) cs)
restart_seen moment cs n x y inside is all did =
    let ok : IsCommandUpTo moment x = all_at (IsCommandUpTo moment) cs n x inside is all in
    map-set (past_in moment) cs n y
    ∙ ap (set (map (past_in moment) cs) n) (ap (history_seen moment) did ∙ restarted_seen x.history moment ok.history ∙ ap health_restarted (sym (read_at (past_in moment) cs n x no_past_view inside is)))

-- the circuit breaker of a command is another one
pub circuit_seen : (cs : List Command) (n : ℕ) (x y : Command) (f : Circuit → Circuit) → n < length cs → x ≡ get_or cs n x → y.circuit ≡ f x.circuit → map circuit_in (set cs n y) ≡ set (map circuit_in cs) n (f (get_or (map circuit_in cs) n new_circuit))
circuit_seen cs n x y f inside is did =
    map-set circuit_in cs n y ∙ ap (set (map circuit_in cs) n) (did ∙ ap f (sym (read_at circuit_in cs n x new_circuit inside is)))

-- the counts and health of a command
pub rolling_at : (moment : ℕ) (cs : List Command) (n : ℕ) (x : Command) → n < length cs → x ≡ get_or cs n x → AllByRecursion (IsCommandUpTo moment) cs
    → history_rolling moment x.history ≡ past_view_rolling moment (get_or (map (past_in moment) cs) n no_past_view) moment
rolling_at moment cs n x inside is all =
    let ok : IsCommandUpTo moment x = all_at (IsCommandUpTo moment) cs n x inside is all in
    rolling_seen x.history moment ok.history ∙ ap (λ p. past_view_rolling moment p moment) (sym (read_at (past_in moment) cs n x no_past_view inside is))

-- nothing that it keeps is later than a later moment
pub command_later : (latest moment : ℕ) (x : Command) → latest ≤ moment → IsCommandUpTo latest x → IsCommandUpTo moment x
command_later latest moment x later ok = record {
  circuit = record { opened = omega (arith, later, ok.circuit.opened); taken = omega (arith, later, ok.circuit.taken) };
  history = record { some = ok.history.some; window = ok.history.window; reported = omega (arith, later, ok.history.reported); health = omega (arith, later, ok.history.health) };
}

-- the counts and health of a command at a moment that is no earlier
pub rolling_later : (latest moment : ℕ) (cs : List Command) (n : ℕ) (x : Command) → n < length cs → x ≡ get_or cs n x → latest ≤ moment → AllByRecursion (IsCommandUpTo latest) cs
    → history_rolling moment x.history ≡ past_view_rolling latest (get_or (map (past_in latest) cs) n no_past_view) moment
rolling_later latest moment cs n x inside is later all =
    let ok : IsCommandUpTo latest x = all_at (IsCommandUpTo latest) cs n x inside is all in
    rolling_seen x.history moment (command_later latest moment x later ok).history
    ∙ moved_rolling x.history latest ok.history moment later
    ∙ ap (λ p. past_view_rolling latest p moment) (sym (read_at (past_in latest) cs n x no_past_view inside is))
