-- How the number of counted events changes in a step.
use Rattle.std.proofs.Common.{◌≡◌, ℕ, ◌+◌, ◌*◌, ◌<◌, ◌≤◌, false, List, [], ◌∷◌, length, get_or, set, filter, Option, Some, None, zero, suc, refl, sym, subst, ap, arith}
use Rattle.std.specs.List.{AllByRecursion}
use Rattle.std.proofs.lemmas.List.Sums.{sum_by-cons}
use Rattle.std.specs.Prelude.{count_by}
use Rattle.bh_base.specs.declared.event.Counts.{Counts}
use Rattle.bh_base.specs.declared.event.EventKind.{EventKind}
use Rattle.bh_base.specs.declared.event.EventKind.TheVariants as kind
use Rattle.bh_base.specs.declared.event.Window.{Window}
use Rattle.bh_base.specs.History.{PastView, count_in, counts_by, is_kind, is_of_health}
use Rattle.bh_base.specs.Tables.{no_counts, no_rows, sum_in, later_table, totals_with}
use Rattle.bh_base.specs.Commands.{each_from}
use Rattle.bh_base.specs.Machine.{CommandEvent, Outcome}
use Rattle.bh_base.specs.Runs.{View}
use Rattle.bh_base.specs.Seen.{no_past_view, past_view_with}
use Rattle.bh_base.proofs.Kept.{Keeps}
use Rattle.bh_base.proofs.LaterTables.{sum_in-later, sum_in-le}
use Rattle.bh_base.proofs.Windows.{count_from_table}
use Rattle.bh_core.specs.Counted.{counted, counted_in, counted_past, counted_pasts, total}
use Rattle.bh_core.specs.Stepping.{Begins, done, health_restarted, pasts_begun, pasts_with_event, pasts_with_events, with_closed}

total-sum : (f g h : EventKind → ℕ) → ((k : EventKind) → f k ≡ g k + h k) → total (counts_by f) ≡ total (counts_by g) + total (counts_by h)
total-sum f g h e =
    omega (arith, e kind.BadRequest, e kind.ExceptionThrown, e kind.Failure, e kind.FallbackFailure, e kind.FallbackMissing, e kind.FallbackRejection, e kind.FallbackSuccess, e kind.ResponseFromCache, e kind.SemaphoreRejected, e kind.ShortCircuited, e kind.Success, e kind.ThreadPoolRejected, e kind.Timeout)

total-le : (f g : EventKind → ℕ) → ((k : EventKind) → f k ≤ g k) → total (counts_by f) ≤ total (counts_by g)
total-le f g e =
    omega (arith, e kind.BadRequest, e kind.ExceptionThrown, e kind.Failure, e kind.FallbackFailure, e kind.FallbackMissing, e kind.FallbackRejection, e kind.FallbackSuccess, e kind.ResponseFromCache, e kind.SemaphoreRejected, e kind.ShortCircuited, e kind.Success, e kind.ThreadPoolRejected, e kind.Timeout)

-- the count of one kind is within the sum of all
pub kind-le-total : (f : EventKind → ℕ) (k : EventKind) → f k ≤ total (counts_by f)
kind-le-total f kind.BadRequest = omega arith
kind-le-total f kind.ExceptionThrown = omega arith
kind-le-total f kind.Failure = omega arith
kind-le-total f kind.FallbackFailure = omega arith
kind-le-total f kind.FallbackMissing = omega arith
kind-le-total f kind.FallbackRejection = omega arith
kind-le-total f kind.FallbackSuccess = omega arith
kind-le-total f kind.ResponseFromCache = omega arith
kind-le-total f kind.SemaphoreRejected = omega arith
kind-le-total f kind.ShortCircuited = omega arith
kind-le-total f kind.Success = omega arith
kind-le-total f kind.ThreadPoolRejected = omega arith
kind-le-total f kind.Timeout = omega arith

-- how many of the kinds are each kind
abbrev each : List EventKind → EventKind → ℕ
each kinds k = count_by (λ l. is_kind l k) kinds

one-each : (k : EventKind) → total (counts_by (each (k ∷ []))) ≡ 1
one-each kind.BadRequest = refl
one-each kind.ExceptionThrown = refl
one-each kind.Failure = refl
one-each kind.FallbackFailure = refl
one-each kind.FallbackMissing = refl
one-each kind.FallbackRejection = refl
one-each kind.FallbackSuccess = refl
one-each kind.ResponseFromCache = refl
one-each kind.SemaphoreRejected = refl
one-each kind.ShortCircuited = refl
one-each kind.Success = refl
one-each kind.ThreadPoolRejected = refl
one-each kind.Timeout = refl

none-each : total (counts_by (each [])) ≡ 0
none-each = refl

health-each : (k : EventKind) → total (counts_by (each (filter is_of_health (k ∷ [])))) ≤ 1
health-each kind.BadRequest = omega arith
health-each kind.ExceptionThrown = omega arith
health-each kind.Failure = omega arith
health-each kind.FallbackFailure = omega arith
health-each kind.FallbackMissing = omega arith
health-each kind.FallbackRejection = omega arith
health-each kind.FallbackSuccess = omega arith
health-each kind.ResponseFromCache = omega arith
health-each kind.SemaphoreRejected = omega arith
health-each kind.ShortCircuited = omega arith
health-each kind.Success = omega arith
health-each kind.ThreadPoolRejected = omega arith
health-each kind.Timeout = omega arith

-- a table that is moved on has what it had then, and what is new
counted_in-later : (w : Window) (latest moment : ℕ) (rows : List Counts) (kinds : List EventKind) → 0 < w.buckets → counted_in w moment (later_table w latest rows moment kinds) ≡ total (counts_by (sum_in w latest rows moment)) + total (counts_by (each kinds))
counted_in-later w latest moment rows kinds some = total-sum _ _ _ (λ k. sum_in-later w latest moment rows kinds k some)

counted_in-moved : (w : Window) (latest moment : ℕ) (rows : List Counts) → 0 < w.buckets → counted_in w moment (later_table w latest rows moment []) ≤ counted_in w latest rows
counted_in-moved w latest moment rows some =
    omega (arith, counted_in-later w latest moment rows [] some, total-le _ _ (λ k. sum_in-le w latest moment rows k))

-- the three sums that a command's count is made of
pub counted-past : (moment : ℕ) (p : PastView) → counted_past moment p ≡ counted_in p.window moment p.table + counted_in p.window moment p.health + total p.totals
unfolding counted_past
counted-past moment p = refl

-- the totals with events added have so many more
total-with : (kinds : List EventKind) (c : Counts) → total (totals_with kinds c) ≡ total c + total (counts_by (each kinds))
total-with kinds c = total-sum _ (count_in c) (each kinds) (λ k. refl)

-- a past that is moved on counts no more
past-moved : (latest moment : ℕ) (p : PastView) → 0 < p.window.buckets → counted_past moment (past_view_with latest moment [] false p) ≤ counted_past latest p
past-moved latest moment p some =
    omega (
      arith,
      counted-past moment (past_view_with latest moment [] false p),
      counted-past latest p,
      counted_in-moved p.window latest moment p.table some,
      counted_in-moved p.window latest moment p.health some,
      total-with [] p.totals,
      none-each,
    )

-- one more event is counted at most three times
past-event : (moment : ℕ) (k : EventKind) (p : PastView) → 0 < p.window.buckets → counted_past moment (past_view_with moment moment (k ∷ []) false p) ≤ counted_past moment p + 3
past-event moment k p some =
    omega (
      arith,
      counted-past moment (past_view_with moment moment (k ∷ []) false p),
      counted-past moment p,
      counted_in-later p.window moment moment p.table (k ∷ []) some,
      counted_in-later p.window moment moment p.health (filter is_of_health (k ∷ [])) some,
      total-with (k ∷ []) p.totals,
      one-each k,
      health-each k,
    )

-- a table without events has none
none-counted : (w : Window) (moment : ℕ) → counted_in w moment (no_rows w) ≡ 0
none-counted w moment = ap total (λ i. counts_by (λ k. count_from_table w [] moment moment k tt (omega arith) i))

-- a past whose health starts anew counts no more
past-restarted : (moment : ℕ) (p : PastView) → counted_past moment (health_restarted p) ≤ counted_past moment p
past-restarted moment p = omega (arith, counted-past moment (health_restarted p), counted-past moment p, none-counted p.window moment)

-- a new past counts none
pub past-none : (w : Window) → counted_past 0 (record { window = w; table = no_rows w; health = no_rows w; totals = no_counts }) ≡ 0
past-none w = omega (arith, counted-past 0 (record { window = w; table = no_rows w; health = no_rows w; totals = no_counts }), none-counted w 0)

-- each window has buckets
abbrev pub HaveBuckets : List PastView → Type 0
HaveBuckets ps = AllByRecursion (λ (p : PastView). 0 < p.window.buckets) ps

-- one item of a list is replaced by one that counts at most so many more
set-counted : (moment more : ℕ) (change : PastView → PastView) (ps : List PastView) (i : ℕ) → ((p : PastView) → 0 < p.window.buckets → counted_past moment (change p) ≤ counted_past moment p + more) → HaveBuckets ps
    → counted_pasts moment (set ps i (change (get_or ps i no_past_view))) ≤ counted_pasts moment ps + more
set-counted moment more change [] i grows some = omega arith
set-counted moment more change (p ∷ ps) zero grows some =
    omega (arith, grows p some.0, sum_by-cons (counted_past moment) p ps, sum_by-cons (counted_past moment) (change p) ps)
set-counted moment more change (p ∷ ps) (suc i) grows some =
    omega (arith, set-counted moment more change ps i grows some.1, sum_by-cons (counted_past moment) p ps, sum_by-cons (counted_past moment) p (set ps i (change (get_or ps i no_past_view))))

-- a change that leaves the window
set-buckets : (change : PastView → PastView) (ps : List PastView) (i : ℕ) → ((p : PastView) → (change p).window ≡ p.window) → HaveBuckets ps → HaveBuckets (set ps i (change (get_or ps i no_past_view)))
set-buckets change [] i same some = tt
set-buckets change (p ∷ ps) zero same some = (omega (arith, some.0, ap (λ (w : Window). w.buckets) (same p)), some.1)
set-buckets change (p ∷ ps) (suc i) same some = (some.0, set-buckets change ps i same some.1)

-- one more event is counted at most three times among all
pub counted-event : (moment : ℕ) (e : CommandEvent) (ps : List PastView) → HaveBuckets ps → counted_pasts moment (pasts_with_event moment e ps) ≤ counted_pasts moment ps + 3
counted-event moment e ps some = set-counted moment 3 (past_view_with moment moment (e.kind ∷ []) false) ps e.command (λ p buckets. past-event moment e.kind p buckets) some

event-buckets : (moment : ℕ) (e : CommandEvent) (ps : List PastView) → HaveBuckets ps → HaveBuckets (pasts_with_event moment e ps)
event-buckets moment e ps some = set-buckets (past_view_with moment moment (e.kind ∷ []) false) ps e.command (λ p. refl) some

counted-events : (moment : ℕ) (es : List CommandEvent) (ps : List PastView) → HaveBuckets ps → counted_pasts moment (pasts_with_events moment es ps) ≤ counted_pasts moment ps + 3 * length es
counted-events moment [] ps some = omega arith
counted-events moment (e ∷ es) ps some = omega (arith, counted-event moment e ps some, counted-events moment es (pasts_with_event moment e ps) (event-buckets moment e ps some))

events-buckets : (moment : ℕ) (es : List CommandEvent) (ps : List PastView) → HaveBuckets ps → HaveBuckets (pasts_with_events moment es ps)
events-buckets moment [] ps some = some
events-buckets moment (e ∷ es) ps some = events-buckets moment es (pasts_with_event moment e ps) (event-buckets moment e ps some)

closed-counted : (moment : ℕ) (closed : Option ℕ) (ps : List PastView) → HaveBuckets ps → counted_pasts moment (with_closed closed ps) ≤ counted_pasts moment ps
closed-counted moment None ps some = omega arith
closed-counted moment (Some command) ps some = omega (arith, set-counted moment 0 health_restarted ps command (λ p buckets. omega (arith, past-restarted moment p)) some)

-- the end of an operation counts no more than its events three times
pub counted-done : (v : View) (out : Outcome) → HaveBuckets v.pasts → Keeps v.present out.present → counted (done v out) ≤ counted v + 3 * length out.events
counted-done v out some keeps =
    let m = v.present.latest in
    let at_end : counted (done v out) ≡ counted_pasts m (done v out).pasts = ap (λ n. counted_pasts n (done v out).pasts) keeps.latest in
    omega (arith, at_end, counted-events m out.events v.pasts some, closed-counted m out.closed (pasts_with_events m out.events v.pasts) (events-buckets m out.events v.pasts some))

-- pasts that are moved on count no more
pub pasts-moved : (latest moment from : ℕ) (ps : List PastView) → HaveBuckets ps → counted_pasts moment (each_from from (λ command p. past_view_with latest moment [] false p) ps) ≤ counted_pasts latest ps
pasts-moved latest moment from [] some = omega arith
pasts-moved latest moment from (p ∷ ps) some =
    let rest : List PastView = each_from (from + 1) (λ command q. past_view_with latest moment [] false q) ps in
    omega (arith, past-moved latest moment p some.0, pasts-moved latest moment (from + 1) ps some.1, sum_by-cons (counted_past latest) p ps, sum_by-cons (counted_past moment) (past_view_with latest moment [] false p) rest)

moved-buckets : (latest moment from : ℕ) (ps : List PastView) → HaveBuckets ps → HaveBuckets (each_from from (λ command p. past_view_with latest moment [] false p) ps)
moved-buckets latest moment from [] some = tt
moved-buckets latest moment from (p ∷ ps) some = (some.0, moved-buckets latest moment (from + 1) ps some.1)

-- so the begin of a step counts no more
pub counted-begun : (old : View) (now : ℕ) (new : View) → HaveBuckets old.pasts → Begins old now new → counted new ≤ counted old
counted-begun old now new some begins =
    let same : counted new ≡ counted_pasts new.present.latest (pasts_begun old.present.latest new.present.latest old.pasts) = ap (counted_pasts new.present.latest) begins.pasts in
    omega (arith, same, pasts-moved old.present.latest new.present.latest 0 old.pasts some)

-- and leaves each window
pub begun-buckets : (old : View) (now : ℕ) (new : View) → HaveBuckets old.pasts → Begins old now new → HaveBuckets new.pasts
begun-buckets old now new some begins = subst HaveBuckets (sym begins.pasts) (moved-buckets old.present.latest new.present.latest 0 old.pasts some)
