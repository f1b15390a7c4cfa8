-- What a history of events says at a moment.
use Rattle.std.specs.Prelude.{ℕ, ◌+◌, ◌*◌, ◌/◌, Bool, true, false, ◌&&◌, ◌==◌, nat_lt, nat_le, List, [], map, filter, count_by, drop, if◌then◌else◌}
use Rattle.std.specs.List.{range_with_len}
use Rattle.bh_base.specs.declared.event.EventKind.{EventKind}
use Rattle.bh_base.specs.declared.event.EventKind.TheVariants as kind
use Rattle.bh_base.specs.declared.event.Event.{Event}
use Rattle.bh_base.specs.declared.event.Counts.{Counts}
use Rattle.bh_base.specs.declared.props.CommandProps.{CommandProps}
use Rattle.bh_base.specs.declared.event.Health.{Health}
use Rattle.bh_base.specs.declared.event.Rolling.{Rolling}
use Rattle.bh_base.specs.declared.event.Window.{Window}

-- the place of a kind in the order of the names
abbrev pub place_of_kind : EventKind → ℕ
place_of_kind kind.BadRequest = 0
place_of_kind kind.ExceptionThrown = 1
place_of_kind kind.Failure = 2
place_of_kind kind.FallbackFailure = 3
place_of_kind kind.FallbackMissing = 4
place_of_kind kind.FallbackRejection = 5
place_of_kind kind.FallbackSuccess = 6
place_of_kind kind.ResponseFromCache = 7
place_of_kind kind.SemaphoreRejected = 8
place_of_kind kind.ShortCircuited = 9
place_of_kind kind.Success = 10
place_of_kind kind.ThreadPoolRejected = 11
place_of_kind kind.Timeout = 12

-- whether two kinds of events are the same
abbrev pub is_kind : EventKind → EventKind → Bool
is_kind k l = place_of_kind k == place_of_kind l

-- the kinds that health looks at
abbrev pub is_of_health : EventKind → Bool
is_of_health kind.Failure = true
is_of_health kind.Timeout = true
is_of_health kind.ThreadPoolRejected = true
is_of_health kind.SemaphoreRejected = true
is_of_health kind.Success = true
is_of_health _ = false

-- a number for each kind
abbrev pub counts_by : (EventKind → ℕ) → Counts
counts_by f = record {
  bad_request = f kind.BadRequest;
  exception_thrown = f kind.ExceptionThrown;
  failure = f kind.Failure;
  fallback_failure = f kind.FallbackFailure;
  fallback_missing = f kind.FallbackMissing;
  fallback_rejection = f kind.FallbackRejection;
  fallback_success = f kind.FallbackSuccess;
  response_from_cache = f kind.ResponseFromCache;
  semaphore_rejected = f kind.SemaphoreRejected;
  short_circuited = f kind.ShortCircuited;
  success = f kind.Success;
  thread_pool_rejected = f kind.ThreadPoolRejected;
  timeout = f kind.Timeout;
}

-- the number that the counts have for the kind
abbrev pub count_in : Counts → EventKind → ℕ
count_in c kind.BadRequest = c.bad_request
count_in c kind.ExceptionThrown = c.exception_thrown
count_in c kind.Failure = c.failure
count_in c kind.FallbackFailure = c.fallback_failure
count_in c kind.FallbackMissing = c.fallback_missing
count_in c kind.FallbackRejection = c.fallback_rejection
count_in c kind.FallbackSuccess = c.fallback_success
count_in c kind.ResponseFromCache = c.response_from_cache
count_in c kind.SemaphoreRejected = c.semaphore_rejected
count_in c kind.ShortCircuited = c.short_circuited
count_in c kind.Success = c.success
count_in c kind.ThreadPoolRejected = c.thread_pool_rejected
count_in c kind.Timeout = c.timeout

-- the buckets of a command's window
abbrev pub window_of : CommandProps → Window
window_of props = record { buckets = props.buckets; width = props.window_ms / props.buckets }

-- the number of the bucket that a moment lies in
abbrev pub bucket_of : Window → ℕ → ℕ
bucket_of w moment = moment / w.width

-- the event lies in the window that ends with the bucket `last`
abbrev pub is_in_window : Window → ℕ → Event → Bool
is_in_window w last event =
    nat_lt last (bucket_of w event.moment + w.buckets) && nat_le (bucket_of w event.moment) last

-- how many events of the kind lie in the window at the moment
abbrev pub count : Window → List Event → ℕ → EventKind → ℕ
count w history moment k =
    count_by (λ event. is_kind event.kind k && is_in_window w (bucket_of w moment) event) history

-- what health looks at: the events of its kinds from the place on
abbrev pub health_events : ℕ → List Event → List Event
health_events from history = filter (λ event. is_of_health event.kind) (drop from history)

-- how many events of each kind lie in the bucket that is `age` buckets before the bucket `last`
abbrev pub counts_at : Window → List Event → ℕ → ℕ → Counts
counts_at w history last age =
    counts_by (λ k. count_by (λ event. is_kind event.kind k && (bucket_of w event.moment + age == last)) history)

-- the counts of each bucket of the window at the moment, the newest bucket first
abbrev pub table : Window → List Event → ℕ → List Counts
table w history moment =
    map (counts_at w history (bucket_of w moment)) (range_with_len 0 w.buckets)

-- failed, timed out and rejected runs, of the counts of health
abbrev pub health_by : (EventKind → ℕ) → Health
health_by f =
    let errors = f kind.Failure + f kind.Timeout + f kind.ThreadPoolRejected + f kind.SemaphoreRejected in
    record { errors = errors; total = errors + f kind.Success }

-- the error percentage of the runs that health counts, rounded down; 0 where there was no run
abbrev pub percent : Health → ℕ
percent h = if h.total == 0 then 0 else 100 * h.errors / h.total

-- how many events of each kind there are in all
abbrev pub totals_of : List Event → Counts
totals_of history = counts_by (λ k. count_by (λ event. is_kind event.kind k) history)

-- what a step reads of the history: the rolling count of each kind, health, and the number of each kind in all
abbrev pub rolling_by : (EventKind → ℕ) → (EventKind → ℕ) → Counts → Rolling
rolling_by all of_health totals = record { counts = counts_by all; health = health_by of_health; totals = totals }

-- at the moment, where health looks at the events from the place on
abbrev pub rolling : Window → List Event → ℕ → ℕ → Rolling
rolling w history health_from moment =
    rolling_by (count w history moment) (count w (health_events health_from history) moment) (totals_of history)

-- the past of a command: its window, all its events, and the place in them where the events of health begin
pub record Past : Type 0 where
  pub window : Window
  pub history : List Event
  pub health_from : ℕ

-- of a command in a new group
abbrev pub new_past : CommandProps → Past
new_past props = record { window = window_of props; history = []; health_from = 0 }

-- what stands for the past of a command that the group lacks
abbrev pub no_past : Past
no_past = record { window = record { buckets = 0; width = 0 }; history = []; health_from = 0 }

-- what a step reads of a command's past at the moment
abbrev pub past_rolling : Past → ℕ → Rolling
past_rolling p moment = rolling p.window p.history p.health_from moment

-- what can be seen of a past: its events are counted by buckets, all of them and those of health, and in all
pub record PastView : Type 0 where
  pub window : Window
  pub table : List Counts
  pub health : List Counts
  pub totals : Counts

-- at the moment
abbrev pub past_view : ℕ → Past → PastView
past_view moment p = record {
  window = p.window;
  table = table p.window p.history moment;
  health = table p.window (health_events p.health_from p.history) moment;
  totals = totals_of p.history;
}
