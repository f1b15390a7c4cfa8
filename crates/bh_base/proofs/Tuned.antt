-- What a change of a property leaves as it was.
use Rattle.std.proofs.Common.{◌≡◌, ℕ, ◌<◌, ◌≤◌, Bool, true, List, [], ◌∷◌, map, get_or, set, zero, suc, refl, ap, sym, ◌∙◌, arith}
use Rattle.std.proofs.lemmas.Bool.Decides.{nat_tests}
use Rattle.std.proofs.lemmas.List.{length-set}
use Rattle.std.specs.List.{AllByRecursion}
use Rattle.std.specs.Prelude.{◌*◌, ◌/◌, ◌&&◌, ◌^◌, false, nat_le}
use Rattle.bh_base.specs.declared.props.CommandProps.{CommandProps}
use Rattle.bh_base.specs.declared.props.Tuning.{Tuning}
use Rattle.bh_base.specs.declared.props.Tuning.TheVariants as tuning
use Rattle.bh_base.specs.Props.{GroupProps, no_props}
use Rattle.bh_base.specs.Commands.{props_of}
use Rattle.bh_base.specs.History.{window_of}
use Rattle.bh_base.specs.Ranges.{IsCommandInRange, IsInRange}
use Rattle.bh_base.specs.Tunings.{AreOfOneShape, command_tuned, group_tuned, is_whole, is_within}

-- the same properties are of one shape
pub same_shape : (p : GroupProps) → AreOfOneShape p p
same_shape p = record { slots = refl; max_queue = refl; count = refl; windows = refl; strategies = refl }

-- an item of a list is replaced by one of which a function tells the same
map-set_same : {X Y : Type 0} (f : X → Y) (d x : X) (xs : List X) (i : ℕ) → f x ≡ f (get_or xs i d) → map f (set xs i x) ≡ map f xs
map-set_same f d x [] i same = refl
map-set_same f d x (y ∷ ys) zero same = ap (λ z. z ∷ map f ys) same
map-set_same f d x (y ∷ ys) (suc i) same = ap (λ zs. f y ∷ zs) (map-set_same f d x ys i same)

-- an item of a list is replaced by what a function makes of it, which keeps what holds of all
all-set : {X : Type 0} (P : X → Type 0) (f : X → X) → ((x : X) → P x → P (f x)) → (d : X) (xs : List X) (i : ℕ) → AllByRecursion P xs → AllByRecursion P (set xs i (f (get_or xs i d)))
all-set P f keeps d [] i all = tt
all-set P f keeps d (x ∷ xs) zero all = (keeps x all.0, all.1)
all-set P f keeps d (x ∷ xs) (suc i) all = (all.0, all-set P f keeps d xs i all.1)

-- with one of its commands replaced by one of the same window and strategy a group is of one shape
set_shape : (p : GroupProps) (command : ℕ) (c : CommandProps) → (window_of c ≡ window_of (props_of command p)) × (c.strategy ≡ (props_of command p).strategy) → AreOfOneShape p (record p { commands = set p.commands command c })
set_shape p command c same = record {
  slots = refl;
  max_queue = refl;
  count = length-set p.commands command c;
  windows = map-set_same window_of no_props c p.commands command same.0;
  strategies = map-set_same (λ (x : CommandProps). x.strategy) no_props c p.commands command same.1;
}

-- a change of a property leaves window and strategy
tuned_alike : (t : Tuning) (c : CommandProps) → (window_of (command_tuned t c) ≡ window_of c) × ((command_tuned t c).strategy ≡ c.strategy)
tuned_alike (tuning.Timeout n) c = (refl, refl)
tuned_alike (tuning.TimeoutOn b) c = (refl, refl)
tuned_alike (tuning.Semaphore n) c = (refl, refl)
tuned_alike (tuning.FallbackPermits n) c = (refl, refl)
tuned_alike (tuning.FallbackOn b) c = (refl, refl)
tuned_alike (tuning.CircuitOn b) c = (refl, refl)
tuned_alike (tuning.Volume n) c = (refl, refl)
tuned_alike (tuning.SleepWindow n) c = (refl, refl)
tuned_alike (tuning.ErrorPercent n) c = (refl, refl)
tuned_alike (tuning.ForceOpen b) c = (refl, refl)
tuned_alike (tuning.ForceClosed b) c = (refl, refl)
tuned_alike (tuning.HealthInterval n) c = (refl, refl)
tuned_alike (tuning.CacheOn b) c = (refl, refl)
tuned_alike (tuning.CoreSize n) c = (refl, refl)
tuned_alike (tuning.QueueThreshold n) c = (refl, refl)

-- and a group is of the shape that it had
pub tuned_shape : (t : Tuning) (command : ℕ) (p : GroupProps) → AreOfOneShape p (group_tuned t command p)
tuned_shape (tuning.CoreSize n) command p = record { slots = refl; max_queue = refl; count = refl; windows = refl; strategies = refl }
tuned_shape (tuning.QueueThreshold n) command p = record { slots = refl; max_queue = refl; count = refl; windows = refl; strategies = refl }
tuned_shape (tuning.Timeout n) command p = set_shape p command _ (tuned_alike (tuning.Timeout n) (props_of command p))
tuned_shape (tuning.TimeoutOn b) command p = set_shape p command _ (tuned_alike (tuning.TimeoutOn b) (props_of command p))
tuned_shape (tuning.Semaphore n) command p = set_shape p command _ (tuned_alike (tuning.Semaphore n) (props_of command p))
tuned_shape (tuning.FallbackPermits n) command p = set_shape p command _ (tuned_alike (tuning.FallbackPermits n) (props_of command p))
tuned_shape (tuning.FallbackOn b) command p = set_shape p command _ (tuned_alike (tuning.FallbackOn b) (props_of command p))
tuned_shape (tuning.CircuitOn b) command p = set_shape p command _ (tuned_alike (tuning.CircuitOn b) (props_of command p))
tuned_shape (tuning.Volume n) command p = set_shape p command _ (tuned_alike (tuning.Volume n) (props_of command p))
tuned_shape (tuning.SleepWindow n) command p = set_shape p command _ (tuned_alike (tuning.SleepWindow n) (props_of command p))
tuned_shape (tuning.ErrorPercent n) command p = set_shape p command _ (tuned_alike (tuning.ErrorPercent n) (props_of command p))
tuned_shape (tuning.ForceOpen b) command p = set_shape p command _ (tuned_alike (tuning.ForceOpen b) (props_of command p))
tuned_shape (tuning.ForceClosed b) command p = set_shape p command _ (tuned_alike (tuning.ForceClosed b) (props_of command p))
tuned_shape (tuning.HealthInterval n) command p = set_shape p command _ (tuned_alike (tuning.HealthInterval n) (props_of command p))
tuned_shape (tuning.CacheOn b) command p = set_shape p command _ (tuned_alike (tuning.CacheOn b) (props_of command p))

-- ---- the ranges

whole_less : (n : ℕ) → is_whole n ≡ true → n < 2 ^ 32
whole_less n is = (let at_most : n ≤ 4_294_967_295 = grind (arith, nat_tests) in omega (arith, at_most))

-- properties whose numbers are in their ranges
in_range : (c : CommandProps) → c.timeout_ms < 2 ^ 32 → c.semaphore < 2 ^ 32 → c.fallback_permits < 2 ^ 32 → c.volume < 2 ^ 32 → c.sleep_ms < 2 ^ 32 → c.percent < 2 ^ 32 → c.health_ms < 2 ^ 32
    → (d : CommandProps) → IsCommandInRange d → c.window_ms ≡ d.window_ms → c.buckets ≡ d.buckets → IsCommandInRange c
in_range c timeout semaphore permits volume sleep percent health d h window buckets = record {
  timeout = timeout;
  semaphore = semaphore;
  fallback_permits = permits;
  volume = volume;
  sleep = sleep;
  percent = percent;
  some_window = omega (arith, h.some_window, window);
  short_window = omega (arith, h.short_window, window);
  some_buckets = omega (arith, h.some_buckets, buckets);
  few_buckets = omega (arith, h.few_buckets, buckets);
  whole_buckets = (λ i. buckets i * (window i / buckets i)) ∙ h.whole_buckets ∙ sym window;
  health = health;
}

-- a value within its range keeps those of the command in theirs
command_ranges : (t : Tuning) (c : CommandProps) → is_within t ≡ true → IsCommandInRange c → IsCommandInRange (command_tuned t c)
command_ranges (tuning.Timeout n) c is h = in_range _ (whole_less n is) h.semaphore h.fallback_permits h.volume h.sleep h.percent h.health c h refl refl
command_ranges (tuning.TimeoutOn b) c is h = in_range _ h.timeout h.semaphore h.fallback_permits h.volume h.sleep h.percent h.health c h refl refl
command_ranges (tuning.Semaphore n) c is h = in_range _ h.timeout (whole_less n is) h.fallback_permits h.volume h.sleep h.percent h.health c h refl refl
command_ranges (tuning.FallbackPermits n) c is h = in_range _ h.timeout h.semaphore (whole_less n is) h.volume h.sleep h.percent h.health c h refl refl
command_ranges (tuning.FallbackOn b) c is h = in_range _ h.timeout h.semaphore h.fallback_permits h.volume h.sleep h.percent h.health c h refl refl
command_ranges (tuning.CircuitOn b) c is h = in_range _ h.timeout h.semaphore h.fallback_permits h.volume h.sleep h.percent h.health c h refl refl
command_ranges (tuning.Volume n) c is h = in_range _ h.timeout h.semaphore h.fallback_permits (whole_less n is) h.sleep h.percent h.health c h refl refl
command_ranges (tuning.SleepWindow n) c is h = in_range _ h.timeout h.semaphore h.fallback_permits h.volume (whole_less n is) h.percent h.health c h refl refl
command_ranges (tuning.ErrorPercent n) c is h = in_range _ h.timeout h.semaphore h.fallback_permits h.volume h.sleep (whole_less n is) h.health c h refl refl
command_ranges (tuning.ForceOpen b) c is h = in_range _ h.timeout h.semaphore h.fallback_permits h.volume h.sleep h.percent h.health c h refl refl
command_ranges (tuning.ForceClosed b) c is h = in_range _ h.timeout h.semaphore h.fallback_permits h.volume h.sleep h.percent h.health c h refl refl
command_ranges (tuning.HealthInterval n) c is h = in_range _ h.timeout h.semaphore h.fallback_permits h.volume h.sleep h.percent (whole_less n is) c h refl refl
command_ranges (tuning.CacheOn b) c is h = in_range _ h.timeout h.semaphore h.fallback_permits h.volume h.sleep h.percent h.health c h refl refl
command_ranges (tuning.CoreSize n) c is h = h
command_ranges (tuning.QueueThreshold n) c is h = h

set_ranges : (t : Tuning) (command : ℕ) (p : GroupProps) → is_within t ≡ true → IsInRange p → IsInRange (record p { commands = set p.commands command (command_tuned t (props_of command p)) })
set_ranges t command p is h = record {
  some_slots = h.some_slots;
  few_slots = h.few_slots;
  some_core = h.some_core;
  small_core = h.small_core;
  queue = h.queue;
  queue_threshold = h.queue_threshold;
  some_commands = omega (arith, h.some_commands, length-set p.commands command (command_tuned t (props_of command p)));
  few_commands = omega (arith, h.few_commands, length-set p.commands command (command_tuned t (props_of command p)));
  commands = all-set IsCommandInRange (command_tuned t) (λ c. command_ranges t c is) no_props p.commands command h.commands;
}

both_true : (a b : Bool) → (a && b) ≡ true → (a ≡ true) × (b ≡ true)
both_true a b is = cases a b is
  where
    cases : (a b : Bool) → (a && b) ≡ true → (a ≡ true) × (b ≡ true)
    cases true true is = (refl, refl)
    cases true false is = absurd cc
    cases false b is = absurd cc

-- and those of the group
pub tuned_ranges : (t : Tuning) (command : ℕ) (p : GroupProps) → is_within t ≡ true → IsInRange p → IsInRange (group_tuned t command p)
tuned_ranges (tuning.CoreSize n) command p is h =
    let both = both_true (nat_le 1 n) (nat_le n 64) is in
    let least = both.0 in
    let most = both.1 in
    record {
      some_slots = h.some_slots;
      few_slots = h.few_slots;
      some_core = grind (arith, nat_tests);
      small_core = grind (arith, nat_tests);
      queue = h.queue;
      queue_threshold = h.queue_threshold;
      some_commands = h.some_commands;
      few_commands = h.few_commands;
      commands = h.commands;
    }
tuned_ranges (tuning.QueueThreshold n) command p is h = record {
  some_slots = h.some_slots;
  few_slots = h.few_slots;
  some_core = h.some_core;
  small_core = h.small_core;
  queue = h.queue;
  queue_threshold = whole_less n is;
  some_commands = h.some_commands;
  few_commands = h.few_commands;
  commands = h.commands;
}
tuned_ranges (tuning.Timeout n) command p is h = set_ranges (tuning.Timeout n) command p is h
tuned_ranges (tuning.TimeoutOn b) command p is h = set_ranges (tuning.TimeoutOn b) command p is h
tuned_ranges (tuning.Semaphore n) command p is h = set_ranges (tuning.Semaphore n) command p is h
tuned_ranges (tuning.FallbackPermits n) command p is h = set_ranges (tuning.FallbackPermits n) command p is h
tuned_ranges (tuning.FallbackOn b) command p is h = set_ranges (tuning.FallbackOn b) command p is h
tuned_ranges (tuning.CircuitOn b) command p is h = set_ranges (tuning.CircuitOn b) command p is h
tuned_ranges (tuning.Volume n) command p is h = set_ranges (tuning.Volume n) command p is h
tuned_ranges (tuning.SleepWindow n) command p is h = set_ranges (tuning.SleepWindow n) command p is h
tuned_ranges (tuning.ErrorPercent n) command p is h = set_ranges (tuning.ErrorPercent n) command p is h
tuned_ranges (tuning.ForceOpen b) command p is h = set_ranges (tuning.ForceOpen b) command p is h
tuned_ranges (tuning.ForceClosed b) command p is h = set_ranges (tuning.ForceClosed b) command p is h
tuned_ranges (tuning.HealthInterval n) command p is h = set_ranges (tuning.HealthInterval n) command p is h
tuned_ranges (tuning.CacheOn b) command p is h = set_ranges (tuning.CacheOn b) command p is h
