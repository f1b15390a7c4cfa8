-- A group whose properties were changed by a Tune.
use Rattle.std.proofs.Common.{◌≡◌, ℕ, ◌<◌, ◌≤◌, Bool, true, false, List, [], ◌∷◌, map, Option, refl, sym, ap, subst, arith}
use Rattle.std.proofs.lemmas.Bool.Decides.{nat_tests}
use Rattle.std.specs.List.{AllByRecursion}
use Rattle.std.specs.Prelude.{◌&&◌, nat_le}
use Rattle.bh_base.specs.declared.event.Window.{Window}
use Rattle.bh_base.specs.declared.props.CommandProps.{CommandProps}
use Rattle.bh_base.specs.declared.props.Tuning.{Tuning}
use Rattle.bh_base.specs.declared.props.Tuning.TheVariants as tuning
use Rattle.bh_base.specs.History.{window_of}
use Rattle.bh_base.specs.Props.{GroupProps}
use Rattle.bh_base.specs.Ranges.{IsQueueLength}
use Rattle.bh_base.specs.Tunings.{AreOfOneShape, group_tuned, is_within}
use Rattle.bh_base.proofs.Tuned.{tuned_shape}
use Rattle.bh_core.specs.Stepping.{IsCommandServed, IsServed}

-- commands of the same windows are served alike
served_alike : (xs ys : List CommandProps) → map window_of ys ≡ map window_of xs → AllByRecursion IsCommandServed xs → AllByRecursion IsCommandServed ys
served_alike [] [] same all = tt
served_alike [] (y ∷ ys) same all = absurd cc
served_alike (x ∷ xs) [] same all = absurd cc
served_alike (x ∷ xs) (y ∷ ys) same all =
    let first : window_of y ≡ window_of x = cc in
    let rest : map window_of ys ≡ map window_of xs = cc in (
      record { buckets = omega (arith, all.0.buckets, ap (λ (w : Window). w.buckets) first); width = omega (arith, all.0.width, ap (λ (w : Window). w.width) first) },
      served_alike xs ys rest all.1,
    )

both_true : (a b : Bool) → (a && b) ≡ true → (a ≡ true) × (b ≡ true)
both_true true true is = (refl, refl)
both_true true false is = absurd cc
both_true false b is = absurd cc

-- a pool that is tuned has no more workers than may be
core_tuned : (t : Tuning) (command : ℕ) (p : GroupProps) → is_within t ≡ true → p.core ≤ 64 → (group_tuned t command p).core ≤ 64
core_tuned (tuning.CoreSize n) command p is few = (let most = (both_true (nat_le 1 n) (nat_le n 64) is).1 in grind (arith, nat_tests))
core_tuned (tuning.QueueThreshold n) command p is few = few
core_tuned (tuning.Timeout n) command p is few = few
core_tuned (tuning.TimeoutOn n) command p is few = few
core_tuned (tuning.Semaphore n) command p is few = few
core_tuned (tuning.FallbackPermits n) command p is few = few
core_tuned (tuning.FallbackOn n) command p is few = few
core_tuned (tuning.CircuitOn n) command p is few = few
core_tuned (tuning.Volume n) command p is few = few
core_tuned (tuning.SleepWindow n) command p is few = few
core_tuned (tuning.ErrorPercent n) command p is few = few
core_tuned (tuning.ForceOpen n) command p is few = few
core_tuned (tuning.ForceClosed n) command p is few = few
core_tuned (tuning.HealthInterval n) command p is few = few
core_tuned (tuning.CacheOn n) command p is few = few

-- what the storage of a group rests on holds of its properties once one was tuned
pub served_tuned : (t : Tuning) (command : ℕ) (p : GroupProps) → is_within t ≡ true → IsServed p → IsServed (group_tuned t command p)
served_tuned t command p is served =
    let shape : AreOfOneShape p (group_tuned t command p) = tuned_shape t command p in
    record {
      slots = omega (arith, served.slots, shape.slots);
      core = core_tuned t command p is served.core;
      queue = subst IsQueueLength (sym shape.max_queue) served.queue;
      few_commands = omega (arith, served.few_commands, shape.count);
      commands = served_alike p.commands (group_tuned t command p).commands shape.windows served.commands;
    }
