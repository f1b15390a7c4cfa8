-- The properties that may change while a group runs, by the names that the settings have for them.
use Rattle.std.specs.Prelude.{◌≡◌, ℕ, Bool, true, List, codes, Result, Ok, Err, if◌then◌else◌}
use Rattle.std.specs.Str.{bytes_eq}
use Rattle.bh_base.specs.declared.props.Tuning.{Tuning}
use Rattle.bh_base.specs.declared.props.Tuning.TheVariants as tuning
use Rattle.bh_base.specs.Tunings.{is_within}
use Rattle.bh_tuning.specs.declared.named.Given.{Given}
use Rattle.bh_tuning.specs.declared.named.Given.TheVariants as given
use Rattle.bh_tuning.specs.declared.named.Untunable.{Untunable}
use Rattle.bh_tuning.specs.declared.named.Untunable.TheVariants as untunable

-- the change, where its value is within the range of its property
abbrev pub if_within : Tuning → Result Tuning Untunable
if_within t = if is_within t then Ok t else Err untunable.OutOfRange

-- a property that is a number
abbrev pub of_number : (ℕ → Tuning) → Given → Result Tuning Untunable
of_number f (given.Number n) = if_within (f n)
of_number f (given.Truth b) = Err untunable.WrongType

-- a property that is a truth value
abbrev pub of_truth : (Bool → Tuning) → Given → Result Tuning Untunable
of_truth f (given.Number n) = Err untunable.WrongType
of_truth f (given.Truth b) = Ok (f b)

-- the change that a name and a value say: first whether the property may change, then the type, then the range
unfoldable pub tuning_named : List ℕ → Given → Result Tuning Untunable
tuning_named name v =
    if bytes_eq name (codes "execution.isolation.thread.timeoutInMilliseconds") then of_number tuning.Timeout v else
    if bytes_eq name (codes "execution.timeout.enabled") then of_truth tuning.TimeoutOn v else
    if bytes_eq name (codes "execution.isolation.semaphore.maxConcurrentRequests") then of_number tuning.Semaphore v else
    if bytes_eq name (codes "fallback.isolation.semaphore.maxConcurrentRequests") then of_number tuning.FallbackPermits v else
    if bytes_eq name (codes "fallback.enabled") then of_truth tuning.FallbackOn v else
    if bytes_eq name (codes "circuitBreaker.enabled") then of_truth tuning.CircuitOn v else
    if bytes_eq name (codes "circuitBreaker.requestVolumeThreshold") then of_number tuning.Volume v else
    if bytes_eq name (codes "circuitBreaker.sleepWindowInMilliseconds") then of_number tuning.SleepWindow v else
    if bytes_eq name (codes "circuitBreaker.errorThresholdPercentage") then of_number tuning.ErrorPercent v else
    if bytes_eq name (codes "circuitBreaker.forceOpen") then of_truth tuning.ForceOpen v else
    if bytes_eq name (codes "circuitBreaker.forceClosed") then of_truth tuning.ForceClosed v else
    if bytes_eq name (codes "metrics.healthSnapshot.intervalInMilliseconds") then of_number tuning.HealthInterval v else
    if bytes_eq name (codes "requestCache.enabled") then of_truth tuning.CacheOn v else
    if bytes_eq name (codes "coreSize") then of_number tuning.CoreSize v else
    if bytes_eq name (codes "queueSizeRejectionThreshold") then of_number tuning.QueueThreshold v else
    Err untunable.NoProperty

-- the name of the property of a change, and its value
abbrev pub name_of : Tuning → List ℕ
name_of (tuning.Timeout n) = codes "execution.isolation.thread.timeoutInMilliseconds"
name_of (tuning.TimeoutOn b) = codes "execution.timeout.enabled"
name_of (tuning.Semaphore n) = codes "execution.isolation.semaphore.maxConcurrentRequests"
name_of (tuning.FallbackPermits n) = codes "fallback.isolation.semaphore.maxConcurrentRequests"
name_of (tuning.FallbackOn b) = codes "fallback.enabled"
name_of (tuning.CircuitOn b) = codes "circuitBreaker.enabled"
name_of (tuning.Volume n) = codes "circuitBreaker.requestVolumeThreshold"
name_of (tuning.SleepWindow n) = codes "circuitBreaker.sleepWindowInMilliseconds"
name_of (tuning.ErrorPercent n) = codes "circuitBreaker.errorThresholdPercentage"
name_of (tuning.ForceOpen b) = codes "circuitBreaker.forceOpen"
name_of (tuning.ForceClosed b) = codes "circuitBreaker.forceClosed"
name_of (tuning.HealthInterval n) = codes "metrics.healthSnapshot.intervalInMilliseconds"
name_of (tuning.CacheOn b) = codes "requestCache.enabled"
name_of (tuning.CoreSize n) = codes "coreSize"
name_of (tuning.QueueThreshold n) = codes "queueSizeRejectionThreshold"

abbrev pub value_of : Tuning → Given
value_of (tuning.Timeout n) = given.Number n
value_of (tuning.TimeoutOn b) = given.Truth b
value_of (tuning.Semaphore n) = given.Number n
value_of (tuning.FallbackPermits n) = given.Number n
value_of (tuning.FallbackOn b) = given.Truth b
value_of (tuning.CircuitOn b) = given.Truth b
value_of (tuning.Volume n) = given.Number n
value_of (tuning.SleepWindow n) = given.Number n
value_of (tuning.ErrorPercent n) = given.Number n
value_of (tuning.ForceOpen b) = given.Truth b
value_of (tuning.ForceClosed b) = given.Truth b
value_of (tuning.HealthInterval n) = given.Number n
value_of (tuning.CacheOn b) = given.Truth b
value_of (tuning.CoreSize n) = given.Number n
value_of (tuning.QueueThreshold n) = given.Number n

-- what a change is told by, it is read from: so a line that says it says it whole
abbrev pub IsSaidByName : Type 0
IsSaidByName = (t : Tuning) → is_within t ≡ true → tuning_named (name_of t) (value_of t) ≡ Ok t
