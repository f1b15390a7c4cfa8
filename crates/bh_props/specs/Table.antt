-- The properties: where each stands in a file, what it may be, and what it is where the file does not say.
use Rattle.std.specs.Prelude.{ℕ, List, [], ◌∷◌, ◌++◌, codes, true, false}
use Rattle.bh_base.specs.declared.props.Strategy.TheVariants as strategies
use Rattle.bh_props.specs.declared.property.Property.{Property}
use Rattle.bh_props.specs.declared.property.Property.TheVariants as properties
use Rattle.bh_props.specs.declared.property.Place.{Place}
use Rattle.bh_props.specs.declared.property.Place.TheVariants as places
use Rattle.bh_props.specs.declared.value.Kind.{Kind}
use Rattle.bh_props.specs.declared.value.Kind.TheVariants as kinds
use Rattle.bh_props.specs.declared.value.PropertyValue.{PropertyValue}
use Rattle.bh_props.specs.declared.value.PropertyValue.TheVariants as values
use Rattle.bh_props.specs.declared.property.Row.{Row as RowOfCode}
use Rattle.bh_props.specs.Tree.{keys_of}

-- a row of the table
pub record Row : Type 0 where
  pub place : Place
  pub name : List ℕ
  pub kind : Kind
  pub built_in : PropertyValue

-- the row of these columns
abbrev pub a_row : Place → List ℕ → Kind → PropertyValue → Row
a_row place name kind built_in = record { place = place; name = name; kind = kind; built_in = built_in }

-- the columns beside the name
abbrev pub columns : Place → Kind → PropertyValue → RowOfCode
columns place kind built_in = record { place = place; kind = kind; built_in = built_in }

-- the row of a name and of the columns that the code gives beside it
abbrev pub row_of_code : List ℕ → RowOfCode → Row
row_of_code name r = record { place = r.place; name = name; kind = r.kind; built_in = r.built_in }

-- a number of 32 bits
abbrev pub whole : Kind
whole = kinds.Number 0 4294967295

-- the most tickets that a group may have at a time
abbrev pub most_slots : ℕ
most_slots = 4096

-- the table
abbrev pub row : Property → Row
row properties.AuditSteps = a_row places.Service (codes "service.auditSteps") (kinds.Number 1 1000000) values.Absent
row properties.Slots = a_row places.ServiceGroup (codes "service.slots") (kinds.Number 1 most_slots) (values.Number 64)
row properties.Strategy = a_row places.Command (codes "execution.isolation.strategy") kinds.Strategy (values.Strategy strategies.Thread)
row properties.Timeout = a_row places.Command (codes "execution.isolation.thread.timeoutInMilliseconds") whole (values.Number 1000)
row properties.TimeoutOn = a_row places.Command (codes "execution.timeout.enabled") kinds.Truth (values.Truth true)
row properties.Semaphore = a_row places.Command (codes "execution.isolation.semaphore.maxConcurrentRequests") whole (values.Number 10)
row properties.FallbackPermits = a_row places.Command (codes "fallback.isolation.semaphore.maxConcurrentRequests") whole (values.Number 10)
row properties.FallbackOn = a_row places.Command (codes "fallback.enabled") kinds.Truth (values.Truth true)
row properties.CircuitOn = a_row places.Command (codes "circuitBreaker.enabled") kinds.Truth (values.Truth true)
row properties.Volume = a_row places.Command (codes "circuitBreaker.requestVolumeThreshold") whole (values.Number 20)
row properties.SleepWindow = a_row places.Command (codes "circuitBreaker.sleepWindowInMilliseconds") whole (values.Number 5000)
row properties.ErrorPercent = a_row places.Command (codes "circuitBreaker.errorThresholdPercentage") whole (values.Number 50)
row properties.ForceOpen = a_row places.Command (codes "circuitBreaker.forceOpen") kinds.Truth (values.Truth false)
row properties.ForceClosed = a_row places.Command (codes "circuitBreaker.forceClosed") kinds.Truth (values.Truth false)
row properties.Window = a_row places.Command (codes "metrics.rollingStats.timeInMilliseconds") (kinds.Number 1 3600000) (values.Number 10000)
row properties.Buckets = a_row places.Command (codes "metrics.rollingStats.numBuckets") (kinds.Number 1 60) (values.Number 10)
row properties.HealthInterval = a_row places.Command (codes "metrics.healthSnapshot.intervalInMilliseconds") whole (values.Number 500)
row properties.CacheOn = a_row places.Command (codes "requestCache.enabled") kinds.Truth (values.Truth true)
row properties.CoreSize = a_row places.ThreadPool (codes "coreSize") (kinds.Number 1 64) (values.Number 10)
row properties.MaxQueue = a_row places.ThreadPool (codes "maxQueueSize") kinds.QueueSize values.NoQueue
row properties.QueueThreshold = a_row places.ThreadPool (codes "queueSizeRejectionThreshold") whole (values.Number 5)

-- the properties in the order of the table
unfoldable pub all : List Property
all =
    properties.AuditSteps ∷ properties.Slots ∷ properties.Strategy ∷ properties.Timeout ∷ properties.TimeoutOn
    ∷ properties.Semaphore ∷ properties.FallbackPermits ∷ properties.FallbackOn ∷ properties.CircuitOn ∷ properties.Volume
    ∷ properties.SleepWindow ∷ properties.ErrorPercent ∷ properties.ForceOpen ∷ properties.ForceClosed ∷ properties.Window
    ∷ properties.Buckets ∷ properties.HealthInterval ∷ properties.CacheOn ∷ properties.CoreSize ∷ properties.MaxQueue
    ∷ properties.QueueThreshold ∷ []

-- where a name of the place stands under a key; what the whole service has once has no key
abbrev pub path_in : Place → List ℕ → List ℕ → List (List ℕ)
path_in places.Service name key = keys_of name
path_in places.ServiceGroup name key = keys_of name ++ key ∷ []
path_in places.Command name key = keys_of (codes "hystrix.command") ++ key ∷ keys_of name
path_in places.ThreadPool name key = keys_of (codes "hystrix.threadpool") ++ key ∷ keys_of name

-- where the property stands under a key
abbrev pub path_of : Property → List ℕ → List (List ℕ)
path_of p key = path_in (row p).place (row p).name key
