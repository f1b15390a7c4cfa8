-- The line that tells the properties in force of a command.
use Rattle.std.specs.Prelude.{ℕ, negsuc, List, [], ◌∷◌, ◌++◌, codes, Option, Some, None}
use Rattle.serde_json.specs.Data.{Num, unsigned, negative, Data, boolean, number, string, object, Members, no_members, member}
use Rattle.serde_json.specs.Written.{compact_text}
use Rattle.bh_base.specs.declared.props.Strategy.{Strategy}
use Rattle.bh_base.specs.declared.props.Strategy.TheVariants as strategy
use Rattle.bh_in_force.specs.declared.properties.InForce.{InForce}

-- the word of each strategy
abbrev pub strategy_word : Strategy → List ℕ
strategy_word strategy.Thread = codes "THREAD"
strategy_word strategy.Semaphore = codes "SEMAPHORE"

-- the size of a queue; -1, where there is none
abbrev pub queue_number : Option ℕ → Num
queue_number None = negative (negsuc 0)
queue_number (Some n) = unsigned n

abbrev count : ℕ → Data
count n = number (unsigned n)

-- every property by its name, in the order of their names
abbrev pub named_values : InForce → List (List ℕ × Data)
named_values p =
    (codes "circuitBreaker.enabled", boolean p.command.circuit_on)
    ∷ (codes "circuitBreaker.errorThresholdPercentage", count p.command.percent)
    ∷ (codes "circuitBreaker.forceClosed", boolean p.command.force_closed)
    ∷ (codes "circuitBreaker.forceOpen", boolean p.command.force_open)
    ∷ (codes "circuitBreaker.requestVolumeThreshold", count p.command.volume)
    ∷ (codes "circuitBreaker.sleepWindowInMilliseconds", count p.command.sleep_ms)
    ∷ (codes "coreSize", count p.core)
    ∷ (codes "execution.isolation.semaphore.maxConcurrentRequests", count p.command.semaphore)
    ∷ (codes "execution.isolation.strategy", string (strategy_word p.command.strategy))
    ∷ (codes "execution.isolation.thread.timeoutInMilliseconds", count p.command.timeout_ms)
    ∷ (codes "execution.timeout.enabled", boolean p.command.timeout_on)
    ∷ (codes "fallback.enabled", boolean p.command.fallback_on)
    ∷ (codes "fallback.isolation.semaphore.maxConcurrentRequests", count p.command.fallback_permits)
    ∷ (codes "maxQueueSize", number (queue_number p.max_queue))
    ∷ (codes "metrics.healthSnapshot.intervalInMilliseconds", count p.command.health_ms)
    ∷ (codes "metrics.rollingStats.numBuckets", count p.command.buckets)
    ∷ (codes "metrics.rollingStats.timeInMilliseconds", count p.command.window_ms)
    ∷ (codes "queueSizeRejectionThreshold", count p.queue_threshold)
    ∷ (codes "requestCache.enabled", boolean p.command.cache_on)
    ∷ (codes "service.slots", count p.slots)
    ∷ []

-- the members of an object, in the order of the list
abbrev pub members_of : List (List ℕ × Data) → Members
members_of [] = no_members
members_of (named ∷ rest) = member named.0 named.1 (members_of rest)

-- the object that tells the properties
unfoldable pub properties_data : InForce → Data
properties_data p = object (members_of ((codes "properties", object (members_of (named_values p))) ∷ (codes "reply", string (codes "properties")) ∷ []))

-- the line is the compact text of the object, and a line feed
unfoldable pub properties_line : InForce → List ℕ
properties_line p = compact_text (properties_data p) ++ 10 ∷ []
