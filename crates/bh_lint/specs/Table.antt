-- The tables that are looked into, and the names in them that are looked up.
use Rattle.std.specs.Prelude.{ℕ, List, [], ◌∷◌, ◌++◌, codes, length, nat_le, Bool, ◌&&◌, ◌||◌, Option, Some, None}
use Rattle.std.specs.List.{list_any}
use Rattle.std.specs.Map.{keys_of as entry_keys}
use Rattle.std.specs.Str.{bytes_eq}
use Rattle.toml.specs.Data.{Data}
use Rattle.bh_props.specs.Tree.{keys_of}
use Rattle.bh_props.specs.Refusals.{is_key, is_service_member}
use Rattle.bh_props.specs.Commands.{Commands}
use Rattle.bh_lint.specs.declared.table.Table.{Table}
use Rattle.bh_lint.specs.declared.table.Table.TheVariants as tables
use Rattle.bh_lint.specs.declared.table.Part.{Part}
use Rattle.bh_lint.specs.declared.table.Part.TheVariants as parts

-- the dotted name of a part; none of the whole
abbrev pub part_name : Part → Option (List ℕ)
part_name parts.Whole = None
part_name parts.Execution = Some (codes "execution")
part_name parts.Isolation = Some (codes "execution.isolation")
part_name parts.Thread = Some (codes "execution.isolation.thread")
part_name parts.Semaphore = Some (codes "execution.isolation.semaphore")
part_name parts.Timeout = Some (codes "execution.timeout")
part_name parts.Fallback = Some (codes "fallback")
part_name parts.FallbackIsolation = Some (codes "fallback.isolation")
part_name parts.FallbackSemaphore = Some (codes "fallback.isolation.semaphore")
part_name parts.Circuit = Some (codes "circuitBreaker")
part_name parts.Metrics = Some (codes "metrics")
part_name parts.Rolling = Some (codes "metrics.rollingStats")
part_name parts.Health = Some (codes "metrics.healthSnapshot")
part_name parts.Cache = Some (codes "requestCache")

-- the keys of a dotted name, if there is one
abbrev pub keys_if : Option (List ℕ) → List (List ℕ)
keys_if (Some name) = keys_of name
keys_if None = []

-- its keys
abbrev pub part_keys : Part → List (List ℕ)
part_keys part = keys_if (part_name part)

-- the names in it that are looked up
abbrev pub part_children : Part → List (List ℕ)
part_children parts.Whole = codes "execution" ∷ codes "fallback" ∷ codes "circuitBreaker" ∷ codes "metrics" ∷ codes "requestCache" ∷ []
part_children parts.Execution = codes "isolation" ∷ codes "timeout" ∷ []
part_children parts.Isolation = codes "strategy" ∷ codes "thread" ∷ codes "semaphore" ∷ []
part_children parts.Thread = codes "timeoutInMilliseconds" ∷ []
part_children parts.Semaphore = codes "maxConcurrentRequests" ∷ []
part_children parts.Timeout = codes "enabled" ∷ []
part_children parts.Fallback = codes "isolation" ∷ codes "enabled" ∷ []
part_children parts.FallbackIsolation = codes "semaphore" ∷ []
part_children parts.FallbackSemaphore = codes "maxConcurrentRequests" ∷ []
part_children parts.Circuit =
    codes "enabled" ∷ codes "requestVolumeThreshold" ∷ codes "sleepWindowInMilliseconds" ∷ codes "errorThresholdPercentage"
    ∷ codes "forceOpen" ∷ codes "forceClosed" ∷ []
part_children parts.Metrics = codes "rollingStats" ∷ codes "healthSnapshot" ∷ []
part_children parts.Rolling = codes "timeInMilliseconds" ∷ codes "numBuckets" ∷ []
part_children parts.Health = codes "intervalInMilliseconds" ∷ []
part_children parts.Cache = codes "enabled" ∷ []

-- the names in a table that are looked up, beside those of groups and further commands
abbrev pub children : Table → List (List ℕ)
children tables.Root = codes "service" ∷ codes "hystrix" ∷ []
children tables.Service = codes "groups" ∷ codes "auditSteps" ∷ codes "slots" ∷ codes "command" ∷ []
children tables.Hystrix = codes "command" ∷ codes "threadpool" ∷ []
children tables.Commands = codes "default" ∷ []
children tables.Pools = codes "default" ∷ []
children (tables.Command part) = part_children part
children tables.Pool = codes "coreSize" ∷ codes "maxQueueSize" ∷ codes "queueSizeRejectionThreshold" ∷ []

-- where the table stands, for the name where it is of one
abbrev pub table_path : Table → List ℕ → List (List ℕ)
table_path tables.Root name = []
table_path tables.Service name = keys_of (codes "service")
table_path tables.Hystrix name = keys_of (codes "hystrix")
table_path tables.Commands name = keys_of (codes "hystrix.command")
table_path tables.Pools name = keys_of (codes "hystrix.threadpool")
table_path (tables.Command part) name = keys_of (codes "hystrix.command") ++ name ∷ part_keys part
table_path tables.Pool name = keys_of (codes "hystrix.threadpool") ++ name ∷ []

-- whether a further command has the name, which is then of at most 32 bytes
abbrev pub is_further : Commands → List ℕ → Bool
is_further commands key = nat_le (length key) 32 && list_any (λ name. bytes_eq key name) (entry_keys commands)

-- whether a member of the table may be looked up, where these are the groups and the further commands
abbrev pub knows : List (List ℕ) → Commands → Table → List ℕ → Data → Bool
knows names commands tables.Service key d = is_service_member names key d
knows names commands tables.Commands key d = is_key names key || is_further commands key
knows names commands tables.Pools key d = is_key names key
knows names commands t key d = list_any (λ child. bytes_eq child key) (children t)

-- a test of the members of tables: of the table, of the name that it is of if it is of one, of the key and of what stands there
abbrev pub Test : Type 0
Test = Table → List ℕ → List ℕ → Data → Bool

-- the member may be looked up, whatever name the table is of
abbrev pub knows_in : List (List ℕ) → Commands → Test
knows_in names commands t name = knows names commands t
