-- The keys that follow a place on the paths at which values are looked up: they are the names of its table.
use Rattle.std.proofs.Common.{◌≡◌, ℕ, List, [], ◌∷◌, ◌++◌, map, codes, Bool, true, false, ◌&&◌, ◌||◌, refl, sym, ◌∙◌}
use Rattle.std.specs.Prelude.{if◌then◌else◌}
use Rattle.std.proofs.lemmas.List.Folds.{list_any-append}
use Rattle.std.specs.List.{list_any, flat_map}
use Rattle.std.specs.Str.{bytes_eq}
use Rattle.bh_props.specs.declared.subject.Scope.{Scope}
use Rattle.bh_props.specs.declared.subject.Scope.TheVariants as scopes
use Rattle.bh_props.specs.Tree.{keys_of}
use Rattle.bh_props.specs.Table.{all, row, path_of}
use Rattle.bh_props.specs.Subjects.{of_command, properties_of}
use Rattle.bh_lint.specs.declared.table.Part.{Part}
use Rattle.bh_lint.specs.declared.table.Part.TheVariants as parts
use Rattle.bh_lint.specs.declared.table.Table.TheVariants as tables
use Rattle.bh_lint.specs.Table.{children, part_keys, part_children}
use Rattle.bh_lint.specs.LookedUp.{is_on}
use Rattle.bh_lint.proofs.Any.{any-same, is_within}

-- the key that follows the place on the path, if it is on it
abbrev pub after : List (List ℕ) → List (List ℕ) → List (List ℕ)
after [] [] = []
after [] (k ∷ path) = k ∷ []
after (key ∷ place) [] = []
after (key ∷ place) (k ∷ path) = if bytes_eq k key then after place path else []

-- those on some paths
abbrev pub next : List (List ℕ) → List (List (List ℕ)) → List (List ℕ)
next place paths = flat_map (after place) paths

on-after : (place path : List (List ℕ)) (key : List ℕ) → is_on (place ++ key ∷ []) path ≡ list_any (λ child. bytes_eq child key) (after place path)
on-after [] [] key = refl
on-after [] (k ∷ path) key = by (bytes_eq k key)
  where
    by : (b : Bool) → (b && true) ≡ (b || false)
    by true = refl
    by false = refl
on-after (first ∷ place) [] key = refl
on-after (first ∷ place) (k ∷ path) key = by (bytes_eq k first) (on-after place path key)
  where
    by : (b : Bool) → is_on (place ++ key ∷ []) path ≡ list_any (λ child. bytes_eq child key) (after place path)
        → (b && is_on (place ++ key ∷ []) path) ≡ list_any (λ child. bytes_eq child key) (if b then after place path else [])
    by true h = h
    by false h = refl

-- one more key is on one of the paths where it follows the place on one
pub on-next : (place : List (List ℕ)) (key : List ℕ) (paths : List (List (List ℕ))) → list_any (is_on (place ++ key ∷ [])) paths ≡ list_any (λ child. bytes_eq child key) (next place paths)
on-next place key [] = refl
on-next place key (path ∷ paths) =
    (λ i. on-after place path key i || on-next place key paths i) ∙ sym (list_any-append (λ child. bytes_eq child key) (after place path) (next place paths))

-- the paths of the properties of a scope under a name
abbrev pub under : Scope → List ℕ → List (List (List ℕ))
under sc n = map (λ p. path_of p n) (properties_of sc)

-- the keys of a command's properties
abbrev pub command_ways : List (List (List ℕ))
command_ways = map (λ p. keys_of (row p).name) of_command

-- and those of a pool's
abbrev pub pool_ways : List (List (List ℕ))
pool_ways = (codes "coreSize" ∷ []) ∷ (codes "maxQueueSize" ∷ []) ∷ (codes "queueSizeRejectionThreshold" ∷ []) ∷ []

-- whether a scope has a pool, and a test passes
abbrev pub with_pool : Scope → Bool → Bool
with_pool scopes.Group b = b
with_pool scopes.Command b = false

abbrev pub hystrix : List ℕ
hystrix = codes "hystrix"

-- in the whole file
pub root-within : (sc : Scope) (n : List ℕ) → is_within (next [] (under sc n)) (children tables.Root) ≡ true
unfolding all
root-within scopes.Group n = refl
root-within scopes.Command n = refl

pub root-back : (n : List ℕ) → is_within (children tables.Root) (next [] (under scopes.Group n)) ≡ true
unfolding all
root-back n = refl

-- under `hystrix`
pub hystrix-within : (sc : Scope) (n : List ℕ) → is_within (next (hystrix ∷ []) (under sc n)) (children tables.Hystrix) ≡ true
unfolding all
hystrix-within scopes.Group n = refl
hystrix-within scopes.Command n = refl

pub hystrix-back : (n : List ℕ) → is_within (children tables.Hystrix) (next (hystrix ∷ []) (under scopes.Group n)) ≡ true
unfolding all
hystrix-back n = refl

sixteen : (b : Bool) → list_any (λ x. x) (b ∷ b ∷ b ∷ b ∷ b ∷ b ∷ b ∷ b ∷ b ∷ b ∷ b ∷ b ∷ b ∷ b ∷ b ∷ b ∷ []) ≡ b
sixteen true = refl
sixteen false = refl

three : (b : Bool) → list_any (λ x. x) (b ∷ b ∷ b ∷ []) ≡ b
three true = refl
three false = refl

-- under `hystrix.command` the name is
pub command-next : (f : List ℕ → Bool) (sc : Scope) (n : List ℕ) → list_any f (next (hystrix ∷ codes "command" ∷ []) (under sc n)) ≡ f n
unfolding all
command-next f scopes.Group n = sixteen (f n)
command-next f scopes.Command n = sixteen (f n)

-- and under `hystrix.threadpool`, where the scope has a pool
pub pool-next : (f : List ℕ → Bool) (sc : Scope) (n : List ℕ) → list_any f (next (hystrix ∷ codes "threadpool" ∷ []) (under sc n)) ≡ with_pool sc (f n)
unfolding all
pool-next f scopes.Group n = three (f n)
pool-next f scopes.Command n = refl

each-command : (b : Bool) (place : List (List ℕ)) → list_any (λ way. b && is_on place way) command_ways ≡ (b && list_any (is_on place) command_ways)
unfolding all
each-command true place = refl
each-command false place = refl

each-pool : (b : Bool) (place : List (List ℕ)) → list_any (λ way. b && is_on place way) pool_ways ≡ (b && list_any (is_on place) pool_ways)
each-pool true place = refl
each-pool false place = refl

-- below the name stand the keys of a command's properties
pub below-command : (sc : Scope) (n m : List ℕ) (place : List (List ℕ))
    → list_any (is_on (hystrix ∷ codes "command" ∷ m ∷ place)) (under sc n) ≡ (bytes_eq n m && list_any (is_on place) command_ways)
unfolding all
below-command scopes.Group n m place = each-command (bytes_eq n m) place
below-command scopes.Command n m place = each-command (bytes_eq n m) place

-- and of a pool's
pub below-pool : (sc : Scope) (n m : List ℕ) (place : List (List ℕ))
    → list_any (is_on (hystrix ∷ codes "threadpool" ∷ m ∷ place)) (under sc n) ≡ with_pool sc (bytes_eq n m && list_any (is_on place) pool_ways)
unfolding all
below-pool scopes.Group n m place = each-pool (bytes_eq n m) place
below-pool scopes.Command n m place = refl

part-within : (part : Part) → is_within (next (part_keys part) command_ways) (part_children part) ≡ true
unfolding all
part-within parts.Whole = refl
part-within parts.Execution = refl
part-within parts.Isolation = refl
part-within parts.Thread = refl
part-within parts.Semaphore = refl
part-within parts.Timeout = refl
part-within parts.Fallback = refl
part-within parts.FallbackIsolation = refl
part-within parts.FallbackSemaphore = refl
part-within parts.Circuit = refl
part-within parts.Metrics = refl
part-within parts.Rolling = refl
part-within parts.Health = refl
part-within parts.Cache = refl

part-back : (part : Part) → is_within (part_children part) (next (part_keys part) command_ways) ≡ true
unfolding all
part-back parts.Whole = refl
part-back parts.Execution = refl
part-back parts.Isolation = refl
part-back parts.Thread = refl
part-back parts.Semaphore = refl
part-back parts.Timeout = refl
part-back parts.Fallback = refl
part-back parts.FallbackIsolation = refl
part-back parts.FallbackSemaphore = refl
part-back parts.Circuit = refl
part-back parts.Metrics = refl
part-back parts.Rolling = refl
part-back parts.Health = refl
part-back parts.Cache = refl

-- the names in a part of a command's properties
pub in-part : (part : Part) (key : List ℕ) → list_any (is_on (part_keys part ++ key ∷ [])) command_ways ≡ list_any (λ child. bytes_eq child key) (part_children part)
in-part part key =
    on-next (part_keys part) key command_ways
    ∙ any-same (λ child. bytes_eq child key) (next (part_keys part) command_ways) (part_children part) (part-within part) (part-back part)

-- and in a pool
pub in-pool : (key : List ℕ) → list_any (is_on (key ∷ [])) pool_ways ≡ list_any (λ child. bytes_eq child key) (children tables.Pool)
in-pool key = on-next [] key pool_ways
