-- The tables of names agree with the paths at which values are looked up.
use Rattle.std.proofs.Common.{◌≡◌, ℕ, List, [], ◌∷◌, ◌++◌, map, codes, Bool, true, false, ◌&&◌, ◌||◌, Option, Some, None, refl, sym, ap, ◌∙◌, inl, inr}
use Rattle.std.proofs.lemmas.Bool.{and_parts, or_cases, or_left, or_right, false≢true}
use Rattle.std.proofs.lemmas.List.Folds.{list_any-append}
use Rattle.std.specs.List.{AllByRecursion, list_any, flat_map}
use Rattle.std.specs.Str.{bytes_eq}
use Rattle.toml.specs.Data.{Data, string, integer, float, boolean, datetime, array, table}
use Rattle.bh_props.specs.declared.subject.Subject.{Subject}
use Rattle.bh_props.specs.declared.subject.Scope.{Scope}
use Rattle.bh_props.specs.declared.subject.Scope.TheVariants as scopes
use Rattle.bh_props.specs.Tree.{look_up}
use Rattle.bh_props.specs.Refusals.{is_key}
use Rattle.bh_props.specs.Commands.{Commands}
use Rattle.bh_props.specs.Subjects.{a_group, subjects}
use Rattle.bh_lint.specs.declared.table.Table.{Table}
use Rattle.bh_lint.specs.declared.table.Table.TheVariants as tables
use Rattle.bh_lint.specs.declared.table.Part.{Part}
use Rattle.bh_lint.specs.Table.{Test, knows_in, children, is_further, part_keys, table_path}
use Rattle.bh_lint.specs.LookedUp.{is_on, paths_of, is_looked_up}
use Rattle.bh_lint.specs.Findings.{is_used, unknown_members, unknown_at, unknown_in, all_parts, pool_tables, tables_of, file_tables, by_default, unknown_of, unknown_names}
use Rattle.bh_lint.proofs.Any.{together, same-bytes, other-way, or-comm, and-dist, any-more, each-append, any-and, any-or, any-rows, any-within, is_within, each-within, each-more, same-rows}
use Rattle.bh_lint.proofs.Ways.{next, on-next, under, hystrix, command_ways, pool_ways, with_pool, root-within, root-back, hystrix-within, hystrix-back, command-next, pool-next, below-command, below-pool, in-part, in-pool}
use Rattle.bh_lint.proofs.Listed.{AreListed, any-subject, any-pool, any-further}

-- One subject.

abbrev default : List ℕ
default = codes "default"

-- one of its paths
own-paths : (s : Subject) (p : List (List ℕ) → Bool) → list_any p (paths_of s) ≡ (list_any p (under s.scope s.name) || list_any p (under s.scope default))
own-paths s p = list_any-append p (under s.scope s.name) (under s.scope default)

-- all of them
all-paths : (some : List Subject) (place : List (List ℕ)) → is_looked_up some place ≡ list_any (λ s. list_any (is_on place) (under s.scope s.name) || list_any (is_on place) (under s.scope default)) some
all-paths some place = any-rows (is_on place) paths_of some ∙ (λ i. list_any (λ s. own-paths s (is_on place) i) some)

-- Tables of which each group has the same names.

top-within : (place kids : List (List ℕ)) (key : List ℕ) → ((sc : Scope) (n : List ℕ) → is_within (next place (under sc n)) kids ≡ true)
    → (s : Subject) → (list_any (is_on (place ++ key ∷ [])) (under s.scope s.name) || list_any (is_on (place ++ key ∷ [])) (under s.scope default)) ≡ true
    → list_any (λ child. bytes_eq child key) kids ≡ true
top-within place kids key within s h =
    elim (or_cases (list_any (is_on (place ++ key ∷ [])) (under s.scope s.name)) (list_any (is_on (place ++ key ∷ [])) (under s.scope default)) h) [
      | inl own ↦ one s.name own
      | inr given ↦ one default given
    ]
  where
    one : (n : List ℕ) → list_any (is_on (place ++ key ∷ [])) (under s.scope n) ≡ true → list_any (λ child. bytes_eq child key) kids ≡ true
    one n some = any-within (λ child. bytes_eq child key) (next place (under s.scope n)) kids (within s.scope n) (sym (on-next place key (under s.scope n)) ∙ some)

any-const : {X : Type 0} (p : X → Bool) (r : Bool) → ((x : X) → p x ≡ true → r ≡ true) → (xs : List X) → list_any p xs ≡ true → r ≡ true
any-const p r all [] h = absurd (false≢true h)
any-const p r all (x ∷ xs) h = elim (or_cases (p x) (list_any p xs) h) [ inl here ↦ all x here | inr later ↦ any-const p r all xs later ]

pub top : (place kids : List (List ℕ)) (key n : List ℕ) (more : List Subject) → ((sc : Scope) (m : List ℕ) → is_within (next place (under sc m)) kids ≡ true)
    → is_within kids (next place (under scopes.Group n)) ≡ true → is_looked_up (a_group n ∷ more) (place ++ key ∷ []) ≡ list_any (λ child. bytes_eq child key) kids
top place kids key n more within back =
    all-paths (a_group n ∷ more) (place ++ key ∷ [])
    ∙ together (list_any test (a_group n ∷ more)) (list_any (λ child. bytes_eq child key) kids)
    (any-const test (list_any (λ child. bytes_eq child key) kids) (top-within place kids key within) (a_group n ∷ more))
    (λ known. or_left (test (a_group n)) (list_any test more)
    (or_left (list_any (is_on (place ++ key ∷ [])) (under scopes.Group n)) (list_any (is_on (place ++ key ∷ [])) (under scopes.Group default))
    (on-next place key (under scopes.Group n) ∙ any-within (λ child. bytes_eq child key) kids (next place (under scopes.Group n)) back known)))
  where
    test : Subject → Bool
    test s = list_any (is_on (place ++ key ∷ [])) (under s.scope s.name) || list_any (is_on (place ++ key ∷ [])) (under s.scope default)

-- The names of the groups and the further commands.

or-turned : (a f d : Bool) → ((a || f) || d) ≡ ((d || a) || f)
or-turned true f true = refl
or-turned true f false = refl
or-turned false true true = refl
or-turned false true false = refl
or-turned false false true = refl
or-turned false false false = refl

in-commands : (n : List ℕ) (more : List (List ℕ)) (commands : Commands) (key : List ℕ) → AreListed (n ∷ more) commands
    → is_looked_up (subjects (n ∷ more) commands) (hystrix ∷ codes "command" ∷ key ∷ []) ≡ (is_key (n ∷ more) key || is_further commands key)
in-commands n more commands key h =
    all-paths (subjects (n ∷ more) commands) (hystrix ∷ codes "command" ∷ key ∷ [])
    ∙ (λ i. list_any (λ s. each s.scope s.name i || each s.scope default i) (subjects (n ∷ more) commands))
    ∙ any-or (λ s. f s.name) (f default) (a_group n) _
    ∙ ap (λ b. b || f default) (any-subject commands f (n ∷ more) h.placed)
    ∙ ap (λ b. (list_any f (n ∷ more) || b) || f default) (any-further key commands h.short)
    ∙ or-turned (list_any f (n ∷ more)) (is_further commands key) (f default)
    ∙ ap (λ b. (b || list_any f (n ∷ more)) || is_further commands key) (other-way default key)
  where
    f : List ℕ → Bool
    f name = bytes_eq name key

    each : (sc : Scope) (m : List ℕ) → list_any (is_on (hystrix ∷ codes "command" ∷ key ∷ [])) (under sc m) ≡ bytes_eq m key
    each sc m = on-next (hystrix ∷ codes "command" ∷ []) key (under sc m) ∙ command-next (λ child. bytes_eq child key) sc m

with-either : (sc : Scope) (a b : Bool) → (with_pool sc a || with_pool sc b) ≡ with_pool sc (a || b)
with-either scopes.Group a b = refl
with-either scopes.Command a b = refl

in-pools : (n : List ℕ) (more : List (List ℕ)) (commands : Commands) (key : List ℕ)
    → is_looked_up (subjects (n ∷ more) commands) (hystrix ∷ codes "threadpool" ∷ key ∷ []) ≡ is_key (n ∷ more) key
in-pools n more commands key =
    all-paths (subjects (n ∷ more) commands) (hystrix ∷ codes "threadpool" ∷ key ∷ [])
    ∙ (λ i. list_any (λ s. each s.scope s.name i || each s.scope default i) (subjects (n ∷ more) commands))
    ∙ (λ i. list_any (λ s. with-either s.scope (bytes_eq s.name key) (bytes_eq default key) i) (subjects (n ∷ more) commands))
    ∙ any-pool commands (λ name. bytes_eq name key || bytes_eq default key) (n ∷ more)
    ∙ any-or (λ name. bytes_eq name key) (bytes_eq default key) n more
    ∙ or-comm (list_any (λ name. bytes_eq name key) (n ∷ more)) (bytes_eq default key)
    ∙ ap (λ b. b || list_any (λ name. bytes_eq name key) (n ∷ more)) (other-way default key)
  where
    each : (sc : Scope) (m : List ℕ) → list_any (is_on (hystrix ∷ codes "threadpool" ∷ key ∷ [])) (under sc m) ≡ with_pool sc (bytes_eq m key)
    each sc m = on-next (hystrix ∷ codes "threadpool" ∷ []) key (under sc m) ∙ pool-next (λ child. bytes_eq child key) sc m

-- The properties of a group, a further command or `default`.

-- the name is of one of the subjects, or `default`
abbrev names_command : List Subject → List ℕ → Bool
names_command some m = list_any (λ s. bytes_eq s.name m || bytes_eq default m) some

-- and of one that has a pool
abbrev names_pool : List Subject → List ℕ → Bool
names_pool some m = list_any (λ s. with_pool s.scope (bytes_eq s.name m || bytes_eq default m)) some

in-command : (some : List Subject) (m : List ℕ) (part : Part) (key : List ℕ) → names_command some m ≡ true
    → is_looked_up some (hystrix ∷ codes "command" ∷ m ∷ (part_keys part ++ key ∷ [])) ≡ list_any (λ child. bytes_eq child key) (children (tables.Command part))
in-command some m part key named =
    all-paths some (hystrix ∷ codes "command" ∷ m ∷ (part_keys part ++ key ∷ []))
    ∙ (λ i. list_any (λ s. below-command s.scope s.name m (part_keys part ++ key ∷ []) i || below-command s.scope default m (part_keys part ++ key ∷ []) i) some)
    ∙ (λ i. list_any (λ s. and-dist (bytes_eq s.name m) (bytes_eq default m) (list_any (is_on (part_keys part ++ key ∷ [])) command_ways) i) some)
    ∙ any-and (λ s. bytes_eq s.name m || bytes_eq default m) (list_any (is_on (part_keys part ++ key ∷ [])) command_ways) some
    ∙ ap (λ b. b && list_any (is_on (part_keys part ++ key ∷ [])) command_ways) named
    ∙ in-part part key

with-both : (sc : Scope) (a b l : Bool) → (with_pool sc (a && l) || with_pool sc (b && l)) ≡ (with_pool sc (a || b) && l)
with-both scopes.Group a b l = and-dist a b l
with-both scopes.Command a b l = refl

in-one-pool : (some : List Subject) (m key : List ℕ) → names_pool some m ≡ true
    → is_looked_up some (hystrix ∷ codes "threadpool" ∷ m ∷ key ∷ []) ≡ list_any (λ child. bytes_eq child key) (children tables.Pool)
in-one-pool some m key named =
    all-paths some (hystrix ∷ codes "threadpool" ∷ m ∷ key ∷ [])
    ∙ (λ i. list_any (λ s. below-pool s.scope s.name m (key ∷ []) i || below-pool s.scope default m (key ∷ []) i) some)
    ∙ (λ i. list_any (λ s. with-both s.scope (bytes_eq s.name m) (bytes_eq default m) (list_any (is_on (key ∷ [])) pool_ways) i) some)
    ∙ any-and (λ s. with_pool s.scope (bytes_eq s.name m || bytes_eq default m)) (list_any (is_on (key ∷ [])) pool_ways) some
    ∙ ap (λ b. b && list_any (is_on (key ∷ [])) pool_ways) named
    ∙ in-pool key

-- Each subject is among them.

abbrev same_scope : Scope → Scope → Bool
same_scope scopes.Group scopes.Group = true
same_scope scopes.Group scopes.Command = false
same_scope scopes.Command scopes.Group = false
same_scope scopes.Command scopes.Command = true

scope-itself : (sc : Scope) → same_scope sc sc ≡ true
scope-itself scopes.Group = refl
scope-itself scopes.Command = refl

abbrev same_subject : Subject → Subject → Bool
same_subject s u = bytes_eq u.name s.name && same_scope s.scope u.scope

subject-itself : (s : Subject) → same_subject s s ≡ true
subject-itself s = (λ i. same-bytes s.name i && scope-itself s.scope i)

-- where the scope has a pool, the name is of a subject that has one
abbrev InPool : List Subject → Scope → List ℕ → Type 0
InPool some scopes.Group m = names_pool some m ≡ true
InPool some scopes.Command m = Unit {0}

in-pool-if : (some : List Subject) (sc : Scope) (m : List ℕ) → list_any (λ u. bytes_eq u.name m && same_scope sc u.scope) some ≡ true → InPool some sc m
in-pool-if some scopes.Command m h = tt
in-pool-if some scopes.Group m h =
    any-more (λ u. bytes_eq u.name m && same_scope scopes.Group u.scope) (λ u. with_pool u.scope (bytes_eq u.name m || bytes_eq default m))
    (λ u e. one u.scope (bytes_eq u.name m) e) some h
  where
    one : (sc : Scope) (a : Bool) → (a && same_scope scopes.Group sc) ≡ true → with_pool sc (a || bytes_eq default m) ≡ true
    one scopes.Group a e = or_left a (bytes_eq default m) (and_parts a true e).0
    one scopes.Command a e = absurd (false≢true (and_parts a false e).1)

named-if : (some : List Subject) (s : Subject) → list_any (same_subject s) some ≡ true → names_command some s.name ≡ true
named-if some s h =
    any-more (same_subject s) (λ u. bytes_eq u.name s.name || bytes_eq default s.name)
    (λ u e. or_left (bytes_eq u.name s.name) (bytes_eq default s.name) (and_parts (bytes_eq u.name s.name) (same_scope s.scope u.scope) e).0) some h

-- All tables.

at-same : (known other : Test) (t : Table) (m : List ℕ) (o : Option Data) → ((key : List ℕ) (d : Data) → known t m key d ≡ other t m key d) → unknown_at known t m o ≡ unknown_at other t m o
at-same known other t m None h = refl
at-same known other t m (Some (string s)) h = refl
at-same known other t m (Some (integer z)) h = refl
at-same known other t m (Some (float x)) h = refl
at-same known other t m (Some (boolean b)) h = refl
at-same known other t m (Some (datetime x)) h = refl
at-same known other t m (Some (array items)) h = refl
at-same known other t m (Some (table ms)) h = λ i. unknown_members (λ key d. h key d i) t m ms

in-same : (known other : Test) (d : Data) (m : List ℕ) (t : Table) → ((key : List ℕ) (x : Data) → known t m key x ≡ other t m key x) → unknown_in known d m t ≡ unknown_in other d m t
in-same known other d m t h = at-same known other t m (look_up (table_path t m) d) h

module _ (n : List ℕ) (more : List (List ℕ)) (commands : Commands) (h : AreListed (n ∷ more) commands) (d : Data) where
  abbrev some : List Subject
  some = subjects (n ∷ more) commands

  abbrev by_table : Test
  by_table = knows_in (n ∷ more) commands

  parts-same : (m : List ℕ) → names_command some m ≡ true → (parts : List Part) → AllByRecursion (λ t. unknown_in by_table d m t ≡ unknown_in (is_used some) d m t) (map (λ part. tables.Command part) parts)
  parts-same m named [] = tt
  parts-same m named (part ∷ parts) =
      (in-same by_table (is_used some) d m (tables.Command part) (λ key x. sym (in-command some m part key named)), parts-same m named parts)

  pool-same : (sc : Scope) (m : List ℕ) → InPool some sc m → AllByRecursion (λ t. unknown_in by_table d m t ≡ unknown_in (is_used some) d m t) (pool_tables sc)
  pool-same scopes.Group m named = (in-same by_table (is_used some) d m tables.Pool (λ key x. sym (in-one-pool some m key named)), tt)
  pool-same scopes.Command m named = tt

  of-same : (s : Subject) → names_command some s.name ≡ true → InPool some s.scope s.name → unknown_of by_table d s ≡ unknown_of (is_used some) d s
  of-same s named pool =
      same-rows (unknown_in by_table d s.name) (unknown_in (is_used some) d s.name) (tables_of s.scope)
      (each-append (λ t. unknown_in by_table d s.name t ≡ unknown_in (is_used some) d s.name t) (map (λ part. tables.Command part) all_parts) (pool_tables s.scope)
      (parts-same s.name named all_parts) (pool-same s.scope s.name pool))

  default-same : unknown_of by_table d by_default ≡ unknown_of (is_used some) d by_default
  unfolding by_default
  default-same =
      of-same (a_group default)
      (or_left (bytes_eq n default || true) _ (or_right (bytes_eq n default) true refl))
      (or_left (bytes_eq n default || true) _ (or_right (bytes_eq n default) true refl))

  file-same : flat_map (unknown_in by_table d []) file_tables ≡ flat_map (unknown_in (is_used some) d []) file_tables
  unfolding file_tables
  file-same =
      same-rows (unknown_in by_table d []) (unknown_in (is_used some) d []) file_tables (
        in-same by_table (is_used some) d [] tables.Root (λ key x. sym (top [] (children tables.Root) key n _ root-within (root-back n))),
        (
          in-same by_table (is_used some) d [] tables.Hystrix (λ key x. sym (top (hystrix ∷ []) (children tables.Hystrix) key n _ hystrix-within (hystrix-back n))),
          (
            in-same by_table (is_used some) d [] tables.Commands (λ key x. sym (in-commands n more commands key h)),
            (in-same by_table (is_used some) d [] tables.Pools (λ key x. sym (in-pools n more commands key)), tt),
          ),
        ),
      )

  each-same : AllByRecursion (λ s. unknown_of by_table d s ≡ unknown_of (is_used some) d s) some
  each-same =
      each-more (λ s. list_any (same_subject s) some ≡ true) (λ s. unknown_of by_table d s ≡ unknown_of (is_used some) d s)
      (λ s among. of-same s (named-if some s among) (in-pool-if some s.scope s.name among)) some
      (each-within same_subject subject-itself some some (λ s among. among))

  agree : unknown_names by_table d some ≡ unknown_names (is_used some) d some
  unfolding unknown_names
  agree = λ i. file-same i ++ default-same i ++ same-rows (unknown_of by_table d) (unknown_of (is_used some) d) some each-same i

-- the names that the tables do not have are those through which no value in force is looked up
pub tables-agree : (names : List (List ℕ)) (commands : Commands) (d : Data) → AreListed names commands
    → unknown_names (knows_in names commands) d (subjects names commands) ≡ unknown_names (is_used (subjects names commands)) d (subjects names commands)
tables-agree [] commands d h = absurd (false≢true h.some)
tables-agree (n ∷ more) commands d h = agree n more commands h d
