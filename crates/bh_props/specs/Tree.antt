-- Values of a TOML tree, found by dotted names.
use Rattle.std.specs.Prelude.{ℕ, List, [], ◌∷◌, Bool, true, ◌&&◌, ◌==◌, Option, Some, option_and_then}
use Rattle.std.specs.List.{slice_split}
use Rattle.toml.specs.Data.{Data, Members, no_members, member, get}

-- the keys of a dotted name
abbrev pub keys_of : List ℕ → List (List ℕ)
keys_of name = slice_split (λ b. b == 46) name

-- the value at a path of keys
abbrev pub look_up : List (List ℕ) → Data → Option Data
look_up [] d = Some d
look_up (key ∷ path) d = option_and_then (look_up path) (get key d)

-- each member of a table passes the test
abbrev pub all_members : (List ℕ → Data → Bool) → Members → Bool
all_members test no_members = true
all_members test (member key d rest) = test key d && all_members test rest
