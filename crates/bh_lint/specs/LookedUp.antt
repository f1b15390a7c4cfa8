-- The places of a file on which a value in force depends.
use Rattle.std.specs.Prelude.{ℕ, List, [], ◌∷◌, ◌++◌, map, codes, Bool, true, false, ◌&&◌}
use Rattle.std.specs.List.{list_any, flat_map}
use Rattle.std.specs.Str.{bytes_eq}
use Rattle.bh_props.specs.declared.subject.Subject.{Subject}
use Rattle.bh_props.specs.Subjects.{properties_of}
use Rattle.bh_props.specs.Table.{path_of}

-- the place is on the path: its keys are the first ones of the path
abbrev pub is_on : List (List ℕ) → List (List ℕ) → Bool
is_on [] path = true
is_on (key ∷ place) [] = false
is_on (key ∷ place) (k ∷ path) = bytes_eq k key && is_on place path

-- the paths of a subject's properties under a name
abbrev pub paths_under : Subject → List ℕ → List (List (List ℕ))
paths_under s name = map (λ p. path_of p name) (properties_of s.scope)

-- where the values in force of a subject are looked up: under its own name, and under `default`
abbrev pub paths_of : Subject → List (List (List ℕ))
paths_of s = paths_under s s.name ++ paths_under s (codes "default")

-- the place is on a path at which a value in force of one of the subjects is looked up
abbrev pub is_looked_up : List Subject → List (List ℕ) → Bool
is_looked_up some place = list_any (is_on place) (flat_map paths_of some)
