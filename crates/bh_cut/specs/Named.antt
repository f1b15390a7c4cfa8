-- Which lines name one of the groups.
use Rattle.std.specs.Prelude.{ℕ, List, map, Bool, false, Result, Ok, Err}
use Rattle.std.specs.Borrow.{Bor}
use Rattle.std.specs.List.{list_any}
use Rattle.std.specs.Str.{bytes_eq}
use Rattle.bh_faults.specs.declared.fault.Fault.{Fault}
use Rattle.bh_lines.specs.ScriptLine.{Asked, a_step, a_group, an_end, line_asked}

-- the names that a list of texts has
abbrev pub texts : List (Bor (List ℕ)) → List (List ℕ)
texts names = map (λ n. n.now) names

-- the name of the group of which something is asked: for a registration, that of the new group
abbrev pub group_of : Asked → List ℕ
group_of (a_step said) = said.group
group_of (a_group name like) = name
group_of (an_end name) = name

-- the name is one of these
abbrev pub is_among : List (List ℕ) → List ℕ → Bool
is_among names name = list_any (λ n. bytes_eq n name) names

-- something is asked of one of these groups
abbrev pub is_asked_of : List (List ℕ) → Result Asked Fault → Bool
is_asked_of names (Ok asked) = is_among names (group_of asked)
is_asked_of names (Err fault) = false

-- the line asks for a step, a registration or a retirement of one of these groups; one that is at fault whatever groups there
-- are asks for nothing
unfoldable pub names_one : List (List ℕ) → List ℕ → Bool
names_one names bytes = is_asked_of names (line_asked bytes)
