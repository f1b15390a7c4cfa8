-- The objects that tell rows: a line of JSON each.
use Rattle.std.specs.Prelude.{ℕ, List, [], ◌∷◌, ◌++◌, codes, Option, Some, None}
use Rattle.std.specs.Fmt.{decimal}
use Rattle.std.specs.List.{flat_map, zip}
use Rattle.bh_look.specs.declared.table.TimesTold.{TimesTold}
use Rattle.bh_look.specs.declared.tally.Tally.{Tally}
use Rattle.bh_look.specs.Rows.{RowSaid}
use Rattle.bh_look.specs.Tallies.{requests}

-- the numbers of a row under the names of their members, in their order
abbrev pub members_of : Tally → TimesTold → List (List ℕ × Option ℕ)
members_of t times =
    (codes "requests", Some (requests t))
    ∷ (codes "values", Some t.values)
    ∷ (codes "fallback_values", Some t.fallback_values)
    ∷ (codes "errors", Some t.errors)
    ∷ (codes "bad_requests", Some t.bad_requests)
    ∷ (codes "joined", Some t.joined)
    ∷ (codes "group_full", Some t.group_full)
    ∷ (codes "short_circuited", Some t.short_circuited)
    ∷ (codes "rejected", Some t.rejected)
    ∷ (codes "timeouts", Some t.timeouts)
    ∷ (codes "failures", Some t.failures)
    ∷ (codes "late", Some t.late)
    ∷ (codes "least_ms", times.least)
    ∷ (codes "median_ms", times.median)
    ∷ (codes "percentile_99_ms", times.percentile_99)
    ∷ (codes "most_ms", times.most)
    ∷ (codes "open_ms", Some t.open_ms)
    ∷ (codes "trips", Some t.trips)
    ∷ (codes "half_open_ms", Some t.half_open_ms)
    ∷ (codes "worn", Some t.worn)
    ∷ []

-- a number, or that there is none
abbrev pub number_or_null : Option ℕ → List ℕ
number_or_null (Some n) = decimal n
number_or_null None = codes "null"

-- a member that stands behind another
abbrev pub member_text : List ℕ × Option ℕ → List ℕ
member_text m = codes ",\"" ++ m.0 ++ codes "\":" ++ number_or_null m.1

-- the members behind the names
unfoldable pub numbers_text : Tally → TimesTold → List ℕ
numbers_text t times = flat_map member_text (members_of t times)

-- the object of a row with these times, as a line
abbrev pub object_of : RowSaid → TimesTold → List ℕ
object_of row times =
    codes "{\"group\":\"" ++ row.group ++ codes "\",\"command\":\"" ++ row.command ++ codes "\""
    ++ numbers_text row.tally times ++ codes "}\n"

-- the objects of rows, each with its times
abbrev pub objects_of : List RowSaid → List TimesTold → List ℕ
objects_of rows times = flat_map (λ r. object_of r.0 r.1) (zip rows times)
