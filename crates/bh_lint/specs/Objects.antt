-- The objects that tell findings, for editors and other programs: a line of compact JSON each, members in the order of their names.
use Rattle.std.specs.Prelude.{ℕ, negsuc, List, [], ◌∷◌, ◌++◌, ◌==◌, codes, if◌then◌else◌}
use Rattle.std.specs.List.{flat_map}
use Rattle.serde_json.specs.Data.{Data, null, number, unsigned, negative, string, array, no_items, item, object, no_members, member}
use Rattle.serde_json.specs.Written.{compact_text}
use Rattle.bh_props.specs.declared.value.Kind.{Kind}
use Rattle.bh_props.specs.declared.value.Kind.TheVariants as kinds
use Rattle.bh_props.specs.Table.{row}
use Rattle.bh_lint.specs.declared.finding.Finding.{Finding}
use Rattle.bh_lint.specs.declared.finding.Finding.TheVariants as findings
use Rattle.bh_lint.specs.declared.told.Told.{Told}
use Rattle.bh_lint.specs.Lines.{said, severity_word}

-- a text, or null where it is empty
abbrev pub text_or_null : List ℕ → Data
text_or_null [] = null
text_or_null (b ∷ rest) = string (b ∷ rest)

-- the least and the greatest number of a kind; null where it is none of numbers
abbrev pub range_of : Kind → Data
range_of (kinds.Number least most) = array (item (number (unsigned least)) (item (number (unsigned most)) no_items))
range_of kinds.QueueSize = array (item (number (negative (negsuc 0))) (item (number (unsigned 4294967295)) no_items))
range_of kinds.Truth = null
range_of kinds.Strategy = null

-- those of the property of which a value is refused
abbrev pub range_data : Finding → Data
range_data (findings.BadValue fault name p s words) = range_of (row p).kind
range_data _ = null

-- the object of a finding
abbrev pub object_data : List ℕ → Told → Data
object_data file t =
    object (member (codes "column") (number (unsigned t.column)) (member (codes "file") (string file) (
    member (codes "line") (number (unsigned t.line)) (member (codes "message") (string (said t)) (
    member (codes "nearest") (text_or_null t.nearest) (member (codes "range") (range_data t.finding) (
    member (codes "severity") (string (severity_word t.finding)) no_members)))))))

-- its line
abbrev pub object_line : List ℕ → Told → List ℕ
object_line file t = compact_text (object_data file t) ++ codes "\n"

-- how many more there are than are told
abbrev pub more_data : List ℕ → ℕ → Data
more_data file more = object (member (codes "file") (string file) (member (codes "more") (number (unsigned more)) no_members))

-- its line, if there are any
abbrev pub more_line : List ℕ → ℕ → List ℕ
more_line file more = if more == 0 then [] else compact_text (more_data file more) ++ codes "\n"

-- the lines of what is told, and of how many more there are
abbrev pub objects_of : List ℕ → List Told → ℕ → List ℕ
objects_of file told more = flat_map (object_line file) told ++ more_line file more
