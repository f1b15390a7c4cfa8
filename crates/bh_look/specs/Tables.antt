-- The table that tells rows, for a terminal: of each column, all texts end at one place, and those of the first begin at one.
use Rattle.std.specs.Prelude.{ℕ, ◌-◌, List, [], ◌∷◌, ◌++◌, codes, Option, Some, None, length, map, max, nat_eq, get_or, replicate, if◌then◌else◌}
use Rattle.std.specs.Cmp.Lexicographic.{pointwise}
use Rattle.std.specs.Fmt.{decimal}
use Rattle.std.specs.List.{flat_map, fold, range_with_len, zip}
use Rattle.bh_look.specs.declared.table.TimesTold.{TimesTold}
use Rattle.bh_look.specs.declared.tally.Tally.{Tally}
use Rattle.bh_look.specs.Objects.{members_of}
use Rattle.bh_look.specs.Rows.{RowSaid}

-- the heads of the columns of numbers
abbrev pub heads : List (List ℕ)
heads =
    codes "requests" ∷ codes "values" ∷ codes "fallbacks" ∷ codes "errors" ∷ codes "bad" ∷ codes "joined" ∷ codes "full" ∷ codes "short"
    ∷ codes "rejected" ∷ codes "timeouts" ∷ codes "failures" ∷ codes "late" ∷ codes "least" ∷ codes "median" ∷ codes "99th" ∷ codes "most"
    ∷ codes "open" ∷ codes "trips" ∷ []

-- the numbers of a row, in the order of the members of its object; the last two have no column
abbrev pub cells_of : Tally → TimesTold → List (Option ℕ)
cells_of t times = map (λ m. m.1) (members_of t times)

-- those of rows, each with its times
abbrev pub all_cells : List RowSaid → List TimesTold → List (List (Option ℕ))
all_cells rows times = map (λ r. cells_of r.0.tally r.1) (zip rows times)

-- a number, or a stroke where there is none
abbrev pub cell_text : Option ℕ → List ℕ
cell_text (Some n) = decimal n
cell_text None = codes "-"

-- the name of a row: that of the group, and behind a stroke that of a further command
abbrev pub name_of : RowSaid → List ℕ
name_of row = if pointwise nat_eq row.command row.group then row.group else row.group ++ codes "/" ++ row.command

-- how wide the column of the names is: as its longest text
abbrev pub name_width : List RowSaid → ℕ
name_width rows = fold (λ most row. max most (length (name_of row))) (length (codes "command")) rows

-- how wide the column of numbers is: as its longest text
abbrev pub width_of : List (List (Option ℕ)) → ℕ → ℕ
width_of lines column = fold (λ most cells. max most (length (cell_text (get_or cells column None)))) (length (get_or heads column [])) lines

-- how wide all are
unfoldable pub widths_of : List (List (Option ℕ)) → List ℕ
widths_of lines = map (width_of lines) (range_with_len 0 18)

-- so many spaces
abbrev pub spaces : ℕ → List ℕ
spaces n = replicate n 32

-- a text at the left of its column
abbrev pub at_left : ℕ → List ℕ → List ℕ
at_left width text = text ++ spaces (width - length text)

-- a text at the right of its column, behind two spaces
abbrev pub at_right : ℕ × List ℕ → List ℕ
at_right c = codes "  " ++ spaces (c.0 - length c.1) ++ c.1

-- a line of a table with columns so wide
abbrev pub table_line : ℕ → List ℕ → List ℕ → List (List ℕ) → List ℕ
table_line named widths name texts = at_left named name ++ flat_map at_right (zip widths texts) ++ codes "\n"

-- the line of a row
abbrev pub row_line : ℕ → List ℕ → RowSaid × List (Option ℕ) → List ℕ
row_line named widths r = table_line named widths (name_of r.0) (map cell_text r.1)

-- how many lines there were, and how many of them were at fault
abbrev pub lines_line : ℕ → ℕ → List ℕ
lines_line lines faults = codes "lines: " ++ decimal lines ++ codes ", at fault: " ++ decimal faults ++ codes "\n"

-- the table of rows with these numbers
abbrev pub table_with : List RowSaid → List (List (Option ℕ)) → ℕ → ℕ → List ℕ
table_with rows cells lines faults =
    let named = name_width rows in
    let widths = widths_of cells in
    table_line named widths (codes "command") heads ++ flat_map (row_line named widths) (zip rows cells) ++ lines_line lines faults

-- the table of rows, each with its times
abbrev pub table_of : List RowSaid → List TimesTold → ℕ → ℕ → List ℕ
table_of rows times lines faults = table_with rows (all_cells rows times) lines faults
