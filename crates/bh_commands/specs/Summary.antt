-- What a summary writes.
use Rattle.std.specs.Prelude.{◌≡◌, ℕ, List, Option, length}
use Rattle.std.specs.Io.KnownBytes.{Appends}
use Rattle.bh_lines.specs.Lines.{Cut}
use Rattle.bh_look.specs.Objects.{objects_of}
use Rattle.bh_look.specs.Rows.{RowSaid}
use Rattle.bh_look.specs.Summaries.{summary_rows}
use Rattle.bh_look.specs.Tables.{table_of}
use Rattle.bh_look.specs.declared.table.TimesTold.{TimesTold}
use Rattle.bh_props.specs.SettingsView.{SettingsView}
use Rattle.bh_commands.specs.declared.summary.SummaryForm.{SummaryForm}
use Rattle.bh_commands.specs.declared.summary.SummaryForm.TheVariants.{Objects, Table}

-- rows with these times in a form; a table ends with how many lines there were, and how many of them were at fault
abbrev pub text_in : SummaryForm → List RowSaid → List TimesTold → ℕ → ℕ → List ℕ
text_in Table rows times lines faults = table_of rows times lines faults
text_in Objects rows times lines faults = objects_of rows times

-- the text has the rows in the form, each with some times, and some numbers of lines
pub record HasRows (form : SummaryForm) (rows : List RowSaid) (text : List ℕ) : Type 0 where
  pub times : List TimesTold
  pub lines : ℕ
  pub faults : ℕ
  pub count : length times ≡ length rows
  pub text_is : text ≡ text_in form rows times lines faults

-- a text was written that has all rows that the lines of a script come to
abbrev pub WritesSummary : SummaryForm → SettingsView → Cut → Option (List ℕ) → Option (List ℕ) → Type 0
WritesSummary form service c w0 w1 = (text : List ℕ) × HasRows form (summary_rows service c) text × Appends w0 w1 text
