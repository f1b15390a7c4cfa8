-- Runs that ended well took all lines.
use Rattle.std.proofs.Common.{◌≡◌, ◌∙◌, ℕ, List, Option, Some, None, Result, Ok, Err, IfSome, IsOk, ap, codes, length, map, subst, sym, true}
use Rattle.std.proofs.lemmas.List.{length-map}
use Rattle.std.specs.Prelude.{false, OnOk}
use Rattle.std.specs.Io.KnownBytes.{Appends}
use Rattle.bh_columns.specs.Named.{KeptRun, run_after}
use Rattle.bh_columns.specs.Recorded.{IsRecorded, RecordOutcome}
use Rattle.bh_columns.specs.declared.kept.Kept.{Kept}
use Rattle.bh_columns.specs.declared.selection.Selection.{Selection}
use Rattle.bh_draw.specs.Texts.{EndsIn}
use Rattle.bh_lines.specs.Lines.{cut, stops}
use Rattle.bh_lines.specs.declared.port_error.PortError.{PortError}
use Rattle.bh_look.specs.Objects.{objects_of}
use Rattle.bh_look.specs.Rows.{RowSaid, row_said, rows_of, tallies_in}
use Rattle.bh_look.specs.Scripts.{course_after, tally_of}
use Rattle.bh_look.specs.Summaries.{summary_rows}
use Rattle.bh_look.specs.Tables.{table_of}
use Rattle.bh_look.specs.Tallies.{no_tally}
use Rattle.bh_look.specs.Watched.{AllTallies, IsWatched, Lanes, WatchOutcome, tally_at}
use Rattle.bh_look.specs.declared.rows.Row.{Row}
use Rattle.bh_look.specs.declared.table.TimesTold.{TimesTold}
use Rattle.bh_look.proofs.Summaries.{rows_are}
use Rattle.bh_port.specs.Course.{Course, new_course}
use Rattle.bh_port.specs.GroupsView.{GroupsView}
use Rattle.bh_props.specs.SettingsView.{SettingsView}
use Rattle.bh_commands.specs.Status.{IsWhole, WritesPicture, WritesText}
use Rattle.bh_commands.specs.Summary.{HasRows, WritesSummary, text_in}
use Rattle.bh_commands.specs.declared.summary.SummaryForm.{SummaryForm}
use Rattle.bh_commands.specs.declared.summary.SummaryForm.TheVariants.{Objects, Table}

-- what holds of the lines, too, is let go
lines-whole : (i : Option (List ℕ)) (P : List ℕ → Type 0) → IfSome i (λ bytes. P bytes × (stops (cut bytes) ≡ false)) → IsWhole i
lines-whole None P o = tt
lines-whole (Some bytes) P o = o.1

-- of the lines that a picture is drawn from, where it is told that they ended well
pub recorded-whole : {E : Type 0} (i j : Option (List ℕ)) (service : SettingsView) (sel : Selection) (run : KeptRun) (groups : GroupsView) (kept : Kept) (r : Result (Unit {0}) PortError) (out : Result (Unit {0}) E)
    → i ≡ j → OnOk out (IsOk r) → IfSome i (λ bytes. RecordOutcome service sel run (cut bytes) groups kept r) → OnOk out (IsWhole j)
recorded-whole i j service sel run groups kept (Ok x) (Ok y) same is o =
    subst (λ (k : Option (List ℕ)). IsWhole k) same (lines-whole i (λ bytes. IsRecorded service sel groups kept (run_after service sel.from sel.to (cut bytes) run)) o)
recorded-whole i j service sel run groups kept (Err e) (Ok y) same is o = let no : false ≡ true = is in cc
recorded-whole i j service sel run groups kept r (Err e) same is o = tt

-- of the lines that a summary is of
pub watched-whole : (i j : Option (List ℕ)) (service : SettingsView) (before : Course) (l0 l1 : Lanes) (r : Result (Unit {0}) PortError)
    → i ≡ j → IfSome i (λ bytes. WatchOutcome service before (cut bytes) l0 l1 r) → OnOk r (IsWhole j)
watched-whole i j service before l0 l1 (Ok x) same o =
    subst (λ (k : Option (List ℕ)). IsWhole k) same (lines-whole i (λ bytes. AllTallies service before (cut bytes) l0 l1) o)
watched-whole i j service before l0 l1 (Err e) same o = tt

-- a text that was written to a writer that was watched, whatever the lines ended with
pub text-written : (w0 v0 w1 v1 : Option (List ℕ)) (bytes : List ℕ) (r : Result (Unit {0}) PortError) → w0 ≡ v0 → w1 ≡ v1 → Appends w0 w1 bytes → OnOk r (WritesText v0 v1)
text-written w0 v0 w1 v1 bytes (Ok x) before after wrote =
    (bytes, subst (λ (v : Option (List ℕ)). Appends v v1 bytes) before (subst (λ (v : Option (List ℕ)). Appends w0 v bytes) after wrote))
text-written w0 v0 w1 v1 bytes (Err e) before after wrote = tt

-- a picture that was written to a writer that was watched
pub drawn-picture : (w0 v0 w1 v1 : Option (List ℕ)) (bytes picture : List ℕ) → w0 ≡ v0 → w1 ≡ v1 → bytes ≡ picture → EndsIn (codes "</svg>\n") picture → Appends w0 w1 bytes → WritesPicture v0 v1
drawn-picture w0 v0 w1 v1 bytes picture before after same ends wrote = (
  picture,
  ends,
  subst (λ (v : Option (List ℕ)). Appends v v1 picture) before
      (subst (λ (v : Option (List ℕ)). Appends w0 v picture) after
      (subst (λ (ys : List ℕ). Appends w0 w1 ys) same wrote)),
)

-- the text of a table
pub has_table : (form : SummaryForm) (rows : List Row) (text : List ℕ) (times : List TimesTold) (lines faults : ℕ) → form ≡ Table → length times ≡ length rows
    → text ≡ table_of (map row_said rows) times lines faults → HasRows form (map row_said rows) text
has_table form rows text times lines faults is count text_is = record {
  times = times;
  lines = lines;
  faults = faults;
  count = count ∙ sym (length-map rows row_said);
  text_is = text_is ∙ ap (λ f. text_in f (map row_said rows) times lines faults) (sym is);
}

-- the text of objects
pub has_objects : (form : SummaryForm) (rows : List Row) (text : List ℕ) (times : List TimesTold) → form ≡ Objects → length times ≡ length rows
    → text ≡ objects_of (map row_said rows) times → HasRows form (map row_said rows) text
has_objects form rows text times is count text_is = record {
  times = times;
  lines = 0;
  faults = 0;
  count = count ∙ sym (length-map rows row_said);
  text_is = text_is ∙ ap (λ f. text_in f (map row_said rows) times 0 0) (sym is);
}

-- a summary that was written, where all lines were taken
pub summary-written : (i j w0 v0 w1 v1 : Option (List ℕ)) (form : SummaryForm) (service : SettingsView) (rows : List Row) (g0 groups : GroupsView) (l0 lanes : Lanes) (text : List ℕ) (r : Result (Unit {0}) PortError)
    → i ≡ j → w0 ≡ v0 → w1 ≡ v1 → map row_said rows ≡ rows_of service groups.entries (tallies_in lanes) → ((g k : ℕ) → tally_at l0 g k ≡ no_tally) → IsWatched service g0 l0 (new_course service)
    → OnOk r ((before : Course) → IsWatched service g0 l0 before → IfSome i (λ input. IsWatched service groups lanes (course_after service before (cut input))))
    → IfSome i (λ input. WatchOutcome service (new_course service) (cut input) l0 lanes r)
    → HasRows form (map row_said rows) text → Appends w0 w1 text → OnOk r (IfSome j (λ input. WritesSummary form service (cut input) v0 v1))
summary-written i j w0 v0 w1 v1 form service rows g0 groups l0 lanes text (Err e) same before after are none new watched outcome has wrote = tt
summary-written i j w0 v0 w1 v1 form service rows g0 groups l0 lanes text (Ok x) same before after are none new watched outcome has wrote =
    subst (λ (k : Option (List ℕ)). IfSome k (λ input. WritesSummary form service (cut input) v0 v1)) same (all i (watched (new_course service) new) outcome)
  where
    appended : Appends v0 v1 text
    appended = subst (λ (v : Option (List ℕ)). Appends v v1 text) before (subst (λ (v : Option (List ℕ)). Appends w0 v text) after wrote)

    all : (k : Option (List ℕ)) → IfSome k (λ input. IsWatched service groups lanes (course_after service (new_course service) (cut input)))
        → IfSome k (λ input. WatchOutcome service (new_course service) (cut input) l0 lanes (Ok x)) → IfSome k (λ input. WritesSummary form service (cut input) v0 v1)
    all None w o = tt
    all (Some input) w o =
        let are_all : map row_said rows ≡ summary_rows service (cut input) =
        rows_are service groups lanes rows (cut input) w (λ g k. o.0 g k ∙ ap (tally_of service (new_course service) (cut input) g k) (none g k)) are in
        (text, subst (λ (rs : List RowSaid). HasRows form rs text) are_all has, appended)
