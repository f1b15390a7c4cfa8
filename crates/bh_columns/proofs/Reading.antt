-- A run whose columns are kept, from the reader's first byte to its last.
use Rattle.std.proofs.Common.{◌≡◌, ℕ, false, List, [], ◌++◌, Option, Some, None, Result, Err, IfSome, refl, sym, ◌∙◌, subst, ap, append-nil, append_assoc}
use Rattle.std.specs.Io.KnownBytes.{Consumes, IsAtEnd, Keeps}
use Rattle.bh_lines.specs.declared.port_error.PortError.{PortError}
use Rattle.bh_lines.specs.declared.port_error.PortError.TheVariants.{Read, Write, Line, Memory}
use Rattle.bh_lines.specs.Lines.{cut, has_line, stops}
use Rattle.bh_port.specs.GroupsView.{GroupsView}
use Rattle.bh_port.specs.Script.{IsMemoryOrRead}
use Rattle.bh_props.specs.SettingsView.{SettingsView}
use Rattle.bh_columns.specs.Named.{KeptRun, run_after}
use Rattle.bh_columns.specs.Recorded.{HasRecorded, IsRecorded, RecordOutcome, RecordedUpTo}
use Rattle.bh_columns.specs.declared.kept.Kept.{Kept}
use Rattle.bh_columns.specs.declared.selection.Selection.{Selection}
use Rattle.bh_columns.proofs.Taking.{outcome_after, taken_none, taken_then}

-- what was taken of `all` while `left` and the buffer are left of it
pub record Underway (service : SettingsView) (sel : Selection) (run : KeptRun) (all left : List ℕ) (groups : GroupsView) (kept : Kept) (buffer : List ℕ) : Type 0 where
  pub read : List ℕ
  pub all_is : all ≡ read ++ left
  pub taken : RecordedUpTo service sel run groups kept read buffer

-- the same of a reader whose bytes may not be known
abbrev pub Progress : SettingsView → Selection → KeptRun → Option (List ℕ) → Option (List ℕ) → GroupsView → Kept → List ℕ → Type 0
Progress service sel run None now groups kept buffer = (later : KeptRun) × IsRecorded service sel groups kept later
Progress service sel run (Some all) None groups kept buffer = ⊥
Progress service sel run (Some all) (Some left) groups kept buffer = Underway service sel run all left groups kept buffer

module _ (service : SettingsView) (sel : Selection) (run : KeptRun) where
  -- nothing was read yet
  pub progress_start : (all : Option (List ℕ)) (groups : GroupsView) (kept : Kept) → IsRecorded service sel groups kept run → Progress service sel run all all groups kept []
  progress_start None groups kept recorded = (run, recorded)
  progress_start (Some all) groups kept recorded = record { read = []; all_is = refl; taken = taken_none service sel groups kept run [] recorded }

  -- the lines that had ended were taken
  pub progress_lines : (all now : Option (List ℕ)) (was groups : GroupsView) (mid new : Kept) (buffer left : List ℕ) → Progress service sel run all now was mid buffer
      → ((later : KeptRun) → IsRecorded service sel was mid later → RecordedUpTo service sel later groups new buffer left) → Progress service sel run all now groups new left
  progress_lines None now was groups mid new buffer left p takes = let a = takes p.0 p.1 in (a.later, a.recorded)
  progress_lines (Some all) None was groups mid new buffer left p takes = absurd p
  progress_lines (Some all) (Some rest) was groups mid new buffer left p takes =
      record { read = p.read; all_is = p.all_is; taken = taken_then service sel was groups mid new run p.read buffer left p.taken takes }

  -- a piece more was read
  pub progress_read : (all now next : Option (List ℕ)) (groups : GroupsView) (kept : Kept) (buffer more piece : List ℕ) → Progress service sel run all now groups kept buffer → Consumes now next piece → more ≡ buffer ++ piece
      → Progress service sel run all next groups kept more
  progress_read None now next groups kept buffer more piece p r e = p
  progress_read (Some all) None next groups kept buffer more piece p r e = absurd p
  progress_read (Some all) (Some left) None groups kept buffer more piece p r e = absurd r
  progress_read (Some all) (Some left) (Some rest) groups kept buffer more piece p r e =
      let done = p.taken in
      let same : (ys : List ℕ) → buffer ++ (piece ++ ys) ≡ more ++ ys = λ ys. sym (append_assoc buffer piece ys) ∙ ap (λ zs. zs ++ ys) (sym e) in record {
        read = p.read ++ piece;
        all_is = p.all_is ∙ (ap (λ ys. p.read ++ ys) r ∙ sym (append_assoc p.read piece rest));
        taken = record {
          later = done.later;
          recorded = done.recorded;
          run_is = λ ys.
              ap (λ zs. run_after service sel.from sel.to (cut zs) run) (append_assoc p.read piece ys) ∙ done.run_is (piece ++ ys)
              ∙ ap (λ zs. run_after service sel.from sel.to (cut zs) done.later) (same ys);
          stops_is = λ ys. ap (λ zs. stops (cut zs)) (append_assoc p.read piece ys) ∙ done.stops_is (piece ++ ys) ∙ ap (λ zs. stops (cut zs)) (same ys);
        };
      }

  -- the run stops whatever bytes follow
  pub progress_stops : (all now : Option (List ℕ)) (was groups : GroupsView) (mid new : Kept) (buffer : List ℕ) (r : Result (Unit {0}) PortError)
      → Progress service sel run all now was mid buffer → ((later : KeptRun) (more : List ℕ) → IsRecorded service sel was mid later → RecordOutcome service sel later (cut (buffer ++ more)) groups new r)
      → IfSome all (λ input. RecordOutcome service sel run (cut input) groups new r)
  progress_stops None now was groups mid new buffer r p o = tt
  progress_stops (Some all) None was groups mid new buffer r p o = absurd p
  progress_stops (Some all) (Some left) was groups mid new buffer r p o =
      outcome_after service sel groups new run p.taken.later _ _ r
      (ap (λ ys. run_after service sel.from sel.to (cut ys) run) p.all_is ∙ p.taken.run_is left)
      (ap (λ ys. stops (cut ys)) p.all_is ∙ p.taken.stops_is left)
      (o p.taken.later left p.taken.recorded)

  -- the run stops where the input ends
  pub progress_ends : (all now : Option (List ℕ)) (was groups : GroupsView) (mid new : Kept) (buffer : List ℕ) (r : Result (Unit {0}) PortError)
      → Progress service sel run all now was mid buffer → IsAtEnd now → ((later : KeptRun) → IsRecorded service sel was mid later → RecordOutcome service sel later (cut buffer) groups new r)
      → IfSome all (λ input. RecordOutcome service sel run (cut input) groups new r)
  progress_ends None now was groups mid new buffer r p e o = tt
  progress_ends (Some all) None was groups mid new buffer r p e o = absurd p
  progress_ends (Some all) (Some left) was groups mid new buffer r p e o =
      let same : buffer ≡ buffer ++ left = sym (append-nil buffer) ∙ ap (λ ys. buffer ++ ys) (sym e) in
      outcome_after service sel groups new run p.taken.later _ _ r
      (ap (λ ys. run_after service sel.from sel.to (cut ys) run) p.all_is ∙ p.taken.run_is left)
      (ap (λ ys. stops (cut ys)) p.all_is ∙ p.taken.stops_is left)
      (subst (λ (ys : List ℕ). RecordOutcome service sel p.taken.later (cut ys) groups new r) same (o p.taken.later p.taken.recorded))

  -- the run is given up
  pub nothing_said : (all : Option (List ℕ)) (groups : GroupsView) (new : Kept) (e : PortError) → IsMemoryOrRead e → IfSome all (λ input. RecordOutcome service sel run (cut input) groups new (Err e))
  nothing_said None groups new e kind = tt
  nothing_said (Some all) groups new Line kind = absurd kind
  nothing_said (Some all) groups new Memory kind = tt
  nothing_said (Some all) groups new Read kind = tt
  nothing_said (Some all) groups new Write kind = tt

  -- the reader fails, and all lines that had ended were taken
  pub progress_failed : (all now next : Option (List ℕ)) (groups : GroupsView) (kept : Kept) (buffer : List ℕ) → Progress service sel run all now groups kept buffer → Keeps now next → has_line buffer ≡ false
      → HasRecorded all next service sel run groups kept
  progress_failed None now next groups kept buffer p same none = tt
  progress_failed (Some all) None next groups kept buffer p same none = absurd p
  progress_failed (Some all) (Some left) None groups kept buffer p same none = absurd same
  progress_failed (Some all) (Some left) (Some rest) groups kept buffer p same none =
      record { read = p.read; rest = buffer; input_is = p.all_is ∙ ap (λ ys. p.read ++ ys) (sym same); taken = p.taken; no_line = none }
