-- Lines whose columns are kept, from the bytes that had come to those that are left.
use Rattle.std.proofs.Common.{◌≡◌, ℕ, List, drop, ◌++◌, Option, Some, None, Result, Ok, Err, String, string_bytes, refl, sym, ◌∙◌, subst, ap}
use Rattle.std.specs.declared.alloc.Global.{Global}
use Rattle.bh_lines.specs.declared.front.FrontLine.{FrontLine}
use Rattle.bh_lines.specs.declared.port_error.PortError.{PortError}
use Rattle.bh_lines.specs.declared.port_error.PortError.TheVariants.{Read, Write, Line, Memory}
use Rattle.bh_lines.specs.Front.{IsFront}
use Rattle.bh_lines.specs.Lines.{Cut, line, ended, stopped, cut, stops}
use Rattle.bh_lines.specs.Taken.{TakesLine as CutsLine, IsLast}
use Rattle.bh_port.specs.GroupsView.{GroupsView}
use Rattle.bh_props.specs.SettingsView.{SettingsView}
use Rattle.bh_columns.specs.Named.{KeptRun, run_after, run_with}
use Rattle.bh_columns.specs.Recorded.{IsRecorded, RecordOutcome, RecordedUpTo}
use Rattle.bh_columns.specs.declared.kept.Kept.{Kept}
use Rattle.bh_columns.specs.declared.selection.Selection.{Selection}

after_line : (service : SettingsView) (from to : ℕ) (bytes : List ℕ) (rest : Cut) (run : KeptRun) → run_after service from to (line bytes rest) run ≡ run_after service from to rest (run_with service from to bytes run)
unfolding run_after
after_line service from to bytes rest run = refl

after_ended : (service : SettingsView) (from to : ℕ) (run : KeptRun) → run_after service from to ended run ≡ run
unfolding run_after
after_ended service from to run = refl

after_stopped : (service : SettingsView) (from to : ℕ) (run : KeptRun) → run_after service from to stopped run ≡ run
unfolding run_after
after_stopped service from to run = refl

module _ (service : SettingsView) (sel : Selection) where
  abbrev after : Cut → KeptRun → KeptRun
  after c run = run_after service sel.from sel.to c run

  -- what a line does, whatever came before
  abbrev pub RecordsLine : GroupsView → Kept → List ℕ → GroupsView → Kept → Type 0
  RecordsLine was old bytes now new = (run : KeptRun) → IsRecorded service sel was old run → IsRecorded service sel now new (run_with service sel.from sel.to bytes run)

  -- no line was taken yet
  pub taken_none : (groups : GroupsView) (kept : Kept) (run : KeptRun) (old : List ℕ) → IsRecorded service sel groups kept run → RecordedUpTo service sel run groups kept old old
  taken_none groups kept run old recorded = record { later = run; recorded = recorded; run_is = λ more. refl; stops_is = λ more. refl }

  -- a line was taken
  taken_line : (now : GroupsView) (new : Kept) (run : KeptRun) (old left bytes : List ℕ) → ((more : List ℕ) → cut (old ++ more) ≡ line bytes (cut (left ++ more)))
      → IsRecorded service sel now new (run_with service sel.from sel.to bytes run) → RecordedUpTo service sel run now new old left
  taken_line now new run old left bytes taken did = record {
    later = run_with service sel.from sel.to bytes run;
    recorded = did;
    run_is = λ more. ap (λ c. after c run) (taken more) ∙ after_line service sel.from sel.to bytes (cut (left ++ more)) run;
    stops_is = λ more. ap stops (taken more);
  }

  -- lines were taken, and then those that follow them
  pub taken_then : (was now : GroupsView) (mid new : Kept) (run : KeptRun) (first then left : List ℕ)
      → RecordedUpTo service sel run was mid first then → ((later : KeptRun) → IsRecorded service sel was mid later → RecordedUpTo service sel later now new then left) → RecordedUpTo service sel run now new first left
  taken_then was now mid new run first then left done next =
      let a = next done.later done.recorded in
      record { later = a.later; recorded = a.recorded; run_is = λ more. done.run_is more ∙ a.run_is more; stops_is = λ more. done.stops_is more ∙ a.stops_is more }

  -- the line in front was taken from the bytes
  pub front_taken : (was now : GroupsView) (old new : Kept) (lent bytes left : List ℕ) (front : FrontLine) → lent ≡ bytes → IsFront lent (Some front) → RecordsLine was old front.text.now now new → left ≡ drop front.taken bytes
      → (run : KeptRun) → IsRecorded service sel was old run → RecordedUpTo service sel run now new bytes left
  front_taken was now old new lent bytes left front lends in_front does is run recorded =
      let next : IsFront bytes (Some front) = subst (λ (ys : List ℕ). IsFront ys (Some front)) lends in_front in
      subst (λ (ys : List ℕ). RecordedUpTo service sel run now new bytes ys) (sym is)
      (taken_line now new run bytes (drop front.taken bytes) front.text.now next.2 (does run recorded))

  -- the line that the codec cut was taken
  pub cut_taken : (was now : GroupsView) (old new : Kept) (first left : List ℕ) (found : Option (String Global)) (cut_off : String Global) (bytes : List ℕ)
      → found ≡ Some cut_off → CutsLine first (Ok found) left → bytes ≡ string_bytes cut_off → RecordsLine was old bytes now new
      → (run : KeptRun) → IsRecorded service sel was old run → RecordedUpTo service sel run now new first left
  cut_taken was now old new first left found cut_off bytes is taken spelt does run recorded =
      let took : CutsLine first (Ok (Some cut_off)) left = subst (λ (f : Option (String Global)). CutsLine first (Ok f) left) is taken in
      taken_line now new run first left (string_bytes cut_off) took.1 (subst (λ (ys : List ℕ). IsRecorded service sel now new (run_with service sel.from sel.to ys run)) spelt (does run recorded))

  -- no line has ended
  pub none_taken : (was : GroupsView) (kept : Kept) (first left : List ℕ) (found : Option (String Global)) → found ≡ None → CutsLine first (Ok found) left
      → (run : KeptRun) → IsRecorded service sel was kept run → RecordedUpTo service sel run was kept first left
  none_taken was kept first left found is taken run recorded =
      let none = subst (λ (f : Option (String Global)). CutsLine first (Ok f) left) is taken in
      subst (λ (ys : List ℕ). RecordedUpTo service sel run was kept first ys) (sym none.1) (taken_none was kept run first recorded)

  -- what is kept where no line follows
  none_follows : (groups : GroupsView) (kept : Kept) (run : KeptRun) (c : Cut) → after c run ≡ run → IsRecorded service sel groups kept run → IsRecorded service sel groups kept (after c run)
  none_follows groups kept run c nothing recorded = subst (IsRecorded service sel groups kept) (sym nothing) recorded

  -- the line in front is refused, or there was no memory for it
  pub refused_next : (groups : GroupsView) (kept : Kept) (run : KeptRun) (first left more : List ℕ) (e : PortError) → CutsLine first (Err e) left → IsRecorded service sel groups kept run → RecordOutcome service sel run (cut (first ++ more)) groups kept (Err e)
  refused_next groups kept run first left more Line refused recorded =
      (none_follows groups kept run (cut (first ++ more)) (ap (λ c. after c run) (refused more) ∙ after_stopped service sel.from sel.to run) recorded, ap stops (refused more))
  refused_next groups kept run first left more Memory refused recorded = tt
  refused_next groups kept run first left more Read refused recorded = tt
  refused_next groups kept run first left more Write refused recorded = tt

  -- what is kept of all lines, once some were taken
  pub outcome_after : (groups : GroupsView) (kept : Kept) (first later : KeptRun) (all rest : Cut) (r : Result (Unit {0}) PortError)
      → after all first ≡ after rest later → stops all ≡ stops rest → RecordOutcome service sel later rest groups kept r → RecordOutcome service sel first all groups kept r
  outcome_after groups kept first later all rest (Ok x) e s o = (subst (IsRecorded service sel groups kept) (sym e) o.0, s ∙ o.1)
  outcome_after groups kept first later all rest (Err Line) e s o = (subst (IsRecorded service sel groups kept) (sym e) o.0, s ∙ o.1)
  outcome_after groups kept first later all rest (Err Memory) e s o = tt
  outcome_after groups kept first later all rest (Err Read) e s o = tt
  outcome_after groups kept first later all rest (Err Write) e s o = tt

  -- lines were taken, and then the run stopped
  pub stopped_then : (was now : GroupsView) (mid new : Kept) (run : KeptRun) (first then more : List ℕ) (e : PortError)
      → RecordedUpTo service sel run was mid first then → ((later : KeptRun) (more : List ℕ) → IsRecorded service sel was mid later → RecordOutcome service sel later (cut (then ++ more)) now new (Err e))
      → RecordOutcome service sel run (cut (first ++ more)) now new (Err e)
  stopped_then was now mid new run first then more e done stops_then =
      outcome_after now new run done.later _ _ (Err e) (done.run_is more) (done.stops_is more) (stops_then done.later more done.recorded)

  -- the last line of an input
  pub last_found : (was now : GroupsView) (old new : Kept) (rest : List ℕ) (found : Option (String Global)) (cut_off : String Global) (bytes : List ℕ) (x : Unit {0})
      → found ≡ Some cut_off → IsLast rest (Ok found) → bytes ≡ string_bytes cut_off → RecordsLine was old bytes now new → (run : KeptRun) → IsRecorded service sel was old run
      → RecordOutcome service sel run (cut rest) now new (Ok x)
  last_found was now old new rest found cut_off bytes x is last spelt does run recorded =
      let cuts : cut rest ≡ line (string_bytes cut_off) ended = subst (λ (f : Option (String Global)). IsLast rest (Ok f)) is last in
      let is_line : cut rest ≡ line bytes ended = cuts ∙ ap (λ ys. line ys ended) (sym spelt) in
      let ends : after (cut rest) run ≡ run_with service sel.from sel.to bytes run = ap (λ c. after c run) is_line ∙ after_line service sel.from sel.to bytes ended run ∙ after_ended service sel.from sel.to (run_with service sel.from sel.to bytes run) in
      (subst (IsRecorded service sel now new) (sym ends) (does run recorded), ap stops is_line)

  -- there is no last line
  pub last_none : (groups : GroupsView) (kept : Kept) (run : KeptRun) (rest : List ℕ) (found : Option (String Global)) (x : Unit {0})
      → found ≡ None → IsLast rest (Ok found) → IsRecorded service sel groups kept run → RecordOutcome service sel run (cut rest) groups kept (Ok x)
  last_none groups kept run rest found x is last recorded =
      let is_end : cut rest ≡ ended = subst (λ (f : Option (String Global)). IsLast rest (Ok f)) is last in
      (none_follows groups kept run (cut rest) (ap (λ c. after c run) is_end ∙ after_ended service sel.from sel.to run) recorded, ap stops is_end)

  -- the last line is refused, or there was no memory for it
  pub last_refused : (groups : GroupsView) (kept : Kept) (run : KeptRun) (rest : List ℕ) (e : PortError) → IsLast rest (Err e) → IsRecorded service sel groups kept run → RecordOutcome service sel run (cut rest) groups kept (Err e)
  last_refused groups kept run rest Line last recorded =
      (none_follows groups kept run (cut rest) (ap (λ c. after c run) last ∙ after_stopped service sel.from sel.to run) recorded, ap stops last)
  last_refused groups kept run rest Memory last recorded = tt
  last_refused groups kept run rest Read last recorded = tt
  last_refused groups kept run rest Write last recorded = tt
