-- A run of a script, from the reader's first byte to its last.
use Rattle.std.proofs.Common.{◌≡◌, ℕ, false, List, [], ◌++◌, Option, Some, None, Result, Err, IfSome, refl, sym, ◌∙◌, subst, ap, append-nil, append_assoc}
use Rattle.std.proofs.KnownBytes.{Appends-trans}
use Rattle.std.specs.Io.KnownBytes.{Keeps, Consumes, IsAtEnd}
use Rattle.bh_port.specs.GroupsView.{GroupsView}
use Rattle.bh_lines.specs.declared.port_error.PortError.{PortError}
use Rattle.bh_lines.specs.declared.port_error.PortError.TheVariants.{Read, Write, Line, Memory}
use Rattle.bh_lines.specs.Lines.{cut, stops, has_line}
use Rattle.bh_streams.specs.Watched.{WritesFront}
use Rattle.bh_port.specs.Text.{text}
use Rattle.bh_port.specs.Course.{Course, new_course}
use Rattle.bh_port.specs.Script.{GroupsShow, ScriptAnswered, ScriptHasAnswered, ScriptOutcome, IsMemoryOrRead}
use Rattle.bh_streams.proofs.Fronts.{whole-front}
use Rattle.bh_port.proofs.Answering.{answered-none, outcome-after}
use Rattle.bh_props.specs.SettingsView.{SettingsView}

-- what was written for `all` while `left` and the buffer are left of it
pub record Underway (all left : List ℕ) (w0 w1 : Option (List ℕ)) (service : SettingsView) (groups : GroupsView) (buffer : List ℕ) : Type 0 where
  pub read : List ℕ
  pub all_is : all ≡ read ++ left
  pub answered : ScriptAnswered w0 w1 service (new_course service) groups read buffer

-- the same of a reader whose bytes may not be known
abbrev pub Progress : Option (List ℕ) → Option (List ℕ) → Option (List ℕ) → Option (List ℕ) → SettingsView → GroupsView → List ℕ → Type 0
Progress None now w0 w1 service groups buffer = (before : Course) × GroupsShow service groups before
Progress (Some all) None w0 w1 service groups buffer = ⊥
Progress (Some all) (Some left) w0 w1 service groups buffer = Underway all left w0 w1 service groups buffer

-- nothing was read or written yet
pub progress-start : (all w : Option (List ℕ)) (service : SettingsView) (groups : GroupsView) → GroupsShow service groups (new_course service) → Progress all all w w service groups []
progress-start None w service groups agrees = (new_course service, agrees)
progress-start (Some all) w service groups agrees = record { read = []; all_is = refl; answered = answered-none w service (new_course service) groups [] agrees }

-- the lines that had ended were answered, and the answers written
pub progress-lines : (all now w0 w1 w2 : Option (List ℕ)) (service : SettingsView) (was groups : GroupsView) (old new : List ℕ) → Progress all now w0 w1 service was old
    → ((before : Course) → GroupsShow service was before → ScriptAnswered w1 w2 service before groups old new) → Progress all now w0 w2 service groups new
progress-lines None now w0 w1 w2 service was groups old new p answers = let a = answers p.0 p.1 in (a.later, a.agrees)
progress-lines (Some all) None w0 w1 w2 service was groups old new p answers = absurd p
progress-lines (Some all) (Some left) w0 w1 w2 service was groups old new p answers =
    let done = p.answered in
    let a = answers done.later done.agrees in record {
      read = p.read;
      all_is = p.all_is;
      answered = record {
        out = done.out ++ a.out;
        later = a.later;
        agrees = a.agrees;
        wrote = Appends-trans w0 w1 w2 _ _ done.wrote a.wrote;
        text_is = λ more. done.text_is more ∙ ap (λ ys. done.out ++ ys) (a.text_is more) ∙ sym (append_assoc done.out a.out _);
        stops_is = λ more. done.stops_is more ∙ a.stops_is more;
      };
    }

-- a piece more was read
pub progress-read : (all now next w0 w1 : Option (List ℕ)) (service : SettingsView) (groups : GroupsView) (old new piece : List ℕ) → Progress all now w0 w1 service groups old → Consumes now next piece → new ≡ old ++ piece
    → Progress all next w0 w1 service groups new
progress-read None now next w0 w1 service groups old new piece p r e = p
progress-read (Some all) None next w0 w1 service groups old new piece p r e = absurd p
progress-read (Some all) (Some left) None w0 w1 service groups old new piece p r e = absurd r
progress-read (Some all) (Some left) (Some rest) w0 w1 service groups old new piece p r e =
    let done = p.answered in
    let same : (more : List ℕ) → old ++ (piece ++ more) ≡ new ++ more = λ more. sym (append_assoc old piece more) ∙ ap (λ ys. ys ++ more) (sym e) in record {
      read = p.read ++ piece;
      all_is = p.all_is ∙ (ap (λ ys. p.read ++ ys) r ∙ sym (append_assoc p.read piece rest));
      answered = record {
        out = done.out;
        later = done.later;
        agrees = done.agrees;
        wrote = done.wrote;
        text_is = λ more.
            ap (λ ys. text service (new_course service) (cut ys)) (append_assoc p.read piece more) ∙ done.text_is (piece ++ more)
            ∙ ap (λ ys. done.out ++ text service done.later (cut ys)) (same more);
        stops_is = λ more. ap (λ ys. stops (cut ys)) (append_assoc p.read piece more) ∙ done.stops_is (piece ++ more) ∙ ap (λ ys. stops (cut ys)) (same more);
      };
    }

-- what is written for all, and what is left to write
all-text : (all left : List ℕ) (w0 w1 : Option (List ℕ)) (service : SettingsView) (groups : GroupsView) (buffer : List ℕ) → (p : Underway all left w0 w1 service groups buffer)
    → text service (new_course service) (cut all) ≡ p.answered.out ++ text service p.answered.later (cut (buffer ++ left))
all-text all left w0 w1 service groups buffer p = ap (λ ys. text service (new_course service) (cut ys)) p.all_is ∙ p.answered.text_is left

all-stops : (all left : List ℕ) (w0 w1 : Option (List ℕ)) (service : SettingsView) (groups : GroupsView) (buffer : List ℕ) → Underway all left w0 w1 service groups buffer
    → stops (cut all) ≡ stops (cut (buffer ++ left))
all-stops all left w0 w1 service groups buffer p = ap (λ ys. stops (cut ys)) p.all_is ∙ p.answered.stops_is left

-- the run stops whatever bytes follow
pub progress-stops : (all now w0 w1 w2 : Option (List ℕ)) (service : SettingsView) (groups : GroupsView) (buffer : List ℕ) (r : Result (Unit {0}) PortError)
    → Progress all now w0 w1 service groups buffer → ((before : Course) (more : List ℕ) → GroupsShow service groups before → ScriptOutcome w1 w2 service before (cut (buffer ++ more)) r)
    → IfSome all (λ input. ScriptOutcome w0 w2 service (new_course service) (cut input) r)
progress-stops None now w0 w1 w2 service groups buffer r p o = tt
progress-stops (Some all) None w0 w1 w2 service groups buffer r p o = absurd p
progress-stops (Some all) (Some left) w0 w1 w2 service groups buffer r p o =
    let done = p.answered in
    outcome-after w0 w1 w2 service done.out (new_course service) done.later _ _ r done.wrote (all-text all left w0 w1 service groups buffer p) (all-stops all left w0 w1 service groups buffer p) (o done.later left done.agrees)

-- the run stops where the input ends
pub progress-ends : (all now w0 w1 w2 : Option (List ℕ)) (service : SettingsView) (groups : GroupsView) (buffer : List ℕ) (r : Result (Unit {0}) PortError)
    → Progress all now w0 w1 service groups buffer → IsAtEnd now → ((before : Course) → GroupsShow service groups before → ScriptOutcome w1 w2 service before (cut buffer) r)
    → IfSome all (λ input. ScriptOutcome w0 w2 service (new_course service) (cut input) r)
progress-ends None now w0 w1 w2 service groups buffer r p e o = tt
progress-ends (Some all) None w0 w1 w2 service groups buffer r p e o = absurd p
progress-ends (Some all) (Some left) w0 w1 w2 service groups buffer r p e o =
    let same : buffer ≡ buffer ++ left = sym (append-nil buffer) ∙ ap (λ ys. buffer ++ ys) (sym e) in
    let done = p.answered in
    outcome-after w0 w1 w2 service done.out (new_course service) done.later _ _ r done.wrote (all-text all left w0 w1 service groups buffer p) (all-stops all left w0 w1 service groups buffer p)
    (subst (λ (ys : List ℕ). ScriptOutcome w1 w2 service done.later (cut ys) r) same (o done.later done.agrees))

-- the run is given up
pub progress-front : (all now w0 w1 : Option (List ℕ)) (service : SettingsView) (groups : GroupsView) (buffer : List ℕ) (e : PortError)
    → Progress all now w0 w1 service groups buffer → IsMemoryOrRead e → IfSome all (λ input. ScriptOutcome w0 w1 service (new_course service) (cut input) (Err e))
progress-front None now w0 w1 service groups buffer e p kind = tt
progress-front (Some all) None w0 w1 service groups buffer e p kind = absurd p
progress-front (Some all) (Some left) w0 w1 service groups buffer e p kind =
    let front : WritesFront w0 w1 (text service (new_course service) (cut all)) = subst (λ (ys : List ℕ). WritesFront w0 w1 ys) (sym (all-text all left w0 w1 service groups buffer p)) (whole-front w0 w1 p.answered.out _ p.answered.wrote) in
    elim e as (λ k. IsMemoryOrRead k → ScriptOutcome w0 w1 service (new_course service) (cut all) (Err k)) [
      | Line ↦ λ none. absurd none
      | Memory ↦ λ _. front
      | Read ↦ λ _. front
      | Write ↦ λ none. absurd none
    ] kind

-- the reader fails, and all lines that had ended are answered
pub progress-failed : (all now next w0 w1 : Option (List ℕ)) (service : SettingsView) (groups : GroupsView) (buffer : List ℕ)
    → Progress all now w0 w1 service groups buffer → Keeps now next → has_line buffer ≡ false → ScriptHasAnswered all next w0 w1 service
progress-failed None now next w0 w1 service groups buffer p same none = tt
progress-failed (Some all) None next w0 w1 service groups buffer p same none = absurd p
progress-failed (Some all) (Some left) None w0 w1 service groups buffer p same none = absurd same
progress-failed (Some all) (Some left) (Some rest) w0 w1 service groups buffer p same none = record {
  read = p.read;
  kept = buffer;
  groups = groups;
  input_is = p.all_is ∙ ap (λ ys. p.read ++ ys) (sym same);
  answered = p.answered;
  no_line = none;
}
