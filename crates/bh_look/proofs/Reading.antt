-- A run that is watched, from the reader's first byte to its last.
use Rattle.std.proofs.Common.{◌≡◌, ℕ, false, List, [], ◌++◌, Option, Some, None, Result, Ok, Err, IfErr, IfSome, refl, sym, ◌∙◌, subst, ap, append-nil, append_assoc}
use Rattle.std.specs.Io.KnownBytes.{Consumes, IsAtEnd, Keeps}
use Rattle.bh_lines.specs.declared.port_error.PortError.{PortError}
use Rattle.bh_lines.specs.declared.port_error.PortError.TheVariants.{Read, Write, Line, Memory}
use Rattle.bh_lines.specs.Lines.{cut, has_line, stops}
use Rattle.bh_lines.specs.Taken.{IsMemoryOrLine}
use Rattle.bh_port.specs.Course.{Course}
use Rattle.bh_port.specs.GroupsView.{GroupsView}
use Rattle.bh_port.specs.Script.{IsMemoryOrRead}
use Rattle.bh_props.specs.SettingsView.{SettingsView}
use Rattle.bh_look.specs.Scripts.{course_after, tally_of}
use Rattle.bh_look.specs.Watched.{HasWatched, IsWatched, Lanes, TakenUpTo, WatchOutcome, tally_at}
use Rattle.bh_look.proofs.Taking.{outcome-after, taken-none, taken-then}

-- what was taken of `all` while `left` and the buffer are left of it
pub record Underway (service : SettingsView) (before : Course) (all left : List ℕ) (groups : GroupsView) (l0 l1 : Lanes) (buffer : List ℕ) : Type 0 where
  pub read : List ℕ
  pub all_is : all ≡ read ++ left
  pub taken : TakenUpTo service before groups l0 l1 read buffer

-- the same of a reader whose bytes may not be known
abbrev pub Progress : SettingsView → Course → Option (List ℕ) → Option (List ℕ) → GroupsView → Lanes → Lanes → List ℕ → Type 0
Progress service before None now groups l0 l1 buffer = (later : Course) × IsWatched service groups l1 later
Progress service before (Some all) None groups l0 l1 buffer = ⊥
Progress service before (Some all) (Some left) groups l0 l1 buffer = Underway service before all left groups l0 l1 buffer

-- nothing was read yet
pub progress-start : (service : SettingsView) (before : Course) (all : Option (List ℕ)) (groups : GroupsView) (lanes : Lanes) → IsWatched service groups lanes before → Progress service before all all groups lanes lanes []
progress-start service before None groups lanes watched = (before, watched)
progress-start service before (Some all) groups lanes watched = record { read = []; all_is = refl; taken = taken-none service before groups lanes [] watched }

-- the lines that had ended were taken
pub progress-lines : (service : SettingsView) (before : Course) (all now : Option (List ℕ)) (was groups : GroupsView) (l0 l1 l2 : Lanes) (old new : List ℕ) → Progress service before all now was l0 l1 old
    → ((later : Course) → IsWatched service was l1 later → TakenUpTo service later groups l1 l2 old new) → Progress service before all now groups l0 l2 new
progress-lines service before None now was groups l0 l1 l2 old new p takes = let a = takes p.0 p.1 in (a.later, a.watched)
progress-lines service before (Some all) None was groups l0 l1 l2 old new p takes = absurd p
progress-lines service before (Some all) (Some left) was groups l0 l1 l2 old new p takes =
    record { read = p.read; all_is = p.all_is; taken = taken-then service before was groups l0 l1 l2 p.read old new p.taken takes }

-- a piece more was read
pub progress-read : (service : SettingsView) (before : Course) (all now next : Option (List ℕ)) (groups : GroupsView) (l0 l1 : Lanes) (old new piece : List ℕ) → Progress service before all now groups l0 l1 old → Consumes now next piece → new ≡ old ++ piece
    → Progress service before all next groups l0 l1 new
progress-read service before None now next groups l0 l1 old new piece p r e = p
progress-read service before (Some all) None next groups l0 l1 old new piece p r e = absurd p
progress-read service before (Some all) (Some left) None groups l0 l1 old new piece p r e = absurd r
progress-read service before (Some all) (Some left) (Some rest) groups l0 l1 old new piece p r e =
    let done = p.taken in
    let same : (more : List ℕ) → old ++ (piece ++ more) ≡ new ++ more = λ more. sym (append_assoc old piece more) ∙ ap (λ ys. ys ++ more) (sym e) in record {
      read = p.read ++ piece;
      all_is = p.all_is ∙ (ap (λ ys. p.read ++ ys) r ∙ sym (append_assoc p.read piece rest));
      taken = record {
        later = done.later;
        watched = done.watched;
        course_is = λ more.
            ap (λ ys. course_after service before (cut ys)) (append_assoc p.read piece more) ∙ done.course_is (piece ++ more) ∙ ap (λ ys. course_after service done.later (cut ys)) (same more);
        tallies = λ g k more.
            ap (λ ys. tally_of service before (cut ys) g k (tally_at l0 g k)) (append_assoc p.read piece more) ∙ done.tallies g k (piece ++ more)
            ∙ ap (λ ys. tally_of service done.later (cut ys) g k (tally_at l1 g k)) (same more);
        stops_is = λ more. ap (λ ys. stops (cut ys)) (append_assoc p.read piece more) ∙ done.stops_is (piece ++ more) ∙ ap (λ ys. stops (cut ys)) (same more);
      };
    }

-- the run stops whatever bytes follow
pub progress-stops : (service : SettingsView) (before : Course) (all now : Option (List ℕ)) (groups : GroupsView) (l0 l1 l2 : Lanes) (buffer : List ℕ) (r : Result (Unit {0}) PortError)
    → Progress service before all now groups l0 l1 buffer → ((later : Course) (more : List ℕ) → IsWatched service groups l1 later → WatchOutcome service later (cut (buffer ++ more)) l1 l2 r)
    → IfSome all (λ input. WatchOutcome service before (cut input) l0 l2 r)
progress-stops service before None now groups l0 l1 l2 buffer r p o = tt
progress-stops service before (Some all) None groups l0 l1 l2 buffer r p o = absurd p
progress-stops service before (Some all) (Some left) groups l0 l1 l2 buffer r p o =
    outcome-after service before p.taken.later l0 l1 l2 _ _ r
    (λ g k. ap (λ ys. tally_of service before (cut ys) g k (tally_at l0 g k)) p.all_is ∙ p.taken.tallies g k left)
    (ap (λ ys. stops (cut ys)) p.all_is ∙ p.taken.stops_is left)
    (o p.taken.later left p.taken.watched)

-- the run stops where the input ends
pub progress-ends : (service : SettingsView) (before : Course) (all now : Option (List ℕ)) (groups : GroupsView) (l0 l1 l2 : Lanes) (buffer : List ℕ) (r : Result (Unit {0}) PortError)
    → Progress service before all now groups l0 l1 buffer → IsAtEnd now → ((later : Course) → IsWatched service groups l1 later → WatchOutcome service later (cut buffer) l1 l2 r)
    → IfSome all (λ input. WatchOutcome service before (cut input) l0 l2 r)
progress-ends service before None now groups l0 l1 l2 buffer r p e o = tt
progress-ends service before (Some all) None groups l0 l1 l2 buffer r p e o = absurd p
progress-ends service before (Some all) (Some left) groups l0 l1 l2 buffer r p e o =
    let same : buffer ≡ buffer ++ left = sym (append-nil buffer) ∙ ap (λ ys. buffer ++ ys) (sym e) in
    outcome-after service before p.taken.later l0 l1 l2 _ _ r
    (λ g k. ap (λ ys. tally_of service before (cut ys) g k (tally_at l0 g k)) p.all_is ∙ p.taken.tallies g k left)
    (ap (λ ys. stops (cut ys)) p.all_is ∙ p.taken.stops_is left)
    (subst (λ (ys : List ℕ). WatchOutcome service p.taken.later (cut ys) l1 l2 r) same (o p.taken.later p.taken.watched))

-- the run up to where the input ends
pub progress-watched : (service : SettingsView) (before : Course) (all now : Option (List ℕ)) (was groups : GroupsView) (l0 l1 l2 : Lanes) (buffer : List ℕ)
    → Progress service before all now was l0 l1 buffer → IsAtEnd now → ((later : Course) → IsWatched service was l1 later → IsWatched service groups l2 (course_after service later (cut buffer)))
    → IfSome all (λ input. IsWatched service groups l2 (course_after service before (cut input)))
progress-watched service before None now was groups l0 l1 l2 buffer p e o = tt
progress-watched service before (Some all) None was groups l0 l1 l2 buffer p e o = absurd p
progress-watched service before (Some all) (Some left) was groups l0 l1 l2 buffer p e o =
    let same : buffer ≡ buffer ++ left = sym (append-nil buffer) ∙ ap (λ ys. buffer ++ ys) (sym e) in
    let is : course_after service before (cut all) ≡ course_after service p.taken.later (cut buffer) =
    ap (λ ys. course_after service before (cut ys)) p.all_is ∙ p.taken.course_is left ∙ ap (λ ys. course_after service p.taken.later (cut ys)) (sym same) in
    subst (IsWatched service groups l2) (sym is) (o p.taken.later p.taken.watched)

-- the run is given up
pub nothing-said : (service : SettingsView) (before : Course) (all : Option (List ℕ)) (l0 l1 : Lanes) (e : PortError) → IsMemoryOrRead e → IfSome all (λ input. WatchOutcome service before (cut input) l0 l1 (Err e))
nothing-said service before None l0 l1 e kind = tt
nothing-said service before (Some all) l0 l1 Line kind = absurd kind
nothing-said service before (Some all) l0 l1 Memory kind = tt
nothing-said service before (Some all) l0 l1 Read kind = tt
nothing-said service before (Some all) l0 l1 Write kind = tt

-- the reader fails, and all lines that had ended were taken
pub progress-failed : (service : SettingsView) (before : Course) (all now next : Option (List ℕ)) (groups : GroupsView) (l0 l1 : Lanes) (buffer : List ℕ)
    → Progress service before all now groups l0 l1 buffer → Keeps now next → has_line buffer ≡ false → HasWatched all next service before groups l0 l1
progress-failed service before None now next groups l0 l1 buffer p same none = tt
progress-failed service before (Some all) None next groups l0 l1 buffer p same none = absurd p
progress-failed service before (Some all) (Some left) None groups l0 l1 buffer p same none = absurd same
progress-failed service before (Some all) (Some left) (Some rest) groups l0 l1 buffer p same none =
    record { read = p.read; rest = buffer; input_is = p.all_is ∙ ap (λ ys. p.read ++ ys) (sym same); taken = p.taken; no_line = none }

-- ---- which error is answered

-- what a line or want of memory ends is ended by no read
pub not-read : (r : Result (Unit {0}) PortError) → IfErr r IsMemoryOrLine → ¬ (r ≡ Err Read)
not-read (Ok x) kind same = cc
not-read (Err Line) kind same = let k : Line ≡ Read = cc in cc
not-read (Err Memory) kind same = let k : Memory ≡ Read = cc in cc
not-read (Err Read) kind same = kind
not-read (Err Write) kind same = kind

-- so where its error is passed on
pub passed-not-read : (r : Result (Unit {0}) PortError) (e : PortError) → r ≡ Err e → IsMemoryOrLine e → ¬ (r ≡ Err Read)
passed-not-read r e is kind same = not-read (Err e) kind (sym is ∙ same)

-- an error that is passed on is the one that was answered
pub error-is : (r : Result (Unit {0}) PortError) (x e k : PortError) → r ≡ Err x → x ≡ e → r ≡ Err k → e ≡ k
error-is r x e k made is same = cc

pub passed-on : {T : Type 0} (r : Result (Unit {0}) PortError) (f : Result T PortError) (x e k : PortError) → r ≡ Err x → x ≡ e → f ≡ Err e → f ≡ Err k → r ≡ Err k
passed-on r f x e k made is was same = (let one : e ≡ k = cc in made ∙ ap Err (is ∙ one))
