-- Lines that are taken, from the bytes that had come to those that are left.
use Rattle.std.proofs.Common.{◌≡◌, ℕ, List, drop, ◌++◌, Option, Some, None, Result, Ok, Err, String, string_bytes, refl, sym, ◌∙◌, subst, ap}
use Rattle.std.specs.declared.alloc.Global.{Global}
use Rattle.bh_lines.specs.declared.front.FrontLine.{FrontLine}
use Rattle.bh_lines.specs.declared.port_error.PortError.{PortError}
use Rattle.bh_lines.specs.declared.port_error.PortError.TheVariants.{Read, Write, Line, Memory}
use Rattle.bh_lines.specs.Front.{IsFront}
use Rattle.bh_lines.specs.Lines.{Cut, line, ended, stopped, cut, stops}
use Rattle.bh_lines.specs.Taken.{TakesLine as CutsLine, IsLast}
use Rattle.bh_port.specs.Course.{Course, line_act}
use Rattle.bh_port.specs.GroupsView.{GroupsView}
use Rattle.bh_port.specs.Text.{course_with}
use Rattle.bh_props.specs.SettingsView.{SettingsView}
use Rattle.bh_look.specs.declared.tally.Tally.{Tally}
use Rattle.bh_look.specs.Scripts.{course_after, tally_of, tally_said}
use Rattle.bh_look.specs.Watched.{AllTallies, IsWatched, Lanes, TakenUpTo, TakesLine, WatchOutcome, tally_at}

tally-line : (service : SettingsView) (course : Course) (bytes : List ℕ) (rest : Cut) (g k : ℕ) (t : Tally)
    → tally_of service course (line bytes rest) g k t ≡ tally_of service (course_with service course (line_act service course.entries bytes)) rest g k (tally_said service course (line_act service course.entries bytes) g k t)
unfolding tally_of
tally-line service course bytes rest g k t = refl

tally-ended : (service : SettingsView) (course : Course) (g k : ℕ) (t : Tally) → tally_of service course ended g k t ≡ t
unfolding tally_of
tally-ended service course g k t = refl

tally-stopped : (service : SettingsView) (course : Course) (g k : ℕ) (t : Tally) → tally_of service course stopped g k t ≡ t
unfolding tally_of
tally-stopped service course g k t = refl

course-line : (service : SettingsView) (course : Course) (bytes : List ℕ) (rest : Cut)
    → course_after service course (line bytes rest) ≡ course_after service (course_with service course (line_act service course.entries bytes)) rest
unfolding course_after
course-line service course bytes rest = refl

course-ended : (service : SettingsView) (course : Course) → course_after service course ended ≡ course
unfolding course_after
course-ended service course = refl

-- what a line does, whatever came before
abbrev pub DoesLine : SettingsView → GroupsView → List ℕ → GroupsView → Lanes → Lanes → Type 0
DoesLine service was bytes now l0 l1 = (before : Course) → IsWatched service was l0 before → TakesLine service before bytes now l0 l1

-- no line was taken yet
pub taken-none : (service : SettingsView) (before : Course) (groups : GroupsView) (lanes : Lanes) (old : List ℕ) → IsWatched service groups lanes before → TakenUpTo service before groups lanes lanes old old
taken-none service before groups lanes old watched = record {
  later = before;
  watched = watched;
  course_is = λ more. refl;
  tallies = λ g k more. refl;
  stops_is = λ more. refl;
}

-- a line was taken
taken-line : (service : SettingsView) (before : Course) (now : GroupsView) (l0 l1 : Lanes) (old new bytes : List ℕ)
    → ((more : List ℕ) → cut (old ++ more) ≡ line bytes (cut (new ++ more))) → TakesLine service before bytes now l0 l1 → TakenUpTo service before now l0 l1 old new
taken-line service before now l0 l1 old new bytes taken did = record {
  later = course_with service before (line_act service before.entries bytes);
  watched = did.watched;
  course_is = λ more. ap (course_after service before) (taken more) ∙ course-line service before bytes (cut (new ++ more));
  tallies = λ g k more.
      ap (λ c. tally_of service before c g k (tally_at l0 g k)) (taken more)
      ∙ tally-line service before bytes (cut (new ++ more)) g k (tally_at l0 g k)
      ∙ ap (λ t. tally_of service (course_with service before (line_act service before.entries bytes)) (cut (new ++ more)) g k t) (sym (did.tallies g k));
  stops_is = λ more. ap stops (taken more);
}

-- lines were taken, and then those that follow them
pub taken-then : (service : SettingsView) (before : Course) (was now : GroupsView) (l0 l1 l2 : Lanes) (old mid new : List ℕ)
    → TakenUpTo service before was l0 l1 old mid → ((later : Course) → IsWatched service was l1 later → TakenUpTo service later now l1 l2 mid new) → TakenUpTo service before now l0 l2 old new
taken-then service before was now l0 l1 l2 old mid new done next =
    let a = next done.later done.watched in record {
      later = a.later;
      watched = a.watched;
      course_is = λ more. done.course_is more ∙ a.course_is more;
      tallies = λ g k more. done.tallies g k more ∙ a.tallies g k more;
      stops_is = λ more. done.stops_is more ∙ a.stops_is more;
    }

-- the line in front was taken from the bytes
pub front-taken : (service : SettingsView) (was now : GroupsView) (l0 l1 : Lanes) (lent old new : List ℕ) (front : FrontLine)
    → lent ≡ old → IsFront lent (Some front) → DoesLine service was front.text.now now l0 l1 → new ≡ drop front.taken old
    → (before : Course) → IsWatched service was l0 before → TakenUpTo service before now l0 l1 old new
front-taken service was now l0 l1 lent old new front lends in_front does left before watched =
    let next : IsFront old (Some front) = subst (λ (ys : List ℕ). IsFront ys (Some front)) lends in_front in
    subst (λ (ys : List ℕ). TakenUpTo service before now l0 l1 old ys) (sym left)
    (taken-line service before now l0 l1 old (drop front.taken old) front.text.now next.2 (does before watched))

-- the line that the codec cut was taken
pub cut-taken : (service : SettingsView) (was now : GroupsView) (l0 l1 : Lanes) (old new : List ℕ) (found : Option (String Global)) (cut_off : String Global) (bytes : List ℕ)
    → found ≡ Some cut_off → CutsLine old (Ok found) new → bytes ≡ string_bytes cut_off → DoesLine service was bytes now l0 l1
    → (before : Course) → IsWatched service was l0 before → TakenUpTo service before now l0 l1 old new
cut-taken service was now l0 l1 old new found cut_off bytes is taken spelt does before watched =
    let took : CutsLine old (Ok (Some cut_off)) new = subst (λ (f : Option (String Global)). CutsLine old (Ok f) new) is taken in
    taken-line service before now l0 l1 old new (string_bytes cut_off) took.1 (subst (λ (ys : List ℕ). TakesLine service before ys now l0 l1) spelt (does before watched))

-- no line has ended
pub none-taken : (service : SettingsView) (was : GroupsView) (lanes : Lanes) (old new : List ℕ) (found : Option (String Global)) → found ≡ None → CutsLine old (Ok found) new
    → (before : Course) → IsWatched service was lanes before → TakenUpTo service before was lanes lanes old new
none-taken service was lanes old new found is taken before watched =
    let none = subst (λ (f : Option (String Global)). CutsLine old (Ok f) new) is taken in
    subst (λ (ys : List ℕ). TakenUpTo service before was lanes lanes old ys) (sym none.1) (taken-none service before was lanes old watched)

-- what is kept where no line follows
all-none : (service : SettingsView) (before : Course) (c : Cut) (lanes : Lanes) → ((g k : ℕ) (t : Tally) → tally_of service before c g k t ≡ t) → AllTallies service before c lanes lanes
all-none service before c lanes nothing = λ g k. sym (nothing g k (tally_at lanes g k))

-- the line in front is refused, or there was no memory for it
pub refused-next : (service : SettingsView) (before : Course) (lanes : Lanes) (old new more : List ℕ) (e : PortError) → CutsLine old (Err e) new → WatchOutcome service before (cut (old ++ more)) lanes lanes (Err e)
refused-next service before lanes old new more Line refused =
    (all-none service before (cut (old ++ more)) lanes (λ g k t. ap (λ c. tally_of service before c g k t) (refused more) ∙ tally-stopped service before g k t), ap stops (refused more))
refused-next service before lanes old new more Memory refused = tt
refused-next service before lanes old new more Read refused = tt
refused-next service before lanes old new more Write refused = tt

-- what is kept of all lines, once some were taken
pub outcome-after : (service : SettingsView) (first later : Course) (l0 l1 l2 : Lanes) (all rest : Cut) (r : Result (Unit {0}) PortError)
    → ((g k : ℕ) → tally_of service first all g k (tally_at l0 g k) ≡ tally_of service later rest g k (tally_at l1 g k)) → stops all ≡ stops rest → WatchOutcome service later rest l1 l2 r → WatchOutcome service first all l0 l2 r
outcome-after service first later l0 l1 l2 all rest (Ok x) e s o = (λ g k. o.0 g k ∙ sym (e g k), s ∙ o.1)
outcome-after service first later l0 l1 l2 all rest (Err Line) e s o = (λ g k. o.0 g k ∙ sym (e g k), s ∙ o.1)
outcome-after service first later l0 l1 l2 all rest (Err Memory) e s o = tt
outcome-after service first later l0 l1 l2 all rest (Err Read) e s o = tt
outcome-after service first later l0 l1 l2 all rest (Err Write) e s o = tt

-- lines were taken, and then the run stopped
pub stopped-then : (service : SettingsView) (before : Course) (was : GroupsView) (l0 l1 l2 : Lanes) (old mid more : List ℕ) (e : PortError)
    → TakenUpTo service before was l0 l1 old mid → ((later : Course) (more : List ℕ) → IsWatched service was l1 later → WatchOutcome service later (cut (mid ++ more)) l1 l2 (Err e))
    → WatchOutcome service before (cut (old ++ more)) l0 l2 (Err e)
stopped-then service before was l0 l1 l2 old mid more e done stops_then =
    outcome-after service before done.later l0 l1 l2 _ _ (Err e) (λ g k. done.tallies g k more) (done.stops_is more) (stops_then done.later more done.watched)

-- the last line of an input
pub last-found : (service : SettingsView) (was now : GroupsView) (l0 l1 : Lanes) (rest : List ℕ) (found : Option (String Global)) (cut_off : String Global) (bytes : List ℕ) (x : Unit {0})
    → found ≡ Some cut_off → IsLast rest (Ok found) → bytes ≡ string_bytes cut_off → DoesLine service was bytes now l0 l1 → (before : Course) → IsWatched service was l0 before
    → WatchOutcome service before (cut rest) l0 l1 (Ok x)
last-found service was now l0 l1 rest found cut_off bytes x is last spelt does before watched =
    let cuts : cut rest ≡ line (string_bytes cut_off) ended = subst (λ (f : Option (String Global)). IsLast rest (Ok f)) is last in
    let is_line : cut rest ≡ line bytes ended = cuts ∙ ap (λ ys. line ys ended) (sym spelt) in
    let did = does before watched in (
      λ g k. did.tallies g k
          ∙ sym (ap (λ c. tally_of service before c g k (tally_at l0 g k)) is_line ∙ tally-line service before bytes ended g k (tally_at l0 g k) ∙ tally-ended service (course_with service before (line_act service before.entries bytes)) g k _),
      ap stops is_line,
    )

-- the run up to and with the last line of an input
pub watched-last : (service : SettingsView) (was now : GroupsView) (l0 l1 : Lanes) (rest : List ℕ) (found : Option (String Global)) (cut_off : String Global) (bytes : List ℕ)
    → found ≡ Some cut_off → IsLast rest (Ok found) → bytes ≡ string_bytes cut_off → DoesLine service was bytes now l0 l1 → (before : Course) → IsWatched service was l0 before
    → IsWatched service now l1 (course_after service before (cut rest))
watched-last service was now l0 l1 rest found cut_off bytes is last spelt does before watched =
    let cuts : cut rest ≡ line (string_bytes cut_off) ended = subst (λ (f : Option (String Global)). IsLast rest (Ok f)) is last in
    let is_line : cut rest ≡ line bytes ended = cuts ∙ ap (λ ys. line ys ended) (sym spelt) in
    let after = course_with service before (line_act service before.entries bytes) in
    subst (IsWatched service now l1) (sym (ap (course_after service before) is_line ∙ course-line service before bytes ended ∙ course-ended service after)) (does before watched).watched

-- the same where there is no last line
pub watched-none : (service : SettingsView) (was : GroupsView) (lanes : Lanes) (rest : List ℕ) (found : Option (String Global)) → found ≡ None → IsLast rest (Ok found)
    → (before : Course) → IsWatched service was lanes before → IsWatched service was lanes (course_after service before (cut rest))
watched-none service was lanes rest found is last before watched =
    let is_end : cut rest ≡ ended = subst (λ (f : Option (String Global)). IsLast rest (Ok f)) is last in
    subst (IsWatched service was lanes) (sym (ap (course_after service before) is_end ∙ course-ended service before)) watched

-- there is no last line
pub last-none : (service : SettingsView) (before : Course) (lanes : Lanes) (rest : List ℕ) (found : Option (String Global)) (x : Unit {0})
    → found ≡ None → IsLast rest (Ok found) → WatchOutcome service before (cut rest) lanes lanes (Ok x)
last-none service before lanes rest found x is last =
    let is_end : cut rest ≡ ended = subst (λ (f : Option (String Global)). IsLast rest (Ok f)) is last in
    (all-none service before (cut rest) lanes (λ g k t. ap (λ c. tally_of service before c g k t) is_end ∙ tally-ended service before g k t), ap stops is_end)

-- the last line is refused, or there was no memory for it
pub last-refused : (service : SettingsView) (before : Course) (lanes : Lanes) (rest : List ℕ) (e : PortError) → IsLast rest (Err e) → WatchOutcome service before (cut rest) lanes lanes (Err e)
last-refused service before lanes rest Line last =
    (all-none service before (cut rest) lanes (λ g k t. ap (λ c. tally_of service before c g k t) last ∙ tally-stopped service before g k t), ap stops last)
last-refused service before lanes rest Memory last = tt
last-refused service before lanes rest Read last = tt
last-refused service before lanes rest Write last = tt
