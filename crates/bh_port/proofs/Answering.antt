-- A run of answers, from the bytes that had come to those that are left.
use Rattle.std.proofs.Common.{◌≡◌, ◌<◌, ◌≤◌, ℕ, false, min, List, [], take, drop, length, ◌++◌, Option, Some, None, Result, Ok, Err, IfErr, String, string_bytes, refl, sym, ◌∙◌, subst, ap, append-nil, append_assoc}
use Rattle.std.specs.declared.alloc.Global.{Global}
use Rattle.std.proofs.KnownBytes.{Appends-trans, Appends-nil}
use Rattle.std.specs.Io.KnownBytes.{Appends}
use Rattle.bh_port.specs.GroupsView.{GroupsView}
use Rattle.bh_lines.specs.declared.port_error.PortError.{PortError}
use Rattle.bh_lines.specs.declared.port_error.PortError.TheVariants.{Read, Write, Line, Memory}
use Rattle.bh_lines.specs.Lines.{Cut, line, ended, cut, has_line, stops}
use Rattle.bh_lines.specs.declared.front.FrontLine.{FrontLine}
use Rattle.bh_lines.specs.Front.{IsFront}
use Rattle.bh_lines.specs.Taken.{TakesLine, IsLast, IsMemoryOrLine}
use Rattle.bh_streams.specs.Watched.{WritesFront}
use Rattle.bh_streams.proofs.Fronts.{front-of-more, front-after, take-front}
use Rattle.bh_port.specs.Course.{Course, line_act}
use Rattle.bh_port.specs.Text.{answer_to, course_with, text}
use Rattle.bh_port.specs.Script.{GroupsShow, AnswersLine, ScriptAnswered, ScriptOutcome}
use Rattle.bh_port.proofs.TextLaws.{text-line, text-ended, text-stopped}
use Rattle.bh_props.specs.SettingsView.{SettingsView}

kept-appends : (old new : List ℕ) → new ≡ old → Appends (Some old) (Some new) []
kept-appends old new kept = kept ∙ sym (append-nil old)

-- nothing was answered yet
pub answered-none : (a : Option (List ℕ)) (service : SettingsView) (before : Course) (groups : GroupsView) (old : List ℕ) → GroupsShow service groups before → ScriptAnswered a a service before groups old old
answered-none a service before groups old agrees = record {
  out = [];
  later = before;
  agrees = agrees;
  wrote = Appends-nil a;
  text_is = λ more. refl;
  stops_is = λ more. refl;
}

answered-one : (o m n : List ℕ) (service : SettingsView) (before : Course) (was now : GroupsView) (old mid new bytes : List ℕ)
    → (done : ScriptAnswered (Some o) (Some m) service before was old mid) → ((more : List ℕ) → cut (mid ++ more) ≡ line bytes (cut (new ++ more))) → AnswersLine service done.later bytes now m n
    → ScriptAnswered (Some o) (Some n) service before now old new
answered-one o m n service before was now old mid new bytes done taken answer =
    let said = line_act service done.later.entries bytes in
    let reply = answer_to service done.later said in record {
      out = done.out ++ reply;
      later = course_with service done.later said;
      agrees = answer.agrees;
      wrote = Appends-trans (Some o) (Some m) (Some n) done.out reply done.wrote answer.wrote;
      text_is = λ more.
          done.text_is more
          ∙ ap (λ k. done.out ++ text service done.later k) (taken more)
          ∙ ap (λ ys. done.out ++ ys) (text-line service done.later bytes _)
          ∙ sym (append_assoc done.out reply _);
      stops_is = λ more. done.stops_is more ∙ ap stops (taken more);
    }

-- what a line does, whatever came before
abbrev pub DoesLine : SettingsView → GroupsView → List ℕ → GroupsView → List ℕ → List ℕ → Type 0
DoesLine service was bytes now m n = (before : Course) → GroupsShow service was before → AnswersLine service before bytes now m n

-- there was no memory for a line
pub last-unanswered : (o n : List ℕ) (service : SettingsView) (before : Course) (c : Cut) → n ≡ o → ScriptOutcome (Some o) (Some n) service before c (Err Memory)
last-unanswered o n service before c kept = (0, kept-appends o n kept)

-- the line in front was answered, and taken from the bytes
pub front-answered : (o n : List ℕ) (service : SettingsView) (was now : GroupsView) (lent old new : List ℕ) (front : FrontLine)
    → lent ≡ old → IsFront lent (Some front) → DoesLine service was front.text.now now o n → new ≡ drop front.taken old
    → (before : Course) → GroupsShow service was before → ScriptAnswered (Some o) (Some n) service before now old new
unfolding answered-none
front-answered o n service was now lent old new front lends in_front does left before agrees =
    let next : IsFront old (Some front) = subst (λ (ys : List ℕ). IsFront ys (Some front)) lends in_front in
    subst (λ (ys : List ℕ). ScriptAnswered (Some o) (Some n) service before now old ys) (sym left)
    (answered-one o o n service before was now old old (drop front.taken old) front.text.now (answered-none (Some o) service before was old agrees) next.2 (does before agrees))

-- it takes some of them, and no more than there are
pub front-within : (lent old : List ℕ) (front : FrontLine) → lent ≡ old → IsFront lent (Some front) → (0 < front.taken) × (front.taken ≤ length old)
front-within lent old front lends in_front =
    let next : IsFront old (Some front) = subst (λ (ys : List ℕ). IsFront ys (Some front)) lends in_front in
    (next.0, next.1)

-- the line that the codec cut was answered
pub cut-answered : (o n : List ℕ) (service : SettingsView) (was now : GroupsView) (old new : List ℕ) (found : Option (String Global)) (cut_off : String Global) (bytes : List ℕ)
    → found ≡ Some cut_off → TakesLine old (Ok found) new → bytes ≡ string_bytes cut_off → DoesLine service was bytes now o n
    → (before : Course) → GroupsShow service was before → ScriptAnswered (Some o) (Some n) service before now old new
unfolding answered-none
cut-answered o n service was now old new found cut_off bytes is taken spelt does before agrees =
    let took : TakesLine old (Ok (Some cut_off)) new = subst (λ (f : Option (String Global)). TakesLine old (Ok f) new) is taken in
    answered-one o o n service before was now old old new (string_bytes cut_off) (answered-none (Some o) service before was old agrees) took.1
    (subst (λ (ys : List ℕ). AnswersLine service before ys now o n) spelt (does before agrees))

pub cut-shorter : (old new : List ℕ) (found : Option (String Global)) (cut_off : String Global) → found ≡ Some cut_off → TakesLine old (Ok found) new → length new < length old
cut-shorter old new found cut_off is taken = (subst (λ (f : Option (String Global)). TakesLine old (Ok f) new) is taken).0

-- no line has ended
none-taken : (old new : List ℕ) (found : Option (String Global)) → found ≡ None → TakesLine old (Ok found) new → (has_line old ≡ false) × (new ≡ old)
none-taken old new found is taken = subst (λ (f : Option (String Global)). TakesLine old (Ok f) new) is taken

pub none-left : (old new : List ℕ) (found : Option (String Global)) → found ≡ None → TakesLine old (Ok found) new → has_line new ≡ false
none-left old new found is taken = let none = none-taken old new found is taken in ap has_line none.1 ∙ none.0

pub none-answered : (o : List ℕ) (service : SettingsView) (was : GroupsView) (old new : List ℕ) (found : Option (String Global)) → found ≡ None → TakesLine old (Ok found) new
    → (before : Course) → GroupsShow service was before → ScriptAnswered (Some o) (Some o) service before was old new
none-answered o service was old new found is taken before agrees =
    subst (λ (ys : List ℕ). ScriptAnswered (Some o) (Some o) service before was old ys) (sym (none-taken old new found is taken).1) (answered-none (Some o) service before was old agrees)

-- the line in front is refused, or there was no memory for it
pub refused-next : (o : List ℕ) (service : SettingsView) (before : Course) (old new more : List ℕ) (e : PortError)
    → TakesLine old (Err e) new → ScriptOutcome (Some o) (Some o) service before (cut (old ++ more)) (Err e)
refused-next o service before old new more Line refused =
    (subst (λ (ys : List ℕ). Appends (Some o) (Some o) ys) (sym (ap (text service before) (refused more) ∙ text-stopped service before)) (Appends-nil (Some o)), ap stops (refused more))
refused-next o service before old new more Memory refused = last-unanswered o o service before _ refl
refused-next o service before old new more Read refused = absurd refused
refused-next o service before old new more Write refused = absurd refused

pub refused-kind : (old new : List ℕ) (e : PortError) → TakesLine old (Err e) new → IsMemoryOrLine e
refused-kind old new Line refused = tt
refused-kind old new Memory refused = tt
refused-kind old new Read refused = refused
refused-kind old new Write refused = refused

-- what a run comes to that has answered some lines
pub outcome-after : (a b c : Option (List ℕ)) (service : SettingsView) (out : List ℕ) (first later : Course) (all rest : Cut) (r : Result (Unit {0}) PortError)
    → Appends a b out → text service first all ≡ out ++ text service later rest → stops all ≡ stops rest → ScriptOutcome b c service later rest r → ScriptOutcome a c service first all r
outcome-after a b c service out first later all rest (Ok x) h e s o = (subst (λ (ys : List ℕ). Appends a c ys) (sym e) (Appends-trans a b c _ _ h o.0), s ∙ o.1)
outcome-after a b c service out first later all rest (Err Line) h e s o = (subst (λ (ys : List ℕ). Appends a c ys) (sym e) (Appends-trans a b c _ _ h o.0), s ∙ o.1)
outcome-after a b c service out first later all rest (Err Memory) h e s o = subst (λ (ys : List ℕ). WritesFront a c ys) (sym e) (front-after a b c _ _ h o)
outcome-after a b c service out first later all rest (Err Read) h e s o = subst (λ (ys : List ℕ). WritesFront a c ys) (sym e) (front-after a b c _ _ h o)
outcome-after a b c service out first later all rest (Err Write) h e s o = subst (λ (ys : List ℕ). WritesFront a c ys) (sym e) (front-after a b c _ _ h o)

-- lines were answered, and then those that follow them
pub answered-then : (o m n : List ℕ) (service : SettingsView) (before : Course) (was now : GroupsView) (old mid new : List ℕ)
    → ScriptAnswered (Some o) (Some m) service before was old mid → ((later : Course) → GroupsShow service was later → ScriptAnswered (Some m) (Some n) service later now mid new)
    → ScriptAnswered (Some o) (Some n) service before now old new
answered-then o m n service before was now old mid new done next =
    let a = next done.later done.agrees in record {
      out = done.out ++ a.out;
      later = a.later;
      agrees = a.agrees;
      wrote = Appends-trans (Some o) (Some m) (Some n) done.out a.out done.wrote a.wrote;
      text_is = λ more. done.text_is more ∙ ap (λ ys. done.out ++ ys) (a.text_is more) ∙ sym (append_assoc done.out a.out _);
      stops_is = λ more. done.stops_is more ∙ a.stops_is more;
    }

-- lines were answered, and then the run stopped
pub stopped-then : (o m n : List ℕ) (service : SettingsView) (before : Course) (was : GroupsView) (old mid more : List ℕ) (e : PortError)
    → ScriptAnswered (Some o) (Some m) service before was old mid → ((later : Course) (more : List ℕ) → GroupsShow service was later → ScriptOutcome (Some m) (Some n) service later (cut (mid ++ more)) (Err e))
    → ScriptOutcome (Some o) (Some n) service before (cut (old ++ more)) (Err e)
stopped-then o m n service before was old mid more e done stopped =
    outcome-after (Some o) (Some m) (Some n) service done.out before done.later _ _ (Err e) done.wrote (done.text_is more) (done.stops_is more) (stopped done.later more done.agrees)

-- the last line of an input
pub last-found : (o n : List ℕ) (service : SettingsView) (was now : GroupsView) (rest : List ℕ) (found : Option (String Global)) (cut_off : String Global) (bytes : List ℕ) (x : Unit {0})
    → found ≡ Some cut_off → IsLast rest (Ok found) → bytes ≡ string_bytes cut_off → DoesLine service was bytes now o n → (before : Course) → GroupsShow service was before
    → ScriptOutcome (Some o) (Some n) service before (cut rest) (Ok x)
last-found o n service was now rest found cut_off bytes x is last spelt does before agrees =
    let said = line_act service before.entries bytes in
    let cuts : cut rest ≡ line (string_bytes cut_off) ended = subst (λ (f : Option (String Global)). IsLast rest (Ok f)) is last in
    let is_line : cut rest ≡ line bytes ended = cuts ∙ ap (λ ys. line ys ended) (sym spelt) in
    let all : text service before (cut rest) ≡ answer_to service before said =
    ap (text service before) is_line ∙ text-line service before bytes ended ∙ ap (λ ys. answer_to service before said ++ ys) (text-ended service (course_with service before said)) ∙ append-nil _ in
    (subst (λ (ys : List ℕ). Appends (Some o) (Some n) ys) (sym all) (does before agrees).wrote, ap stops is_line)

-- there is no last line
pub last-none : (o : List ℕ) (service : SettingsView) (before : Course) (rest : List ℕ) (found : Option (String Global)) (x : Unit {0})
    → found ≡ None → IsLast rest (Ok found) → ScriptOutcome (Some o) (Some o) service before (cut rest) (Ok x)
last-none o service before rest found x is last =
    let is_end : cut rest ≡ ended = subst (λ (f : Option (String Global)). IsLast rest (Ok f)) is last in
    (subst (λ (ys : List ℕ). Appends (Some o) (Some o) ys) (sym (ap (text service before) is_end ∙ text-ended service before)) (Appends-nil (Some o)), ap stops is_end)

-- the last line is refused, or there was no memory for it
pub last-refused : (o : List ℕ) (service : SettingsView) (before : Course) (rest : List ℕ) (e : PortError) → IsLast rest (Err e) → ScriptOutcome (Some o) (Some o) service before (cut rest) (Err e)
last-refused o service before rest Line last =
    (subst (λ (ys : List ℕ). Appends (Some o) (Some o) ys) (sym (ap (text service before) last ∙ text-stopped service before)) (Appends-nil (Some o)), ap stops last)
last-refused o service before rest Memory last = last-unanswered o o service before _ refl
last-refused o service before rest Read last = absurd last
last-refused o service before rest Write last = absurd last

pub last-kind : (rest : List ℕ) (e : PortError) → IsLast rest (Err e) → IsMemoryOrLine e
last-kind rest Line last = tt
last-kind rest Memory last = tt
last-kind rest Read last = last
last-kind rest Write last = last

-- What was answered from nothing on is then written, or a front of it.

-- all of the answers to the lines that had ended
pub written-answered : (items : List ℕ) (w0 w1 : Option (List ℕ)) (service : SettingsView) (before : Course) (groups : GroupsView) (old new : List ℕ)
    → ScriptAnswered (Some []) (Some items) service before groups old new → Appends w0 w1 items → ScriptAnswered w0 w1 service before groups old new
written-answered items w0 w1 service before groups old new done wrote = record {
  out = done.out;
  later = done.later;
  agrees = done.agrees;
  wrote = subst (λ (ys : List ℕ). Appends w0 w1 ys) done.wrote wrote;
  text_is = done.text_is;
  stops_is = done.stops_is;
}

-- all that a run had answered
pub written : (items : List ℕ) (w0 w1 : Option (List ℕ)) (service : SettingsView) (before : Course) (c : Cut) (r : Result (Unit {0}) PortError)
    → ScriptOutcome (Some []) (Some items) service before c r → IfErr r IsMemoryOrLine → Appends w0 w1 items → ScriptOutcome w0 w1 service before c r
written items w0 w1 service before c (Ok x) o kind wrote = (subst (λ (ys : List ℕ). Appends w0 w1 ys) o.0 wrote, o.1)
written items w0 w1 service before c (Err Line) o kind wrote = (subst (λ (ys : List ℕ). Appends w0 w1 ys) o.0 wrote, o.1)
written items w0 w1 service before c (Err Memory) o kind wrote = (o.0, subst (λ (ys : List ℕ). Appends w0 w1 ys) o.1 wrote)
written items w0 w1 service before c (Err Read) o kind wrote = absurd kind
written items w0 w1 service before c (Err Write) o kind wrote = absurd kind

-- a front of what a run had answered
pub unwritten : (items : List ℕ) (w0 w1 : Option (List ℕ)) (service : SettingsView) (before : Course) (c : Cut) (r : Result (Unit {0}) PortError)
    → ScriptOutcome (Some []) (Some items) service before c r → IfErr r IsMemoryOrLine → WritesFront w0 w1 items → WritesFront w0 w1 (text service before c)
unwritten items w0 w1 service before c (Ok x) o kind front = subst (λ (ys : List ℕ). WritesFront w0 w1 ys) o.0 front
unwritten items w0 w1 service before c (Err Line) o kind front = subst (λ (ys : List ℕ). WritesFront w0 w1 ys) o.0 front
unwritten items w0 w1 service before c (Err Memory) o kind front =
    let all = text service before c in
    (min front.0 o.0, subst (λ (ys : List ℕ). Appends w0 w1 ys) (ap (take front.0) o.1 ∙ take-front front.0 o.0 all) front.1)
unwritten items w0 w1 service before c (Err Read) o kind front = absurd kind
unwritten items w0 w1 service before c (Err Write) o kind front = absurd kind

-- a front of the answers to the lines that had ended
pub unwritten-answered : (items : List ℕ) (w0 w1 : Option (List ℕ)) (service : SettingsView) (before : Course) (groups : GroupsView) (old new more : List ℕ)
    → ScriptAnswered (Some []) (Some items) service before groups old new → WritesFront w0 w1 items → WritesFront w0 w1 (text service before (cut (old ++ more)))
unwritten-answered items w0 w1 service before groups old new more done front =
    subst (λ (ys : List ℕ). WritesFront w0 w1 ys) (sym (done.text_is more)) (front-of-more w0 w1 done.out _ (subst (λ (ys : List ℕ). WritesFront w0 w1 ys) done.wrote front))
