-- Answers that are held, until they are written.
use Rattle.std.proofs.Common.{◌≡◌, ℕ, false, List, [], ◌∷◌, ◌++◌, Option, Some, None, Result, Ok, Err, IfErr, OnOk, OnErr, inl, inr, refl, sym, ◌∙◌, subst, ap, append-nil}
use Rattle.std.proofs.KnownBytes.{Appends-trans, Appends-nil}
use Rattle.std.specs.Io.KnownBytes.{Appends}
use Rattle.bh_faults.specs.declared.fault.Fault.{Fault}
use Rattle.bh_lines.specs.declared.port_error.PortError.{PortError}
use Rattle.bh_lines.specs.declared.port_error.PortError.TheVariants.{Read, Write, Line, Memory}
use Rattle.bh_lines.specs.Lines.{Cut, stopped, cut, has_line, lines_then}
use Rattle.bh_lines.proofs.LinesThen.{lines_then-append}
use Rattle.bh_streams.specs.Watched.{WritesFront}
use Rattle.bh_streams.proofs.Fronts.{front-after}
use Rattle.bh_control.specs.declared.control_line.ControlLine.{ControlLine}
use Rattle.bh_control.specs.AnswerLine.{Responder, Answers, IsAnswer, IsPut}
use Rattle.bh_control.specs.Pieces.{AnswersEach, AnsweredLast}
use Rattle.bh_control.specs.Session.{WroteUpTo, HoldsUpTo, BreaksOff, Moves, LinesOutcome, PieceOutcome, LastOutcome}
use Rattle.bh_control.specs.Taken.{TakesAsked, IsLastAsked}
use Rattle.bh_control.proofs.Pieces.{answers-asked, answers-more, last-found}
use Rattle.bh_control.proofs.Progress.{each-append}

-- no line was answered yet
pub holds-none : (who : Responder) (w : Option (List ℕ)) (all : List ℕ) (held : List ℕ) → held ≡ [] → HoldsUpTo who w w all (λ more. cut (all ++ more)) held
holds-none who w all held none = ([], none, record { lines = []; out = []; each = refl; wrote = Appends-nil w; cut_is = λ more. refl })

-- a line more was taken and answered
pub holds-one : (who : Responder) (w0 w1 : Option (List ℕ)) (all mid new held later : List ℕ) (found : Option (Result ControlLine Fault)) (asked : Result ControlLine Fault)
    → HoldsUpTo who w0 w1 all (λ more. cut (mid ++ more)) held → found ≡ Some asked → TakesAsked who.names mid (Ok found) new
    → IsPut (IsAnswer who asked) held later → HoldsUpTo who w0 w1 all (λ more. cut (new ++ more)) later
holds-one who w0 w1 all mid new held later found asked holds is taken put =
    let took : TakesAsked who.names mid (Ok (Some asked)) new = subst (λ (o : Option (Result ControlLine Fault)). TakesAsked who.names mid (Ok o) new) is taken in
    let ls : List (List ℕ) = holds.0 in
    let bytes : List ℕ = took.0 in
    let one : Answers who bytes put.0 = answers-asked who bytes asked put.0 took.1 put.1 in (
      ls ++ bytes ∷ [],
      subst (λ (ys : List ℕ). AnswersEach who (ls ++ bytes ∷ []) ys) (sym put.2) (answers-more who ls bytes held put.0 holds.1 one),
      record {
        lines = holds.2.lines;
        out = holds.2.out;
        each = holds.2.each;
        wrote = holds.2.wrote;
        cut_is = λ more.
            holds.2.cut_is more ∙ ap (λ c. lines_then holds.2.lines (lines_then ls c)) (took.3 more)
            ∙ ap (λ c. lines_then holds.2.lines c) (sym (lines_then-append ls (bytes ∷ []) (cut (new ++ more))));
      },
    )

-- what is held was written
pub holds-written : (who : Responder) (w0 w1 w2 : Option (List ℕ)) (all : List ℕ) (next : List ℕ → Cut) (held : List ℕ)
    → HoldsUpTo who w0 w1 all next held → Appends w1 w2 held → WroteUpTo who w0 w2 all next
holds-written who w0 w1 w2 all next held holds wrote =
    let first = holds.2 in record {
      lines = first.lines ++ holds.0;
      out = first.out ++ held;
      each = each-append who first.lines holds.0 first.out held first.each holds.1;
      wrote = Appends-trans w0 w1 w2 first.out held first.wrote wrote;
      cut_is = λ more. first.cut_is more ∙ sym (lines_then-append first.lines holds.0 (next more));
    }

-- what is held was written, or is held still
pub holds-moved : (who : Responder) (w0 w1 w2 : Option (List ℕ)) (all : List ℕ) (next : List ℕ → Cut) (held later : List ℕ)
    → HoldsUpTo who w0 w1 all next held → Moves w1 w2 held later → HoldsUpTo who w0 w2 all next later
holds-moved who w0 w1 w2 all next held later holds (inl moved) =
    let w = holds-written who w0 w1 w2 all next held holds moved.0 in
    ([], moved.1, record { lines = w.lines; out = w.out; each = w.each; wrote = w.wrote; cut_is = w.cut_is })
holds-moved who w0 w1 w2 all next held later holds (inr kept) =
    let w = holds.2 in (
      holds.0,
      subst (λ (ys : List ℕ). AnswersEach who holds.0 ys) (sym kept.1) holds.1,
      record {
        lines = w.lines;
        out = w.out;
        each = w.each;
        wrote = subst (λ (ys : List ℕ). Appends w0 w2 ys) (append-nil w.out) (Appends-trans w0 w1 w2 w.out [] w.wrote kept.0);
        cut_is = w.cut_is;
      },
    )

-- of what is held a front was written
pub holds-front : (who : Responder) (w0 w1 w2 : Option (List ℕ)) (all : List ℕ) (next : List ℕ → Cut) (held : List ℕ)
    → HoldsUpTo who w0 w1 all next held → WritesFront w1 w2 held → BreaksOff who w0 w2 all
holds-front who w0 w1 w2 all next held holds front =
    let first = holds.2 in record {
      lines = first.lines ++ holds.0;
      out = first.out ++ held;
      each = each-append who first.lines holds.0 first.out held first.each holds.1;
      front = front-after w0 w1 w2 first.out held first.wrote front;
      cut_is = λ more. (next more, first.cut_is more ∙ sym (lines_then-append first.lines holds.0 (next more)));
    }

-- no further line has ended
pub holds-waits : (who : Responder) (w0 w1 : Option (List ℕ)) (all mid new held : List ℕ) (found : Option (Result ControlLine Fault))
    → HoldsUpTo who w0 w1 all (λ more. cut (mid ++ more)) held → found ≡ None → TakesAsked who.names mid (Ok found) new
    → LinesOutcome who w0 w1 all (Ok tt) new held
holds-waits who w0 w1 all mid new held found holds is taken =
    let waits : TakesAsked who.names mid (Ok None) new = subst (λ (o : Option (Result ControlLine Fault)). TakesAsked who.names mid (Ok o) new) is taken in
    let P : List ℕ → Type 0 = λ ys. HoldsUpTo who w0 w1 all (λ more. cut (ys ++ more)) held in
    (subst P (sym waits.1) holds, subst (λ (ys : List ℕ). has_line ys ≡ false) (sym waits.1) waits.0)

-- memory for the answer to the next line is refused
pub holds-short : (who : Responder) (w0 w1 : Option (List ℕ)) (all rest : List ℕ) (next : List ℕ → Cut) (held later : List ℕ) (e : PortError)
    → HoldsUpTo who w0 w1 all next held → later ≡ held → e ≡ Memory → LinesOutcome who w0 w1 all (Err e) rest later
holds-short who w0 w1 all rest next held later e holds same is =
    let kept : HoldsUpTo who w0 w1 all next later = subst (λ (ys : List ℕ). HoldsUpTo who w0 w1 all next ys) (sym same) holds in
    subst (λ (k : PortError). LinesOutcome who w0 w1 all (Err k) rest later) (sym is) (next, kept)

-- of what is held a front was written, and the lines end there
pub holds-broken : (who : Responder) (w0 w1 w2 : Option (List ℕ)) (all rest : List ℕ) (next : List ℕ → Cut) (held later : List ℕ) (e : PortError)
    → HoldsUpTo who w0 w1 all next held → WritesFront w1 w2 held → e ≡ Write → LinesOutcome who w0 w2 all (Err e) rest later
holds-broken who w0 w1 w2 all rest next held later e holds front is =
    subst (λ (k : PortError). LinesOutcome who w0 w2 all (Err k) rest later) (sym is) (holds-front who w0 w1 w2 all next held holds front)

-- the next line is refused, or memory for it
pub holds-refused : (who : Responder) (w0 w1 : Option (List ℕ)) (all mid new held : List ℕ) (e : PortError)
    → HoldsUpTo who w0 w1 all (λ more. cut (mid ++ more)) held → TakesAsked who.names mid (Err e) new → LinesOutcome who w0 w1 all (Err e) new held
holds-refused who w0 w1 all mid new held Line holds taken = (
  holds.0,
  holds.1,
  record {
    lines = holds.2.lines;
    out = holds.2.out;
    each = holds.2.each;
    wrote = holds.2.wrote;
    cut_is = λ more. holds.2.cut_is more ∙ ap (λ c. lines_then holds.2.lines (lines_then holds.0 c)) (taken more);
  },
)
holds-refused who w0 w1 all mid new held Memory holds taken = ((λ more. cut (mid ++ more)), holds)
holds-refused who w0 w1 all mid new held Read holds taken = taken
holds-refused who w0 w1 all mid new held Write holds taken = absurd taken

-- all lines in front were answered, and what is held of the answers was written, or a front of it
pub piece-ends : (Q : Type 0) (who : Responder) (w0 w1 w2 : Option (List ℕ)) (all rest held : List ℕ) (result : Result (Unit {0}) PortError)
    → LinesOutcome who w0 w1 all (Ok tt) rest held → OnOk result (Appends w1 w2 held) → IfErr result (λ e. (e ≡ Write) × Q) → WritesFront w1 w2 held → PieceOutcome who w0 w2 all result rest
piece-ends Q who w0 w1 w2 all rest held (Ok x) holds wrote kind front = (holds-written who w0 w1 w2 all (λ more. cut (rest ++ more)) held holds.0 wrote, holds.1)
piece-ends Q who w0 w1 w2 all rest held (Err Write) holds wrote kind front = holds-front who w0 w1 w2 all (λ more. cut (rest ++ more)) held holds.0 front
piece-ends Q who w0 w1 w2 all rest held (Err Read) holds wrote kind front = let e : Read ≡ Write = kind.0 in cc
piece-ends Q who w0 w1 w2 all rest held (Err Line) holds wrote kind front = let e : Line ≡ Write = kind.0 in cc
piece-ends Q who w0 w1 w2 all rest held (Err Memory) holds wrote kind front = let e : Memory ≡ Write = kind.0 in cc

-- the lines in front were answered, and what is held of the answers was written
pub piece-written : (who : Responder) (w0 w1 w2 : Option (List ℕ)) (all rest held : List ℕ) (e : PortError)
    → LinesOutcome who w0 w1 all (Err e) rest held → (e ≡ Write → ⊥) → Appends w1 w2 held → PieceOutcome who w0 w2 all (Err e) rest
piece-written who w0 w1 w2 all rest held Line holds other wrote = holds-written who w0 w1 w2 all (λ more. stopped) held holds wrote
piece-written who w0 w1 w2 all rest held Memory holds other wrote = (holds.0, holds-written who w0 w1 w2 all holds.0 held holds.1 wrote)
piece-written who w0 w1 w2 all rest held Read holds other wrote = holds
piece-written who w0 w1 w2 all rest held Write holds other wrote = absurd (other refl)

broken-off : (who : Responder) (w0 w1 w2 : Option (List ℕ)) (all rest held : List ℕ) (e : PortError)
    → LinesOutcome who w0 w1 all (Err e) rest held → (e ≡ Write → ⊥) → WritesFront w1 w2 held → BreaksOff who w0 w2 all
broken-off who w0 w1 w2 all rest held Line holds other front = holds-front who w0 w1 w2 all (λ more. stopped) held holds front
broken-off who w0 w1 w2 all rest held Memory holds other front = holds-front who w0 w1 w2 all holds.0 held holds.1 front
broken-off who w0 w1 w2 all rest held Read holds other front = absurd holds
broken-off who w0 w1 w2 all rest held Write holds other front = absurd (other refl)

-- of what is held a front was written
pub piece-broken : (who : Responder) (w0 w1 w2 : Option (List ℕ)) (all rest held : List ℕ) (e k : PortError)
    → LinesOutcome who w0 w1 all (Err e) rest held → (e ≡ Write → ⊥) → WritesFront w1 w2 held → k ≡ Write → PieceOutcome who w0 w2 all (Err k) rest
piece-broken who w0 w1 w2 all rest held e k holds other front is =
    subst (λ (f : PortError). PieceOutcome who w0 w2 all (Err f) rest) (sym is) (broken-off who w0 w1 w2 all rest held e holds other front)

-- all that was held was written, where that went well
pub moves-all : {E : Type 0} (r : Result (Unit {0}) E) (w0 w1 : Option (List ℕ)) (held later : List ℕ) → OnOk r (Appends w0 w1 held) → OnOk r (later ≡ []) → OnOk r (Moves w0 w1 held later)
moves-all (Ok x) w0 w1 held later wrote none = inl (wrote, none)
moves-all (Err e) w0 w1 held later wrote none = tt

-- nothing was written
pub moves-none : (w : Option (List ℕ)) (held : List ℕ) → Moves w w held held
moves-none w held = inr (Appends-nil w, refl)

-- what holds whenever all went well, holds then under any condition
pub none-whenever : {E : Type 0} (r : Result (Unit {0}) E) (P Q : Type 0) → OnOk r Q → OnOk r (P → Q)
none-whenever (Ok x) P Q q = λ p. q
none-whenever (Err e) P Q q = tt

-- what holds, holds at an error
pub at-error : {E : Type 0} (r : Result (Unit {0}) E) {P : Type 0} → P → OnErr r P
at-error (Ok x) p = tt
at-error (Err e) p = p

last-ends : (Q : Type 0) (who : Responder) (w0 w1 : Option (List ℕ)) (rest after out : List ℕ) (result : Result (Unit {0}) PortError)
    → after ≡ out → AnsweredLast who rest out → OnOk result (Appends w0 w1 after) → IfErr result (λ e. (e ≡ Write) × Q) → WritesFront w0 w1 after → LastOutcome who w0 w1 rest result
last-ends Q who w0 w1 rest after out (Ok x) same answered wrote kind front = (out, answered, subst (λ (ys : List ℕ). Appends w0 w1 ys) same wrote)
last-ends Q who w0 w1 rest after out (Err Write) same answered wrote kind front = (out, answered, subst (λ (ys : List ℕ). WritesFront w0 w1 ys) same front)
last-ends Q who w0 w1 rest after out (Err Read) same answered wrote kind front = let e : Read ≡ Write = kind.0 in cc
last-ends Q who w0 w1 rest after out (Err Line) same answered wrote kind front = let e : Line ≡ Write = kind.0 in cc
last-ends Q who w0 w1 rest after out (Err Memory) same answered wrote kind front = let e : Memory ≡ Write = kind.0 in cc

-- the last line was taken and answered, and the answer was written, or a front of it
pub last-written : (Q : Type 0) (who : Responder) (w0 w1 : Option (List ℕ)) (rest before after : List ℕ) (found : Option (Result ControlLine Fault)) (asked : Result ControlLine Fault) (result : Result (Unit {0}) PortError)
    → found ≡ Some asked → IsLastAsked who.names rest (Ok found) → IsPut (IsAnswer who asked) before after → before ≡ []
    → OnOk result (Appends w0 w1 after) → IfErr result (λ e. (e ≡ Write) × Q) → WritesFront w0 w1 after → LastOutcome who w0 w1 rest result
last-written Q who w0 w1 rest before after found asked result is last put empty wrote kind front =
    let a = last-found who rest before after found asked is last put in
    last-ends Q who w0 w1 rest after a.0 result (a.1 ∙ ap (λ ys. ys ++ a.0) empty) a.2 wrote kind front
