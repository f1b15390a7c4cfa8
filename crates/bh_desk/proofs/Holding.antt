-- Answers that are held, until they are written.
use Rattle.std.proofs.Common.{◌≡◌, ℕ, false, List, [], ◌∷◌, ◌++◌, Option, Some, None, Result, Ok, Err, IfErr, OnOk, inl, inr, refl, sym, ◌∙◌, subst, ap, append-nil}
use Rattle.std.proofs.KnownBytes.{Appends-trans, Appends-nil}
use Rattle.std.specs.Io.KnownBytes.{Appends}
use Rattle.bh_faults.specs.declared.fault.Fault.{Fault}
use Rattle.bh_lines.specs.declared.port_error.PortError.{PortError}
use Rattle.bh_lines.specs.declared.port_error.PortError.TheVariants.{Read, Write, Line, Memory}
use Rattle.bh_lines.specs.Lines.{Cut, ended, stopped, cut, has_line, lines_then}
use Rattle.bh_lines.proofs.LinesThen.{lines_then-append}
use Rattle.bh_streams.specs.Watched.{WritesFront}
use Rattle.bh_streams.proofs.Fronts.{front-after}
use Rattle.bh_share.specs.declared.share_line.ShareLine.{ShareLine}
use Rattle.bh_desk.specs.Answers.{Responder, Answers, AnswersEach, IsAnswer, LosesOne}
use Rattle.bh_desk.specs.Session.{AnsweredLast, WroteFront, WroteUpTo, HoldsUpTo, BreaksOff, Moves, LineOutcome, LinesOutcome, PieceOutcome, LastOutcome}
use Rattle.bh_desk.specs.Taken.{TakesAsked, IsLastAsked}
use Rattle.bh_desk.proofs.Each.{answers-asked, answers-more, each-append, last-found}

-- no line was answered yet
pub holds-none : {S : Type 0} (who : Responder S) (d : S) (w : Option (List ℕ)) (all held : List ℕ) → held ≡ [] → HoldsUpTo who d d w w all (λ more. cut (all ++ more)) held
holds-none who d w all held none = ([], d, (none, refl), record { lines = []; out = []; each = (refl, refl); wrote = Appends-nil w; cut_is = λ more. refl })

-- what is held was written
pub holds-written : {S : Type 0} (who : Responder S) (a b : S) (w0 w1 w2 : Option (List ℕ)) (all : List ℕ) (next : List ℕ → Cut) (held : List ℕ)
    → HoldsUpTo who a b w0 w1 all next held → Appends w1 w2 held → WroteUpTo who a b w0 w2 all next
holds-written who a b w0 w1 w2 all next held holds wrote =
    let first = holds.3 in record {
      lines = first.lines ++ holds.0;
      out = first.out ++ held;
      each = each-append who a holds.1 b first.lines holds.0 first.out held first.each holds.2;
      wrote = Appends-trans w0 w1 w2 first.out held first.wrote wrote;
      cut_is = λ more. first.cut_is more ∙ sym (lines_then-append first.lines holds.0 (next more));
    }

-- what is held was written, or is held still
pub holds-moved : {S : Type 0} (who : Responder S) (a b : S) (w0 w1 w2 : Option (List ℕ)) (all : List ℕ) (next : List ℕ → Cut) (held later : List ℕ)
    → HoldsUpTo who a b w0 w1 all next held → Moves w1 w2 held later → HoldsUpTo who a b w0 w2 all next later
holds-moved who a b w0 w1 w2 all next held later holds (inl moved) =
    let w = holds-written who a b w0 w1 w2 all next held holds moved.0 in
    ([], b, (moved.1, refl), record { lines = w.lines; out = w.out; each = w.each; wrote = w.wrote; cut_is = w.cut_is })
holds-moved who a b w0 w1 w2 all next held later holds (inr kept) =
    let w = holds.3 in (
      holds.0,
      holds.1,
      subst (λ (ys : List ℕ). AnswersEach who holds.1 holds.0 ys b) (sym kept.1) holds.2,
      record {
        lines = w.lines;
        out = w.out;
        each = w.each;
        wrote = subst (λ (ys : List ℕ). Appends w0 w2 ys) (append-nil w.out) (Appends-trans w0 w1 w2 w.out [] w.wrote kept.0);
        cut_is = w.cut_is;
      },
    )

-- a line more was taken and answered
pub holds-one : {S : Type 0} (who : Responder S) (a b c : S) (w0 w1 : Option (List ℕ)) (all mid new held later one : List ℕ) (found : Option (Result ShareLine Fault)) (asked : Result ShareLine Fault)
    → HoldsUpTo who a b w0 w1 all (λ more. cut (mid ++ more)) held → found ≡ Some asked → TakesAsked who.names mid (Ok found) new
    → IsAnswer who.may b asked one c → later ≡ held ++ one → HoldsUpTo who a c w0 w1 all (λ more. cut (new ++ more)) later
holds-one who a b c w0 w1 all mid new held later one found asked holds is taken answered e =
    let took : TakesAsked who.names mid (Ok (Some asked)) new = subst (λ (o : Option (Result ShareLine Fault)). TakesAsked who.names mid (Ok o) new) is taken in
    let ls : List (List ℕ) = holds.0 in
    let bytes : List ℕ = took.0 in
    let told : Answers who b bytes one c = answers-asked who b c bytes asked one took.1 answered in (
      ls ++ bytes ∷ [],
      holds.1,
      subst (λ (ys : List ℕ). AnswersEach who holds.1 (ls ++ bytes ∷ []) ys c) (sym e) (answers-more who holds.1 b c ls bytes held one holds.2 told),
      record {
        lines = holds.3.lines;
        out = holds.3.out;
        each = holds.3.each;
        wrote = holds.3.wrote;
        cut_is = λ more.
            holds.3.cut_is more ∙ ap (λ c. lines_then holds.3.lines (lines_then ls c)) (took.3 more)
            ∙ ap (λ c. lines_then holds.3.lines c) (sym (lines_then-append ls (bytes ∷ []) (cut (new ++ more))));
      },
    )

-- the same of what one line came to
pub holds-line : {S : Type 0} (who : Responder S) (a b c : S) (w0 w1 w2 : Option (List ℕ)) (all mid new held later : List ℕ) (found : Option (Result ShareLine Fault)) (asked : Result ShareLine Fault)
    → HoldsUpTo who a b w0 w1 all (λ more. cut (mid ++ more)) held → found ≡ Some asked → TakesAsked who.names mid (Ok found) new
    → LineOutcome who.may b c w1 w2 asked held (Ok tt) later → HoldsUpTo who a c w0 w2 all (λ more. cut (new ++ more)) later
holds-line who a b c w0 w1 w2 all mid new held later found asked holds is taken told =
    holds-one who a b c w0 w2 all mid new told.0 later told.2 found asked
    (holds-moved who a b w0 w1 w2 all (λ more. cut (mid ++ more)) held told.0 holds told.1) is taken told.3 told.4

-- of what is held a front was written, and one more answer may be lost
pub holds-front : {S : Type 0} (who : Responder S) (a b c : S) (w0 w1 w2 : Option (List ℕ)) (all : List ℕ) (next : List ℕ → Cut) (held : List ℕ)
    → HoldsUpTo who a b w0 w1 all next held → LosesOne who.may b c → WritesFront w1 w2 held → BreaksOff who a c w0 w2 all
holds-front who a b c w0 w1 w2 all next held holds lost front =
    let first = holds.3 in record {
      lines = first.lines ++ holds.0;
      out = first.out ++ held;
      mid = b;
      each = each-append who a holds.1 b first.lines holds.0 first.out held first.each holds.2;
      lost = lost;
      front = front-after w0 w1 w2 first.out held first.wrote front;
      cut_is = λ more. (next more, first.cut_is more ∙ sym (lines_then-append first.lines holds.0 (next more)));
    }

-- the line came to no answer
pub holds-broken : {S : Type 0} (who : Responder S) (a b c : S) (w0 w1 w2 : Option (List ℕ)) (all rest : List ℕ) (next : List ℕ → Cut) (asked : Result ShareLine Fault) (held later : List ℕ) (e : PortError)
    → HoldsUpTo who a b w0 w1 all next held → LineOutcome who.may b c w1 w2 asked held (Err e) later → LinesOutcome who a c w0 w2 all (Err e) rest later
holds-broken who a b c w0 w1 w2 all rest next asked held later Memory holds told = (next, b, holds-moved who a b w0 w1 w2 all next held later holds told.0, told.1)
holds-broken who a b c w0 w1 w2 all rest next asked held later Write holds told = holds-front who a b c w0 w1 w2 all next held holds (inl told.1) told.0
holds-broken who a b c w0 w1 w2 all rest next asked held later Line holds told = absurd told
holds-broken who a b c w0 w1 w2 all rest next asked held later Read holds told = absurd told

-- of what is held a front was written, and the lines end there
pub holds-cut : {S : Type 0} (who : Responder S) (a b : S) (w0 w1 w2 : Option (List ℕ)) (all rest : List ℕ) (next : List ℕ → Cut) (held later : List ℕ) (e : PortError)
    → HoldsUpTo who a b w0 w1 all next held → WritesFront w1 w2 held → e ≡ Write → LinesOutcome who a b w0 w2 all (Err e) rest later
holds-cut who a b w0 w1 w2 all rest next held later e holds front is =
    subst (λ (k : PortError). LinesOutcome who a b w0 w2 all (Err k) rest later) (sym is) (holds-front who a b b w0 w1 w2 all next held holds (inl refl) front)

-- no further line has ended
pub holds-waits : {S : Type 0} (who : Responder S) (a b : S) (w0 w1 : Option (List ℕ)) (all mid new held : List ℕ) (found : Option (Result ShareLine Fault))
    → HoldsUpTo who a b w0 w1 all (λ more. cut (mid ++ more)) held → found ≡ None → TakesAsked who.names mid (Ok found) new
    → LinesOutcome who a b w0 w1 all (Ok tt) new held
holds-waits who a b w0 w1 all mid new held found holds is taken =
    let waits : TakesAsked who.names mid (Ok None) new = subst (λ (o : Option (Result ShareLine Fault)). TakesAsked who.names mid (Ok o) new) is taken in
    let P : List ℕ → Type 0 = λ ys. HoldsUpTo who a b w0 w1 all (λ more. cut (ys ++ more)) held in
    (subst P (sym waits.1) holds, subst (λ (ys : List ℕ). has_line ys ≡ false) (sym waits.1) waits.0)

-- the next line is refused, or memory for it
pub holds-refused : {S : Type 0} (who : Responder S) (a b : S) (w0 w1 : Option (List ℕ)) (all mid new held : List ℕ) (e : PortError)
    → HoldsUpTo who a b w0 w1 all (λ more. cut (mid ++ more)) held → TakesAsked who.names mid (Err e) new → LinesOutcome who a b w0 w1 all (Err e) new held
holds-refused who a b w0 w1 all mid new held Line holds taken = (
  holds.0,
  holds.1,
  holds.2,
  record {
    lines = holds.3.lines;
    out = holds.3.out;
    each = holds.3.each;
    wrote = holds.3.wrote;
    cut_is = λ more. holds.3.cut_is more ∙ ap (λ c. lines_then holds.3.lines (lines_then holds.0 c)) (taken more);
  },
)
holds-refused who a b w0 w1 all mid new held Memory holds taken = ((λ more. cut (mid ++ more)), b, holds, inl refl)
holds-refused who a b w0 w1 all mid new held Read holds taken = absurd taken
holds-refused who a b w0 w1 all mid new held Write holds taken = absurd taken

-- all lines in front were answered, and what is held of the answers was written, or a front of it
pub piece-ends : {S : Type 0} (Q : Type 0) (who : Responder S) (a b : S) (w0 w1 w2 : Option (List ℕ)) (all rest held : List ℕ) (result : Result (Unit {0}) PortError)
    → LinesOutcome who a b w0 w1 all (Ok tt) rest held → OnOk result (Appends w1 w2 held) → IfErr result (λ e. (e ≡ Write) × Q) → WritesFront w1 w2 held → PieceOutcome who a b w0 w2 all result rest
piece-ends Q who a b w0 w1 w2 all rest held (Ok x) holds wrote kind front = (holds-written who a b w0 w1 w2 all (λ more. cut (rest ++ more)) held holds.0 wrote, holds.1)
piece-ends Q who a b w0 w1 w2 all rest held (Err Write) holds wrote kind front = holds-front who a b b w0 w1 w2 all (λ more. cut (rest ++ more)) held holds.0 (inl refl) front
piece-ends Q who a b w0 w1 w2 all rest held (Err Read) holds wrote kind front = let e : Read ≡ Write = kind.0 in cc
piece-ends Q who a b w0 w1 w2 all rest held (Err Line) holds wrote kind front = let e : Line ≡ Write = kind.0 in cc
piece-ends Q who a b w0 w1 w2 all rest held (Err Memory) holds wrote kind front = let e : Memory ≡ Write = kind.0 in cc

-- the lines in front were answered, and what is held of the answers was written
pub piece-written : {S : Type 0} (who : Responder S) (a b : S) (w0 w1 w2 : Option (List ℕ)) (all rest held : List ℕ) (e : PortError)
    → LinesOutcome who a b w0 w1 all (Err e) rest held → (e ≡ Write → ⊥) → Appends w1 w2 held → PieceOutcome who a b w0 w2 all (Err e) rest
piece-written who a b w0 w1 w2 all rest held Line holds other wrote = holds-written who a b w0 w1 w2 all (λ more. stopped) held holds wrote
piece-written who a b w0 w1 w2 all rest held Memory holds other wrote = (holds.0, holds.1, holds-written who a holds.1 w0 w1 w2 all holds.0 held holds.2 wrote, holds.3)
piece-written who a b w0 w1 w2 all rest held Read holds other wrote = absurd holds
piece-written who a b w0 w1 w2 all rest held Write holds other wrote = absurd (other refl)

broken-off : {S : Type 0} (who : Responder S) (a b : S) (w0 w1 w2 : Option (List ℕ)) (all rest held : List ℕ) (e : PortError)
    → LinesOutcome who a b w0 w1 all (Err e) rest held → (e ≡ Write → ⊥) → WritesFront w1 w2 held → BreaksOff who a b w0 w2 all
broken-off who a b w0 w1 w2 all rest held Line holds other front = holds-front who a b b w0 w1 w2 all (λ more. stopped) held holds (inl refl) front
broken-off who a b w0 w1 w2 all rest held Memory holds other front = holds-front who a holds.1 b w0 w1 w2 all holds.0 held holds.2 holds.3 front
broken-off who a b w0 w1 w2 all rest held Read holds other front = absurd holds
broken-off who a b w0 w1 w2 all rest held Write holds other front = absurd (other refl)

-- of what is held a front was written
pub piece-broken : {S : Type 0} (who : Responder S) (a b : S) (w0 w1 w2 : Option (List ℕ)) (all rest held : List ℕ) (e k : PortError)
    → LinesOutcome who a b w0 w1 all (Err e) rest held → (e ≡ Write → ⊥) → WritesFront w1 w2 held → k ≡ Write → PieceOutcome who a b w0 w2 all (Err k) rest
piece-broken who a b w0 w1 w2 all rest held e k holds other front is =
    subst (λ (f : PortError). PieceOutcome who a b w0 w2 all (Err f) rest) (sym is) (broken-off who a b w0 w1 w2 all rest held e holds other front)

moved-nothing : (w0 w1 : Option (List ℕ)) (mid : List ℕ) → Moves w0 w1 [] mid → Appends w0 w1 [] × (mid ≡ [])
moved-nothing w0 w1 mid (inl moved) = moved
moved-nothing w0 w1 mid (inr kept) = kept

last-front : {S : Type 0} (who : Responder S) (a b : S) (w0 w2 : Option (List ℕ)) (rest out : List ℕ) → AnsweredLast who a b rest out → WritesFront w0 w2 out → WroteFront who a b w0 w2 (cut rest)
last-front who a b w0 w2 rest out answered front = record {
  lines = answered.lines;
  out = out;
  rest = ended;
  mid = b;
  each = answered.each;
  lost = inl refl;
  front = front;
  cut_is = answered.cut_is;
}

last-ends : {S : Type 0} (Q : Type 0) (who : Responder S) (a b : S) (w0 w1 w2 : Option (List ℕ)) (rest later one : List ℕ) (result : Result (Unit {0}) PortError)
    → Appends w0 w1 [] → later ≡ one → AnsweredLast who a b rest one → OnOk result (Appends w1 w2 later) → IfErr result (λ e. (e ≡ Write) × Q) → WritesFront w1 w2 later → LastOutcome who a b w0 w2 rest result
last-ends Q who a b w0 w1 w2 rest later one (Ok x) none same answered wrote kind front =
    (one, answered, Appends-trans w0 w1 w2 [] one none (subst (λ (ys : List ℕ). Appends w1 w2 ys) same wrote))
last-ends Q who a b w0 w1 w2 rest later one (Err Write) none same answered wrote kind front =
    last-front who a b w0 w2 rest one answered (front-after w0 w1 w2 [] one none (subst (λ (ys : List ℕ). WritesFront w1 w2 ys) same front))
last-ends Q who a b w0 w1 w2 rest later one (Err Read) none same answered wrote kind front = let e : Read ≡ Write = kind.0 in cc
last-ends Q who a b w0 w1 w2 rest later one (Err Line) none same answered wrote kind front = let e : Line ≡ Write = kind.0 in cc
last-ends Q who a b w0 w1 w2 rest later one (Err Memory) none same answered wrote kind front = let e : Memory ≡ Write = kind.0 in cc

-- the last line was taken and answered, and the answer was written, or a front of it
pub last-written : {S : Type 0} (Q : Type 0) (who : Responder S) (a b : S) (w0 w1 w2 : Option (List ℕ)) (rest held later : List ℕ) (found : Option (Result ShareLine Fault)) (asked : Result ShareLine Fault) (result : Result (Unit {0}) PortError)
    → found ≡ Some asked → IsLastAsked who.names rest (Ok found) → held ≡ [] → LineOutcome who.may a b w0 w1 asked held (Ok tt) later
    → OnOk result (Appends w1 w2 later) → IfErr result (λ e. (e ≡ Write) × Q) → WritesFront w1 w2 later → LastOutcome who a b w0 w2 rest result
last-written Q who a b w0 w1 w2 rest held later found asked result is last empty told wrote kind front =
    let t : LineOutcome who.may a b w0 w1 asked [] (Ok tt) later = subst (λ (ys : List ℕ). LineOutcome who.may a b w0 w1 asked ys (Ok tt) later) empty told in
    let m = moved-nothing w0 w1 t.0 t.1 in
    last-ends Q who a b w0 w1 w2 rest later t.2 result m.0 (t.4 ∙ ap (λ ys. ys ++ t.2) m.1) (last-found who a b rest t.2 found asked is last t.3) wrote kind front

-- it came to no answer
pub last-broken : {S : Type 0} (who : Responder S) (a b : S) (w0 w1 : Option (List ℕ)) (rest held later : List ℕ) (asked : Result ShareLine Fault) (e : PortError)
    → held ≡ [] → LineOutcome who.may a b w0 w1 asked held (Err e) later → LastOutcome who a b w0 w1 rest (Err e)
last-broken who a b w0 w1 rest held later asked e empty told = broken e (subst (λ (ys : List ℕ). LineOutcome who.may a b w0 w1 asked ys (Err e) later) empty told)
  where
    broken : (e : PortError) → LineOutcome who.may a b w0 w1 asked [] (Err e) later → LastOutcome who a b w0 w1 rest (Err e)
    broken Memory t = ((moved-nothing w0 w1 later t.0).0, t.1)
    broken Write t = record { lines = []; out = []; rest = cut rest; mid = a; each = (refl, refl); lost = inl t.1; front = t.0; cut_is = refl }
    broken Line t = absurd t
    broken Read t = absurd t
