-- How far a session has come, from the reader's first byte to its last.
use Rattle.std.proofs.Common.{◌≡◌, ℕ, false, List, [], ◌∷◌, ◌++◌, Option, Some, None, Result, Ok, Err, IfSome, refl, sym, ◌∙◌, subst, ap, append-nil, append_assoc}
use Rattle.std.proofs.KnownBytes.{Appends-trans, Appends-nil}
use Rattle.std.specs.Io.KnownBytes.{Keeps, Appends, Consumes, IsAtEnd}
use Rattle.bh_lines.specs.declared.port_error.PortError.{PortError}
use Rattle.bh_lines.specs.declared.port_error.PortError.TheVariants.{Read, Write, Line, Memory}
use Rattle.bh_lines.specs.Lines.{Cut, cut, has_line, lines_then}
use Rattle.bh_control.specs.AnswerLine.{Responder}
use Rattle.bh_streams.specs.Watched.{WritesFront}
use Rattle.bh_lines.proofs.LinesThen.{lines_then-append}
use Rattle.bh_streams.proofs.Fronts.{front-after}
use Rattle.bh_control.specs.Pieces.{AnswersEach}
use Rattle.bh_control.specs.Session.{Wrote, WroteFront, SessionOutcome, HasAnswered, WroteUpTo, PieceOutcome, LastOutcome}

-- what was written for `all` while `left` and what is kept are left of it
pub record Underway (all left : List ℕ) (who : Responder) (w0 w1 : Option (List ℕ)) (kept : List ℕ) : Type 0 where
  pub read : List ℕ
  pub lines : List (List ℕ)
  pub out : List ℕ
  pub all_is : all ≡ read ++ left
  pub each : AnswersEach who lines out
  pub wrote : Appends w0 w1 out
  pub cut_is : (more : List ℕ) → cut (read ++ more) ≡ lines_then lines (cut (kept ++ more))

-- the same of a reader whose bytes may not be known
abbrev pub Progress : Option (List ℕ) → Option (List ℕ) → Responder → Option (List ℕ) → Option (List ℕ) → List ℕ → Type 0
Progress None now who w0 w1 rest = Unit {0}
Progress (Some all) None who w0 w1 rest = ⊥
Progress (Some all) (Some left) who w0 w1 rest = Underway all left who w0 w1 rest

wrote-all : (all left : List ℕ) (who : Responder) (w0 w1 : Option (List ℕ)) (kept : List ℕ) → Underway all left who w0 w1 kept → Wrote who w0 w1 (cut all) (cut (kept ++ left))
wrote-all all left who w0 w1 kept p = record { lines = p.lines; out = p.out; each = p.each; wrote = p.wrote; cut_is = ap cut p.all_is ∙ p.cut_is left }

-- answers to some lines, and to those behind them
pub each-append : (who : Responder) (ks ls : List (List ℕ)) (o p : List ℕ) → AnswersEach who ks o → AnswersEach who ls p → AnswersEach who (ks ++ ls) (o ++ p)
each-append who [] ls o p h k = subst (λ (ys : List ℕ). AnswersEach who ls ys) (ap (λ ys. ys ++ p) (sym h)) k
each-append who (b ∷ ks) ls o p h k =
    (h.0, h.1 ++ p, h.2, each-append who ks ls h.1 p h.3 k, ap (λ ys. ys ++ p) h.4 ∙ append_assoc h.0 h.1 p)

-- what was written first, and then
wrote-more : (who : Responder) (w0 w1 w2 : Option (List ℕ)) (all mid rest : Cut) (ls : List (List ℕ)) (out : List ℕ)
    → Wrote who w0 w1 all mid → AnswersEach who ls out → Appends w1 w2 out → mid ≡ lines_then ls rest → Wrote who w0 w2 all rest
wrote-more who w0 w1 w2 all mid rest ls out w each wrote is = record {
  lines = w.lines ++ ls;
  out = w.out ++ out;
  each = each-append who w.lines ls w.out out w.each each;
  wrote = Appends-trans w0 w1 w2 w.out out w.wrote wrote;
  cut_is = w.cut_is ∙ (ap (λ c. lines_then w.lines c) is ∙ sym (lines_then-append w.lines ls rest));
}

-- what was written first, and then a front
wrote-front : (who : Responder) (w0 w1 w2 : Option (List ℕ)) (all mid rest : Cut) (ls : List (List ℕ)) (out : List ℕ)
    → Wrote who w0 w1 all mid → AnswersEach who ls out → WritesFront w1 w2 out → mid ≡ lines_then ls rest → WroteFront who w0 w2 all
wrote-front who w0 w1 w2 all mid rest ls out w each front is = record {
  lines = w.lines ++ ls;
  out = w.out ++ out;
  rest = rest;
  each = each-append who w.lines ls w.out out w.each each;
  front = front-after w0 w1 w2 w.out out w.wrote front;
  cut_is = w.cut_is ∙ (ap (λ c. lines_then w.lines c) is ∙ sym (lines_then-append w.lines ls rest));
}

-- what was written stays, where nothing more is
wrote-same : (who : Responder) (w0 w1 w2 : Option (List ℕ)) (all rest : Cut) → Wrote who w0 w1 all rest → Appends w1 w2 [] → Wrote who w0 w2 all rest
wrote-same who w0 w1 w2 all rest w same = wrote-more who w0 w1 w2 all rest rest [] [] w refl same refl

-- nothing was read or written yet
pub progress-start : (all w : Option (List ℕ)) (who : Responder) (rest : List ℕ) → rest ≡ [] → Progress all all who w w rest
progress-start None w who rest e = tt
progress-start (Some all) w who rest e = record { read = []; lines = []; out = []; all_is = refl; each = refl; wrote = Appends-nil w; cut_is = λ more. ap (λ ys. cut (ys ++ more)) (sym e) }

joined : (rest piece left : List ℕ) (xs : List ℕ) → xs ≡ piece ++ left → rest ++ xs ≡ (rest ++ piece) ++ left
joined rest piece left xs e = ap (λ ys. rest ++ ys) e ∙ sym (append_assoc rest piece left)

-- a piece more was read, and the lines that it ended were answered
pub progress-piece : (all now next w0 w1 w2 : Option (List ℕ)) (who : Responder) (rest piece kept : List ℕ)
    → Progress all now who w0 w1 rest → Consumes now next piece → WroteUpTo who w1 w2 (rest ++ piece) (λ more. cut (kept ++ more)) → Progress all next who w0 w2 kept
progress-piece None now next w0 w1 w2 who rest piece kept p r g = tt
progress-piece (Some all) None next w0 w1 w2 who rest piece kept p r g = absurd p
progress-piece (Some all) (Some left) None w0 w1 w2 who rest piece kept p r g = absurd r
progress-piece (Some all) (Some left) (Some after) w0 w1 w2 who rest piece kept p r g =
    let ls : List (List ℕ) = g.lines in
    let then : (more : List ℕ) → cut (rest ++ (piece ++ more)) ≡ lines_then ls (cut (kept ++ more)) =
    λ more. ap cut (sym (append_assoc rest piece more)) ∙ g.cut_is more in record {
      read = p.read ++ piece;
      lines = p.lines ++ ls;
      out = p.out ++ g.out;
      all_is = p.all_is ∙ (ap (λ ys. p.read ++ ys) r ∙ sym (append_assoc p.read piece after));
      each = each-append who p.lines ls p.out g.out p.each g.each;
      wrote = Appends-trans w0 w1 w2 p.out g.out p.wrote g.wrote;
      cut_is = λ more.
          ap cut (append_assoc p.read piece more) ∙ p.cut_is (piece ++ more)
          ∙ (ap (λ c. lines_then p.lines c) (then more) ∙ sym (lines_then-append p.lines ls (cut (kept ++ more))));
    }

-- a piece whose lines were answered up to where the session stops
wrote-stops : (all left after : List ℕ) (w0 w1 w2 : Option (List ℕ)) (who : Responder) (rest piece : List ℕ) (next : List ℕ → Cut)
    → Underway all left who w0 w1 rest → left ≡ piece ++ after → WroteUpTo who w1 w2 (rest ++ piece) next → Wrote who w0 w2 (cut all) (next after)
wrote-stops all left after w0 w1 w2 who rest piece next p r g =
    wrote-more who w0 w1 w2 _ _ _ g.lines g.out (wrote-all all left who w0 w1 rest p) g.each g.wrote
    (ap cut (joined rest piece after left r) ∙ g.cut_is after)

-- a piece after which the session does not go on
pub progress-stops : (all now next w0 w1 w2 : Option (List ℕ)) (who : Responder) (rest piece kept : List ℕ) (e : PortError)
    → Progress all now who w0 w1 rest → Consumes now next piece → PieceOutcome who w1 w2 (rest ++ piece) (Err e) kept
    → IfSome all (λ input. SessionOutcome who w0 w2 (cut input) (Err e))
progress-stops None now next w0 w1 w2 who rest piece kept e p r g = tt
progress-stops (Some all) None next w0 w1 w2 who rest piece kept e p r g = absurd p
progress-stops (Some all) (Some left) None w0 w1 w2 who rest piece kept e p r g = absurd r
progress-stops (Some all) (Some left) (Some after) w0 w1 w2 who rest piece kept Line p r g = wrote-stops all left after w0 w1 w2 who rest piece _ p r g
progress-stops (Some all) (Some left) (Some after) w0 w1 w2 who rest piece kept Memory p r g =
    record { rest = g.0 after; some = wrote-stops all left after w0 w1 w2 who rest piece g.0 p r g.1 }
progress-stops (Some all) (Some left) (Some after) w0 w1 w2 who rest piece kept Read p r g = absurd g
progress-stops (Some all) (Some left) (Some after) w0 w1 w2 who rest piece kept Write p r g =
    wrote-front who w0 w1 w2 _ _ _ g.lines g.out (wrote-all all left who w0 w1 rest p) g.each g.front
    (ap cut (joined rest piece after left r) ∙ (g.cut_is after).1)

at-end : (all now w0 w1 w2 : Option (List ℕ)) (who : Responder) (rest : List ℕ) (result : Result (Unit {0}) PortError)
    → Progress all now who w0 w1 rest → IsAtEnd now → LastOutcome who w1 w2 rest result → IfSome all (λ input. SessionOutcome who w0 w2 (cut input) result)
at-end None now w0 w1 w2 who rest result p e g = tt
at-end (Some all) None w0 w1 w2 who rest result p e g = absurd p
at-end (Some all) (Some left) w0 w1 w2 who rest result p e g =
    let none : cut (rest ++ left) ≡ cut rest = ap (λ ys. cut (rest ++ ys)) e ∙ ap cut (append-nil rest) in
    last result g none (wrote-all all left who w0 w1 rest p)
  where
    last : (result : Result (Unit {0}) PortError) → LastOutcome who w1 w2 rest result → cut (rest ++ left) ≡ cut rest → Wrote who w0 w1 (cut all) (cut (rest ++ left)) → SessionOutcome who w0 w2 (cut all) result
    last (Ok x) g none w = wrote-more who w0 w1 w2 _ _ _ g.1.lines g.0 w g.1.each g.2 (none ∙ g.1.cut_is)
    last (Err Line) g none w = wrote-more who w0 w1 w2 _ _ _ [] [] w refl g.1 (none ∙ g.0)
    last (Err Memory) g none w = record { rest = cut (rest ++ left); some = wrote-same who w0 w1 w2 _ _ w g }
    last (Err Read) g none w = absurd g
    last (Err Write) g none w = wrote-front who w0 w1 w2 _ _ _ g.1.lines g.0 w g.1.each g.2 (none ∙ g.1.cut_is)

-- the end of the input
pub progress-ends : (all now next w0 w1 w2 : Option (List ℕ)) (who : Responder) (rest piece : List ℕ) (result : Result (Unit {0}) PortError)
    → Progress all now who w0 w1 rest → Consumes now next piece → piece ≡ [] → IsAtEnd next → LastOutcome who w1 w2 rest result
    → IfSome all (λ input. SessionOutcome who w0 w2 (cut input) result)
progress-ends None now next w0 w1 w2 who rest piece result p r none e g = tt
progress-ends (Some all) None next w0 w1 w2 who rest piece result p r none e g = absurd p
progress-ends (Some all) (Some left) None w0 w1 w2 who rest piece result p r none e g = absurd r
progress-ends (Some all) (Some left) (Some after) w0 w1 w2 who rest piece result p r none e g =
    let nothing : left ≡ [] = r ∙ (ap (λ ys. ys ++ after) none ∙ e) in
    at-end (Some all) (Some left) w0 w1 w2 who rest result p nothing g

-- memory is refused before a line of what was read is answered
pub progress-refused : (all now w0 w1 : Option (List ℕ)) (who : Responder) (rest : List ℕ) → Progress all now who w0 w1 rest → IfSome all (λ input. SessionOutcome who w0 w1 (cut input) (Err Memory))
progress-refused None now w0 w1 who rest p = tt
progress-refused (Some all) None w0 w1 who rest p = absurd p
progress-refused (Some all) (Some left) w0 w1 who rest p = record { rest = cut (rest ++ left); some = wrote-all all left who w0 w1 rest p }

-- the same of an error that is want of memory
pub memory-refused : (all w0 w1 : Option (List ℕ)) (who : Responder) (e : PortError) → e ≡ Memory
    → IfSome all (λ input. SessionOutcome who w0 w1 (cut input) (Err Memory)) → IfSome all (λ input. SessionOutcome who w0 w1 (cut input) (Err e))
memory-refused all w0 w1 who e is h = subst (λ (k : PortError). IfSome all (λ input. SessionOutcome who w0 w1 (cut input) (Err k))) (sym is) h

-- a reader that fails
pub progress-fails : (all now w0 w1 : Option (List ℕ)) (who : Responder) (rest : List ℕ) → Progress all now who w0 w1 rest → IfSome all (λ input. SessionOutcome who w0 w1 (cut input) (Err Read))
progress-fails None now w0 w1 who rest p = tt
progress-fails (Some all) None w0 w1 who rest p = absurd p
progress-fails (Some all) (Some left) w0 w1 who rest p = record { rest = cut (rest ++ left); some = wrote-all all left who w0 w1 rest p }

-- all lines that had ended were answered then
pub progress-answered : (all now next w0 w1 : Option (List ℕ)) (who : Responder) (rest : List ℕ)
    → Progress all now who w0 w1 rest → Keeps now next → has_line rest ≡ false → HasAnswered who w0 w1 all next
progress-answered None now next w0 w1 who rest p same none = tt
progress-answered (Some all) None next w0 w1 who rest p same none = absurd p
progress-answered (Some all) (Some left) None w0 w1 who rest p same none = absurd same
progress-answered (Some all) (Some left) (Some after) w0 w1 who rest p same none = record {
  read = p.read;
  kept = rest;
  lines = p.lines;
  out = p.out;
  input_is = p.all_is ∙ ap (λ ys. p.read ++ ys) (sym same);
  each = p.each;
  wrote = p.wrote;
  cut_is = p.cut_is;
  no_line = none;
}
