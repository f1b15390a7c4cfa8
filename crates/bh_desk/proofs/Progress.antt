-- How far a session has come, from the reader's first byte to its last.
use Rattle.std.proofs.Common.{◌≡◌, ℕ, false, List, [], ◌++◌, Option, Some, None, Result, Ok, Err, IfSome, inl, refl, sym, ◌∙◌, subst, ap, append-nil, append_assoc}
use Rattle.std.proofs.KnownBytes.{Appends-trans, Appends-nil}
use Rattle.std.specs.Io.KnownBytes.{Keeps, Appends, Consumes, IsAtEnd}
use Rattle.bh_lines.specs.declared.port_error.PortError.{PortError}
use Rattle.bh_lines.specs.declared.port_error.PortError.TheVariants.{Read, Write, Line, Memory}
use Rattle.bh_lines.specs.Lines.{Cut, cut, has_line, lines_then}
use Rattle.bh_lines.proofs.LinesThen.{lines_then-append}
use Rattle.bh_streams.specs.Watched.{WritesFront}
use Rattle.bh_streams.proofs.Fronts.{front-after}
use Rattle.bh_desk.specs.Answers.{Responder, AnswersEach, HasAnsweredSome, LosesOne}
use Rattle.bh_desk.specs.Session.{Wrote, WroteFront, SessionOutcome, HasAnswered, WroteUpTo, PieceOutcome, LastOutcome}
use Rattle.bh_desk.proofs.Each.{each-append}

-- lines were answered, and nothing else was done
abbrev pub HasReached : {S : Type 0} → Responder S → S → S → Type 0
HasReached who old new = (lines : List (List ℕ)) × (out : List ℕ) × AnswersEach who old lines out new

-- what was written for `all` while `left` and what is kept are left of it
pub record Underway {S : Type 0} (all left : List ℕ) (who : Responder S) (old new : S) (w0 w1 : Option (List ℕ)) (kept : List ℕ) : Type 0 where
  pub read : List ℕ
  pub lines : List (List ℕ)
  pub out : List ℕ
  pub all_is : all ≡ read ++ left
  pub each : AnswersEach who old lines out new
  pub wrote : Appends w0 w1 out
  pub cut_is : (more : List ℕ) → cut (read ++ more) ≡ lines_then lines (cut (kept ++ more))

-- the same of a reader whose bytes may not be known
abbrev pub Progress : {S : Type 0} → Option (List ℕ) → Option (List ℕ) → Responder S → S → S → Option (List ℕ) → Option (List ℕ) → List ℕ → Type 0
Progress None now who old new w0 w1 rest = Unit {0}
Progress (Some all) None who old new w0 w1 rest = ⊥
Progress (Some all) (Some left) who old new w0 w1 rest = Underway all left who old new w0 w1 rest

-- nothing was answered yet
pub reached-start : {S : Type 0} (who : Responder S) (d : S) → HasReached who d d
reached-start who d = ([], [], (refl, refl))

-- a piece more was answered
pub reached-piece : {S : Type 0} (who : Responder S) (a b c : S) (w0 w1 : Option (List ℕ)) (all : List ℕ) (next : List ℕ → Cut)
    → HasReached who a b → WroteUpTo who b c w0 w1 all next → HasReached who a c
reached-piece who a b c w0 w1 all next h g = (h.0 ++ g.lines, h.1 ++ g.out, each-append who a b c h.0 g.lines h.1 g.out h.2 g.each)

-- and nothing more
pub some-reached : {S : Type 0} (who : Responder S) (a b : S) → HasReached who a b → HasAnsweredSome who a b
some-reached who a b h = (h.0, h.1, b, h.2, inl refl)

some-more : {S : Type 0} (who : Responder S) (a b c d : S) (ls : List (List ℕ)) (out : List ℕ)
    → HasReached who a b → AnswersEach who b ls out c → LosesOne who.may c d → HasAnsweredSome who a d
some-more who a b c d ls out h each lost = (h.0 ++ ls, h.1 ++ out, c, each-append who a b c h.0 ls h.1 out h.2 each, lost)

-- a piece after which the session does not go on
pub some-piece : {S : Type 0} (who : Responder S) (a b c : S) (w0 w1 : Option (List ℕ)) (all kept : List ℕ) (e : PortError)
    → HasReached who a b → PieceOutcome who b c w0 w1 all (Err e) kept → HasAnsweredSome who a c
some-piece who a b c w0 w1 all kept Line h g = some-more who a b c c g.lines g.out h g.each (inl refl)
some-piece who a b c w0 w1 all kept Memory h g = some-more who a b g.1 c g.2.lines g.2.out h g.2.each g.3
some-piece who a b c w0 w1 all kept Read h g = absurd g
some-piece who a b c w0 w1 all kept Write h g = some-more who a b g.mid c g.lines g.out h g.each g.lost

-- the last line
pub some-last : {S : Type 0} (who : Responder S) (a b c : S) (w0 w1 : Option (List ℕ)) (rest : List ℕ) (result : Result (Unit {0}) PortError)
    → HasReached who a b → LastOutcome who b c w0 w1 rest result → HasAnsweredSome who a c
some-last who a b c w0 w1 rest (Ok x) h g = some-more who a b c c g.1.lines g.0 h g.1.each (inl refl)
some-last who a b c w0 w1 rest (Err Line) h g = (h.0, h.1, b, h.2, inl g.2)
some-last who a b c w0 w1 rest (Err Memory) h g = (h.0, h.1, b, h.2, g.1)
some-last who a b c w0 w1 rest (Err Read) h g = absurd g
some-last who a b c w0 w1 rest (Err Write) h g = some-more who a b g.mid c g.lines g.out h g.each g.lost

wrote-all : {S : Type 0} (all left : List ℕ) (who : Responder S) (a b : S) (w0 w1 : Option (List ℕ)) (kept : List ℕ) → Underway all left who a b w0 w1 kept → Wrote who a b w0 w1 (cut all) (cut (kept ++ left))
wrote-all all left who a b w0 w1 kept p = record { lines = p.lines; out = p.out; each = p.each; wrote = p.wrote; cut_is = ap cut p.all_is ∙ p.cut_is left }

-- what was written first, and then
wrote-more : {S : Type 0} (who : Responder S) (a b c : S) (w0 w1 w2 : Option (List ℕ)) (all mid rest : Cut) (ls : List (List ℕ)) (out : List ℕ)
    → Wrote who a b w0 w1 all mid → AnswersEach who b ls out c → Appends w1 w2 out → mid ≡ lines_then ls rest → Wrote who a c w0 w2 all rest
wrote-more who a b c w0 w1 w2 all mid rest ls out w each wrote is = record {
  lines = w.lines ++ ls;
  out = w.out ++ out;
  each = each-append who a b c w.lines ls w.out out w.each each;
  wrote = Appends-trans w0 w1 w2 w.out out w.wrote wrote;
  cut_is = w.cut_is ∙ (ap (λ c. lines_then w.lines c) is ∙ sym (lines_then-append w.lines ls rest));
}

-- what was written first, and then a front
wrote-front : {S : Type 0} (who : Responder S) (a b c d : S) (w0 w1 w2 : Option (List ℕ)) (all mid rest : Cut) (ls : List (List ℕ)) (out : List ℕ)
    → Wrote who a b w0 w1 all mid → AnswersEach who b ls out c → LosesOne who.may c d → WritesFront w1 w2 out → mid ≡ lines_then ls rest → WroteFront who a d w0 w2 all
wrote-front who a b c d w0 w1 w2 all mid rest ls out w each lost front is = record {
  lines = w.lines ++ ls;
  out = w.out ++ out;
  rest = rest;
  mid = c;
  each = each-append who a b c w.lines ls w.out out w.each each;
  lost = lost;
  front = front-after w0 w1 w2 w.out out w.wrote front;
  cut_is = w.cut_is ∙ (ap (λ c. lines_then w.lines c) is ∙ sym (lines_then-append w.lines ls rest));
}

-- nothing was read or written yet
pub progress-start : {S : Type 0} (all w : Option (List ℕ)) (who : Responder S) (d : S) (rest : List ℕ) → rest ≡ [] → Progress all all who d d w w rest
progress-start None w who d rest e = tt
progress-start (Some all) w who d rest e = record { read = []; lines = []; out = []; all_is = refl; each = (refl, refl); wrote = Appends-nil w; cut_is = λ more. ap (λ ys. cut (ys ++ more)) (sym e) }

joined : (rest piece left : List ℕ) (xs : List ℕ) → xs ≡ piece ++ left → rest ++ xs ≡ (rest ++ piece) ++ left
joined rest piece left xs e = ap (λ ys. rest ++ ys) e ∙ sym (append_assoc rest piece left)

-- a piece more was read, and the lines that it ended were answered
pub progress-piece : {S : Type 0} (all now next w0 w1 w2 : Option (List ℕ)) (who : Responder S) (a b c : S) (rest piece kept : List ℕ)
    → Progress all now who a b w0 w1 rest → Consumes now next piece → WroteUpTo who b c w1 w2 (rest ++ piece) (λ more. cut (kept ++ more)) → Progress all next who a c w0 w2 kept
progress-piece None now next w0 w1 w2 who a b c rest piece kept p r g = tt
progress-piece (Some all) None next w0 w1 w2 who a b c rest piece kept p r g = absurd p
progress-piece (Some all) (Some left) None w0 w1 w2 who a b c rest piece kept p r g = absurd r
progress-piece (Some all) (Some left) (Some after) w0 w1 w2 who a b c rest piece kept p r g =
    let ls : List (List ℕ) = g.lines in
    let then : (more : List ℕ) → cut (rest ++ (piece ++ more)) ≡ lines_then ls (cut (kept ++ more)) =
    λ more. ap cut (sym (append_assoc rest piece more)) ∙ g.cut_is more in record {
      read = p.read ++ piece;
      lines = p.lines ++ ls;
      out = p.out ++ g.out;
      all_is = p.all_is ∙ (ap (λ ys. p.read ++ ys) r ∙ sym (append_assoc p.read piece after));
      each = each-append who a b c p.lines ls p.out g.out p.each g.each;
      wrote = Appends-trans w0 w1 w2 p.out g.out p.wrote g.wrote;
      cut_is = λ more.
          ap cut (append_assoc p.read piece more) ∙ p.cut_is (piece ++ more)
          ∙ (ap (λ c. lines_then p.lines c) (then more) ∙ sym (lines_then-append p.lines ls (cut (kept ++ more))));
    }

-- a piece whose lines were answered up to where the session stops
wrote-stops : {S : Type 0} (all left after : List ℕ) (w0 w1 w2 : Option (List ℕ)) (who : Responder S) (a b c : S) (rest piece : List ℕ) (next : List ℕ → Cut)
    → Underway all left who a b w0 w1 rest → left ≡ piece ++ after → WroteUpTo who b c w1 w2 (rest ++ piece) next → Wrote who a c w0 w2 (cut all) (next after)
wrote-stops all left after w0 w1 w2 who a b c rest piece next p r g =
    wrote-more who a b c w0 w1 w2 _ _ _ g.lines g.out (wrote-all all left who a b w0 w1 rest p) g.each g.wrote
    (ap cut (joined rest piece after left r) ∙ g.cut_is after)

-- a piece after which the session does not go on
pub progress-stops : {S : Type 0} (all now next w0 w1 w2 : Option (List ℕ)) (who : Responder S) (a b c : S) (rest piece kept : List ℕ) (e : PortError)
    → Progress all now who a b w0 w1 rest → Consumes now next piece → PieceOutcome who b c w1 w2 (rest ++ piece) (Err e) kept
    → IfSome all (λ input. SessionOutcome who a c w0 w2 (cut input) (Err e))
progress-stops None now next w0 w1 w2 who a b c rest piece kept e p r g = tt
progress-stops (Some all) None next w0 w1 w2 who a b c rest piece kept e p r g = absurd p
progress-stops (Some all) (Some left) None w0 w1 w2 who a b c rest piece kept e p r g = absurd r
progress-stops (Some all) (Some left) (Some after) w0 w1 w2 who a b c rest piece kept Line p r g = wrote-stops all left after w0 w1 w2 who a b c rest piece _ p r g
progress-stops (Some all) (Some left) (Some after) w0 w1 w2 who a b c rest piece kept Memory p r g =
    record { rest = g.0 after; mid = g.1; some = wrote-stops all left after w0 w1 w2 who a b g.1 rest piece g.0 p r g.2; lost = g.3 }
progress-stops (Some all) (Some left) (Some after) w0 w1 w2 who a b c rest piece kept Read p r g = absurd g
progress-stops (Some all) (Some left) (Some after) w0 w1 w2 who a b c rest piece kept Write p r g =
    wrote-front who a b g.mid c w0 w1 w2 _ _ _ g.lines g.out (wrote-all all left who a b w0 w1 rest p) g.each g.lost g.front
    (ap cut (joined rest piece after left r) ∙ (g.cut_is after).1)

at-end : {S : Type 0} (all now w0 w1 w2 : Option (List ℕ)) (who : Responder S) (a b c : S) (rest : List ℕ) (result : Result (Unit {0}) PortError)
    → Progress all now who a b w0 w1 rest → IsAtEnd now → LastOutcome who b c w1 w2 rest result → IfSome all (λ input. SessionOutcome who a c w0 w2 (cut input) result)
at-end None now w0 w1 w2 who a b c rest result p e g = tt
at-end (Some all) None w0 w1 w2 who a b c rest result p e g = absurd p
at-end (Some all) (Some left) w0 w1 w2 who a b c rest result p e g =
    let none : cut (rest ++ left) ≡ cut rest = ap (λ ys. cut (rest ++ ys)) e ∙ ap cut (append-nil rest) in
    last result g none (wrote-all all left who a b w0 w1 rest p)
  where
    last : (result : Result (Unit {0}) PortError) → LastOutcome who b c w1 w2 rest result → cut (rest ++ left) ≡ cut rest → Wrote who a b w0 w1 (cut all) (cut (rest ++ left)) → SessionOutcome who a c w0 w2 (cut all) result
    last (Ok x) g none w = wrote-more who a b c w0 w1 w2 _ _ _ g.1.lines g.0 w g.1.each g.2 (none ∙ g.1.cut_is)
    last (Err Line) g none w = wrote-more who a b c w0 w1 w2 _ _ _ [] [] w (refl, g.2) g.1 (none ∙ g.0)
    last (Err Memory) g none w = record { rest = cut (rest ++ left); mid = b; some = wrote-more who a b b w0 w1 w2 _ _ _ [] [] w (refl, refl) g.0 refl; lost = g.1 }
    last (Err Read) g none w = absurd g
    last (Err Write) g none w = wrote-front who a b g.mid c w0 w1 w2 _ _ _ g.lines g.out w g.each g.lost g.front (none ∙ g.cut_is)

-- the end of the input
pub progress-ends : {S : Type 0} (all now next w0 w1 w2 : Option (List ℕ)) (who : Responder S) (a b c : S) (rest piece : List ℕ) (result : Result (Unit {0}) PortError)
    → Progress all now who a b w0 w1 rest → Consumes now next piece → piece ≡ [] → IsAtEnd next → LastOutcome who b c w1 w2 rest result
    → IfSome all (λ input. SessionOutcome who a c w0 w2 (cut input) result)
progress-ends None now next w0 w1 w2 who a b c rest piece result p r none e g = tt
progress-ends (Some all) None next w0 w1 w2 who a b c rest piece result p r none e g = absurd p
progress-ends (Some all) (Some left) None w0 w1 w2 who a b c rest piece result p r none e g = absurd r
progress-ends (Some all) (Some left) (Some after) w0 w1 w2 who a b c rest piece result p r none e g =
    let nothing : left ≡ [] = r ∙ (ap (λ ys. ys ++ after) none ∙ e) in
    at-end (Some all) (Some left) w0 w1 w2 who a b c rest result p nothing g

-- memory is refused before a line of what was read is answered
pub progress-refused : {S : Type 0} (all now w0 w1 : Option (List ℕ)) (who : Responder S) (a b : S) (rest : List ℕ) → Progress all now who a b w0 w1 rest → IfSome all (λ input. SessionOutcome who a b w0 w1 (cut input) (Err Memory))
progress-refused None now w0 w1 who a b rest p = tt
progress-refused (Some all) None w0 w1 who a b rest p = absurd p
progress-refused (Some all) (Some left) w0 w1 who a b rest p = record { rest = cut (rest ++ left); mid = b; some = wrote-all all left who a b w0 w1 rest p; lost = inl refl }

-- the same of an error that is want of memory
pub memory-refused : {S : Type 0} (all w0 w1 : Option (List ℕ)) (who : Responder S) (a b : S) (e : PortError) → e ≡ Memory
    → IfSome all (λ input. SessionOutcome who a b w0 w1 (cut input) (Err Memory)) → IfSome all (λ input. SessionOutcome who a b w0 w1 (cut input) (Err e))
memory-refused all w0 w1 who a b e is h = subst (λ (k : PortError). IfSome all (λ input. SessionOutcome who a b w0 w1 (cut input) (Err k))) (sym is) h

-- a reader that fails
pub progress-fails : {S : Type 0} (all now w0 w1 : Option (List ℕ)) (who : Responder S) (a b : S) (rest : List ℕ) → Progress all now who a b w0 w1 rest → IfSome all (λ input. SessionOutcome who a b w0 w1 (cut input) (Err Read))
progress-fails None now w0 w1 who a b rest p = tt
progress-fails (Some all) None w0 w1 who a b rest p = absurd p
progress-fails (Some all) (Some left) w0 w1 who a b rest p = record { rest = cut (rest ++ left); mid = b; some = wrote-all all left who a b w0 w1 rest p; lost = inl refl }

-- all lines that had ended were answered then
pub progress-answered : {S : Type 0} (all now next w0 w1 : Option (List ℕ)) (who : Responder S) (a b : S) (rest : List ℕ)
    → Progress all now who a b w0 w1 rest → Keeps now next → has_line rest ≡ false → HasAnswered who a b w0 w1 all next
progress-answered None now next w0 w1 who a b rest p same none = tt
progress-answered (Some all) None next w0 w1 who a b rest p same none = absurd p
progress-answered (Some all) (Some left) None w0 w1 who a b rest p same none = absurd same
progress-answered (Some all) (Some left) (Some after) w0 w1 who a b rest p same none = record {
  read = p.read;
  kept = rest;
  lines = p.lines;
  out = p.out;
  input_is = p.all_is ∙ ap (λ ys. p.read ++ ys) (sym same);
  each = p.each;
  wrote = p.wrote;
  cut_is = p.cut_is;
  no_line = none;
}
