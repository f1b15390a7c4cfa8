-- A cut, from the reader's first byte to its last.
use Rattle.std.proofs.Common.{◌≡◌, ℕ, false, List, [], ◌++◌, Option, Some, None, Result, Err, IfSome, refl, sym, ◌∙◌, subst, ap, append-nil, append_assoc}
use Rattle.std.specs.Io.KnownBytes.{Keeps, Consumes, IsAtEnd}
use Rattle.bh_lines.specs.declared.port_error.PortError.{PortError}
use Rattle.bh_lines.specs.declared.port_error.PortError.TheVariants.{Read, Write, Line, Memory}
use Rattle.bh_lines.specs.Lines.{cut, stops, has_line}
use Rattle.bh_streams.specs.Watched.{WritesFront}
use Rattle.bh_streams.proofs.Fronts.{whole-front}
use Rattle.bh_port.specs.Script.{IsMemoryOrRead}
use Rattle.bh_cut.specs.Kept.{kept}
use Rattle.bh_cut.specs.Outcome.{CutOutcome, HasCut, IsCutUpTo}
use Rattle.bh_cut.proofs.Looking.{cut-start, cut-then, outcome-after}

-- what was written of `all` while `left` and the buffer are left of it
pub record Underway (all left : List ℕ) (w0 w1 : Option (List ℕ)) (names : List (List ℕ)) (buffer : List ℕ) : Type 0 where
  pub read : List ℕ
  pub all_is : all ≡ read ++ left
  pub done : IsCutUpTo w0 w1 names read buffer

-- the same of a reader whose bytes may not be known
abbrev pub Progress : Option (List ℕ) → Option (List ℕ) → Option (List ℕ) → Option (List ℕ) → List (List ℕ) → List ℕ → Type 0
Progress None now w0 w1 names buffer = Unit {0}
Progress (Some all) None w0 w1 names buffer = ⊥
Progress (Some all) (Some left) w0 w1 names buffer = Underway all left w0 w1 names buffer

-- nothing was read or written yet
pub progress-start : (all w : Option (List ℕ)) (names : List (List ℕ)) → Progress all all w w names []
progress-start None w names = tt
progress-start (Some all) w names = record { read = []; all_is = refl; done = cut-start w names [] }

-- the lines that had ended were looked at, and what is kept of them written
pub progress-lines : (all now w0 w1 w2 : Option (List ℕ)) (names : List (List ℕ)) (old new : List ℕ) → Progress all now w0 w1 names old → IsCutUpTo w1 w2 names old new → Progress all now w0 w2 names new
progress-lines None now w0 w1 w2 names old new p next = tt
progress-lines (Some all) None w0 w1 w2 names old new p next = absurd p
progress-lines (Some all) (Some left) w0 w1 w2 names old new p next = record { read = p.read; all_is = p.all_is; done = cut-then w0 w1 w2 names p.read old new p.done next }

-- a piece more was read
pub progress-read : (all now next w0 w1 : Option (List ℕ)) (names : List (List ℕ)) (old new piece : List ℕ) → Progress all now w0 w1 names old → Consumes now next piece → new ≡ old ++ piece
    → Progress all next w0 w1 names new
progress-read None now next w0 w1 names old new piece p r e = tt
progress-read (Some all) None next w0 w1 names old new piece p r e = absurd p
progress-read (Some all) (Some left) None w0 w1 names old new piece p r e = absurd r
progress-read (Some all) (Some left) (Some rest) w0 w1 names old new piece p r e =
    let done = p.done in
    let same : (more : List ℕ) → old ++ (piece ++ more) ≡ new ++ more = λ more. sym (append_assoc old piece more) ∙ ap (λ ys. ys ++ more) (sym e) in record {
      read = p.read ++ piece;
      all_is = p.all_is ∙ (ap (λ ys. p.read ++ ys) r ∙ sym (append_assoc p.read piece rest));
      done = record {
        out = done.out;
        wrote = done.wrote;
        kept_is = λ more. ap (kept names) (append_assoc p.read piece more) ∙ done.kept_is (piece ++ more) ∙ ap (λ ys. done.out ++ kept names ys) (same more);
        stops_is = λ more. ap (λ ys. stops (cut ys)) (append_assoc p.read piece more) ∙ done.stops_is (piece ++ more) ∙ ap (λ ys. stops (cut ys)) (same more);
      };
    }

-- what is kept of all, and what is left to write
all-kept : (all left : List ℕ) (w0 w1 : Option (List ℕ)) (names : List (List ℕ)) (buffer : List ℕ) → (p : Underway all left w0 w1 names buffer) → kept names all ≡ p.done.out ++ kept names (buffer ++ left)
all-kept all left w0 w1 names buffer p = ap (kept names) p.all_is ∙ p.done.kept_is left

all-stops : (all left : List ℕ) (w0 w1 : Option (List ℕ)) (names : List (List ℕ)) (buffer : List ℕ) → Underway all left w0 w1 names buffer → stops (cut all) ≡ stops (cut (buffer ++ left))
all-stops all left w0 w1 names buffer p = ap (λ ys. stops (cut ys)) p.all_is ∙ p.done.stops_is left

-- the cut stops whatever bytes follow
pub progress-stops : (all now w0 w1 w2 : Option (List ℕ)) (names : List (List ℕ)) (buffer : List ℕ) (r : Result (Unit {0}) PortError)
    → Progress all now w0 w1 names buffer → ((more : List ℕ) → CutOutcome w1 w2 names (buffer ++ more) r) → IfSome all (λ input. CutOutcome w0 w2 names input r)
progress-stops None now w0 w1 w2 names buffer r p o = tt
progress-stops (Some all) None w0 w1 w2 names buffer r p o = absurd p
progress-stops (Some all) (Some left) w0 w1 w2 names buffer r p o =
    outcome-after w0 w1 w2 names p.done.out all (buffer ++ left) r p.done.wrote (all-kept all left w0 w1 names buffer p) (all-stops all left w0 w1 names buffer p) (o left)

-- it stops where the input ends
pub progress-ends : (all now w0 w1 w2 : Option (List ℕ)) (names : List (List ℕ)) (buffer : List ℕ) (r : Result (Unit {0}) PortError)
    → Progress all now w0 w1 names buffer → IsAtEnd now → CutOutcome w1 w2 names buffer r → IfSome all (λ input. CutOutcome w0 w2 names input r)
progress-ends None now w0 w1 w2 names buffer r p e o = tt
progress-ends (Some all) None w0 w1 w2 names buffer r p e o = absurd p
progress-ends (Some all) (Some left) w0 w1 w2 names buffer r p e o =
    let same : buffer ≡ buffer ++ left = sym (append-nil buffer) ∙ ap (λ ys. buffer ++ ys) (sym e) in
    outcome-after w0 w1 w2 names p.done.out all (buffer ++ left) r p.done.wrote (all-kept all left w0 w1 names buffer p) (all-stops all left w0 w1 names buffer p)
    (subst (λ (ys : List ℕ). CutOutcome w1 w2 names ys r) same o)

-- the cut is given up
pub progress-front : (all now w0 w1 : Option (List ℕ)) (names : List (List ℕ)) (buffer : List ℕ) (e : PortError)
    → Progress all now w0 w1 names buffer → IsMemoryOrRead e → IfSome all (λ input. CutOutcome w0 w1 names input (Err e))
progress-front None now w0 w1 names buffer e p kind = tt
progress-front (Some all) None w0 w1 names buffer e p kind = absurd p
progress-front (Some all) (Some left) w0 w1 names buffer e p kind =
    let front : WritesFront w0 w1 (kept names all) = subst (λ (ys : List ℕ). WritesFront w0 w1 ys) (sym (all-kept all left w0 w1 names buffer p)) (whole-front w0 w1 p.done.out _ p.done.wrote) in
    elim e as (λ k. IsMemoryOrRead k → CutOutcome w0 w1 names all (Err k)) [
      | Line ↦ λ none. absurd none
      | Memory ↦ λ _. front
      | Read ↦ λ _. front
      | Write ↦ λ none. absurd none
    ] kind

-- the reader fails, and all lines that had ended were looked at
pub progress-failed : (all now next w0 w1 : Option (List ℕ)) (names : List (List ℕ)) (buffer : List ℕ)
    → Progress all now w0 w1 names buffer → Keeps now next → has_line buffer ≡ false → HasCut all next w0 w1 names
progress-failed None now next w0 w1 names buffer p same none = tt
progress-failed (Some all) None next w0 w1 names buffer p same none = absurd p
progress-failed (Some all) (Some left) None w0 w1 names buffer p same none = absurd same
progress-failed (Some all) (Some left) (Some rest) w0 w1 names buffer p same none = record {
  read = p.read;
  rest = buffer;
  input_is = p.all_is ∙ ap (λ ys. p.read ++ ys) (sym same);
  cut_up = p.done;
  no_line = none;
}
