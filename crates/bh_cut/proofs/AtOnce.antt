-- What was kept from nothing on is then written at once, or a front of it.
use Rattle.std.proofs.Common.{◌≡◌, ℕ, min, List, [], take, ◌++◌, Option, Some, Result, Ok, Err, IfErr, OnOk, sym, subst, ap, ◌∙◌}
use Rattle.std.specs.Io.KnownBytes.{Appends}
use Rattle.bh_lines.specs.declared.port_error.PortError.{PortError}
use Rattle.bh_lines.specs.declared.port_error.PortError.TheVariants.{Read, Write, Line, Memory}
use Rattle.bh_lines.specs.Taken.{IsMemoryOrLine}
use Rattle.bh_streams.specs.Watched.{WritesFront}
use Rattle.bh_streams.proofs.Fronts.{front-of-more, take-front}
use Rattle.bh_cut.specs.Kept.{kept}
use Rattle.bh_cut.specs.Outcome.{CutOutcome, IsCutUpTo}

-- what is kept of the lines that have ended was written
pub at_once-cut : (start items bytes : List ℕ) (w0 w1 : Option (List ℕ)) (names : List (List ℕ)) (old new : List ℕ)
    → start ≡ [] → bytes ≡ items → IsCutUpTo (Some start) (Some items) names old new → Appends w0 w1 bytes → IsCutUpTo w0 w1 names old new
at_once-cut start items bytes w0 w1 names old new none same done wrote = record {
  out = done.out;
  wrote = subst (λ (ys : List ℕ). Appends w0 w1 ys) (same ∙ done.wrote ∙ ap (λ ys. ys ++ done.out) none) wrote;
  kept_is = done.kept_is;
  stops_is = done.stops_is;
}

-- from nothing on
from-nothing : (r : Result (Unit {0}) PortError) (start items : List ℕ) (names : List (List ℕ)) (all : List ℕ) → start ≡ [] → CutOutcome (Some start) (Some items) names all r → CutOutcome (Some []) (Some items) names all r
from-nothing r start items names all none outcome = subst (λ (ys : List ℕ). CutOutcome (Some ys) (Some items) names all r) none outcome

written : (items : List ℕ) (w0 w1 : Option (List ℕ)) (names : List (List ℕ)) (all : List ℕ) (r : Result (Unit {0}) PortError)
    → CutOutcome (Some []) (Some items) names all r → IfErr r IsMemoryOrLine → Appends w0 w1 items → CutOutcome w0 w1 names all r
written items w0 w1 names all (Ok x) o kind wrote = (subst (λ (ys : List ℕ). Appends w0 w1 ys) o.0 wrote, o.1)
written items w0 w1 names all (Err Line) o kind wrote = (subst (λ (ys : List ℕ). Appends w0 w1 ys) o.0 wrote, o.1)
written items w0 w1 names all (Err Memory) o kind wrote = (o.0, subst (λ (ys : List ℕ). Appends w0 w1 ys) o.1 wrote)
written items w0 w1 names all (Err Read) o kind wrote = absurd kind
written items w0 w1 names all (Err Write) o kind wrote = absurd kind

unwritten : (items : List ℕ) (w0 w1 : Option (List ℕ)) (names : List (List ℕ)) (all : List ℕ) (r : Result (Unit {0}) PortError)
    → CutOutcome (Some []) (Some items) names all r → IfErr r IsMemoryOrLine → WritesFront w0 w1 items → WritesFront w0 w1 (kept names all)
unwritten items w0 w1 names all (Ok x) o kind front = subst (λ (ys : List ℕ). WritesFront w0 w1 ys) o.0 front
unwritten items w0 w1 names all (Err Line) o kind front = subst (λ (ys : List ℕ). WritesFront w0 w1 ys) o.0 front
unwritten items w0 w1 names all (Err Memory) o kind front =
    let whole = kept names all in
    (min front.0 o.0, subst (λ (ys : List ℕ). Appends w0 w1 ys) (ap (take front.0) o.1 ∙ take-front front.0 o.0 whole) front.1)
unwritten items w0 w1 names all (Err Read) o kind front = absurd kind
unwritten items w0 w1 names all (Err Write) o kind front = absurd kind

-- what a cut that ended had kept was written
pub at_once-ended : (r : Result (Unit {0}) PortError) (start items bytes : List ℕ) (w0 w1 : Option (List ℕ)) (names : List (List ℕ)) (all : List ℕ)
    → start ≡ [] → bytes ≡ items → CutOutcome (Some start) (Some items) names all r → IfErr r IsMemoryOrLine → Appends w0 w1 bytes → CutOutcome w0 w1 names all r
at_once-ended r start items bytes w0 w1 names all none same outcome kind wrote =
    written items w0 w1 names all r (from-nothing r start items names all none outcome) kind (subst (λ (ys : List ℕ). Appends w0 w1 ys) same wrote)

-- a front of it was written
pub at_once-ended_unwritten : (r : Result (Unit {0}) PortError) (k : PortError) (start items bytes : List ℕ) (w0 w1 : Option (List ℕ)) (names : List (List ℕ)) (all : List ℕ)
    → start ≡ [] → bytes ≡ items → CutOutcome (Some start) (Some items) names all r → IfErr r IsMemoryOrLine → k ≡ Write → WritesFront w0 w1 bytes → CutOutcome w0 w1 names all (Err k)
at_once-ended_unwritten r k start items bytes w0 w1 names all none same outcome kind is_write front =
    subst (λ (j : PortError). CutOutcome w0 w1 names all (Err j)) (sym is_write)
    (unwritten items w0 w1 names all r (from-nothing r start items names all none outcome) kind (subst (λ (ys : List ℕ). WritesFront w0 w1 ys) same front))

-- the cut stopped, whatever bytes follow
abbrev pub StopsFrom : Option (List ℕ) → Option (List ℕ) → List (List ℕ) → List ℕ → PortError → Type 0
StopsFrom w0 w1 names old e = (more : List ℕ) → CutOutcome w0 w1 names (old ++ more) (Err e)

-- what was kept before a line that is refused was written, where the cut does not go on
pub at_once-outcome : (r : Result (Unit {0}) PortError) (start items bytes : List ℕ) (w0 w1 : Option (List ℕ)) (names : List (List ℕ)) (old : List ℕ)
    → start ≡ [] → bytes ≡ items → IfErr r (StopsFrom (Some start) (Some items) names old) → IfErr r IsMemoryOrLine → Appends w0 w1 bytes → IfErr r (StopsFrom w0 w1 names old)
at_once-outcome (Ok x) start items bytes w0 w1 names old none same stops kind wrote = tt
at_once-outcome (Err e) start items bytes w0 w1 names old none same stops kind wrote = λ more. at_once-ended (Err e) start items bytes w0 w1 names (old ++ more) none same (stops more) kind wrote

-- a front was written, whether the cut could go on or not
pub at_once-unwritten : (r : Result (Unit {0}) PortError) (k : PortError) (start items bytes : List ℕ) (w0 w1 : Option (List ℕ)) (names : List (List ℕ)) (old new : List ℕ)
    → start ≡ [] → bytes ≡ items → OnOk r (IsCutUpTo (Some start) (Some items) names old new) → IfErr r (StopsFrom (Some start) (Some items) names old) → IfErr r IsMemoryOrLine
    → k ≡ Write → WritesFront w0 w1 bytes → StopsFrom w0 w1 names old k
at_once-unwritten (Ok x) k start items bytes w0 w1 names old new none same done stops kind is_write front = λ more.
    let all : items ≡ done.out = done.wrote ∙ ap (λ ys. ys ++ done.out) none in
    subst (λ (j : PortError). CutOutcome w0 w1 names (old ++ more) (Err j)) (sym is_write)
    (subst (λ (ys : List ℕ). WritesFront w0 w1 ys) (sym (done.kept_is more))
    (front-of-more w0 w1 done.out _ (subst (λ (ys : List ℕ). WritesFront w0 w1 ys) (same ∙ all) front)))
at_once-unwritten (Err e) k start items bytes w0 w1 names old new none same done stops kind is_write front = λ more.
    at_once-ended_unwritten (Err e) k start items bytes w0 w1 names (old ++ more) none same (stops more) kind is_write front
