-- What the status of a cut says of what was written.
use Rattle.std.proofs.Common.{◌≡◌, ℕ, List, Option, Some, None, Result, Ok, Err, IfSome, IfOk, arith, subst}
use Rattle.bh_lines.specs.declared.port_error.PortError.{PortError}
use Rattle.bh_lines.specs.declared.port_error.PortError.TheVariants.{Read, Write, Line, Memory}
use Rattle.bh_props.specs.SettingsView.{SettingsView}
use Rattle.bh_streams.specs.Watched.{WritesFront}
use Rattle.bh_streams.proofs.Fronts.{whole-is-front}
use Rattle.bh_cut.specs.Alike.{IsAnsweredAlike}
use Rattle.bh_cut.specs.Kept.{kept}
use Rattle.bh_cut.specs.Outcome.{CutOutcome}
use Rattle.bh_cut.proofs.Answering.{answered-alike}
use Rattle.bh_commands.specs.Status.{CutStatus}

-- a cut that ended well leaves status 0
pub cut-whole : (input : Option (List ℕ)) (names : List (List ℕ)) (w0 w1 : Option (List ℕ)) (x : Unit {0})
    → IfSome input (λ bytes. CutOutcome w0 w1 names bytes (Ok x)) → IfSome input (λ bytes. CutStatus names bytes w0 w1 0)
cut-whole None names w0 w1 x o = tt
cut-whole (Some bytes) names w0 w1 x o = record {
  whole = λ _. o;
  front = λ is. let bad : 0 ≡ 3 = is in absurd (omega arith);
  not_refused = λ is. omega arith;
}

front-of : (names : List (List ℕ)) (bytes : List ℕ) (w0 w1 : Option (List ℕ)) (e : PortError) → CutOutcome w0 w1 names bytes (Err e) → WritesFront w0 w1 (kept names bytes)
front-of names bytes w0 w1 Line o = whole-is-front w0 w1 (kept names bytes) o.0
front-of names bytes w0 w1 Memory o = o
front-of names bytes w0 w1 Read o = o
front-of names bytes w0 w1 Write o = o

-- one that a fault ended leaves status 3
pub cut-front : (input : Option (List ℕ)) (names : List (List ℕ)) (w0 w1 : Option (List ℕ)) (e : PortError) (status : ℕ)
    → status ≡ 3 → IfSome input (λ bytes. CutOutcome w0 w1 names bytes (Err e)) → IfSome input (λ bytes. CutStatus names bytes w0 w1 status)
cut-front None names w0 w1 e status is o = tt
cut-front (Some bytes) names w0 w1 e status is o = record {
  whole = λ bad. absurd (omega (arith, bad, is));
  front = λ _. front-of names bytes w0 w1 e o;
  not_refused = λ bad. omega (arith, bad, is);
}

-- the same of a reader and a writer that were watched
pub cut-watched : (i j w0 w1 v0 v1 : Option (List ℕ)) (names : List (List ℕ)) (status : ℕ) → i ≡ j → w0 ≡ v0 → w1 ≡ v1
    → IfSome i (λ bytes. CutStatus names bytes w0 w1 status) → IfSome j (λ bytes. CutStatus names bytes v0 v1 status)
cut-watched i j w0 w1 v0 v1 names status input before after cut =
    subst (λ (k : Option (List ℕ)). IfSome k (λ bytes. CutStatus names bytes v0 v1 status)) input
    (subst (λ (v : Option (List ℕ)). IfSome i (λ bytes. CutStatus names bytes v v1 status)) before
    (subst (λ (v : Option (List ℕ)). IfSome i (λ bytes. CutStatus names bytes w0 v status)) after cut))

-- under settings that are in order the lines are answered as in the whole
pub settings-alike : {E : Type 0} (r : Result SettingsView E) (names : List (List ℕ)) → IfOk r (λ service. (input : List ℕ) → IsAnsweredAlike service names input)
settings-alike (Ok service) names = λ input. answered-alike service names input
settings-alike (Err e) names = tt
