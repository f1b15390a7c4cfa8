-- What the status of a run says of the text.
use Rattle.std.proofs.Common.{◌≡◌, ℕ, List, Option, Some, None, Result, Ok, Err, IfSome, arith, sym, subst}
use Rattle.bh_lines.specs.declared.port_error.PortError.{PortError}
use Rattle.bh_lines.specs.declared.port_error.PortError.TheVariants.{Read, Write, Line, Memory}
use Rattle.std.proofs.Math.Seq.{take-length}
use Rattle.std.proofs.Common.{length}
use Rattle.std.specs.Io.KnownBytes.{Appends}
use Rattle.bh_lines.specs.Lines.{Cut, cut}
use Rattle.bh_streams.specs.Watched.{WritesFront}
use Rattle.bh_port.specs.Course.{new_course}
use Rattle.bh_port.specs.Text.{text}
use Rattle.bh_port.specs.Script.{ScriptOutcome}
use Rattle.bh_commands.specs.Status.{RunStatus}
use Rattle.std.specs.Prelude.{MatchResult}
use Rattle.bh_props.specs.SettingsView.{SettingsView}

-- a script that ended well leaves status 0
pub run-whole : (input : Option (List ℕ)) (service : SettingsView) (w0 w1 : Option (List ℕ)) (x : Unit {0})
    → IfSome input (λ bytes. ScriptOutcome w0 w1 service (new_course service) (cut bytes) (Ok x)) → IfSome input (λ bytes. RunStatus service (cut bytes) w0 w1 0)
run-whole None service w0 w1 x o = tt
run-whole (Some bytes) service w0 w1 x o = record {
  whole = λ _. o;
  front = λ is. let bad : 0 ≡ 3 = is in absurd (omega arith);
  not_refused = λ is. omega arith;
}

front-of : (service : SettingsView) (c : Cut) (w0 w1 : Option (List ℕ)) (e : PortError) → ScriptOutcome w0 w1 service (new_course service) c (Err e) → WritesFront w0 w1 (text service (new_course service) c)
front-of service c w0 w1 Line o = (length (text service (new_course service) c), subst (λ (ys : List ℕ). Appends w0 w1 ys) (sym (take-length (text service (new_course service) c))) o.0)
front-of service c w0 w1 Memory o = o
front-of service c w0 w1 Read o = o
front-of service c w0 w1 Write o = o

-- one that a fault ended leaves status 3
pub run-front : (input : Option (List ℕ)) (service : SettingsView) (w0 w1 : Option (List ℕ)) (e : PortError) (status : ℕ)
    → status ≡ 3 → IfSome input (λ bytes. ScriptOutcome w0 w1 service (new_course service) (cut bytes) (Err e)) → IfSome input (λ bytes. RunStatus service (cut bytes) w0 w1 status)
run-front None service w0 w1 e status is o = tt
run-front (Some bytes) service w0 w1 e status is o = record {
  whole = λ bad. absurd (omega (arith, bad, is));
  front = λ _. front-of service (cut bytes) w0 w1 e o;
  not_refused = λ bad. omega (arith, bad, is);
}

-- what a script did to a reader and a writer that are watched, it did to those
pub lines-watched : (i j w0 w1 v0 v1 : Option (List ℕ)) (service : SettingsView) (r : Result (Unit {0}) PortError) → i ≡ j → w0 ≡ v0 → w1 ≡ v1
    → IfSome i (λ bytes. ScriptOutcome w0 w1 service (new_course service) (cut bytes) r) → IfSome j (λ bytes. ScriptOutcome v0 v1 service (new_course service) (cut bytes) r)
lines-watched i j w0 w1 v0 v1 service r input before after run =
    subst (λ (k : Option (List ℕ)). IfSome k (λ bytes. ScriptOutcome v0 v1 service (new_course service) (cut bytes) r)) input
    (subst (λ (v : Option (List ℕ)). IfSome i (λ bytes. ScriptOutcome v v1 service (new_course service) (cut bytes) r)) before
    (subst (λ (v : Option (List ℕ)). IfSome i (λ bytes. ScriptOutcome w0 v service (new_course service) (cut bytes) r)) after run))

-- the same of a script whose status says how it ended
pub run-told : (i j w0 w1 v0 v1 : Option (List ℕ)) (service : SettingsView) (r : Result (Unit {0}) PortError) (status : ℕ) → i ≡ j → w0 ≡ v0 → w1 ≡ v1
    → MatchResult r (λ _. status ≡ 0) (λ _. status ≡ 3)
    → IfSome i (λ bytes. ScriptOutcome w0 w1 service (new_course service) (cut bytes) r) → IfSome j (λ bytes. RunStatus service (cut bytes) v0 v1 status)
run-told i j w0 w1 v0 v1 service (Ok x) status input before after is run =
    subst (λ (s : ℕ). IfSome j (λ bytes. RunStatus service (cut bytes) v0 v1 s)) (sym is)
    (run-whole j service v0 v1 x (lines-watched i j w0 w1 v0 v1 service (Ok x) input before after run))
run-told i j w0 w1 v0 v1 service (Err e) status input before after is run =
    run-front j service v0 v1 e status is (lines-watched i j w0 w1 v0 v1 service (Err e) input before after run)
