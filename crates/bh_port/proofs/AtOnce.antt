-- What was answered from nothing on is then written at once, or a front of it.
use Rattle.std.proofs.Common.{◌≡◌, ℕ, List, [], ◌++◌, Option, Some, Result, Ok, Err, IfErr, OnOk, sym, subst}
use Rattle.std.specs.Io.KnownBytes.{Appends}
use Rattle.bh_port.specs.GroupsView.{GroupsView}
use Rattle.bh_lines.specs.declared.port_error.PortError.{PortError}
use Rattle.bh_lines.specs.declared.port_error.PortError.TheVariants.{Write}
use Rattle.bh_lines.specs.Lines.{Cut, cut}
use Rattle.bh_lines.specs.Taken.{IsMemoryOrLine}
use Rattle.bh_streams.specs.Watched.{WritesFront}
use Rattle.bh_port.specs.Course.{Course}
use Rattle.bh_port.specs.Script.{GroupsShow, ScriptAnswered, ScriptOutcome}
use Rattle.bh_port.proofs.Answering.{written-answered, unwritten-answered, written, unwritten}
use Rattle.bh_props.specs.SettingsView.{SettingsView}

-- all lines that had ended were answered, beginning with `start`
abbrev pub AnswersFrom : List ℕ → List ℕ → SettingsView → GroupsView → GroupsView → List ℕ → List ℕ → Type 0
AnswersFrom start items service was now old new = (before : Course) → GroupsShow service was before → ScriptAnswered (Some start) (Some items) service before now old new

-- the run stopped, whatever bytes follow, with answers beginning with `start`
abbrev pub StopsFrom : List ℕ → List ℕ → SettingsView → GroupsView → List ℕ → PortError → Type 0
StopsFrom start items service was old e =
    (before : Course) (more : List ℕ) → GroupsShow service was before → ScriptOutcome (Some start) (Some items) service before (cut (old ++ more)) (Err e)

-- the answers to lines that have ended were written
pub at_once-answered : (start items bytes : List ℕ) (w0 w1 : Option (List ℕ)) (service : SettingsView) (was now : GroupsView) (old new : List ℕ)
    → start ≡ [] → bytes ≡ items → AnswersFrom start items service was now old new → Appends w0 w1 bytes
    → (before : Course) → GroupsShow service was before → ScriptAnswered w0 w1 service before now old new
at_once-answered start items bytes w0 w1 service was now old new none same answers wrote before agrees =
    written-answered items w0 w1 service before now old new
    (subst (λ (ys : List ℕ). ScriptAnswered (Some ys) (Some items) service before now old new) none (answers before agrees))
    (subst (λ (ys : List ℕ). Appends w0 w1 ys) same wrote)

-- what a run that stopped had answered was written, of the last line too
pub at_once-ended : (r : Result (Unit {0}) PortError) (start items bytes : List ℕ) (w0 w1 : Option (List ℕ)) (service : SettingsView) (before : Course) (c : Cut)
    → start ≡ [] → bytes ≡ items → ScriptOutcome (Some start) (Some items) service before c r → IfErr r IsMemoryOrLine → Appends w0 w1 bytes → ScriptOutcome w0 w1 service before c r
at_once-ended r start items bytes w0 w1 service before c none same outcome kind wrote =
    written items w0 w1 service before c r
    (subst (λ (ys : List ℕ). ScriptOutcome (Some ys) (Some items) service before c r) none outcome) kind
    (subst (λ (ys : List ℕ). Appends w0 w1 ys) same wrote)

-- a front of it was written
pub at_once-ended_unwritten : (r : Result (Unit {0}) PortError) (k : PortError) (start items bytes : List ℕ) (w0 w1 : Option (List ℕ)) (service : SettingsView) (before : Course) (c : Cut)
    → start ≡ [] → bytes ≡ items → ScriptOutcome (Some start) (Some items) service before c r → IfErr r IsMemoryOrLine → k ≡ Write → WritesFront w0 w1 bytes → ScriptOutcome w0 w1 service before c (Err k)
at_once-ended_unwritten r k start items bytes w0 w1 service before c none same outcome kind is_write front =
    subst (λ (j : PortError). ScriptOutcome w0 w1 service before c (Err j)) (sym is_write)
    (unwritten items w0 w1 service before c r
    (subst (λ (ys : List ℕ). ScriptOutcome (Some ys) (Some items) service before c r) none outcome) kind
    (subst (λ (ys : List ℕ). WritesFront w0 w1 ys) same front))

-- the answers before a line that is refused were written
at_once-stopped : (e : PortError) (start items bytes : List ℕ) (w0 w1 : Option (List ℕ)) (service : SettingsView) (was : GroupsView) (old : List ℕ)
    → start ≡ [] → bytes ≡ items → StopsFrom start items service was old e → IsMemoryOrLine e → Appends w0 w1 bytes
    → (before : Course) (more : List ℕ) → GroupsShow service was before → ScriptOutcome w0 w1 service before (cut (old ++ more)) (Err e)
at_once-stopped e start items bytes w0 w1 service was old none same stops kind wrote before more agrees =
    at_once-ended (Err e) start items bytes w0 w1 service before (cut (old ++ more)) none same (stops before more agrees) kind wrote

-- the same of a run that may go on
pub at_once-outcome : (r : Result (Unit {0}) PortError) (start items bytes : List ℕ) (w0 w1 : Option (List ℕ)) (service : SettingsView) (was : GroupsView) (old : List ℕ)
    → start ≡ [] → bytes ≡ items → IfErr r (StopsFrom start items service was old) → IfErr r IsMemoryOrLine → Appends w0 w1 bytes
    → IfErr r (λ e. (before : Course) (more : List ℕ) → GroupsShow service was before → ScriptOutcome w0 w1 service before (cut (old ++ more)) (Err e))
at_once-outcome (Ok x) start items bytes w0 w1 service was old none same stops kind wrote = tt
at_once-outcome (Err e) start items bytes w0 w1 service was old none same stops kind wrote = at_once-stopped e start items bytes w0 w1 service was old none same stops kind wrote

-- a front of the answers was written, whether the run could go on or not
pub at_once-unwritten : (r : Result (Unit {0}) PortError) (k : PortError) (start items bytes : List ℕ) (w0 w1 : Option (List ℕ)) (service : SettingsView) (was now : GroupsView) (old new : List ℕ)
    → start ≡ [] → bytes ≡ items → OnOk r (AnswersFrom start items service was now old new) → IfErr r (StopsFrom start items service was old) → IfErr r IsMemoryOrLine
    → k ≡ Write → WritesFront w0 w1 bytes
    → (before : Course) (more : List ℕ) → GroupsShow service was before → ScriptOutcome w0 w1 service before (cut (old ++ more)) (Err k)
at_once-unwritten (Ok x) k start items bytes w0 w1 service was now old new none same answers stops kind is_write front before more agrees =
    subst (λ (j : PortError). ScriptOutcome w0 w1 service before (cut (old ++ more)) (Err j)) (sym is_write)
    (unwritten-answered items w0 w1 service before now old new more
    (subst (λ (ys : List ℕ). ScriptAnswered (Some ys) (Some items) service before now old new) none (answers before agrees))
    (subst (λ (ys : List ℕ). WritesFront w0 w1 ys) same front))
at_once-unwritten (Err e) k start items bytes w0 w1 service was now old new none same answers stops kind is_write front before more agrees =
    at_once-ended_unwritten (Err e) k start items bytes w0 w1 service before (cut (old ++ more)) none same (stops before more agrees) kind is_write front
