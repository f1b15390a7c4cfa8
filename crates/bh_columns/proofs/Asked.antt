-- What a line can ask for, and whose it is.
use Rattle.std.proofs.Common.{◌≡◌, ℕ, List, Result, Ok, Err, subst}
use Rattle.bh_faults.specs.declared.fault.Fault.{Fault}
use Rattle.bh_lines.specs.ScriptLine.{Asked, line_asked}
use Rattle.bh_port.specs.declared.act.LineAct.{LineAct}
use Rattle.bh_port.specs.declared.act.LineAct.TheVariants as act
use Rattle.bh_port.specs.declared.groups.Entry.{Entry}
use Rattle.bh_port.specs.Course.{act_asked, act_of, line_act}
use Rattle.bh_props.specs.SettingsView.{SettingsView}
use Rattle.bh_cut.specs.Named.{group_of}
use Rattle.bh_cut.proofs.Leaving.{by_act}
use Rattle.bh_columns.specs.Placed.{IsAsked}

asked_of : (service : SettingsView) (entries : List Entry) (asked : Asked) (a : LineAct) → act_of service entries asked ≡ Ok a → IsAsked entries a
asked_of service entries asked a = by_act (λ r. r ≡ Ok a → IsAsked entries a) service entries asked
    (λ fault h. absurd cc)
    (λ x is h. let same : act.Step x ≡ a = cc in subst (IsAsked entries) same (group_of asked, is))
    (λ place room h. let same : act.Register (group_of asked) place ≡ a = cc in subst (IsAsked entries) same tt)
    (λ n is h. let same : act.Retire (record { 0 = n }) ≡ a = cc in subst (IsAsked entries) same (group_of asked, is))

asked_in : (service : SettingsView) (entries : List Entry) (r : Result Asked Fault) (a : LineAct) → act_asked service entries r ≡ Ok a → IsAsked entries a
asked_in service entries (Ok asked) a h = asked_of service entries asked a h
asked_in service entries (Err fault) a h = absurd cc

-- what a line asks for is asked for by names
pub asked_by_line : (service : SettingsView) (entries : List Entry) (bytes : List ℕ) (a : LineAct) → line_act service entries bytes ≡ Ok a → IsAsked entries a
unfolding line_act
asked_by_line service entries bytes a h = asked_in service entries (line_asked bytes) a h
