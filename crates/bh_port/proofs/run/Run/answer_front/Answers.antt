use Rattle.std.proofs.Common.{◌++◌, Err, Some, subst}
use Rattle.bh_lines.specs.Lines.{cut}
use Rattle.bh_lines.specs.declared.port_error.PortError.TheVariants.{Memory}
use Rattle.bh_props.specs.Shown.{settings_view}
use Rattle.bh_port.specs.Script.{ScriptOutcome}
use Rattle.bh_port.proofs.Outcomes.{on_err}
use Rattle.bh_port.proofs.run.Run.answer_front.Goals as goal

pub returns-in_err-taken-clause-stopped : goal.returns-in_err-taken-clause-stopped
returns-in_err-taken-clause-stopped c = on_err c.from_residual.result (λ before more agrees.
    subst (λ bytes. ScriptOutcome (Some c.args.self.now.out.items) (Some c.answer_ahead.new.self.out.items) (settings_view c.args.settings.now) before (cut (bytes ++ more)) (Err Memory))
    c.as_slice-bytes.ensures (c.in_err-taken.ensures.stopped before more agrees))

pub returns-in_err-taken-2-clause-stopped : goal.returns-in_err-taken-2-clause-stopped
returns-in_err-taken-2-clause-stopped c = on_err c.from_residual-in_err-taken-2.result (λ before more agrees.
    subst (λ bytes. ScriptOutcome (Some c.args.self.now.out.items) (Some c.answer_one_by_one.new.self.out.items) (settings_view c.args.settings.now) before (cut (bytes ++ more)) (Err Memory))
    c.as_slice-bytes.ensures (c.in_err-taken-2.ensures.stopped before more agrees))
