use Rattle.std.proofs.Common.{◌<◌, ℕ, List, sym, subst, rules}
use Rattle.std.proofs.Output.{has_written_append, has_written_of_eq}
use Rattle.bh_base.specs.Commands.{command_count}
use Rattle.bh_props.specs.declared.subject.Scope.TheVariants as scopes
use Rattle.bh_props.specs.Printed.{subject_lines}
use Rattle.bh_props.proofs.Further.{rows-taken}
use Rattle.bh_props.proofs.print.write_listed.Goals as goal

pub write_subject-requires : goal.write_subject-requires
write_subject-requires g c =
    subst (λ (x : List ℕ × (ℕ × ℕ)). x.1.1 < command_count c.args.props.now) (sym c.command-item.is)
    (c.requires c.loop-command.command-index c.command-item.result c.loop-command-test.true)

pub loop-command-preserved : goal.loop-command-preserved
loop-command-preserved g c =
    let w = c.write_subject.ensures in
    λ plain.
    let written = c.loop-command.invariant plain in
    has_written_of_eq _ _ _ _ _
    (rows-taken (λ x. subject_lines c.args.audit_steps scopes.Command x.0 c.args.props.now x.1.1) c.args.further.now c.loop-command.command-index c.command-item.result c.loop-command-test.true c.command-item.is)
    (has_written_append _ _ _ _ _ _ written (rw c.as_str.ensures.text at w written.plain (search rules)))
