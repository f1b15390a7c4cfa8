use Rattle.std.proofs.Common.{sym, ◌∙◌}
use Rattle.bh_sharing.proofs.Saying.{put-says}
use Rattle.bh_sharing.proofs.step_line.put_step.Goals as goal

pub returns-clause-says : goal.returns-clause-says
returns-clause-says g c =
    put-says c.is_said_by_name.ensures (g.D.Directory.names c.args.directory.now) c.args.step.now _ c.in-Some.group.now _ c.in-Some.ensures (sym c.is_sayable.ensures ∙ c.if-not-is_sayable.false) c.in_ok-value.ensures.data c.in_ok-value.ensures.short c.in_ok-line.ensures.reads
