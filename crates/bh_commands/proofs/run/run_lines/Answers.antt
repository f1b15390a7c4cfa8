use Rattle.std.proofs.Common.{rules, ap}
use Rattle.bh_commands.proofs.RunStatus.{lines-watched}
use Rattle.bh_commands.proofs.run.run_lines.Goals as goal

pub returns : goal.returns
returns g c =
    lines-watched _ _ _ _ _ _ _ _ (ap g.R.Read.remaining c.new-reader.ensures.same) (ap g.W.Write.contents c.new-writer.ensures.same) (search rules)
    c.script.ensures.text
