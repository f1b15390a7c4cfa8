use Rattle.std.proofs.Common.{rules, ap}
use Rattle.bh_commands.proofs.CutStatus.{cut-whole, cut-front, cut-watched}
use Rattle.bh_commands.proofs.cut.cut_script.Goals as goal

pub returns-in-Ok-clause-kept : goal.returns-in-Ok-clause-kept
returns-in-Ok-clause-kept g c =
    cut-watched _ _ _ _ _ _ _ _ (ap g.R.Read.remaining c.new-reader.ensures.same) (ap g.W.Write.contents c.new-writer.ensures.same) (search rules)
    (cut-whole _ _ _ _ tt c.in-Ok.ensures.kept)

pub returns-in-Err-clause-kept : goal.returns-in-Err-clause-kept
returns-in-Err-clause-kept g c =
    cut-watched _ _ _ _ _ _ _ _ (ap g.R.Read.remaining c.new-reader.ensures.same) (ap g.W.Write.contents c.new-writer.ensures.same) (search rules)
    (cut-front _ _ _ _ c.in-Err.error _ c.port.ensures c.in-Err.ensures.kept)
