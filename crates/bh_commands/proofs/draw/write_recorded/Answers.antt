use Rattle.std.proofs.Common.{rules, ap, ◌∙◌}
use Rattle.bh_commands.proofs.Whole.{drawn-picture}
use Rattle.bh_commands.proofs.draw.write_recorded.Goals as goal

pub returns-clause-drawn : goal.returns-clause-drawn
returns-clause-drawn g c =
    drawn-picture _ _ _ _ _ _ (ap g.W.Write.contents c.new-writer.ensures.same) (search rules) (c.as_bytes.ensures.value ∙ c.as_str.ensures) c.in_ok-drawn.ensures c.in_ok-write.ensures.ok
