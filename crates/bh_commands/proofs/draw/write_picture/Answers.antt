use Rattle.std.proofs.Common.{ap}
use Rattle.bh_commands.proofs.Whole.{recorded-whole}
use Rattle.bh_commands.proofs.draw.write_picture.Goals as goal

pub returns-clause-whole : goal.returns-clause-whole
returns-clause-whole g c =
    recorded-whole _ _ _ _ _ _ _ _ _ (ap g.R.Read.remaining c.new-reader.ensures.same) c.write_recorded.ensures.whole (c.record_script-ended.ensures.outcome _ _ c.in_ok-recording.ensures.recorded)
