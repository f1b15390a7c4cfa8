use Rattle.std.proofs.Common.{arith, rules, ◌∙◌}
use Rattle.bh_streams.proofs.Fronts.{wrote-more}
use Rattle.bh_streams.proofs.writing.write.Goals as goal

pub loop-at-preserved : goal.loop-at-preserved
loop-at-preserved g c = record {
  within = omega (arith, c.in-Ok.ensures);
  same_writer = c.in-Ok.ensures.same_writer ∙ c.loop-at.invariant.same_writer;
  none_refused = c.in-Ok.ensures.took (search rules) ∙ c.loop-at.invariant.none_refused;
  wrote = wrote-more _ _ _ _ _ _ c.loop-at.invariant.within c.loop-at.invariant.wrote c.in-Ok.ensures.bytes;
}
