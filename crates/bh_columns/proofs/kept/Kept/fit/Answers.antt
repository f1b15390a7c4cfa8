use Rattle.std.proofs.Common.{◌∙◌, arith, sym, subst}
use Rattle.bh_columns.specs.Filled.{AreFilled}
use Rattle.bh_columns.proofs.Keeping.{panels_then}
use Rattle.bh_columns.proofs.kept.Kept.fit.Goals as goal

pub returns-then-takes-clause-filled : goal.returns-then-takes-clause-filled
returns-then-takes-clause-filled c = λ fs fills filled.
    subst (λ w. AreFilled c.loop.self.panels.items w fs) (sym c.takes.ensures.width) (c.loop.invariant.filled fs fills filled)

pub returns-then-takes-clause-within : goal.returns-then-takes-clause-within
returns-then-takes-clause-within c = λ f fill within. c.takes.ensures.within f (c.loop.invariant.within f fill within)

pub returns-then-takes-clause-taken : goal.returns-then-takes-clause-taken
returns-then-takes-clause-taken c = λ some. c.takes.ensures.taken c.if-takes.true (omega (arith, some))

pub loop-preserved : goal.loop-preserved
loop-preserved c = record {
  filled = λ fs fills filled. c.join.ensures.filled fs fills (subst (λ w. AreFilled c.loop.self.panels.items w fs) (sym c.takes.ensures.width) (c.loop.invariant.filled fs fills filled));
  panels = panels_then c.args.self.now.panels.items c.loop.self.panels.items c.join.new.self.panels.items c.loop.invariant.panels c.join.ensures.panels;
  within = λ f fill within. c.join.ensures.within f fill (c.takes.ensures.within f (c.loop.invariant.within f fill within));
  places = c.join.ensures.places ∙ c.loop.invariant.places;
  selection = c.join.ensures.selection ∙ c.loop.invariant.selection;
  lanes = c.join.ensures.lanes ∙ c.loop.invariant.lanes;
  left_out = c.join.ensures.left_out ∙ c.loop.invariant.left_out;
}

pub returns-clause-filled : goal.returns-clause-filled
returns-clause-filled c = λ fs fills filled.
    subst (λ w. AreFilled c.loop.self.panels.items w fs) (sym c.take_in.ensures.width) (c.loop.invariant.filled fs fills filled)

pub returns-clause-within : goal.returns-clause-within
returns-clause-within c = λ f fill within. c.take_in.ensures.within f (c.loop.invariant.within f fill within)

pub returns-clause-taken : goal.returns-clause-taken
returns-clause-taken c = λ some. c.take_in.ensures.taken (omega (arith, some))
