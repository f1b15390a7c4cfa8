use Rattle.std.proofs.lemmas.Result.{err_from_is_err_and}
use Rattle.bh_look.proofs.Taking.{stopped-then, taken-none, taken-then}
use Rattle.bh_look.proofs.watch.Watch.take_lines.Goals as goal

pub loop-init : goal.loop-init
loop-init c = λ before watched. taken-none _ before _ _ _ watched

pub returns-in_err-take_next-clause-stopped : goal.returns-in_err-take_next-clause-stopped
returns-in_err-take_next-clause-stopped c =
    let p = err_from_is_err_and c.from_residual.result c.from_residual.ensures.1 in
    rw (p.1, p.2) (λ before more watched. stopped-then _ before _ _ _ _ _ _ more _ (c.loop.invariant before watched) c.in_err-take_next.ensures.stopped)

pub loop-preserved : goal.loop-preserved
loop-preserved c = λ before watched. taken-then _ before _ _ _ _ _ _ _ _ (c.loop.invariant before watched) c.in_ok-take_next.ensures.taken
