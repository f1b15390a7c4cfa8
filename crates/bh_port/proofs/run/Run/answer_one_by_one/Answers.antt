use Rattle.std.proofs.Common.{drop, refl, sym, arith, length-drop}
use Rattle.std.proofs.lemmas.List.{drop-drop}
use Rattle.bh_port.proofs.Answering.{answered-none, answered-then, front-answered, front-within, last-unanswered, stopped-then}
use Rattle.bh_lines.specs.declared.port_error.PortError.TheVariants.{Memory}
use Rattle.bh_port.proofs.Outcomes.{on_err}
use Rattle.bh_port.proofs.run.Run.answer_one_by_one.Goals as goal

pub loop-line-init : goal.loop-line-init
loop-line-init c = (search arith, λ before agrees. answered-none _ _ before _ _ agrees)

pub loop-line-preserved : goal.loop-line-preserved
loop-line-preserved c =
    let bytes = c.args.bytes.now in
    let rest = drop c.loop-line.taken bytes in
    let within = front-within rest rest c.in-Some.line refl c.in-Some.ensures in (
      omega (arith, c.loop-line.invariant.0, within.1, length-drop c.loop-line.taken bytes),
      λ before agrees. answered-then _ _ _ _ before _ _ _ rest _ (c.loop-line.invariant.1 before agrees)
          (front-answered _ _ _ _ _ rest rest _ c.in-Some.line refl c.in-Some.ensures c.in_ok-answer_plain.ensures.answers (sym (drop-drop c.in-Some.line.taken c.loop-line.taken bytes))),
    )

pub returns-in_err-answer_plain-clause-stopped : goal.returns-in_err-answer_plain-clause-stopped
returns-in_err-answer_plain-clause-stopped c = on_err c.from_residual.result
    (λ before more agrees. stopped-then _ _ _ _ before _ _ _ more Memory (c.loop-line.invariant.1 before agrees)
    (λ later after shows. last-unanswered _ _ _ later _ c.in_err-answer_plain.ensures.kept))
