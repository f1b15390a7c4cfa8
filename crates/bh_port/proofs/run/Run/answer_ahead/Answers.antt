use Rattle.std.proofs.Common.{◌+◌, drop, Some, refl, sym, subst, arith, length-drop}
use Rattle.std.proofs.lemmas.List.{drop-drop}
use Rattle.bh_lines.specs.declared.port_error.PortError.TheVariants.{Memory}
use Rattle.bh_lines.specs.Front.{IsFront}
use Rattle.bh_props.specs.Shown.{settings_view}
use Rattle.bh_port.specs.Script.{ScriptAnswered}
use Rattle.bh_port.proofs.Answering.{answered-then, front-answered, front-within, last-unanswered, stopped-then}
use Rattle.bh_port.proofs.Outcomes.{on_err}
use Rattle.bh_port.proofs.run.Run.answer_ahead.Goals as goal

pub returns-in_err-answer_read-clause-stopped : goal.returns-in_err-answer_read-clause-stopped
returns-in_err-answer_read-clause-stopped c =
    let rest = drop c.loop-ahead.taken c.args.bytes.now in
    on_err c.from_residual.result (λ before more agrees.
    stopped-then _ _ _ _ before _ _ _ more Memory (c.loop-ahead.invariant.1 before agrees)
    (λ later after shows. c.in_err-answer_read.ensures.stopped later rest (drop c.in-Some.ahead.taken rest) after shows (rw c.behind.ensures at c.in-Some.ensures.read)))

pub returns-in_err-answer_other-clause-stopped : goal.returns-in_err-answer_other-clause-stopped
returns-in_err-answer_other-clause-stopped c =
    let rest = drop c.loop-ahead.taken c.args.bytes.now in
    let behind = drop c.in-Some.ahead.taken rest in
    on_err c.from_residual-in_err-answer_other.result (λ before more agrees.
    stopped-then _ _ _ _ before _ _ _ more Memory
    (answered-then _ _ _ _ before _ _ _ rest behind (c.loop-ahead.invariant.1 before agrees) (λ later shows. c.in_ok-answer_read.ensures.answered later rest behind shows (rw c.behind.ensures at c.in-Some.ensures.read)))
    (λ later after shows. last-unanswered _ _ _ later _ c.in_err-answer_other.ensures.kept))

pub loop-ahead-preserved-in-Some-other : goal.loop-ahead-preserved-in-Some-other
loop-ahead-preserved-in-Some-other c =
    let bytes = c.args.bytes.now in
    let rest = drop c.loop-ahead.taken bytes in
    let front = c.in-Some-other.front in
    let behind = drop (c.loop-ahead.taken + c.in-Some.ahead.taken) bytes in
    let moved = drop-drop c.in-Some.ahead.taken c.loop-ahead.taken bytes in
    let in_front : IsFront behind (Some front) = subst (λ ys. IsFront ys (Some front)) moved (rw (c.behind.ensures, c.in-Some-other.is) at c.in-Some.ensures.other) in
    let within = front-within behind behind front refl in_front in (
      omega (arith, c.loop-ahead.invariant.0, within.1, (rw c.behind.ensures at c.in-Some.ensures.within), length-drop c.loop-ahead.taken bytes, length-drop (c.loop-ahead.taken + c.in-Some.ahead.taken) bytes),
      λ before agrees. answered-then _ _ _ _ before _ _ _ behind _
          (answered-then _ _ _ _ before _ _ _ rest behind (c.loop-ahead.invariant.1 before agrees)
          (λ later shows. subst (λ ys. ScriptAnswered (Some c.loop-ahead.self.out.items) (Some c.answer_read.new.self.out.items) (settings_view c.args.settings.now) later c.answer_read.new.self.groups rest ys) moved (c.in_ok-answer_read.ensures.answered later rest (drop c.in-Some.ahead.taken rest) shows (rw c.behind.ensures at c.in-Some.ensures.read))))
          (front-answered _ _ _ _ _ behind behind _ front refl in_front c.in_ok-answer_other.ensures.answers (sym (drop-drop front.taken (c.loop-ahead.taken + c.in-Some.ahead.taken) bytes))),
    )

pub loop-ahead-preserved : goal.loop-ahead-preserved
loop-ahead-preserved c =
    let bytes = c.args.bytes.now in
    let rest = drop c.loop-ahead.taken bytes in (
      omega (arith, c.loop-ahead.invariant.0, (rw c.behind.ensures at c.in-Some.ensures.within), length-drop c.loop-ahead.taken bytes),
      λ before agrees. answered-then _ _ _ _ before _ _ _ rest _ (c.loop-ahead.invariant.1 before agrees)
          (λ later shows. subst (λ ys. ScriptAnswered (Some c.loop-ahead.self.out.items) (Some c.answer_read.new.self.out.items) (settings_view c.args.settings.now) later c.answer_read.new.self.groups rest ys) (drop-drop c.in-Some.ahead.taken c.loop-ahead.taken bytes)
          (c.in_ok-answer_read.ensures.answered later rest (drop c.in-Some.ahead.taken rest) shows (rw c.behind.ensures at c.in-Some.ensures.read))),
    )
