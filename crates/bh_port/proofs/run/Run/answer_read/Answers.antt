use Rattle.std.proofs.Common.{drop, ◌∙◌, ◌+◌}
use Rattle.std.proofs.lemmas.List.{at_drop_all}
use Rattle.bh_props.specs.Shown.{settings_view}
use Rattle.bh_port.proofs.Outcomes.{on_err}
use Rattle.bh_port.proofs.ReadLines.{all-answered, drop_more, next-answered, next-unanswered}
use Rattle.bh_port.proofs.run.Run.answer_read.Goals as goal

pub returns-in_err-answer_ready-clause-stopped : goal.returns-in_err-answer_ready-clause-stopped
returns-in_err-answer_ready-clause-stopped c = on_err c.from_residual.result (λ before bytes left more agrees read.
    next-unanswered _ _ (settings_view c.args.settings.now) before c.loop-line.self.groups c.args.self.now.groups.entries bytes left _ more _ c.in_err-answer_ready.ensures.kept
    (c.loop-line.invariant.1 before bytes left agrees read))

pub loop-line-preserved : goal.loop-line-preserved
loop-line-preserved c =
    let lines = c.args.lines.now in
    let i = c.loop-line.line-index in (
      c.answer_ready.ensures.entries ∙ c.loop-line.invariant.0,
      λ before bytes left agrees read.
          next-answered _ _ (settings_view c.args.settings.now) before c.loop-line.self.groups c.args.self.now.groups.entries bytes left
          _ c.answer_ready.new.self.groups c.line-item.result (drop (i + 1) lines) (drop i lines) c.loop-line.invariant.0 (drop_more lines i c.line-item.result c.loop-line-test.true c.line-item.is)
          (c.loop-line.invariant.1 before bytes left agrees read) c.in_ok-answer_ready.ensures.answers,
    )

pub returns-clause-answered : goal.returns-clause-answered
returns-clause-answered c = λ before bytes left agrees read.
    all-answered _ _ (settings_view c.args.settings.now) before c.loop-line.self.groups c.args.self.now.groups.entries bytes left
    _ (at_drop_all (λ ls. ls) c.args.lines.now c.loop-line.line-index c.loop-line-test.false)
    (c.loop-line.invariant.1 before bytes left agrees read)
