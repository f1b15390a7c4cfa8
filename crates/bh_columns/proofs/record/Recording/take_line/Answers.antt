use Rattle.std.proofs.Common.{◌≡◌, Ok, Err, ◌∙◌, ap, sym, subst}
use Rattle.bh_props.specs.Shown.{settings_view}
use Rattle.bh_port.specs.Course.{line_act}
use Rattle.bh_port.proofs.Outcomes.{both_ok}
use Rattle.bh_columns.specs.Named.{run_said}
use Rattle.bh_columns.specs.Placed.{IsAsked}
use Rattle.bh_columns.specs.Recorded.{IsRecorded}
use Rattle.bh_columns.proofs.Asked.{asked_by_line}
use Rattle.bh_columns.proofs.record.Recording.take_line.Goals as goal

pub returns-in-Ok : goal.returns-in-Ok
returns-in-Ok c = both_ok c.take_act.result c.take_act.ensures c.take_act.ensures (λ did _ sel run recorded.
    let service = settings_view c.args.settings.now in
    let said : line_act service c.args.self.now.groups.entries c.args.line.now ≡ Ok c.line_act.new.act = rw c.in-Ok.is at c.in_ok-said.ensures.said in
    let is : line_act service run.course.entries c.args.line.now ≡ Ok c.line_act.new.act = sym (ap (λ es. line_act service es c.args.line.now) recorded.shows.entries) ∙ said in
    let asked : IsAsked c.args.self.now.groups.entries c.line_act.new.act = asked_by_line service c.args.self.now.groups.entries c.args.line.now c.line_act.new.act said in
    subst (λ s. IsRecorded service sel c.take_act.new.self.groups c.take_act.new.self.kept (run_said service sel.from sel.to s run)) (sym is) (did sel run recorded asked))

pub returns-in-Err : goal.returns-in-Err
returns-in-Err c = λ sel run recorded.
    let service = settings_view c.args.settings.now in
    let is : line_act service run.course.entries c.args.line.now ≡ Err c.in-Err._fault =
    sym (ap (λ es. line_act service es c.args.line.now) recorded.shows.entries) ∙ (rw c.in-Err.is at c.in_ok-said.ensures.said) in
    subst (λ s. IsRecorded service sel c.args.self.now.groups c.args.self.now.kept (run_said service sel.from sel.to s run)) (sym is) recorded
