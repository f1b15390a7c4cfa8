use Rattle.std.proofs.Common.{◌≡◌, Ok, Err, ◌∙◌, ap, sym, subst}
use Rattle.bh_props.specs.Shown.{settings_view}
use Rattle.bh_port.specs.Course.{line_act}
use Rattle.bh_port.specs.Text.{course_with}
use Rattle.bh_port.proofs.Outcomes.{both_ok}
use Rattle.bh_look.specs.Scripts.{tally_said}
use Rattle.bh_look.specs.Watched.{IsWatched, tally_at}
use Rattle.bh_look.proofs.watch.Watch.take_line.Goals as goal

pub returns-in-Ok : goal.returns-in-Ok
returns-in-Ok c = both_ok c.take_act.result c.take_act.ensures.watched c.take_act.ensures.tallies (λ watched tallies before was.
    let service = settings_view c.args.settings.now in
    let is : line_act service before.entries c.args.line.now ≡ Ok c.line_act.new.act =
    sym (ap (λ es. line_act service es c.args.line.now) was.shows.entries) ∙ (rw c.in-Ok.is at c.in_ok-said.ensures.said) in record {
      watched = subst (λ said. IsWatched service c.take_act.new.self.groups c.take_act.new.self.lanes.items (course_with service before said)) (sym is) (watched before was);
      tallies = λ g k. tallies before was g k ∙ ap (λ said. tally_said service before said g k (tally_at c.args.self.now.lanes.items g k)) (sym is);
    })

pub returns-in-Err : goal.returns-in-Err
returns-in-Err c = λ before was.
    let service = settings_view c.args.settings.now in
    let is : line_act service before.entries c.args.line.now ≡ Err c.in-Err._fault =
    sym (ap (λ es. line_act service es c.args.line.now) was.shows.entries) ∙ (rw c.in-Err.is at c.in_ok-said.ensures.said) in record {
      watched = subst (λ said. IsWatched service c.args.self.now.groups c.args.self.now.lanes.items (course_with service before said)) (sym is) was;
      tallies = λ g k. sym (ap (λ said. tally_said service before said g k (tally_at c.args.self.now.lanes.items g k)) is);
    }
