use Rattle.std.proofs.Common.{Ok, subst, sym}
use Rattle.bh_port.proofs.Outcomes.{both_ok}
use Rattle.bh_props.specs.Shown.{settings_view}
use Rattle.bh_columns.specs.Named.{run_said}
use Rattle.bh_columns.specs.Placed.{IsAsked}
use Rattle.bh_columns.specs.Recorded.{IsRecorded}
use Rattle.bh_columns.proofs.record.Recording.take_act.Goals as goal

pub returns-in-Step : goal.returns-in-Step
returns-in-Step c = both_ok c.take_step.result c.take_step.ensures c.take_step.ensures (λ did _ sel run recorded asked.
    let service = settings_view c.args.settings.now in
    subst (λ a. IsRecorded service sel c.take_step.new.groups c.take_step.new.self (run_said service sel.from sel.to (Ok a) run)) (sym c.in-Step.is)
    (did service sel run c.args.settings.now.in_range (subst (IsAsked c.args.self.now.groups.entries) c.in-Step.is asked) recorded))
