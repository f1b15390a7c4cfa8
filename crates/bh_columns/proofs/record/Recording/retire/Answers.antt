use Rattle.std.proofs.Common.{Ok, subst, sym}
use Rattle.bh_port.specs.declared.act.LineAct.TheVariants as act
use Rattle.bh_port.specs.Script.{GroupsShow}
use Rattle.bh_port.specs.Text.{with_act}
use Rattle.bh_props.specs.Shown.{settings_view}
use Rattle.bh_columns.specs.Named.{run_said}
use Rattle.bh_columns.specs.Placed.{IsAsked}
use Rattle.bh_columns.specs.Recorded.{IsRecorded}
use Rattle.bh_columns.proofs.Going.{recorded_retired, same_kept}
use Rattle.bh_columns.proofs.record.Recording.retire.Goals as goal

pub returns-then-is_none : goal.returns-then-is_none
returns-then-is_none c = λ sel run recorded asked.
    let service = settings_view c.args.settings.now in
    let shows : GroupsShow service c.act.new.self (with_act service run.course (act.Retire c.args.group)) =
    subst (λ a. GroupsShow service c.act.new.self (with_act service run.course a)) c.requires.own (c.in-Ok.ensures.agrees run.course recorded.shows) in
    subst (λ a. IsRecorded service sel c.act.new.self c.end_life.new.self (run_said service sel.from sel.to (Ok a) run)) (sym c.requires.own)
    (recorded_retired service sel c.args.self.now.groups c.act.new.self c.args.self.now.kept c.end_life.new.self run c.args.group.0 (subst (IsAsked c.args.self.now.groups.entries) c.requires.own asked) recorded c.end_life.ensures shows)

pub returns-else-begun : goal.returns-else-begun
returns-else-begun c = λ sel run recorded asked.
    let service = settings_view c.args.settings.now in
    let shows : GroupsShow service c.act.new.self (with_act service run.course (act.Retire c.args.group)) =
    subst (λ a. GroupsShow service c.act.new.self (with_act service run.course a)) c.requires.own (c.in-Ok.ensures.agrees run.course recorded.shows) in
    subst (λ a. IsRecorded service sel c.act.new.self c.args.self.now.kept (run_said service sel.from sel.to (Ok a) run)) (sym c.requires.own)
    (recorded_retired service sel c.args.self.now.groups c.act.new.self c.args.self.now.kept c.args.self.now.kept run c.args.group.0 (subst (IsAsked c.args.self.now.groups.entries) c.requires.own asked) recorded (same_kept c.args.self.now.kept) shows)
