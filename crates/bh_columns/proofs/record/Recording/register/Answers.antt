use Rattle.std.proofs.Common.{Ok, subst, sym}
use Rattle.bh_port.specs.Course.{IsActOf}
use Rattle.bh_port.specs.Script.{GroupsShow}
use Rattle.bh_port.specs.Text.{with_act}
use Rattle.bh_port.proofs.Outcomes.{both_ok}
use Rattle.bh_props.specs.Shown.{settings_view}
use Rattle.bh_columns.specs.Named.{run_said}
use Rattle.bh_columns.specs.Recorded.{IsRecorded}
use Rattle.bh_columns.proofs.record.Recording.register.Goals as goal

pub returns : goal.returns
returns c = both_ok c.add_group.result c.add_group.ensures c.add_group.ensures (λ did _ sel run recorded asked.
    let service = settings_view c.args.settings.now in
    let can = subst (IsActOf service c.args.self.now.groups.entries) c.requires.own c.requires.act in
    subst (λ a. IsRecorded service sel c.act.new.self c.add_group.new.self (run_said service sel.from sel.to (Ok a) run)) (sym c.requires.own)
    (record {
      shows = subst (λ a. GroupsShow service c.act.new.self (with_act service run.course a)) c.requires.own (c.in-Ok.ensures.agrees run.course recorded.shows);
      columns = did sel run.course run.fills can.0 recorded.shows.known recorded.columns;
    }))
