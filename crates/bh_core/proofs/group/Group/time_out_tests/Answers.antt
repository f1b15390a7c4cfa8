use Rattle.std.proofs.Common.{◌≡◌, ◌<◌, length, ap, ◌∙◌, arith}
use Rattle.std.proofs.lemmas.List.{length-map}
use Rattle.bh_base.specs.Runs.{View}
use Rattle.bh_core.specs.Command.{circuit_in}
use Rattle.bh_core.specs.GroupView.{view_in}
use Rattle.bh_core.specs.Stepping.{view_test_timed_out}
use Rattle.bh_core.proofs.Own.{leaves_twice}
use Rattle.bh_core.proofs.Timeouts.{told_all, told_next}
use Rattle.bh_core.proofs.group.Group.time_out_tests.Goals as goal

pub loop-command-preserved : goal.loop-command-preserved
loop-command-preserved c =
    let ts = c.args.tickets.now in
    let v : View = view_in ts c.args.self.now in
    let l = c.loop-command in
    let inside : l.command < length v.present.circuits = omega (arith, c.loop-command-test.true, c.command_count-command-end.ensures.number, c.command_count-command-end.ensures.each, length-map c.args.self.now.commands circuit_in) in
    record {
      view = c.time_out_test.ensures.view ∙ ap (view_test_timed_out l.command) l.invariant.view ∙ told_next l.command v inside;
      left = λ us. leaves_twice us us us c.args.self.now l.self c.time_out_test.new.self (l.invariant.left us) (c.time_out_test.ensures.left us);
    }

pub returns-clause-view : goal.returns-clause-view
returns-clause-view c =
    let v : View = view_in c.args.tickets.now c.args.self.now in
    let l = c.loop-command in
    let last : l.command ≡ length v.present.circuits = omega (arith, l.auto.command-end, c.loop-command-test.false, c.command_count-command-end.ensures.number, c.command_count-command-end.ensures.each, length-map c.args.self.now.commands circuit_in) in
    l.invariant.view ∙ told_all l.command v last
