use Rattle.std.proofs.Common.{[], ◌+◌, ◌-◌, ◌∙◌, ap, arith}
use Rattle.std.specs.Prelude.{replicate}
use Rattle.bh_base.specs.Commands.{command_count}
use Rattle.bh_base.specs.Runs.{View}
use Rattle.bh_core.specs.GroupView.{view_in}
use Rattle.bh_core.specs.Stepping.{with_events}
use Rattle.bh_core.proofs.Below.{timeout_of}
use Rattle.bh_core.proofs.Own.{leaves_twice}
use Rattle.bh_core.proofs.Timeouts.{one-of-many}
use Rattle.bh_core.proofs.group.Group.record_timeouts.Goals as goal

pub record-requires-clause-known : goal.record-requires-clause-known
record-requires-clause-known c =
    omega (arith, c.requires.known, ap command_count (c.loop-done.invariant.left (record { limit = 0; groups = [] })).props)

pub loop-done-preserved : goal.loop-done-preserved
loop-done-preserved c =
    let i = c.loop-done.done in
    record {
      view = λ ts. ap (λ (v : View). with_events (replicate (c.args.count - (i + 1)) (timeout_of c.args.command)) v) (c.record.ensures.view ts)
          ∙ one-of-many c.args.count i c.args.command (view_in ts c.loop-done.self) c.loop-done-test.true
          ∙ c.loop-done.invariant.view ts;
      counted = omega (arith, c.record.ensures.counted, c.loop-done.invariant.counted);
      left = λ ts. leaves_twice ts ts ts c.args.self.now c.loop-done.self c.record.new.self (c.loop-done.invariant.left ts) (c.record.ensures.left ts);
    }
