use Rattle.std.proofs.Common.{◌≡◌, length, filter, refl, ap, ◌∙◌, arith}
use Rattle.std.proofs.lemmas.List.{length-map}
use Rattle.bh_base.specs.Commands.{command_count}
use Rattle.bh_base.specs.Runs.{View}
use Rattle.bh_core.specs.Counted.{counted}
use Rattle.bh_core.specs.GroupView.{view_in}
use Rattle.bh_core.specs.Stepping.{due_of, view_tests_timed_out, view_timed_out}
use Rattle.bh_core.proofs.Below.{count_first, count_next, due_next, is_due_below, timed_out_if, view_first, view_next, view_timed_below}
use Rattle.bh_core.proofs.Own.{has_left, leaves_twice}
use Rattle.bh_core.proofs.Timeouts.{expired_is}
use Rattle.bh_core.proofs.group.Group.expire.Goals as goal

pub loop-command-init : goal.loop-command-init
loop-command-init c =
    let v : View = view_in c.args.tickets.now c.args.self.now in
    record {
      view = c.time_out_tests.ensures.view ∙ view_first (view_tests_timed_out v);
      count = count_first (view_tests_timed_out v).present;
      few = omega arith;
      counted = omega (arith, ap (λ (x : View). counted x) c.time_out_tests.ensures.view);
      left = c.time_out_tests.ensures.left c.args.tickets.now;
    }

pub time_out-count-requires-clause-has : goal.time_out-count-requires-clause-has
time_out-count-requires-clause-has c =
    let v : View = view_tests_timed_out (view_in c.args.tickets.now c.args.self.now) in
    let l = c.loop-command in
    let many = ap (λ (x : View). length x.present.tickets) l.invariant.view ∙ length-map v.present.tickets (λ t. timed_out_if (is_due_below l.command v.present t) t) in
    has_left c.args.tickets.now l.tickets c.args.self.now l.self l.invariant.left many c.requires.has

pub time_out-count-requires-clause-few : goal.time_out-count-requires-clause-few
time_out-count-requires-clause-few c =
    omega (arith, c.loop-command.invariant.counted, c.loop-command.invariant.few, c.requires.bounded.events, c.loop-command-test.true, c.command_count-command-end.ensures.number)

pub loop-command-preserved : goal.loop-command-preserved
loop-command-preserved c =
    let v : View = view_tests_timed_out (view_in c.args.tickets.now c.args.self.now) in
    let l = c.loop-command in
    let n = l.command in
    let more : c.time_out-count.result ≡ length (due_of n (view_timed_below n v).present) = c.time_out-count.ensures.count ∙ ap (λ (x : View). length (due_of n x.present)) l.invariant.view in
    record {
      view = c.time_out-count.ensures.view ∙ ap (view_timed_out n) l.invariant.view ∙ view_next n v;
      count = omega (arith, l.invariant.count, more, due_next n v, count_next n v.present v.present.tickets);
      few = omega (arith, l.invariant.few, c.time_out-count.ensures.few);
      counted = omega (arith, l.invariant.counted, c.time_out-count.ensures.counted);
      left = leaves_twice c.args.tickets.now l.tickets c.time_out-count.new.tickets c.args.self.now l.self c.time_out-count.new.self l.invariant.left c.time_out-count.ensures.left;
    }

pub returns-clause-done : goal.returns-clause-done
returns-clause-done c =
    let v : View = view_in c.args.tickets.now c.args.self.now in
    let l = c.loop-command in
    let e : View = view_tests_timed_out v in
    let last : l.command ≡ command_count c.args.self.now.props = omega (arith, l.auto.command-end, c.loop-command-test.false, c.command_count-command-end.ensures.number, ap command_count (c.time_out_tests.ensures.left c.args.tickets.now).props) in
    expired_is v e l.count (view_in l.tickets l.self) c.requires.bounded.known refl
    (l.invariant.count ∙ ap (λ n. length (filter (is_due_below n e.present) v.present.tickets)) last)
    (l.invariant.view ∙ ap (λ n. view_timed_below n e) last)
