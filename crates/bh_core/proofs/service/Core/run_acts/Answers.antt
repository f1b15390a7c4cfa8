use Rattle.std.proofs.Common.{length, arith}
use Rattle.std.proofs.lemmas.List.{take_all}
use Rattle.bh_core.specs.Acts.{IsActOf}
use Rattle.bh_core.specs.Lives.{calls_of}
use Rattle.bh_core.proofs.Acting.{all_at, read_at}
use Rattle.bh_core.proofs.Lives.{acts_on, life_shown, life_told, outside_told}
use Rattle.bh_core.proofs.service.Core.run_acts.Goals as goal

pub loop-act-preserved : goal.loop-act-preserved
loop-act-preserved c =
    let before = c.loop-act in
    record {
      count = omega (arith, c.push_within.ensures.len, before.invariant.count);
      room = omega (arith, c.push_within.ensures.capacity, before.invariant.room);
      acts = acts_on c.args.props.now c.args.acts.now before.act-index c.act-item.result before.outcomes.items c.push_within.new.items.items c.act-outcome.result c.args.self.now before.self c.act-outcome.new.self c.loop-act-test.true c.act-item.is before.invariant.count c.push_within.ensures.items before.invariant.acts c.act-outcome.ensures;
    }

pub returns-clause-replies : goal.returns-clause-replies
returns-clause-replies c =
    let all = rw (take_all c.loop-act.act-index c.args.acts.now (omega arith)) at c.loop-act.invariant.acts in
    λ group s begun. life_told c.args.props.now (calls_of c.args.acts.now c.loop-act.outcomes.items) c.args.self.now c.loop-act.self group s all begun

pub returns-clause-views : goal.returns-clause-views
returns-clause-views c =
    let all = rw (take_all c.loop-act.act-index c.args.acts.now (omega arith)) at c.loop-act.invariant.acts in
    λ group s begun none. life_shown c.args.props.now (calls_of c.args.acts.now c.loop-act.outcomes.items) c.args.self.now c.loop-act.self group s all begun none

pub returns-clause-outside : goal.returns-clause-outside
returns-clause-outside c =
    let all = rw (take_all c.loop-act.act-index c.args.acts.now (omega arith)) at c.loop-act.invariant.acts in
    outside_told c.args.props.now (calls_of c.args.acts.now c.loop-act.outcomes.items) c.args.self.now c.loop-act.self all

pub act-outcome-requires-clause-act : goal.act-outcome-requires-clause-act
act-outcome-requires-clause-act c =
    let at = read_at c.args.acts.now c.loop-act.act-index c.act-item.result c.loop-act-test.true c.act-item.is in
    all_at (IsActOf (length c.args.props.now)) c.args.acts.now c.loop-act.act-index c.act-item.result c.requires.acts at
