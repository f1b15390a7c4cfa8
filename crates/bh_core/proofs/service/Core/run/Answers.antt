use Rattle.std.proofs.Common.{◌≡◌, ◌<◌, ℕ, ◌+◌, List, [], ◌∷◌, ◌++◌, length, take, get_or, ◌∙◌, sym, ap, arith, length-take-le}
use Rattle.std.proofs.lemmas.List.{take_more, take_all}
use Rattle.bh_base.specs.declared.step.Step.{Step}
use Rattle.bh_core.proofs.Whole.{goes_on_in, stays_unknown_in, stays_kept}
use Rattle.bh_core.proofs.service.Core.run.Goals as goal

next_step : (steps : List Step) (i : ℕ) (x : Step) → i < length steps → x ≡ get_or steps i x → take (i + 1) steps ≡ take i steps ++ x ∷ []
next_step steps i x inside is = take_more steps i x inside ∙ ap (λ y. take i steps ++ y ∷ []) (sym is)

pub loop-step-preserved : goal.loop-step-preserved
loop-step-preserved c =
    let before = c.loop-step in
    let next : take (before.step-index + 1) c.args.steps.now ≡ take before.step-index c.args.steps.now ++ c.step-item.result ∷ [] = next_step c.args.steps.now before.step-index c.step-item.result c.loop-step-test.true c.step-item.is in
    let same : length (take before.step-index c.args.steps.now) ≡ length before.replies.items = length-take-le before.step-index c.args.steps.now (omega arith) ∙ sym before.invariant.count in
    record {
      count = omega (arith, c.push_within.ensures.len);
      room = omega (arith, c.push_within.ensures.capacity);
      groups = c.apply-reply.ensures.count ∙ before.invariant.groups;
      limit = c.apply-reply.ensures.limit ∙ before.invariant.limit;
      own = λ group s shows. goes_on_in group s c.args.steps.now before.step-index c.step-item.result before.replies.items c.push_within.new.items.items c.apply-reply.result before.self c.apply-reply.new.self same next c.push_within.ensures.items (before.invariant.own group s shows) c.apply-reply.ensures;
      unknown = λ group none. stays_unknown_in group c.args.steps.now before.step-index c.step-item.result before.replies.items c.push_within.new.items.items c.apply-reply.result before.self c.apply-reply.new.self same next c.push_within.ensures.items (before.invariant.unknown group none) c.apply-reply.ensures;
      kept = λ group none. stays_kept group c.step-item.result c.apply-reply.result before.self c.apply-reply.new.self (before.invariant.unknown group none).none c.apply-reply.ensures ∙ before.invariant.kept group none;
    }

pub returns-clause-replies : goal.returns-clause-replies
returns-clause-replies c = λ group s shows. rw (take_all c.loop-step.step-index c.args.steps.now (omega arith)) at (c.loop-step.invariant.own group s shows).told

pub returns-clause-views : goal.returns-clause-views
returns-clause-views c = λ group s shows. rw (take_all c.loop-step.step-index c.args.steps.now (omega arith)) at (c.loop-step.invariant.own group s shows).shown

pub returns-clause-unknown : goal.returns-clause-unknown
returns-clause-unknown c = λ group none. rw (take_all c.loop-step.step-index c.args.steps.now (omega arith)) at (c.loop-step.invariant.unknown group none).told
