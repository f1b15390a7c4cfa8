use Rattle.std.proofs.Common.{◌≡◌, ◌+◌, ◌<◌, List, [], ◌∷◌, ◌++◌, length, arith, ◌∙◌, take, ap, sym, subst}
use Rattle.std.proofs.lemmas.List.{take_more}
use Rattle.bh_base.specs.declared.step.Request.{Request}
use Rattle.bh_workers.specs.Driving.{IsCaller}
use Rattle.bh_workers.proofs.Drives.{calls_go_on, none_push, room_after, room_for_one}
use Rattle.bh_workers.proofs.Telling.{call_tells}
use Rattle.bh_workers.proofs.caller_threads.make_calls.Goals as goal

pub loop-request-preserved : goal.loop-request-preserved
loop-request-preserved g c =
    let i = c.loop-request.request-index in
    let all : List Request = c.args.requests.now in
    let q : Request = c.request-item.result in
    let lt : i < length all = c.loop-request-test.true in
    let D = g.D.Dependency.ends in
    let F = g.D.Dependency.fallback_ends in
    let M = g.C.Clock.moments in
    let added = c.call-answer.ensures.call in
    let told = call_tells D F M c.loop-request.pass.group q c.call-answer.result added.made added.is in
    let longer : take (i + 1) all ≡ take i all ++ q ∷ [] = take_more all i q lt ∙ ap (λ (x : Request). take i all ++ x ∷ []) (sym c.request-item.is) in
    let P : List Request → Type 0 = λ xs. IsCaller g.D.Dependency.ends g.D.Dependency.fallback_ends g.C.Clock.moments c.args.shared.now.audited c.args.pass.group xs c.push_within.new.items.items c.call-answer.new.pass in
    record {
      len = (let e = c.push_within.ensures.len in let n = c.loop-request.invariant.len in omega arith);
      room = (let e = c.push_within.ensures.capacity in let n = c.loop-request.invariant.room in omega arith);
      calls = subst P (sym longer)
          (calls_go_on g.D.Dependency.ends g.D.Dependency.fallback_ends g.C.Clock.moments c.args.shared.now.audited c.args.pass.group (take i all) c.loop-request.answers.items c.push_within.new.items.items
          c.loop-request.pass c.call-answer.new.pass q c.loop-request.invariant.calls (c.call-answer.result, c.push_within.ensures.items, c.call-answer.ensures.call));
      left =
          (let before = c.loop-request.invariant.left in
          let after = room_after c.args.shared.now.audited c.loop-request.pass c.call-answer.new.pass added.made added.gains told.few in
          omega arith);
      unrefused = λ has.
          rw c.push_within.ensures.items
          (none_push c.loop-request.answers.items c.call-answer.result (c.loop-request.invariant.unrefused has)
          (λ refused. room_for_one c.args.shared.now.audited c.args.pass.room c.loop-request.pass.room i all has c.loop-request.invariant.left lt (c.call-answer.ensures.full.0 refused)));
    }
