use Rattle.std.proofs.Common.{◌≡◌, ℕ, suc, List, ◌∷◌, length, drop, length-drop, vec_len, inl, inr, arith, ◌∙◌, ap, sym, subst}
use Rattle.std.proofs.lemmas.Option.{slice_get_within}
use Rattle.std.specs.Vec.Iter.{into_iter_items}
use Rattle.std.specs.Iterator.Adapters.{zip_first, zip_second}
use Rattle.std.specs.Slice.Iter.{iter_rest}
use Rattle.bh_journal.specs.Passes.{PassView}
use Rattle.bh_workers.specs.declared.caller_threads.CallerOf.{CallerOf}
use Rattle.bh_workers.specs.declared.driving.RequestList.{RequestList}
use Rattle.bh_workers.specs.Callers.{ArePassesOf, IsCallerOf}
use Rattle.bh_workers.proofs.Drives.{callers_push, first_left, same_number}
use Rattle.bh_workers.proofs.caller_threads.start_callers.Goals as goal

pub loop-list-preserved : goal.loop-list-preserved
loop-list-preserved g c =
    let before = c.loop-list.invariant in
    let lists = c.args.lists.now in
    let passes = c.args.passes.items in
    let list = c.in-Some.list.now in
    let i = vec_len c.loop-list.handles in
    let lists_left : List RequestList = iter_rest (zip_first c.next.new.self) in
    let passes_left : List PassView = into_iter_items (zip_second c.next.new.self) in
    let from_lists : iter_rest (zip_first c.loop-list.list-iterator) ≡ list ∷ lists_left = c.in-Some.ensures.steps.0 in
    let from_passes : into_iter_items (zip_second c.loop-list.list-iterator) ≡ c.in-Some.pass ∷ passes_left = c.in-Some.ensures.steps.1.0 in
    let rest : ArePassesOf (list ∷ lists_left) (c.in-Some.pass ∷ passes_left) =
    subst (λ (x : List RequestList). ArePassesOf x (c.in-Some.pass ∷ passes_left)) from_lists
    (subst (λ (x : List PassView). ArePassesOf (iter_rest (zip_first c.loop-list.list-iterator)) x) from_passes before.rest) in
    let listed = first_left lists i list lists_left (sym before.lists ∙ from_lists) in
    let taken = first_left passes i c.in-Some.pass passes_left (sym before.passes ∙ from_passes) in
    let longer : vec_len c.push_reserved.new.self ≡ suc i = (let e = c.push_reserved.ensures.len in omega arith) in
    let p = c.in-Ok.ensures.ok in
    let is : IsCallerOf {D = g.row.D.Denot} {C = g.row.C.Denot} c.args.environment.now.shared.now.audited list c.in-Some.pass c.in-Ok.handle.promise = record {
      kind = ap (λ (x : CallerOf g.row.D.Denot g.row.C.Denot). x.audited) p ∙ before.kind;
      group = ap (λ (x : CallerOf g.row.D.Denot g.row.C.Denot). x.group) p;
      room = ap (λ (x : CallerOf g.row.D.Denot g.row.C.Denot). x.room) p ∙ c.room_left.ensures;
      requests = ap (λ (x : CallerOf g.row.D.Denot g.row.C.Denot). x.requests.now) p ∙ c.as_slice-requests.ensures.value;
    } in
    record {
      len = (let within = slice_get_within lists i list listed.0 in omega arith);
      room = (let e = c.push_reserved.ensures.capacity in let n = before.room in omega arith);
      kind = before.kind;
      lists = sym listed.1 ∙ ap (λ (n : ℕ). drop n lists) (sym longer);
      passes = sym taken.1 ∙ ap (λ (n : ℕ). drop n passes) (sym longer);
      rest = rest.1;
      all = rw c.push_reserved.ensures.items
          (callers_push {D = g.row.D.Denot} {C = g.row.C.Denot} c.args.environment.now.shared.now.audited lists passes c.loop-list.handles.items c.in-Ok.handle i list c.in-Some.pass
          before.all (sym c.loop-list.handles.ok.0) listed.0 taken.0 is);
    }

pub returns-clause-len : goal.returns-clause-len
returns-clause-len g c =
    let before = c.loop-list.invariant in
    let it = c.loop-list.list-iterator in
    let same = same_number (iter_rest (zip_first it)) (into_iter_items (zip_second it)) before.rest in
    let none : length (iter_rest (zip_first it)) ≡ 0 = elim c.in-None.ensures.steps [ inl w ↦ w.1.0 | inr w ↦ same ∙ sym it.b.rest.ok.0 ∙ w.1.0 ] in
    let left = ap (λ (x : List RequestList). length x) before.lists in
    let count = length-drop (vec_len c.loop-list.handles) c.args.lists.now in
    omega arith
