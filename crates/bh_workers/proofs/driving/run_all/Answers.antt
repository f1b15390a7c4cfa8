use Rattle.std.proofs.Common.{◌≡◌, ◌<◌, List, arith, ◌∙◌, ap, sym, vec_len, subst, get_or, slice_get, Some}
use Rattle.std.specs.Prelude.{if◌then◌else◌}
use Rattle.std.proofs.lemmas.Option.{slice_get_read, slice_get_within, get_or_from_slice_get}
use Rattle.bh_journal.specs.Passes.{PassView}
use Rattle.bh_workers.specs.Callers.{ArePassesOf, first_pass}
use Rattle.bh_workers.specs.Driving.{IsWorked}
use Rattle.bh_workers.proofs.Drives.{AllCalled, all_places, called_as, callers_from, driven_from, first_passes, found_from, made_of, room_found, with_room}
use Rattle.bh_workers.proofs.driving.run_all.Goals as goal

pub returns : goal.returns
returns g c =
    let D = g.D.Dependency.ends in
    let F = g.D.Dependency.fallback_ends in
    let M = g.C.Clock.moments in
    let a = c.args.environment.now.shared.now.audited in
    let room = c.args.room in
    let lists = c.args.lists.now in
    let called = c.in_ok-called.called in
    let worked = c.in_ok-worked.worked in
    let same = sym called.ok.0 ∙ c.in_ok-called.ensures.len ∙ c.in_ok-callers.ensures.len in
    let all : AllCalled D F M a room lists called.items = λ k l r atl atr.
    let lt : k < vec_len c.in_ok-callers.callers =
    (let w = slice_get_within called.items k r atr in let v = called.ok.0 in let e = c.in_ok-called.ensures.len in omega arith) in
    let kept = (c.in_ok-called.ensures.each k r lt).1 in
    let h = kept.handle in
    let at : slice_get c.in_ok-callers.callers.items k ≡ Some h =
    slice_get_read c.in_ok-callers.callers.items (vec_len c.in_ok-callers.callers) k h c.in_ok-callers.callers.ok.0 lt kept.handle_is in
    let taken : slice_get c.args.passes.items k ≡ Some (first_pass a room l) = ap (λ (x : List PassView). slice_get x k) c.requires ∙ made_of (first_pass a room) lists k l atl in
    let is = c.in_ok-callers.ensures.each k l (first_pass a room l) h atl taken at in
    with_room D F M a l.group room l.requests.items r
    (called_as D F M h.promise.audited a h.promise.group l.group h.promise.room (if a then room else 0) h.promise.requests.now l.requests.items
    (get_or called.items k r) r is.kind is.group is.room is.requests (get_or_from_slice_get called.items k r r atr) kept.kept) in
    record {
      driven = driven_from D F M a lists called.items c.in_ok-passes_of.field-0.items c.join-timed.result.items c.gather.result c.gather.ensures.answers c.gather.ensures.passes
          (callers_from D F M a room lists called.items same all) c.in_ok-passes_of.ensures c.join-timed.ensures;
      unrefused = found_from a room lists called.items c.gather.result c.gather.ensures.answers (room_found D F M a room lists called.items same all);
    }

pub start_callers-requires-after_bounds : goal.start_callers-requires-after_bounds
start_callers-requires-after_bounds g c =
    let lists = c.args.lists.now in
    λ κs bounds. subst (λ (x : List PassView). ArePassesOf lists x) (sym c.requires) (first_passes c.args.environment.now.shared.now.audited c.args.room lists)

pub passes_of-requires : goal.passes_of-requires
passes_of-requires g c =
    let D = g.D.Dependency.ends in
    let M = g.C.Clock.moments in
    let worked = c.in_ok-worked.worked in
    all_places (IsWorked D M) worked.items
    (λ k r at.
    let lt : k < vec_len c.in_ok-workers.workers =
    (let w = slice_get_within worked.items k r at in let v = worked.ok.0 in let e = c.in_ok-worked.ensures.len in omega arith) in
    let kept = (c.in_ok-worked.ensures.each k r lt).1 in
    subst (λ x. IsWorked D M x) (get_or_from_slice_get worked.items k r r at) kept.kept)
