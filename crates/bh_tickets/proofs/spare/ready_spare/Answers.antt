use Rattle.std.proofs.Common.{◌≡◌, ◌+◌, ◌-◌, ◌<◌, ◌≤◌, length, Some, ap, ◌∙◌, arith, refl, subst, sym}
use Rattle.std.specs.Prelude.{◌^◌}
use Rattle.bh_slot_arena.specs.Slots.{lists_in}
use Rattle.bh_cache.specs.Slots.{Slots}
use Rattle.bh_tickets.specs.declared.group_slots.GroupSlots.{GroupSlots}
use Rattle.bh_tickets.specs.GroupSlots.{no_slot_taken}
use Rattle.bh_tickets.specs.Spare.{KeepsGroups, free_slots}
use Rattle.bh_tickets.proofs.Ready.{keeps_both, ready, ready_few, ready_for, ready_free, ready_max, reserved_keeps}
use Rattle.bh_tickets.proofs.spare.ready_spare.Goals as goal

pub len_of-requires : goal.len_of-requires
len_of-requires c =
    let m = c.spare_lists.new.arena in
    let g = c.in_ok-lists.lists in
    let r = ready c.args.slots c.args.arena.now m g c.args.spare.now c.spare_lists.new.spare c.requires.room c.in_ok-lists.ensures.keeps c.in_ok-lists.ensures.ok in
    (omega arith, (omega arith, ready_free c.args.slots m g c.spare_lists.new.spare r))

pub overflow_add-there : goal.overflow_add-there
overflow_add-there c =
    let m = c.spare_lists.new.arena in
    let g = c.in_ok-lists.lists in
    let r = ready c.args.slots c.args.arena.now m g c.args.spare.now c.spare_lists.new.spare c.requires.room c.in_ok-lists.ensures.keeps c.in_ok-lists.ensures.ok in
    omega (arith, c.len_of.ensures, c.unmade_of-unmade.ensures r.part r.is, ready_max c.args.slots m g c.spare_lists.new.spare r, ready_few c.args.slots m g c.spare_lists.new.spare r)

pub reserve_slots-requires : goal.reserve_slots-requires
reserve_slots-requires c =
    let m = c.spare_lists.new.arena in
    let g = c.in_ok-lists.lists in
    let r = ready c.args.slots c.args.arena.now m g c.args.spare.now c.spare_lists.new.spare c.requires.room c.in_ok-lists.ensures.keeps c.in_ok-lists.ensures.ok in
    let there : c.len_of.result + c.unmade_of-unmade.result ≡ free_slots m g + r.part.unmade = omega (arith, c.len_of.ensures, c.unmade_of-unmade.ensures r.part r.is) in
    subst (λ n. length m.payloads + m.reserved + (c.args.slots - n) ≤ m.limit) (sym there)
    (ready_for c.args.slots m g c.spare_lists.new.spare r (omega (arith, there, c.if-there-slots.true)))

pub vacant-requires-clause-there : goal.vacant-requires-clause-there
vacant-requires-clause-there c =
    let m = c.spare_lists.new.arena in
    let g = c.in_ok-lists.lists in
    let r = ready c.args.slots c.args.arena.now m g c.args.spare.now c.spare_lists.new.spare c.requires.room c.in_ok-lists.ensures.keeps c.in_ok-lists.ensures.ok in
    omega (arith, ap (λ (z : Slots). length (lists_in z 0)) c.in_ok-reserve_slots.ensures.ok, ready_free c.args.slots m g c.spare_lists.new.spare r)

pub vacant-requires-clause-few : goal.vacant-requires-clause-few
vacant-requires-clause-few c =
    let same = ap (λ (z : Slots). free_slots z c.in_ok-lists.lists) c.in_ok-reserve_slots.ensures.ok in
    omega (arith, same, c.len_of.ensures, c.if-there-slots.true, c.requires.few)

pub returns-in_ok-reserve_slots-clause-keeps : goal.returns-in_ok-reserve_slots-clause-keeps
returns-in_ok-reserve_slots-clause-keeps c =
    let m = c.spare_lists.new.arena in
    let b = c.reserve_slots.new.arena in
    let g = c.in_ok-lists.lists in
    let r = ready c.args.slots c.args.arena.now m g c.args.spare.now c.spare_lists.new.spare c.requires.room c.in_ok-lists.ensures.keeps c.in_ok-lists.ensures.ok in
    let missing = c.args.slots - (c.len_of.result + c.unmade_of-unmade.result) in
    let unmade = c.unmade_of-unmade.ensures r.part r.is in
    let few : free_slots m g + (r.part.unmade + missing) < 2 ^ 63 = omega (arith, c.len_of.ensures, unmade, c.if-there-slots.true, c.requires.few) in
    keeps_both c.args.arena.now m b c.args.spare.now c.spare_lists.new.spare (Some c.vacant.result) c.in_ok-lists.ensures.keeps
    (subst (λ (z : GroupSlots). KeepsGroups m c.spare_lists.new.spare b (Some z)) (ap (λ n. no_slot_taken g (free_slots b g + (n + missing)) (n + missing)) (sym unmade) ∙ sym c.vacant.ensures)
    (reserved_keeps c.args.slots m g c.spare_lists.new.spare r b missing c.in_ok-reserve_slots.ensures.ok few))

pub returns-in_ok-reserve_slots-clause-ok : goal.returns-in_ok-reserve_slots-clause-ok
returns-in_ok-reserve_slots-clause-ok c =
    let same = ap (λ (z : Slots). free_slots z c.in_ok-lists.lists) c.in_ok-reserve_slots.ensures.ok in
    record {
      part = c.vacant.result;
      is = refl;
      lists = ap (λ (z : GroupSlots). z.lists) c.vacant.ensures;
      enough = omega (arith, same, ap (λ (z : GroupSlots). z.slots.max) c.vacant.ensures, c.len_of.ensures, c.if-there-slots.true);
    }

pub returns-else-there-slots-clause-ok : goal.returns-else-there-slots-clause-ok
returns-else-there-slots-clause-ok c =
    let m = c.spare_lists.new.arena in
    let g = c.in_ok-lists.lists in
    let r = ready c.args.slots c.args.arena.now m g c.args.spare.now c.spare_lists.new.spare c.requires.room c.in_ok-lists.ensures.keeps c.in_ok-lists.ensures.ok in
    record {
      part = r.part;
      is = r.is;
      lists = r.lists;
      enough = omega (arith, ready_max c.args.slots m g c.spare_lists.new.spare r, c.len_of.ensures, c.unmade_of-unmade.ensures r.part r.is, c.if-there-slots.false);
    }
