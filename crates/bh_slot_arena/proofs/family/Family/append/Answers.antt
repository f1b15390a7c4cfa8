use Rattle.std.proofs.Common.{◌≡◌, ◌<◌, List, length, ℕ, slice_get, ap, ◌∙◌, arith}
use Rattle.bh_slot_arena.specs.Lists.{appended, list_at, moved}
use Rattle.bh_slot_arena.proofs.Appended.{appended-next, cut_first, front_gone, next_size}
use Rattle.bh_slot_arena.proofs.family.Family.append.Goals as goal

pub loop-preserved : goal.loop-preserved
loop-preserved c =
    let now = c.loop.self.lists in
    let from = c.args.from in
    let to = c.args.to in
    let n = c.loop.self.slots in
    let cut = cut_first (list_at now from) (omega (arith, c.loop.invariant.left, c.loop-test.true)) in
    let put : c.move_front.new.self.lists ≡ moved cut.0 to now = c.move_front.ensures.lists cut.0 (ap (λ (xs : List ℕ). slice_get xs 0) cut.2) in
    let from_in : from < length now = omega (arith, c.requires.from, c.loop.invariant.count) in
    let to_in : to < length now = omega (arith, c.requires.to, c.loop.invariant.count) in
    let parted = c.move_front.ensures.parted in
    let gone = ap (λ (ls : List (List ℕ)). length (list_at ls from)) put ∙ ap length (front_gone n now from to cut.0 cut.1 parted from_in to_in c.requires.differ cut.2) in
    record {
      slots = c.move_front.ensures.slots ∙ c.loop.invariant.slots;
      room = c.move_front.ensures.room ∙ c.loop.invariant.room;
      count = ap length put ∙ next_size n now from to cut.0 cut.1 parted from_in to_in c.requires.differ cut.2 ∙ c.loop.invariant.count;
      left = omega (arith, gone, ap length cut.2, c.loop.invariant.left, c.loop-test.true);
      appended = ap (appended from to) put ∙ appended-next n now from to cut.0 cut.1 parted from_in to_in c.requires.differ cut.2 ∙ c.loop.invariant.appended;
    }
