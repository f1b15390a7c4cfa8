use Rattle.std.proofs.Common.{◌≡◌, ℕ, suc, ◌+◌, ◌-◌, ◌<◌, ◌++◌, ◌∷◌, [], List, length, map, sym, ap, ◌∙◌, arith}
use Rattle.std.specs.List.{range_with_len}
use Rattle.std.proofs.lemmas.List.{length-map}
use Rattle.bh_index_lists.specs.Lists.{list_of}
use Rattle.bh_slot_arena.specs.Lists.{put_last}
use Rattle.bh_slot_arena.specs.Nodes.{links_of}
use Rattle.bh_slot_arena.proofs.Lasts.{range_with_len-suc, put_last-put_last}
use Rattle.bh_slot_arena.proofs.family.put_slots.Goals as goal

pub loop-slot-preserved : goal.loop-slot-preserved
loop-slot-preserved c =
    let before = map (list_of (links_of c.args.nodes.now.items)) c.args.heads.now in
    let within : c.args.list < length before = omega (arith, c.requires.list, length-map c.args.heads.now (list_of (links_of c.args.nodes.now.items))) in
    let count = c.loop-slot.slot - c.args.first in
    let number : c.args.first + count ≡ c.loop-slot.slot = omega (arith, c.loop-slot.auto.slot) in
    let more : c.loop-slot.slot + 1 - c.args.first ≡ suc count = omega (arith, c.loop-slot.auto.slot) in
    record {
      sound = c.put_slot.ensures.sound;
      slots = c.put_slot.ensures.slots;
      room = omega (arith, c.loop-slot.invariant.room, c.put_slot.ensures.room);
      same = omega (arith, c.loop-slot.invariant.same, c.put_slot.ensures.room);
      lists =
          c.put_slot.ensures.lists
          ∙ ap (put_last (c.loop-slot.slot ∷ []) c.args.list) c.loop-slot.invariant.lists
          ∙ put_last-put_last (range_with_len c.args.first count) (c.loop-slot.slot ∷ []) c.args.list before within
          ∙ ap (λ (z : ℕ). put_last (range_with_len c.args.first count ++ z ∷ []) c.args.list before) (sym number)
          ∙ ap (λ (zs : List ℕ). put_last zs c.args.list before) (sym (range_with_len-suc c.args.first count))
          ∙ ap (λ (z : ℕ). put_last (range_with_len c.args.first z) c.args.list before) (sym more);
    }
