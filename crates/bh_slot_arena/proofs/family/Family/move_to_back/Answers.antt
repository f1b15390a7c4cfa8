use Rattle.std.proofs.Common.{List, length, arith, sym, subst, ap, ap₂, ◌∙◌, map}
use Rattle.std.proofs.lemmas.List.{with_items_is}
use Rattle.bh_index_lists.specs.declared.lists.ListHead.{ListHead}
use Rattle.bh_index_lists.specs.Lists.{list_of}
use Rattle.bh_slot_arena.specs.declared.nodes.Node.{Node}
use Rattle.bh_slot_arena.specs.Lists.{moved}
use Rattle.bh_slot_arena.specs.Family.{FamilyView}
use Rattle.bh_slot_arena.specs.Nodes.{AreLinked, links_of}
use Rattle.bh_slot_arena.proofs.family.Family.move_to_back.Goals as goal

pub move_slot-requires-clause-sound : goal.move_slot-requires-clause-sound
move_slot-requires-clause-sound c =
    subst (λ (hs : List ListHead). AreLinked c.deref_mut.result.now hs) (sym c.deref_mut-2.ensures.value)
    (subst (λ (ns : List Node). AreLinked ns c.self.inside.heads.items) (sym c.deref_mut.ensures.value) c.self.invariant)

pub returns-clause-slots : goal.returns-clause-slots
returns-clause-slots c =
    let nodes = with_items_is c.self.inside.nodes c.move_slot.new.nodes (omega (arith, c.move_slot.auto.nodes, c.deref_mut.ensures.len)) in
    ap (λ (ns : List Node). length ns) nodes ∙ c.move_slot.auto.nodes ∙ ap (λ (ns : List Node). length ns) c.deref_mut.ensures.value ∙ ap (λ (v : FamilyView). v.slots) c.self.view_is

pub returns-clause-lists : goal.returns-clause-lists
returns-clause-lists c =
    let nodes = with_items_is c.self.inside.nodes c.move_slot.new.nodes (omega (arith, c.move_slot.auto.nodes, c.deref_mut.ensures.len)) in
    let heads = with_items_is c.self.inside.heads c.move_slot.new.heads (omega (arith, c.move_slot.auto.heads, c.deref_mut-2.ensures.len)) in
    ap₂ (λ (ns : List Node) (hs : List ListHead). map (list_of (links_of ns)) hs) nodes heads
    ∙ c.move_slot.ensures.lists ∙ ap₂ (λ (ns : List Node) (hs : List ListHead). moved c.args.slot c.args.to (map (list_of (links_of ns)) hs)) c.deref_mut.ensures.value c.deref_mut-2.ensures.value
    ∙ ap (λ (v : FamilyView). moved c.args.slot c.args.to v.lists) c.self.view_is
