use Rattle.std.proofs.Common.{◌≡◌, ℕ, ◌+◌, ◌<◌, inl, inr, List, [], length, arith, sym, subst, ap, refl, ◌∙◌, map, get_or, slice_get, Some, None, add-one}
use Rattle.std.specs.Prelude.{reverse}
use Rattle.std.proofs.lemmas.Bool.{cases_lt}
use Rattle.std.proofs.lemmas.List.{get_or_read, get_or-map, get_or_past, length-map}
use Rattle.bh_index_lists.specs.declared.lists.Link.{Link}
use Rattle.bh_index_lists.specs.declared.lists.ListHead.{ListHead}
use Rattle.bh_index_lists.specs.Lists.{list_of, link_at, no_list}
use Rattle.bh_slot_arena.specs.Family.{FamilyView}
use Rattle.bh_slot_arena.specs.Linked.{IsLinked, head_at}
use Rattle.bh_slot_arena.specs.declared.nodes.Node.{Node}
use Rattle.bh_slot_arena.specs.Nodes.{links_of, numbers_of}
use Rattle.bh_slot_arena.proofs.Beside.{link_read, no_node}
use Rattle.bh_slot_arena.proofs.Backward.{leads_back}
use Rattle.bh_slot_arena.proofs.family.Family.previous.Goals as goal

-- by the list that has the slot
at : (L : List Link) (heads : List ListHead) (on_list : List ℕ) (l k s : ℕ) → IsLinked L heads on_list → slice_get (reverse (get_or (map (list_of L) heads) l [])) k ≡ Some s → (link_at L s).prev ≡ slice_get (reverse (get_or (map (list_of L) heads) l [])) (k + 1)
at L heads on_list l k s sound e = elim (cases_lt l (length heads)) [
  | inl lt ↦
      let is = get_or-map (list_of L) heads l no_list [] lt in
      let linked = (sound.listed l lt).linked in
      let prev = leads_back L None None (list_of L (head_at heads l)) [] linked refl (λ j x none. let no' : None ≡ Some x = none in cc) k s (subst (λ xs. slice_get (reverse xs) k ≡ Some s) is e) in
      prev ∙ ap (slice_get (reverse (list_of L (head_at heads l)))) (sym (add-one k)) ∙ ap (λ xs. slice_get (reverse xs) (k + 1)) (sym is)
  | inr past ↦
      let is = get_or_past (map (list_of L) heads) l [] (omega (arith, length-map heads (list_of L))) in
      let none : None ≡ Some s = ap (λ (xs : List ℕ). slice_get (reverse xs) k) (sym is) ∙ e in cc
]

pub returns : goal.returns
returns c =
    let nodes = c.self.inside.nodes.items in
    let within : c.args.slot < length nodes = subst (λ (v : FamilyView). c.args.slot < v.slots) (sym c.self.view_is) c.requires in
    let read = ap (λ (n : Node). n.link) (get_or_read nodes c.args.slot c.index.result.now within c.index.ensures no_node) ∙ sym (link_read nodes c.args.slot no_node within) in
    λ l k. subst (λ (v : FamilyView). slice_get (reverse (get_or v.lists l [])) k ≡ Some c.args.slot → c.index.result.now.link.prev ≡ slice_get (reverse (get_or v.lists l [])) (k + 1)) c.self.view_is
    (λ e. ap (λ (x : Link). x.prev) read ∙ at (links_of nodes) c.self.inside.heads.items (numbers_of nodes) l k c.args.slot c.self.invariant e)
