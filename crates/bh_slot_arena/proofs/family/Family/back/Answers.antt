use Rattle.std.proofs.Common.{◌≡◌, ℕ, ◌<◌, List, [], length, arith, sym, subst, ap, refl, ◌∙◌, map, get_or, slice_get, None}
use Rattle.std.specs.Prelude.{reverse}
use Rattle.std.proofs.lemmas.List.{get_or_read, get_or-map, length-map}
use Rattle.bh_index_lists.specs.declared.lists.Link.{Link}
use Rattle.bh_index_lists.specs.declared.lists.ListHead.{ListHead}
use Rattle.bh_index_lists.specs.Lists.{list_of, no_list}
use Rattle.bh_slot_arena.specs.Family.{FamilyView}
use Rattle.bh_slot_arena.specs.Linked.{IsLinked, head_at}
use Rattle.bh_slot_arena.specs.Nodes.{links_of, numbers_of}
use Rattle.bh_slot_arena.proofs.Backward.{back-reverse}
use Rattle.bh_slot_arena.proofs.family.Family.back.Goals as goal

at : (L : List Link) (heads : List ListHead) (on_list : List ℕ) (l : ℕ) → IsLinked L heads on_list → l < length heads → (head_at heads l).last ≡ slice_get (reverse (get_or (map (list_of L) heads) l [])) 0
at L heads on_list l sound lt =
    (sound.listed l lt).last ∙ back-reverse None (list_of L (head_at heads l)) [] refl ∙ ap (λ xs. slice_get (reverse xs) 0) (sym (get_or-map (list_of L) heads l no_list [] lt))

pub returns : goal.returns
returns c =
    let L = links_of c.self.inside.nodes.items in
    let heads = c.self.inside.heads.items in
    let shown : c.args.list < length (map (list_of L) heads) = subst (λ (v : FamilyView). c.args.list < length v.lists) (sym c.self.view_is) c.requires in
    let within : c.args.list < length heads = omega (arith, shown, length-map heads (list_of L)) in
    let read = get_or_read heads c.args.list c.index.result.now within c.index.ensures no_list in
    ap (λ (h : ListHead). h.last) read ∙ at L heads (numbers_of c.self.inside.nodes.items) c.args.list c.self.invariant within
    ∙ ap (λ (v : FamilyView). slice_get (reverse (get_or v.lists c.args.list [])) 0) c.self.view_is
