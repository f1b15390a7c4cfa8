use Rattle.std.proofs.Common.{◌≡◌, ℕ, ◌+◌, ◌<◌, List, [], ◌∷◌, ◌++◌, length, Some, None, sym, subst, ap, ◌∙◌, arith}
use Rattle.std.specs.List.{Contains}
use Rattle.bh_index_lists.specs.declared.lists.Link.{Link}
use Rattle.bh_index_lists.specs.declared.lists.ListHead.{ListHead}
use Rattle.bh_index_lists.specs.Lists.{link_at, IsListed, list_of}
use Rattle.bh_index_lists.specs.Ties.{tied, tied_ends}
use Rattle.bh_index_lists.proofs.Segments.{listed, IsList-from}
use Rattle.bh_index_lists.proofs.Pushed.{pushed-last, pushed-len, pushed-listed, pushed-outside}
use Rattle.bh_slot_arena.specs.Nodes.{links_of}
use Rattle.bh_slot_arena.proofs.Beside.{links_size}
use Rattle.bh_slot_arena.proofs.nodes.push_back.Goals as goal

pub tie-requires-clause-before : goal.tie-requires-clause-before
tie-requires-clause-before c = pushed-last (links_of c.args.nodes.now) c.args.head.now c.args.slot c.requires.list (omega (arith, c.requires.within, links_size c.args.nodes.now)) c.requires.apart

-- the slot is there
there : (c : goal.After-head-1) → c.args.slot < length (links_of c.args.nodes.now)
there c = omega (arith, c.requires.within, links_size c.args.nodes.now)

-- the links after both ties
links : (c : goal.After-head-1) → links_of c.tie-2.new.nodes ≡ tied (Some c.args.slot) None (tied c.args.head.now.last (Some c.args.slot) (links_of c.args.nodes.now))
links c = c.tie-2.ensures.links ∙ ap (λ (l : List Link). tied (Some c.args.slot) None l) c.tie.ensures.links

head : (c : goal.After-head-1) → c.tie-2.new.head ≡ tied_ends (Some c.args.slot) None (tied_ends c.args.head.now.last (Some c.args.slot) c.args.head.now)
head c = c.tie-2.ensures.head ∙ ap (tied_ends (Some c.args.slot) None) c.tie.ensures.head

pub overflow_add-head : goal.overflow_add-head
overflow_add-head c =
    let within : c.args.slot < length (links_of c.args.nodes.now) = omega (arith, c.requires.within, links_size c.args.nodes.now) in
    omega (arith, ap (λ (d : ListHead). d.len) c.tie-2.ensures.head, ap (λ (d : ListHead). d.len) c.tie.ensures.head, pushed-len (links_of c.args.nodes.now) c.args.head.now c.args.slot c.requires.list within c.requires.apart, links_size c.args.nodes.now)

-- what the links and the head hold in the end
after : (c : goal.After-head-1) → IsListed (links_of c.tie-2.new.nodes) (record c.tie-2.new.head { len = c.tie-2.new.head.len + 1 }) (list_of (links_of c.args.nodes.now) c.args.head.now ++ c.args.slot ∷ [])
after c =
    let L = links_of c.args.nodes.now in
    let xs = list_of L c.args.head.now ++ c.args.slot ∷ [] in
    subst (λ (l : List Link). IsListed l (record c.tie-2.new.head { len = c.tie-2.new.head.len + 1 }) xs) (sym (links c))
    (subst (λ (d : ListHead). IsListed (tied (Some c.args.slot) None (tied c.args.head.now.last (Some c.args.slot) L)) (record d { len = d.len + 1 }) xs) (sym (head c))
    (pushed-listed L c.args.head.now c.args.slot c.requires.list (there c) c.requires.apart))

pub returns-clause-list : goal.returns-clause-list
returns-clause-list c = IsList-from _ _ _ (after c)

pub returns-clause-added : goal.returns-clause-added
returns-clause-added c = listed _ _ _ (after c)

pub returns-clause-outside : goal.returns-clause-outside
returns-clause-outside c =
    λ x out. ap (λ (l : List Link). link_at l x) (links c)
    ∙ pushed-outside (links_of c.args.nodes.now) c.args.head.now c.args.slot c.requires.list (there c) c.requires.apart x (λ m. out (subst (λ (ys : List ℕ). Contains ys x) (sym (listed _ _ _ (after c))) m))
