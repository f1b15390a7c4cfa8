use Rattle.std.proofs.Common.{◌≡◌, ℕ, ◌-◌, ◌<◌, List, Option, length, get_or, set, sym, subst, ap, ap₂, ◌∙◌, arith}
use Rattle.std.specs.List.{Contains}
use Rattle.bh_slot_arena.specs.declared.nodes.Node.{Node}
use Rattle.bh_index_lists.specs.declared.lists.Link.{Link}
use Rattle.bh_index_lists.specs.declared.lists.ListHead.{ListHead}
use Rattle.bh_index_lists.specs.Lists.{link_at, no_link, IsList, IsListed, list_of, without}
use Rattle.bh_index_lists.specs.Ties.{tied, tied_ends, IsWithin}
use Rattle.bh_index_lists.proofs.Segments.{listed, IsList-from}
use Rattle.bh_index_lists.proofs.Unlinked.{unlinked-within, unlinked-prev, unlinked-next, unlinked-listed, unlinked-outside}
use Rattle.bh_slot_arena.specs.Nodes.{links_of}
use Rattle.bh_slot_arena.proofs.Beside.{link_read, links_size, no_node}
use Rattle.bh_slot_arena.proofs.nodes.unlink.Goals as goal

-- the slot of a list is there
there : (ns : List Node) (h : ListHead) (x : ℕ) → IsList (links_of ns) h → Contains (list_of (links_of ns) h) x → x < length ns
there ns h x list on = let k = unlinked-within (links_of ns) h x list on in omega (arith, k, links_size ns)

-- and its link is read
read : (ns : List Node) (h : ListHead) (x : ℕ) → IsList (links_of ns) h → Contains (list_of (links_of ns) h) x → link_at (links_of ns) x ≡ (get_or ns x no_node).link
read ns h x list on = link_read ns x no_node (there ns h x list on)

pub bounds-nodes-slot : goal.bounds-nodes-slot
bounds-nodes-slot c = there c.args.nodes.now c.args.head.now c.args.slot c.requires.list c.requires.there

pub tie-requires-clause-before : goal.tie-requires-clause-before
tie-requires-clause-before c =
    subst (λ (l : Link). IsWithin (links_of c.args.nodes.now) l.prev) (read c.args.nodes.now c.args.head.now c.args.slot c.requires.list c.requires.there)
    (unlinked-prev (links_of c.args.nodes.now) c.args.head.now c.args.slot c.requires.list c.requires.there)

pub tie-requires-clause-after : goal.tie-requires-clause-after
tie-requires-clause-after c =
    subst (λ (l : Link). IsWithin (links_of c.args.nodes.now) l.next) (read c.args.nodes.now c.args.head.now c.args.slot c.requires.list c.requires.there)
    (unlinked-next (links_of c.args.nodes.now) c.args.head.now c.args.slot c.requires.list c.requires.there)

pub set_link-requires : goal.set_link-requires
set_link-requires c = let k = there c.args.nodes.now c.args.head.now c.args.slot c.requires.list c.requires.there in omega (arith, k, c.tie.auto.nodes)

-- the default link leads nowhere
cleared : (c : goal.After-head-1) → c.default.result ≡ no_link
cleared c = ap₂ (λ (p n : Option ℕ). record { prev = p; next = n }) c.default.ensures.0 c.default.ensures.1

-- the links and the head in the end, by what they were
links : (c : goal.After-head-1) → links_of c.set_link.new.nodes
    ≡ set (tied (link_at (links_of c.args.nodes.now) c.args.slot).prev (link_at (links_of c.args.nodes.now) c.args.slot).next (links_of c.args.nodes.now)) c.args.slot no_link
links c =
    let was = read c.args.nodes.now c.args.head.now c.args.slot c.requires.list c.requires.there in
    c.set_link.ensures.links
    ∙ ap₂ (λ (l : List Link) (v : Link). set l c.args.slot v) (c.tie.ensures.links ∙ ap (λ (l : Link). tied l.prev l.next (links_of c.args.nodes.now)) (sym was)) (cleared c)

head : (c : goal.After-head-1) → c.tie.new.head ≡ tied_ends (link_at (links_of c.args.nodes.now) c.args.slot).prev (link_at (links_of c.args.nodes.now) c.args.slot).next c.args.head.now
head c = c.tie.ensures.head ∙ ap (λ (l : Link). tied_ends l.prev l.next c.args.head.now) (sym (read c.args.nodes.now c.args.head.now c.args.slot c.requires.list c.requires.there))

after : (c : goal.After-head-1) → IsListed (links_of c.set_link.new.nodes) (record c.tie.new.head { len = c.tie.new.head.len - 1 }) (without c.args.slot (list_of (links_of c.args.nodes.now) c.args.head.now))
after c =
    let L = links_of c.args.nodes.now in
    subst (λ (l : List Link). IsListed l (record c.tie.new.head { len = c.tie.new.head.len - 1 }) (without c.args.slot (list_of L c.args.head.now))) (sym (links c))
    (subst (λ (d : ListHead). IsListed (set (tied (link_at L c.args.slot).prev (link_at L c.args.slot).next L) c.args.slot no_link) (record d { len = d.len - 1 }) (without c.args.slot (list_of L c.args.head.now))) (sym (head c))
    (unlinked-listed L c.args.head.now c.args.slot c.requires.list c.requires.there))

pub returns-clause-list : goal.returns-clause-list
returns-clause-list c = IsList-from _ _ _ (after c)

pub returns-clause-taken : goal.returns-clause-taken
returns-clause-taken c = listed _ _ _ (after c)

pub returns-clause-outside : goal.returns-clause-outside
returns-clause-outside c = λ x out. ap (λ (l : List Link). link_at l x) (links c) ∙ unlinked-outside (links_of c.args.nodes.now) c.args.head.now c.args.slot c.requires.list c.requires.there x out
