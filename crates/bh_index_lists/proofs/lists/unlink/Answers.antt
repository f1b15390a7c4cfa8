use Rattle.std.proofs.Common.{◌≡◌, ℕ, ◌-◌, List, Option, set, sym, subst, ap, ap₂, ◌∙◌, arith}
use Rattle.bh_index_lists.specs.declared.lists.Link.{Link}
use Rattle.bh_index_lists.specs.declared.lists.ListHead.{ListHead}
use Rattle.bh_index_lists.specs.Lists.{link_at, no_link, IsListed, list_of, without}
use Rattle.bh_index_lists.specs.Ties.{tied}
use Rattle.bh_index_lists.proofs.Segments.{listed, IsList-from}
use Rattle.bh_index_lists.proofs.Unlinked.{unlinked-within, unlinked-prev, unlinked-next, unlinked-listed, unlinked-outside}
use Rattle.bh_index_lists.proofs.lists.unlink.Goals as goal

pub slice_copy_out-link : goal.slice_copy_out-link
slice_copy_out-link c = unlinked-within c.args.links.now c.args.head.now c.args.place c.requires.list c.requires.there

pub tie-requires-clause-before : goal.tie-requires-clause-before
tie-requires-clause-before c = unlinked-prev c.args.links.now c.args.head.now c.args.place c.requires.list c.requires.there

pub tie-requires-clause-after : goal.tie-requires-clause-after
tie-requires-clause-after c = unlinked-next c.args.links.now c.args.head.now c.args.place c.requires.list c.requires.there

pub bounds-links-place : goal.bounds-links-place
bounds-links-place c = omega (arith, c.tie.auto.links, unlinked-within c.args.links.now c.args.head.now c.args.place c.requires.list c.requires.there)

-- the default link leads nowhere
cleared : (c : goal.After-head-1) → c.default.result ≡ no_link
cleared c = ap₂ (λ (p n : Option ℕ). record { prev = p; next = n }) c.default.ensures.0 c.default.ensures.1

-- the links and the head in the end, by what they were
links : (c : goal.After-head-1) → set c.tie.new.links c.args.place c.default.result ≡ set (tied (link_at c.args.links.now c.args.place).prev (link_at c.args.links.now c.args.place).next c.args.links.now) c.args.place no_link
links c = ap₂ (λ (l : List Link) (v : Link). set l c.args.place v) c.tie.ensures.links (cleared c)

after : (c : goal.After-head-1) → IsListed (set c.tie.new.links c.args.place c.default.result) (record c.tie.new.head { len = c.tie.new.head.len - 1 }) (without c.args.place (list_of c.args.links.now c.args.head.now))
after c =
    subst (λ (l : List Link). IsListed l (record c.tie.new.head { len = c.tie.new.head.len - 1 }) (without c.args.place (list_of c.args.links.now c.args.head.now))) (sym (links c))
    (subst (λ (d : ListHead). IsListed (set (tied (link_at c.args.links.now c.args.place).prev (link_at c.args.links.now c.args.place).next c.args.links.now) c.args.place no_link) (record d { len = d.len - 1 }) (without c.args.place (list_of c.args.links.now c.args.head.now))) (sym c.tie.ensures.head)
    (unlinked-listed c.args.links.now c.args.head.now c.args.place c.requires.list c.requires.there))

pub returns-clause-list : goal.returns-clause-list
returns-clause-list c = IsList-from _ _ _ (after c)

pub returns-clause-taken : goal.returns-clause-taken
returns-clause-taken c = listed _ _ _ (after c)

pub returns-clause-outside : goal.returns-clause-outside
returns-clause-outside c = λ x out. ap (λ (l : List Link). link_at l x) (links c) ∙ unlinked-outside c.args.links.now c.args.head.now c.args.place c.requires.list c.requires.there x out
