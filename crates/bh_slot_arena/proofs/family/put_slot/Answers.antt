use Rattle.std.proofs.Common.{◌≡◌, ◌++◌, ◌∷◌, [], List, length, map, set, sym, subst, ap, ◌∙◌, arith}
use Rattle.std.proofs.lemmas.List.{with_items_is}
use Rattle.bh_index_lists.specs.Lists.{list_of}
use Rattle.bh_slot_arena.specs.declared.nodes.Node.{Node}
use Rattle.bh_slot_arena.specs.Linked.{IsLinked}
use Rattle.bh_slot_arena.specs.Nodes.{AreLinked, links_of, numbers_of}
use Rattle.bh_slot_arena.proofs.Added.{before-list, before-apart, put-sound, put-view}
use Rattle.bh_slot_arena.proofs.Beside.{links_more, links_size, numbers_more}
use Rattle.bh_slot_arena.proofs.family.put_slot.Goals as goal

-- a slice of nodes with one more has one link more, and one number more
longer : (ns ms : List Node) (v : Node) → ms ≡ ns ++ v ∷ [] → links_of ms ≡ links_of ns ++ v.link ∷ []
longer ns ms v e = ap links_of e ∙ links_more ns v

counted : (ns ms : List Node) (v : Node) → ms ≡ ns ++ v ∷ [] → numbers_of ms ≡ numbers_of ns ++ v.list ∷ []
counted ns ms v e = ap numbers_of e ∙ numbers_more ns v

pub push_back-requires-clause-list : goal.push_back-requires-clause-list
push_back-requires-clause-list c =
    before-list (links_of c.args.nodes.now.items) (links_of c.deref_mut.result.now) c.args.heads.now (numbers_of c.args.nodes.now.items) c.default.result c.args.slot c.args.list c.requires.sound
    (longer c.args.nodes.now.items c.deref_mut.result.now _ (c.deref_mut.ensures.value ∙ c.push_reserved.ensures.items)) (links_size c.args.nodes.now.items ∙ c.requires.slot) c.requires.few c.requires.list

pub push_back-requires-clause-apart : goal.push_back-requires-clause-apart
push_back-requires-clause-apart c =
    before-apart (links_of c.args.nodes.now.items) (links_of c.deref_mut.result.now) c.args.heads.now (numbers_of c.args.nodes.now.items) c.default.result c.args.slot c.args.list c.requires.sound
    (longer c.args.nodes.now.items c.deref_mut.result.now _ (c.deref_mut.ensures.value ∙ c.push_reserved.ensures.items)) (links_size c.args.nodes.now.items ∙ c.requires.slot) c.requires.few c.requires.list

pub returns-clause-sound : goal.returns-clause-sound
returns-clause-sound c =
    let items = with_items_is c.push_reserved.new.self c.push_back.new.nodes (omega (arith, c.push_back.auto.nodes, c.deref_mut.ensures.len)) in
    let heads = set c.args.heads.now c.args.list c.push_back.new.head in
    let is = c.deref_mut.ensures.value ∙ c.push_reserved.ensures.items in
    let same : length (links_of c.push_back.new.nodes) ≡ length (links_of c.deref_mut.result.now) = links_size c.push_back.new.nodes ∙ c.push_back.auto.nodes ∙ sym (links_size c.deref_mut.result.now) in
    let numbers = c.push_back.ensures.numbers ∙ counted c.args.nodes.now.items c.deref_mut.result.now _ is in
    subst (λ (ns : List Node). AreLinked ns heads) (sym items)
    (subst (IsLinked (links_of c.push_back.new.nodes) heads) (sym numbers)
    (put-sound (links_of c.args.nodes.now.items) (links_of c.deref_mut.result.now) c.args.heads.now (numbers_of c.args.nodes.now.items) c.default.result c.args.slot c.args.list c.requires.sound
    (longer c.args.nodes.now.items c.deref_mut.result.now _ is) (links_size c.args.nodes.now.items ∙ c.requires.slot) c.requires.few c.requires.list
    (links_of c.push_back.new.nodes) c.push_back.new.head same c.push_back.ensures.list c.push_back.ensures.added c.push_back.ensures.outside))

pub returns-clause-lists : goal.returns-clause-lists
returns-clause-lists c =
    let items = with_items_is c.push_reserved.new.self c.push_back.new.nodes (omega (arith, c.push_back.auto.nodes, c.deref_mut.ensures.len)) in
    let is = c.deref_mut.ensures.value ∙ c.push_reserved.ensures.items in
    let same : length (links_of c.push_back.new.nodes) ≡ length (links_of c.deref_mut.result.now) = links_size c.push_back.new.nodes ∙ c.push_back.auto.nodes ∙ sym (links_size c.deref_mut.result.now) in
    ap (λ (ns : List Node). map (list_of (links_of ns)) (set c.args.heads.now c.args.list c.push_back.new.head)) items
    ∙ put-view (links_of c.args.nodes.now.items) (links_of c.deref_mut.result.now) c.args.heads.now (numbers_of c.args.nodes.now.items) c.default.result c.args.slot c.args.list c.requires.sound
    (longer c.args.nodes.now.items c.deref_mut.result.now _ is) (links_size c.args.nodes.now.items ∙ c.requires.slot) c.requires.few c.requires.list
    (links_of c.push_back.new.nodes) c.push_back.new.head same c.push_back.ensures.list c.push_back.ensures.added c.push_back.ensures.outside
