use Rattle.std.proofs.Common.{◌≡◌, ℕ, ◌<◌, List, [], length, map, get_or, arith, sym, subst}
use Rattle.std.specs.List.{Contains}
use Rattle.std.proofs.lemmas.List.{get_or_read, get_or-map, length-map}
use Rattle.bh_index_lists.specs.declared.lists.ListHead.{ListHead}
use Rattle.bh_index_lists.specs.Lists.{list_of, no_list}
use Rattle.bh_slot_arena.specs.declared.nodes.Node.{Node}
use Rattle.bh_slot_arena.specs.Family.{FamilyView}
use Rattle.bh_slot_arena.specs.Lists.{list_at}
use Rattle.bh_slot_arena.specs.Linked.{head_at}
use Rattle.bh_slot_arena.specs.Nodes.{AreLinked, links_of}
use Rattle.bh_slot_arena.proofs.Beside.{no_node, number_there, on_number}
use Rattle.bh_slot_arena.proofs.family.Family.list_holding.Goals as goal

-- the number that is read, and the list of that number
there : (ns : List Node) (heads : List ListHead) (x : ℕ) (n : Node) → AreLinked ns heads → x < length ns → n ≡ get_or ns x no_node → n.list < length heads
there ns heads x n sound lt read = subst (λ (m : Node). m.list < length heads) (sym read) (number_there ns heads x sound lt)

on : (ns : List Node) (heads : List ListHead) (x : ℕ) (n : Node) → AreLinked ns heads → x < length ns → n ≡ get_or ns x no_node → Contains (list_at (map (list_of (links_of ns)) heads) n.list) x
on ns heads x n sound lt read =
    subst (λ (xs : List ℕ). Contains xs x) (sym (get_or-map (list_of (links_of ns)) heads n.list no_list [] (there ns heads x n sound lt read)))
    (subst (λ (m : Node). Contains (list_of (links_of ns) (head_at heads m.list)) x) (sym read) (on_number ns heads x sound lt))

pub returns-clause-there : goal.returns-clause-there
returns-clause-there c =
    let nodes = c.self.inside.nodes.items in
    let heads = c.self.inside.heads.items in
    let within : c.args.slot < length nodes = subst (λ (v : FamilyView). c.args.slot < v.slots) (sym c.self.view_is) c.requires in
    let read = get_or_read nodes c.args.slot c.index.result.now within c.index.ensures no_node in
    let lt = there nodes heads c.args.slot c.index.result.now c.self.invariant within read in
    subst (λ (v : FamilyView). c.index.result.now.list < length v.lists) c.self.view_is (omega (arith, lt, length-map heads (list_of (links_of nodes))))

pub returns-clause-on : goal.returns-clause-on
returns-clause-on c =
    let nodes = c.self.inside.nodes.items in
    let within : c.args.slot < length nodes = subst (λ (v : FamilyView). c.args.slot < v.slots) (sym c.self.view_is) c.requires in
    let read = get_or_read nodes c.args.slot c.index.result.now within c.index.ensures no_node in
    subst (λ (v : FamilyView). Contains (list_at v.lists c.index.result.now.list) c.args.slot) c.self.view_is (on nodes c.self.inside.heads.items c.args.slot c.index.result.now c.self.invariant within read)
