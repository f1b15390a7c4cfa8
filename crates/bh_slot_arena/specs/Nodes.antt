-- The links and the list numbers of the slots of a family, which lie beside one another.
use Rattle.std.specs.Prelude.{ℕ, List, map}
use Rattle.bh_index_lists.specs.declared.lists.Link.{Link}
use Rattle.bh_index_lists.specs.declared.lists.ListHead.{ListHead}
use Rattle.bh_slot_arena.specs.declared.nodes.Node.{Node}
use Rattle.bh_slot_arena.specs.Linked.{IsLinked}

-- the neighbours of each slot
abbrev pub links_of : List Node → List Link
links_of nodes = map (λ (n : Node). n.link) nodes

-- the number of each slot's list
abbrev pub numbers_of : List Node → List ℕ
numbers_of nodes = map (λ (n : Node). n.list) nodes

-- each head is a list, and each slot is on the list whose number it has, and on no other
abbrev pub AreLinked : List Node → List ListHead → Type 0
AreLinked nodes heads = IsLinked (links_of nodes) heads (numbers_of nodes)
