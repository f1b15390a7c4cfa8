-- What the fields of a family show, and what holds of them.
use Rattle.std.specs.Prelude.{◌-◌, length, map, vec_len, vec_capacity}
use Rattle.bh_index_lists.specs.Lists.{list_of}
use Rattle.bh_slot_arena.specs.declared.family.Family.TheInside.{Inside}
use Rattle.bh_slot_arena.specs.Family.{FamilyView}
use Rattle.bh_slot_arena.specs.Nodes.{AreLinked, links_of}

abbrev pub family_of : Inside → FamilyView
family_of f = record {
  slots = length f.nodes.items;
  lists = map (list_of (links_of f.nodes.items)) f.heads.items;
  room = vec_capacity f.nodes - vec_len f.nodes;
}

abbrev pub IsFamily : Inside → Type 0
IsFamily f = AreLinked f.nodes.items f.heads.items
