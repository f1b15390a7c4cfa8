use Rattle.std.proofs.Common.{ℕ, map, subst}
use Rattle.bh_index_lists.specs.Lists.{list_of}
use Rattle.bh_slot_arena.specs.Nodes.{links_of, numbers_of}
use Rattle.bh_slot_arena.proofs.Beside.{links_size}
use Rattle.bh_slot_arena.specs.Family.{FamilyView}
use Rattle.bh_slot_arena.specs.Lists.{IsPartition}
use Rattle.bh_slot_arena.proofs.Parted.{IsPartition-sound}
use Rattle.bh_slot_arena.proofs.family.Family.partition.Goals as goal

pub returns : goal.returns
returns c =
    let nodes = c.self.inside.nodes.items in
    let parted = IsPartition-sound (links_of nodes) c.self.inside.heads.items (numbers_of nodes) c.self.invariant in
    subst (λ (v : FamilyView). IsPartition v.slots v.lists) c.self.view_is
    (subst (λ (n : ℕ). IsPartition n (map (list_of (links_of nodes)) c.self.inside.heads.items)) (links_size nodes) parted)
