use Rattle.std.proofs.Common.{ℕ, ◌++◌, [], List, map, replicate, sym, subst, ap, ◌∙◌}
use Rattle.bh_index_lists.specs.declared.lists.ListHead.{ListHead}
use Rattle.bh_index_lists.specs.Lists.{list_of}
use Rattle.bh_slot_arena.specs.Family.{FamilyView}
use Rattle.bh_slot_arena.specs.Linked.{IsLinked}
use Rattle.bh_slot_arena.specs.Nodes.{links_of, numbers_of}
use Rattle.bh_slot_arena.proofs.Grown.{grown-sound, grown-view}
use Rattle.bh_slot_arena.proofs.family.Family.add_lists.Goals as goal

pub invariant_of-self-2 : goal.invariant_of-self-2
invariant_of-self-2 c = subst (λ (hs : List ListHead). IsLinked (links_of c.self.inside.nodes.items) hs (numbers_of c.self.inside.nodes.items)) (sym c.in_ok-add_heads.ensures.ok) (grown-sound (links_of c.self.inside.nodes.items) c.self.inside.heads.items (numbers_of c.self.inside.nodes.items) c.args.count c.self.invariant)

pub returns-clause-ok : goal.returns-clause-ok
returns-clause-ok c =
    ap (λ (hs : List ListHead). map (list_of (links_of c.self.inside.nodes.items)) hs) c.in_ok-add_heads.ensures.ok
    ∙ grown-view (links_of c.self.inside.nodes.items) c.self.inside.heads.items c.args.count
    ∙ ap (λ (v : FamilyView). v.lists ++ replicate {A = List ℕ} c.args.count []) c.self.view_is
