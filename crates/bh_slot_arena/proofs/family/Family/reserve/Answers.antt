use Rattle.std.proofs.Common.{List, sym, subst}
use Rattle.bh_slot_arena.specs.declared.nodes.Node.{Node}
use Rattle.bh_slot_arena.specs.Nodes.{AreLinked}
use Rattle.bh_slot_arena.proofs.family.Family.reserve.Goals as goal

pub invariant_of-self : goal.invariant_of-self
invariant_of-self c = subst (λ (ns : List Node). AreLinked ns c.self.inside.heads.items) (sym c.reserve.ensures.items) c.self.invariant
