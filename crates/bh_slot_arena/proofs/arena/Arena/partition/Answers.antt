use Rattle.std.proofs.Common.{◌<◌, List, ℕ, length, sym, subst, arith}
use Rattle.std.proofs.lemmas.List.{get_or_default}
use Rattle.bh_slot_arena.specs.Lists.{IsPartition}
use Rattle.bh_slot_arena.specs.Slots.{ArenaView, lists_in}
use Rattle.bh_slot_arena.specs.Family.{FamilyView, family_at, no_lists}
use Rattle.bh_slot_arena.proofs.Families.{shown, all_lists-at}
use Rattle.bh_slot_arena.proofs.arena.Arena.partition.Goals as goal

pub returns-clause-lists : goal.returns-clause-lists
returns-clause-lists g c =
    let within : c.args.family < length c.self.inside.families = omega (arith, c.requires) in
    let here = subst (λ (v : FamilyView). IsPartition v.slots v.lists) (get_or_default c.self.inside.families c.args.family c.index-self-family.result no_lists within) c.partition.ensures in
    subst (λ (a : ArenaView g.row.T.Denot). IsPartition (length a.payloads) (lists_in a c.args.family)) c.self.view_is
    (subst (λ (n : ℕ). IsPartition n (lists_in (shown c.self.inside.limit c.self.inside.reserved c.self.inside.payloads.items c.self.inside.families) c.args.family)) (c.self.invariant.slots_in c.args.family c.requires)
    (subst (λ (ls : List (List ℕ)). IsPartition (family_at c.self.inside.families c.args.family).slots ls) (sym (all_lists-at c.self.inside.families c.args.family)) here))
