use Rattle.std.proofs.Common.{◌≡◌, ◌≢◌, ℕ, set, subst, ap, ◌∙◌, arith}
use Rattle.std.specs.List.{Contains}
use Rattle.std.proofs.lemmas.List.{length-map}
use Rattle.bh_slot_arena.specs.Lists.{moved}
use Rattle.bh_slot_arena.specs.Slots.{ArenaView, slots_on, with_moved}
use Rattle.bh_slot_arena.specs.Family.{FamilyView}
use Rattle.bh_slot_arena.proofs.Families.{shown, shown-set, slots_on-with_moved}
use Rattle.bh_slot_arena.proofs.arena.Arena.move_to_back.Goals as goal

pub returns-clause-moved : goal.returns-clause-moved
returns-clause-moved g c =
    shown-set c.self.inside.limit c.self.inside.reserved c.self.inside.payloads.items c.self.inside.families c.args.family c.index-self-family.result c.move_to_back.new.self (moved c.args.slot c.args.to) (omega (arith, c.requires.family)) c.move_to_back.ensures.lists
    ∙ ap (with_moved c.args.family c.args.slot c.args.to) c.self.view_is

pub returns-clause-others : goal.returns-clause-others
returns-clause-others g c =
    let before = shown c.self.inside.limit c.self.inside.reserved c.self.inside.payloads.items c.self.inside.families in
    let size = length-map c.self.inside.families (λ (v : FamilyView). v.lists) in
    let step = shown-set c.self.inside.limit c.self.inside.reserved c.self.inside.payloads.items c.self.inside.families c.args.family c.index-self-family.result c.move_to_back.new.self (moved c.args.slot c.args.to) (omega (arith, c.requires.family)) c.move_to_back.ensures.lists in
    subst (λ (a : ArenaView g.row.T.Denot). (l : ℕ) → l ≢ c.args.to → ¬ (Contains (slots_on a c.args.family l) c.args.slot)
    → slots_on (shown c.self.inside.limit c.self.inside.reserved c.self.inside.payloads.items (set c.self.inside.families c.args.family c.move_to_back.new.self)) c.args.family l ≡ slots_on a c.args.family l) c.self.view_is
    (λ l ne out. ap (λ (a : ArenaView g.row.T.Denot). slots_on a c.args.family l) step ∙ slots_on-with_moved before c.args.family c.args.slot c.args.to l (omega (arith, c.requires.family, size)) ne out)
