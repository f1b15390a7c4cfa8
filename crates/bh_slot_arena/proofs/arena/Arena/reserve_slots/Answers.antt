use Rattle.std.proofs.Common.{◌+◌, List, ap, ap₂, ◌∙◌, ℕ}
use Rattle.bh_slot_arena.specs.Slots.{ArenaView, with_reserved}
use Rattle.bh_slot_arena.specs.Family.{FamilyView}
use Rattle.bh_slot_arena.proofs.Families.{all_lists-same}
use Rattle.bh_slot_arena.proofs.arena.Arena.reserve_slots.Goals as goal

-- the lists, whatever memory was taken for more slots
pub returns-then-is_err-clause-err : goal.returns-then-is_err-clause-err
returns-then-is_err-clause-err g c =
    ap (λ (ls : List (List (List ℕ))). let a : ArenaView g.row.T.Denot = record { limit = c.self.inside.limit; reserved = c.self.inside.reserved; payloads = c.self.inside.payloads.items; families = ls } in a)
    (all_lists-same c.self.inside.families c.reserve_all.new.families c.reserve_all.auto.families (λ f. ap (λ (v : FamilyView). v.lists) (c.reserve_all.ensures.same f)))
    ∙ c.self.view_is

pub returns-then-is_err-2-clause-err : goal.returns-then-is_err-2-clause-err
returns-then-is_err-2-clause-err g c =
    ap₂ (λ (ps : List g.row.T.Denot) (ls : List (List (List ℕ))). let a : ArenaView g.row.T.Denot = record { limit = c.self.inside.limit; reserved = c.self.inside.reserved; payloads = ps; families = ls } in a)
    c.reserve.ensures.items
    (all_lists-same c.self.inside.families c.reserve_all.new.families c.reserve_all.auto.families (λ f. ap (λ (v : FamilyView). v.lists) (c.reserve_all.ensures.same f)))
    ∙ c.self.view_is

pub returns-clause-ok : goal.returns-clause-ok
returns-clause-ok g c =
    ap₂ (λ (ps : List g.row.T.Denot) (ls : List (List (List ℕ))). let a : ArenaView g.row.T.Denot = record { limit = c.self.inside.limit; reserved = c.self.inside.reserved + c.args.count; payloads = ps; families = ls } in a)
    c.reserve.ensures.items
    (all_lists-same c.self.inside.families c.reserve_all.new.families c.reserve_all.auto.families (λ f. ap (λ (v : FamilyView). v.lists) (c.reserve_all.ensures.same f)))
    ∙ ap (λ (a : ArenaView g.row.T.Denot). with_reserved (a.reserved + c.args.count) a) c.self.view_is
