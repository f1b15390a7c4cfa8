use Rattle.std.proofs.Common.{◌≡◌, ◌<◌, ap, ap₂, List, length, sym, ◌∙◌, arith, rules, ℕ}
use Rattle.bh_slot_arena.specs.Slots.{ArenaView}
use Rattle.bh_slot_arena.specs.Family.{FamilyView, but_room, family_at, no_lists}
use Rattle.bh_slot_arena.proofs.Families.{all_lists-empty}
use Rattle.bh_slot_arena.proofs.arena.Arena.new.Given as given
use Rattle.bh_slot_arena.proofs.arena.Arena.new.Goals as goal

-- each family that was made has no list and no slot
empty : (g : given.Over) (c : goal.After-from_fn g) (f : ℕ) → f < g.row.K → but_room (family_at c.from_fn.result f) ≡ no_lists
empty g c f lt = let call = c.from_fn.ensures.items.at f no_lists lt in search (rules, call.2)

pub invariant_of-result : goal.invariant_of-result
invariant_of-result g c = record {
  few = omega arith;
  within = omega (arith, ap length c.new.ensures.items);
  room = omega (arith, ap length c.new.ensures.items);
  slots_in = λ f lt. ap (λ (v : FamilyView). v.slots) (empty g c f lt) ∙ sym (ap length c.new.ensures.items);
  room_in = λ f lt. omega arith;
}

pub returns : goal.returns
returns g c = ap₂ (λ (ps : List g.row.T.Denot) (ls : List (List (List ℕ))). let a : ArenaView g.row.T.Denot = record { limit = c.args.limit; reserved = 0; payloads = ps; families = ls } in a) c.new.ensures.items (all_lists-empty g.row.K c.from_fn.result c.from_fn.ensures.items.long (empty g c))
