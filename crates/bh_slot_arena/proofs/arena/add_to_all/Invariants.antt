use Rattle.std.proofs.Common.{◌≡◌, ℕ, ◌<◌, ◌≤◌, slice_index}
use Rattle.bh_slot_arena.specs.Family.{AddsSlots, family_at}
use Rattle.bh_slot_arena.proofs.arena.add_to_all.Given as goal

abbrev pub invariant-loop-f : goal.invariant-loop-f
invariant-loop-f l = record {
  done : (f : ℕ) → f < l.f → AddsSlots l.first l.count (slice_index l.lists f) (family_at l.fn.families f) (family_at l.families f);
  rest : (f : ℕ) → l.f ≤ f → family_at l.families f ≡ family_at l.fn.families f;
}
