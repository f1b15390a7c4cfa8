use Rattle.std.proofs.Common.{◌≡◌, ℕ, ◌<◌, ◌≤◌}
use Rattle.bh_slot_arena.specs.Family.{but_room, family_at}
use Rattle.bh_slot_arena.proofs.arena.reserve_all.Given as goal

abbrev pub invariant-loop-family : goal.invariant-loop-family
invariant-loop-family l = record {
  same : (f : ℕ) → but_room (family_at l.families f) ≡ but_room (family_at l.fn.families f);
  more : (f : ℕ) → (family_at l.fn.families f).room ≤ (family_at l.families f).room;
  room : (f : ℕ) → f < l.family-index → l.count ≤ (family_at l.families f).room;
}
