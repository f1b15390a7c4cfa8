-- What holds of the families of an arena.
use Rattle.std.specs.Prelude.{◌≡◌, ℕ, ◌+◌, ◌<◌, ◌≤◌, ◌^◌, List}
use Rattle.bh_slot_arena.specs.Family.{FamilyView, family_at}

-- the slots that are there and those that are reserved are within the limit; each of so many families has the slots, and it
-- and the payloads have room for those that are reserved
pub record HasFamilies (limit reserved slots capacity count : ℕ) (families : List FamilyView) : Type 0 where
  pub few : limit < 2 ^ 32
  pub within : slots + reserved ≤ limit
  pub room : slots + reserved ≤ capacity
  pub slots_in : (f : ℕ) → f < count → (family_at families f).slots ≡ slots
  pub room_in : (f : ℕ) → f < count → reserved ≤ (family_at families f).room
