-- Slots that are noted, to be looked at again.
use Rattle.std.specs.Prelude.{◌≡◌, ℕ, ◌<◌, Bool, true, [], ◌∷◌, ◌++◌, replicate, take, slice_get}
use Rattle.bh_base.specs.Tickets.{is_cached_in}
use Rattle.bh_cache.specs.Slots.{Slots, has, has_one}
use Rattle.bh_cache.specs.declared.notes.FewSlots.{FewSlots}
use Rattle.bh_cache.specs.declared.notes.Noted.{Noted}
use Rattle.bh_cache.specs.declared.notes.Noted.TheVariants as noted

-- the slot is among those that are noted
abbrev pub is_noted : Noted → ℕ → Bool
is_noted (noted.Few few) x = has x (take few.count few.slots)
is_noted noted.Many x = true

-- how many slots may be noted one by one
abbrev pub most_noted : ℕ
most_noted = 8

-- no slot is noted
abbrev pub nothing : Noted
nothing = noted.Few (record { slots = replicate most_noted 0; count = 0 })

-- the slot is noted now, and what was noted still is
pub record IsNoted (x : ℕ) (n m : Noted) : Type 0 where
  pub it : is_noted m x ≡ true
  pub more : (y : ℕ) → is_noted n y ≡ true → is_noted m y ≡ true
  -- and no other slot, as long as there is room
  pub few : (before : FewSlots) → n ≡ noted.Few before → before.count < most_noted →
      (after : FewSlots) × (m ≡ noted.Few after) × (take after.count after.slots ≡ take before.count before.slots ++ x ∷ [])

-- those of the slots are noted now whose tickets are cached in the context, and what was noted still is
pub record AreNoted (context : ℕ) (among : ℕ → Bool) (a : Slots) (n m : Noted) : Type 0 where
  pub cached : (x : ℕ) → among x ≡ true → has_one (is_cached_in context) (slice_get a.payloads x) ≡ true → is_noted m x ≡ true
  pub more : (y : ℕ) → is_noted n y ≡ true → is_noted m y ≡ true
