-- What callers see of an arena.
use Rattle.std.specs.Prelude.{ℕ, List, [], ◌++◌, length, map, replicate, slice_index_or, slice_set}
use Rattle.std.specs.List.{range_with_len, zip}
use Rattle.bh_slot_arena.specs.Lists.{appended, list_at, moved, put_last}

-- the payload of each slot, the lists of each family, how many slots there may be, and for how many more the memory is taken
pub record ArenaView (T : Type 0) : Type 0 where
  pub limit : ℕ
  pub reserved : ℕ
  pub payloads : List T
  pub families : List (List (List ℕ))

-- how many slots there may be, and for how many more the memory is taken
abbrev pub bounds_of : {T : Type 0} → ArenaView T → ℕ × ℕ
bounds_of a = (a.limit, a.reserved)

-- the lists of a family
abbrev pub lists_in : {T : Type 0} → ArenaView T → ℕ → List (List ℕ)
lists_in a family = slice_index_or a.families family []

-- the slots of a family's list
abbrev pub slots_on : {T : Type 0} → ArenaView T → ℕ → ℕ → List ℕ
slots_on a family list = list_at (lists_in a family) list

-- with other lists in a family
abbrev pub with_lists : {T : Type 0} → ℕ → List (List ℕ) → ArenaView T → ArenaView T
with_lists family lists a = record a { families = slice_set a.families family lists }

-- with empty lists more in a family
abbrev pub with_new_lists : {T : Type 0} → ℕ → ℕ → ArenaView T → ArenaView T
with_new_lists family count a = with_lists family (lists_in a family ++ replicate count []) a

-- with a slot put last on a list of a family
abbrev pub with_moved : {T : Type 0} → ℕ → ℕ → ℕ → ArenaView T → ArenaView T
with_moved family slot to a = with_lists family (moved slot to (lists_in a family)) a

-- with the slots of a list of a family put at the end of another
abbrev pub with_appended : {T : Type 0} → ℕ → ℕ → ℕ → ArenaView T → ArenaView T
with_appended family from to a = with_lists family (appended from to (lists_in a family)) a

-- with another payload in a slot
abbrev pub with_payload : {T : Type 0} → ℕ → T → ArenaView T → ArenaView T
with_payload slot payload a = record a { payloads = slice_set a.payloads slot payload }

-- with slots more, each with the payload, at the end of one list of each family
abbrev pub with_new_slots : {T : Type 0} → ℕ → List ℕ → T → ArenaView T → ArenaView T
with_new_slots count lists payload a = record a {
  payloads = a.payloads ++ replicate count payload;
  families = map (λ p. put_last (range_with_len (length a.payloads) count) p.0 p.1) (zip lists a.families);
}

-- with so many slots reserved
abbrev pub with_reserved : {T : Type 0} → ℕ → ArenaView T → ArenaView T
with_reserved count a = record a { reserved = count }
