-- A place is chosen for a group, and slots for it among the spare ones; then it has them.
use Rattle.std.proofs.Common.{◌≡◌, ℕ, ◌+◌, ◌-◌, ◌<◌, ◌≤◌, List, length, get_or, set, min, Option, Some, refl, ◌∙◌, sym, ap, subst, arith}
use Rattle.std.specs.Prelude.{◌≢◌, ◌^◌, slice_get}
use Rattle.bh_cache.specs.declared.lists.GroupLists.{GroupLists}
use Rattle.bh_cache.specs.Slots.{Slots, IsApart, IsArena}
use Rattle.bh_tickets.specs.declared.group_slots.GroupSlots.{GroupSlots}
use Rattle.bh_tickets.specs.declared.names.NameLists.{NameLists}
use Rattle.bh_tickets.specs.GroupSlots.{no_slot_taken}
use Rattle.bh_tickets.specs.Spare.{AreSpare, GetsPlace, IsPlaced, IsTaken, IsVacant, free_slots}
use Rattle.bh_tickets.specs.TicketsView.{HasPlace, no_tickets_in}
use Rattle.bh_tickets.specs.Whole.{IsWhole, groups_of, view_of}
use Rattle.bh_tickets.proofs.Rebuilt.{entry_taken, entry_vacant, spare_apart, spare_max, spare_vacant, taken_here, taken_others, taken_rooms, taken_whole, whole_group}
use Rattle.bh_tickets.proofs.SlotCounts.{shown_rooms}
use Rattle.bh_tickets.proofs.Vacant.{max_is}
use Rattle.bh_tickets.proofs.Whole.{get_is, get_lt}

some_same : (s t : GroupSlots) → Some s ≡ Some t → s ≡ t
some_same s t e = cc

-- the spare slots and the group's part, once both are ready
pub record IsChosen (chains place slots : ℕ) (spare : Option GroupSlots) (g : GroupLists) (s : GroupSlots) (a : Slots) (ss : List GroupSlots) (b : Slots) (rs : List GroupSlots) (ms : List NameLists) : Type 0 where
  pub part : GroupSlots
  pub is : spare ≡ Some part
  pub placed : IsPlaced chains place a part ss b rs ms
  pub here : slice_get rs place ≡ Some s
  pub empty : s.slots.max ≡ 0
  pub lists : part.lists ≡ g
  pub enough : slots ≤ part.slots.max

module _ {chains place slots : ℕ} {g : GroupLists} {a b : Slots} {ss rs : List GroupSlots} {ns ms : List NameLists} {spare : Option GroupSlots} (whole : IsWhole a spare ss ns) (are : AreSpare slots g spare) (got : GetsPlace chains place a ss ns b rs ms) where
  now : IsPlaced chains place a are.part ss b rs ms
  now = got.gets are.part (subst (λ q. IsWhole a q ss ns) are.is whole)

  -- the group's part is there
  pub chosen_there : place < length rs
  chosen_there = get_lt rs place now.entry now.here

  -- and is read so
  pub chosen : {s : GroupSlots} → s ≡ get_or rs place s → IsChosen chains place slots spare g s a ss b rs ms
  chosen {s = s} is =
      let here : slice_get rs place ≡ Some s = get_is rs place s chosen_there is in
      record {
        part = are.part;
        is = are.is;
        placed = now;
        here = here;
        empty = ap (λ (z : GroupSlots). z.slots.max) (some_same s now.entry (sym here ∙ now.here)) ∙ now.empty;
        lists = are.lists;
        enough = are.enough;
      }

module _ {chains place slots : ℕ} {spare : Option GroupSlots} {g : GroupLists} {s : GroupSlots} {a b : Slots} {ss rs : List GroupSlots} {ms : List NameLists} (k : IsChosen chains place slots spare g s a ss b rs ms) where
  pub chosen_giver : IsVacant b g
  chosen_giver = subst (IsVacant b) k.lists (spare_vacant b k.part rs ms k.placed.whole)

  pub chosen_taker : IsVacant b s.lists
  chosen_taker = entry_vacant b k.part rs ms k.placed.whole place s k.here k.empty

  pub chosen_apart : IsApart g s.lists
  chosen_apart = subst (λ (z : GroupLists). IsApart z s.lists) k.lists (spare_apart b k.part rs ms k.placed.whole place s k.here)

  -- where the spare slots that are made are taken first, enough are not made yet for the others
  pub chosen_enough : (made : ℕ) → made ≡ min slots (free_slots b g) → slots - made ≤ k.part.unmade
  chosen_enough made is = omega (arith, is, k.enough, spare_max b k.part rs ms k.placed.whole, ap (free_slots b) k.lists)

  -- and what the spare ones and the group have is counted without overflow
  pub chosen_few : (d : Slots) (made : ℕ) → IsTaken made g s.lists b d → (free_slots d g + k.part.unmade < 2 ^ 63) × (free_slots d s.lists ≡ made) × (made + k.part.unmade < 2 ^ 63)
  chosen_few d made gone =
      let few : k.part.slots.max < 2 ^ 63 = (k.placed.whole.all.each 0 k.part refl).few in
      let max : k.part.slots.max ≡ free_slots b g + k.part.unmade = spare_max b k.part rs ms k.placed.whole ∙ ap (λ (z : GroupLists). free_slots b z + k.part.unmade) k.lists in
      let had = max_is b s k.placed.whole.all.arena (whole_group b k.part rs ms k.placed.whole place s k.here) (entry_taken b k.part rs ms k.placed.whole place s k.here k.empty) in
      (omega (arith, few, max, gone.left), omega (arith, gone.got, had, k.empty), omega (arith, few, max, gone.left))

  pub chosen_lt : place < length rs
  chosen_lt = get_lt rs place s k.here

  -- ---- the slots are taken

  module _ {d : Slots} {q r : GroupSlots} {made u : ℕ} (gone : IsTaken made g s.lists b d) (arena : IsArena d 0) (made_is : made ≡ min slots (free_slots b g)) (spare_unmade : u ≡ k.part.unmade)
      (spare_is : q ≡ no_slot_taken g (free_slots d g + (u - (slots - made))) (u - (slots - made))) (part_is : r ≡ no_slot_taken s.lists (free_slots d s.lists + (slots - made)) (slots - made)) where
    abbrev unmade : ℕ
    unmade = slots - made

    abbrev spare_left : ℕ
    spare_left = u - unmade

    all : made + unmade ≡ slots
    all = omega (arith, made_is)

    both : unmade + spare_left ≡ k.part.unmade
    both = omega (arith, spare_unmade, chosen_enough made made_is)

    taken : IsTaken made k.part.lists s.lists b d
    taken = subst (λ (z : GroupLists). IsTaken made z s.lists b d) (sym k.lists) gone

    q_is : q ≡ no_slot_taken k.part.lists (free_slots d k.part.lists + spare_left) spare_left
    q_is = spare_is ∙ ap (λ (z : GroupLists). no_slot_taken z (free_slots d z + spare_left) spare_left) (sym k.lists)

    pub filled_whole : IsWhole d (Some q) (set rs place r) ms
    filled_whole = taken_whole b d k.part q rs ms place made unmade spare_left s r k.placed.whole k.here k.empty taken arena both q_is part_is

    pub filled_here : slice_get (groups_of d (set rs place r)) place ≡ Some (no_tickets_in slots)
    filled_here = taken_here b d k.part q rs ms place made unmade spare_left s r k.placed.whole k.here k.empty taken arena both q_is part_is ∙ ap (λ n. Some (no_tickets_in n)) all

    pub filled_others : (j : ℕ) → j ≢ place → slice_get (groups_of d (set rs place r)) j ≡ slice_get (groups_of a ss) j
    filled_others j ne = taken_others b d k.part q rs ms place made unmade spare_left s r k.placed.whole k.here k.empty taken arena both q_is part_is j ne ∙ k.placed.others j ne

    -- contracts see the group at a place that no group had
    pub filled_place : HasPlace place slots (view_of a ss) (view_of d (set rs place r))
    filled_place = record {
      vacant = k.placed.vacant;
      here = filled_here;
      others = filled_others;
      limit = ap (λ (z : ℕ × ℕ). z.0) taken.bounds ∙ k.placed.limit;
      slots = omega (arith, all, shown_rooms d (set rs place r), shown_rooms a ss, k.placed.room, taken_rooms b d k.part q rs ms place made unmade spare_left s r k.placed.whole k.here k.empty taken arena both q_is part_is);
    }
