-- Spare slots and places are made ready.
use Rattle.std.proofs.Common.{◌≡◌, ℕ, zero, suc, ◌+◌, ◌-◌, ◌<◌, ◌≤◌, inl, inr, List, [], ◌∷◌, ◌++◌, length, Option, Some, None, refl, ◌∙◌, sym, ap, subst, arith}
use Rattle.std.specs.Prelude.{◌≢◌, ◌^◌, slice_get}
use Rattle.std.specs.Option.{option_map}
use Rattle.std.proofs.lemmas.List.{get_or_past, length-map}
use Rattle.std.proofs.lemmas.List.Sums.{sum_by-append, sum_by-cons}
use Rattle.std.proofs.lemmas.Option.{slice_get-map}
use Rattle.bh_slot_arena.specs.Slots.{lists_in, with_reserved}
use Rattle.bh_cache.specs.declared.lists.GroupLists.{GroupLists}
use Rattle.bh_cache.specs.Slots.{Slots, IsApart, IsArena}
use Rattle.bh_tickets.specs.declared.group_slots.GroupSlots.{GroupSlots}
use Rattle.bh_tickets.specs.GroupSlots.{IsGroupSlots, no_slot_taken}
use Rattle.bh_tickets.specs.Growth.{HasMoreLists, HasNewLists, lists_from}
use Rattle.bh_tickets.specs.declared.names.NameLists.{NameLists}
use Rattle.bh_tickets.specs.Names.{AreBeside, AreLeft, AreMany, names_of}
use Rattle.bh_tickets.specs.Same.{IsSame}
use Rattle.bh_tickets.specs.Spare.{AreSpare, GetsPlace, HasRoomBeside, IsLeft, IsVacant, KeepsGroups, StaysWhole, free_slots}
use Rattle.bh_tickets.specs.TicketsView.{GroupTickets, TicketsView, no_tickets_in}
use Rattle.bh_tickets.specs.Whole.{AreGroupSlots, IsWhole, group_of, groups_of, rooms, unmades, view_of, with_spare}
use Rattle.bh_tickets.proofs.AddedGroup.{arena_more, get_append, map_same, same_more, view_more, whole_more}
use Rattle.bh_tickets.proofs.Beside.{apart_back, beside_back, beside_made, lists_of}
use Rattle.bh_tickets.proofs.NamesLeft.{left_more, left_same}
use Rattle.bh_tickets.proofs.NewGroup.{IsNew, new_apart, new_behind, new_none, new_vacant}
use Rattle.bh_tickets.proofs.Others.{group_same, slots_same}
use Rattle.bh_tickets.proofs.Rebuilt.{IsPartOf, rebuilt, rooms_first, spare_max, spare_slots, spare_unmade, spare_vacant, unmades_first}
use Rattle.bh_tickets.proofs.Vacant.{is_vacant, vacant_group}
use Rattle.bh_tickets.proofs.Whole.{group_is, groups_in}

some_same : (s t : GroupSlots) → Some s ≡ Some t → s ≡ t
some_same s t e = cc

some_there : (p : GroupSlots) → Some p ≡ None → ⊥
some_there p e = cc

none_there : (p : GroupSlots) → None ≡ Some p → ⊥
none_there p e = cc

-- ---- what stays

-- what is kept twice is kept
pub keeps_both : (a b c : Slots) (p q r : Option GroupSlots) → KeepsGroups a p b q → KeepsGroups b q c r → KeepsGroups a p c r
keeps_both a b c p q r f g = record {
  whole = λ ss ns w. g.whole ss ns (f.whole ss ns w);
  view = λ ss ns w. g.view ss ns (f.whole ss ns w) ∙ f.view ss ns w;
}

-- with some empty lists more, as many slots are there or reserved
held_more : {n k m : ℕ} {a b : Slots} → HasNewLists n k m a b → length b.payloads + b.reserved ≡ length a.payloads + a.reserved
held_more more = λ i. length (more.payloads i) + (more.bounds i).1

reserved_more : {n k m : ℕ} {a b : Slots} → HasNewLists n k m a b → b.reserved ≡ a.reserved
reserved_more more = λ i. (more.bounds i).1

-- with some empty lists more, the spare slots and all groups are as they should be
pub more_whole : (a b : Slots) (p : Option GroupSlots) (ss : List GroupSlots) (ns : List NameLists) → HasMoreLists a b → IsWhole a p ss ns → IsWhole b p ss ns
more_whole a b p ss ns more whole = record {
  all = whole_more a b (with_spare p ss) whole.all more;
  slots = held_more more.lists ∙ whole.slots;
  reserved = reserved_more more.lists ∙ whole.reserved;
  free = whole.free;
  first = whole.first;
  names = left_more more.first more.second more.third a b (with_spare p ss) ns more.lists whole.names;
}

pub more_keeps : (a b : Slots) (p : Option GroupSlots) → HasMoreLists a b → KeepsGroups a p b p
more_keeps a b p more = record {
  whole = λ ss ns w. more_whole a b p ss ns more w;
  view = λ ss ns w. view_more a b ss (groups_in w) more;
}

pub more_stays : (a b : Slots) (ss : List GroupSlots) (ns : List NameLists) → HasMoreLists a b → StaysWhole a ss ns b ss ns
more_stays a b ss ns more = record {
  whole = λ p w. more_whole a b (Some p) ss ns more w;
  view = λ p w. view_more a b ss (groups_in w) more;
}

-- ---- new lists

module _ (c : ℕ) (g : GroupLists) (a b : Slots) (new : IsNew c g a b) (qs : List GroupSlots) (whole : AreGroupSlots a qs) where
  new_group : IsGroupSlots b (no_slot_taken g 0 0)
  new_group = let nothing : free_slots b g + 0 ≡ 0 = omega (arith, new_none c g a b new) in subst (λ n. IsGroupSlots b (no_slot_taken g n 0)) nothing
      (vacant_group b g (new_vacant c g a b new) 0 (arena_more 4 new.second new.third a b qs whole new.more) (omega (arith, new_none c g a b new)))

  was_apart : (i : ℕ) (s : GroupSlots) → slice_get qs i ≡ Some s → IsApart s.lists g
  was_apart i s e = let group = whole.each i s e in new_apart c g a b new s.lists group.there group.chained.lists

  -- with a group more that has them, all groups are as they should be
  pub whole_added : AreGroupSlots b (qs ++ no_slot_taken g 0 0 ∷ [])
  whole_added = record {
    arena = arena_more 4 new.second new.third a b qs whole new.more;
    each = λ i s e. elim (get_append qs (no_slot_taken g 0 0) i s e) [
      | inl k ↦ subst (IsGroupSlots b) (sym k.1) new_group
      | inr k ↦ slots_same a b s (same_more 4 new.second new.third a b qs whole new.more i s k.1) whole.arena (whole.each i s k.1)
    ];
    apart = λ i j s r e f ne. elim (get_append qs (no_slot_taken g 0 0) i s e) [
      | inl k ↦ elim (get_append qs (no_slot_taken g 0 0) j r f) [
        | inl l ↦ absurd (ne (k.0 ∙ sym l.0))
        | inr l ↦ apart_back r.lists s.lists (subst (λ (z : GroupSlots). IsApart r.lists z.lists) (sym k.1) (was_apart j r l.1))
      ]
      | inr k ↦ elim (get_append qs (no_slot_taken g 0 0) j r f) [
        | inl l ↦ subst (λ (z : GroupSlots). IsApart s.lists z.lists) (sym l.1) (was_apart i s k.1)
        | inr l ↦ whole.apart i j s r k.1 l.1 ne
      ]
    ];
  }

  -- and chains that no group has are those of none still
  pub left_added : (ns : List NameLists) → AreLeft a qs ns → AreLeft b (qs ++ no_slot_taken g 0 0 ∷ []) ns
  left_added ns left = record {
    each = now.each;
    beside = λ i j n s e f. elim (get_append qs (no_slot_taken g 0 0) j s f) [
      | inl k ↦
          let was = left.each i n e in
          subst (λ (z : GroupSlots). AreBeside (names_of z.lists) n) (sym k.1)
          (beside_back n (names_of g) (beside_made c a b n (names_of g) was.names.there was.contexts.there new.made))
      | inr k ↦ now.beside i j n s e k.1
    ];
    apart = left.apart;
  }
    where
      now : AreLeft b qs ns
      now = left_more 4 new.second new.third a b qs ns new.more left

-- the spare slots get lists, while there is no group
pub made_spare : (c : ℕ) (g : GroupLists) (a b : Slots) (p : Option GroupSlots) → p ≡ None → IsNew c g a b → KeepsGroups a p b (Some (no_slot_taken g 0 0))
made_spare c g a b p none new = record {
  whole = λ ss ns w. made ss ns (w.first none) (subst (λ q. IsWhole a q ss ns) none w);
  view = λ ss ns w. view_more a b ss (groups_in w) (record { first = 4; second = new.second; third = new.third; lists = new.more });
}
  where
    alone : (ns : List NameLists) → IsWhole a None [] ns → IsWhole b (Some (no_slot_taken g 0 0)) [] ns
    alone ns w = record {
      all = whole_added c g a b new [] w.all;
      slots = held_more new.more ∙ w.slots;
      reserved = reserved_more new.more ∙ w.reserved;
      free = λ q e. let k : no_slot_taken g 0 0 ≡ q = some_same (no_slot_taken g 0 0) q e in subst (λ (z : GroupSlots). z ≡ no_slot_taken z.lists z.slots.max z.unmade) k refl;
      first = λ e. refl;
      names = left_added c g a b new [] w.all ns w.names;
    }

    made : (ss : List GroupSlots) (ns : List NameLists) → ss ≡ [] → IsWhole a None ss ns → IsWhole b (Some (no_slot_taken g 0 0)) ss ns
    made ss ns e w = subst (λ rs. IsWhole b (Some (no_slot_taken g 0 0)) rs ns) (sym e) (alone ns (subst (λ rs. IsWhole a None rs ns) e w))

-- ---- a place

-- one that a retired group left, which has so many chains
pub left_gets : (chains place : ℕ) (a : Slots) (ss : List GroupSlots) (ns : List NameLists) (left : IsLeft place ss) → AreMany chains (names_of left.entry.lists) → GetsPlace chains place a ss ns a ss ns
left_gets chains place a ss ns left many = record {
  gets = λ p w. record {
    entry = left.entry;
    here = left.here;
    empty = left.empty;
    many = many;
    whole = w;
    vacant = ap (λ (z : GroupTickets). z.room) (group_is a ss place left.entry left.here) ∙ left.empty;
    others = λ g ne. refl;
    room = refl;
    limit = refl;
  };
}

at_end : (ss : List GroupSlots) (r : GroupSlots) → slice_get (ss ++ r ∷ []) (length ss) ≡ Some r
at_end [] r = refl
at_end (y ∷ ys) r = at_end ys r

not_at_end : (ss : List GroupSlots) (r : GroupSlots) (i : ℕ) → i ≢ length ss → slice_get (ss ++ r ∷ []) i ≡ slice_get ss i
not_at_end [] r zero ne = absurd (ne refl)
not_at_end [] r (suc i) ne = refl
not_at_end (y ∷ ys) r zero ne = refl
not_at_end (y ∷ ys) r (suc i) ne = not_at_end ys r i (λ e. ne (ap suc e))

-- a new one behind the others
pub new_gets : (c : ℕ) → 0 < c → (a b : Slots) (g : GroupLists) (ss : List GroupSlots) (ns : List NameLists) → HasNewLists 4 c c a b → g ≡ lists_from c (length (lists_in a 0)) (length (lists_in a 1)) (length (lists_in a 2)) → GetsPlace c (length ss) a ss ns b (ss ++ no_slot_taken g 0 0 ∷ []) ns
new_gets c some a b g ss ns more from = record {
  gets = λ p w. let new : IsNew c g a b = new_behind c g p.lists a b some (w.all.each 0 p refl).chained.lists more from in record {
    entry = no_slot_taken g 0 0;
    here = at_end ss (no_slot_taken g 0 0);
    empty = refl;
    many = new.made.many;
    whole = record {
      all = whole_added c g a b new (p ∷ ss) w.all;
      slots = omega (arith, held_more more, w.slots, rooms_first p ss, rooms_first p (ss ++ no_slot_taken g 0 0 ∷ []), room_same);
      reserved = omega (arith, reserved_more more, w.reserved, unmades_first p ss, unmades_first p (ss ++ no_slot_taken g 0 0 ∷ []), unmade_same);
      free = w.free;
      first = λ e. absurd (some_there p e);
      names = left_added c g a b new (p ∷ ss) w.all ns w.names;
    };
    vacant = ap (λ (z : GroupTickets). z.room) (get_or_past (groups_of a ss) (length ss) (no_tickets_in 0) (omega (arith, length-map ss (group_of a))));
    others = λ j ne. slice_get-map (group_of b) (ss ++ no_slot_taken g 0 0 ∷ []) j ∙ ap (option_map (group_of b)) (not_at_end ss (no_slot_taken g 0 0) j ne) ∙ shown w j (slice_get ss j) refl ∙ sym (slice_get-map (group_of a) ss j);
    room = room_same;
    limit = ap (λ (z : ℕ × ℕ). z.0) more.bounds;
  };
}
  where
    room_same : rooms (ss ++ no_slot_taken g 0 0 ∷ []) ≡ rooms ss
    room_same = omega (arith, sum_by-append (λ (s : GroupSlots). s.slots.max) ss (no_slot_taken g 0 0 ∷ []), sum_by-cons (λ (s : GroupSlots). s.slots.max) (no_slot_taken g 0 0) [])

    unmade_same : unmades (ss ++ no_slot_taken g 0 0 ∷ []) ≡ unmades ss
    unmade_same = omega (arith, sum_by-append (λ (s : GroupSlots). s.unmade) ss (no_slot_taken g 0 0 ∷ []), sum_by-cons (λ (s : GroupSlots). s.unmade) (no_slot_taken g 0 0) [])

    shown : {p : GroupSlots} → IsWhole a (Some p) ss ns → (j : ℕ) (k : Option GroupSlots) → slice_get ss j ≡ k → option_map (group_of b) k ≡ option_map (group_of a) k
    shown w j None e = refl
    shown w j (Some s) e =
        let all = groups_in w in
        ap Some (group_same a b s (same_more 4 c c a b ss all more j s e) all.arena (all.each j s e))

-- ---- spare slots

-- slots are reserved, and all stays of a group
same_reserved : (h : GroupLists) (n : ℕ) (a : Slots) → IsSame h a (with_reserved n a)
same_reserved h n a = record {
  slots = omega arith;
  count = omega arith;
  lists = λ l own. refl;
  payloads = λ l x own on. refl;
  chains = record {
    names = record { count = omega arith; lists = λ l ne low high. refl };
    contexts = record { count = omega arith; lists = λ l ne low high. refl };
  };
  by_name = λ l x own on. refl;
  by_context = λ l x own on. refl;
}

-- so many slots more are within the limit where no spare one counts, and the spare ones lie on the lists
pub record AreReady (slots : ℕ) (a : Slots) (g : GroupLists) (spare : Option GroupSlots) : Type 0 where
  pub groups : List GroupSlots
  pub names : List NameLists
  pub part : GroupSlots
  pub is : spare ≡ Some part
  pub whole : IsWhole a (Some part) groups names
  pub lists : part.lists ≡ g
  pub within : rooms groups + slots ≤ a.limit

pub ready : (slots : ℕ) (a b : Slots) (g : GroupLists) (p q : Option GroupSlots) → HasRoomBeside slots a p → KeepsGroups a p b q → AreSpare 0 g q → AreReady slots b g q
ready slots a b g p q beside keeps are = record {
  groups = beside.groups;
  names = beside.names;
  part = are.part;
  is = are.is;
  whole = subst (λ r. IsWhole b r beside.groups beside.names) are.is (keeps.whole beside.groups beside.names beside.whole);
  lists = are.lists;
  within = omega (arith, beside.within, ap (λ (v : TicketsView). v.limit) (keeps.view beside.groups beside.names beside.whole));
}

module _ (slots : ℕ) (a : Slots) (g : GroupLists) (spare : Option GroupSlots) (ready : AreReady slots a g spare) where
  pub ready_vacant : IsVacant a g
  ready_vacant = subst (IsVacant a) ready.lists (spare_vacant a ready.part ready.groups ready.names ready.whole)

  pub ready_max : ready.part.slots.max ≡ free_slots a g + ready.part.unmade
  ready_max = spare_max a ready.part ready.groups ready.names ready.whole ∙ ap (λ (z : GroupLists). free_slots a z + ready.part.unmade) ready.lists

  pub ready_free : g.free < length (lists_in a 0)
  ready_free = let k = ready_vacant in omega (arith, k.there, k.numbered.settled)

  pub ready_few : ready.part.slots.max < 2 ^ 63
  ready_few = (ready.whole.all.each 0 ready.part refl).few

  -- what is missing is within the limit
  pub ready_for : free_slots a g + ready.part.unmade < slots → length a.payloads + a.reserved + (slots - (free_slots a g + ready.part.unmade)) ≤ a.limit
  ready_for few = omega (arith, ready.within, spare_slots a ready.part ready.groups ready.names ready.whole, ready_max, few)

  module _ (b : Slots) (count : ℕ) (is : b ≡ with_reserved (a.reserved + count) a) (few : free_slots a g + (ready.part.unmade + count) < 2 ^ 63) where
    abbrev now : GroupSlots
    now = no_slot_taken g (free_slots b g + (ready.part.unmade + count)) (ready.part.unmade + count)

    same : (h : GroupLists) → IsSame h a b
    same h = subst (IsSame h a) (sym is) (same_reserved h (a.reserved + count) a)

    arena_now : IsArena b 0
    arena_now = subst (λ (z : Slots). IsArena z 0) (sym is) (let k = ready.whole.all.arena in record { wide = k.wide; apart = k.apart; within = k.within; once = k.once })

    free_same : free_slots b g ≡ free_slots a g
    free_same = ap (λ (z : Slots). free_slots z g) is

    reserved_now : b.reserved ≡ a.reserved + count
    reserved_now = ap (λ (z : Slots). z.reserved) is

    size_same : length b.payloads ≡ length a.payloads
    size_same = ap (λ (z : Slots). length z.payloads) is

    vacant_now : IsVacant b g
    vacant_now = subst (IsVacant b) ready.lists (is_vacant b ready.part arena_now (slots_same a b ready.part (same ready.part.lists) ready.whole.all.arena (ready.whole.all.each 0 ready.part refl)) (ap (λ (z : GroupSlots). z.slots.taken) (ready.whole.free ready.part refl)))

    part_now : IsGroupSlots b now
    part_now = vacant_group b g vacant_now (ready.part.unmade + count) arena_now (omega (arith, few, free_same))

    now_lists : now.lists ≡ ready.part.lists
    now_lists = sym ready.lists

    -- with so many slots more reserved for the spare ones, all groups are as they were
    pub reserved_keeps : KeepsGroups a spare b (Some now)
    reserved_keeps = record {
      whole = λ ss ns w. kept ss ns (subst (λ r. IsWhole a r ss ns) ready.is w);
      view = λ ss ns w. shown ss ns (subst (λ r. IsWhole a r ss ns) ready.is w);
    }
      where
        kept : (ss : List GroupSlots) (ns : List NameLists) → IsWhole a (Some ready.part) ss ns → IsWhole b (Some now) ss ns
        kept ss ns w = record {
          all = rebuilt a b (ready.part ∷ ss) (now ∷ ss) w.all arena_now parts;
          slots = omega (arith, size_same, reserved_now, free_same, spare_slots a ready.part ss ns w, ready_max, rooms_first now ss);
          reserved = omega (arith, reserved_now, spare_unmade a ready.part ss ns w, unmades_first now ss);
          free = λ q e. let k : now ≡ q = some_same now q e in subst (λ (z : GroupSlots). z ≡ no_slot_taken z.lists z.slots.max z.unmade) k refl;
          first = λ e. absurd (some_there now e);
          names = left_same a b (ready.part ∷ ss) (now ∷ ss) ns w.names (λ j n e. (same (lists_of n)).chains) (λ j s e. let k = parts j s e in record { number = j; was = k.was; there = k.there; lists = k.lists });
        }
          where
            parts : (j : ℕ) (s : GroupSlots) → slice_get (now ∷ ss) j ≡ Some s → IsPartOf b (ready.part ∷ ss) j s
            parts zero s e = let k : now ≡ s = some_same now s e in record { was = ready.part; there = refl; lists = ap (λ (z : GroupSlots). z.lists) (sym k) ∙ now_lists; group = subst (IsGroupSlots b) k part_now }
            parts (suc j) s e = record { was = s; there = e; lists = refl; group = slots_same a b s (same s.lists) w.all.arena (w.all.each (suc j) s e) }

        shown : (ss : List GroupSlots) (ns : List NameLists) → IsWhole a (Some ready.part) ss ns → view_of b ss ≡ view_of a ss
        shown ss ns w = λ i. record { limit = (is i).limit; groups = map_same (group_of b) (group_of a) ss (λ j s e. group_same a b s (same s.lists) w.all.arena (w.all.each (suc j) s e)) i }
