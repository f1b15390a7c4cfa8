-- Slots go between the spare ones and a group: what becomes of all groups.
use Rattle.std.proofs.Common.{◌≡◌, ℕ, zero, suc, ◌+◌, ◌<◌, inl, inr, List, [], ◌∷◌, map, length, set, Option, Some, None, refl, ◌∙◌, sym, ap, subst, arith}
use Rattle.std.specs.Prelude.{◌≢◌, ◌^◌, slice_get}
use Rattle.std.specs.Option.{option_map}
use Rattle.std.proofs.lemmas.Bool.{cases_eq}
use Rattle.std.proofs.lemmas.List.Sums.{sum_by-cons}
use Rattle.std.proofs.lemmas.Option.{slice_get-map}
use Rattle.bh_cache.specs.declared.lists.GroupLists.{GroupLists}
use Rattle.bh_cache.specs.Slots.{Slots, IsApart, IsArena}
use Rattle.bh_tickets.specs.declared.group_slots.GroupSlots.{GroupSlots}
use Rattle.bh_tickets.specs.GroupSlots.{IsGroupSlots, no_slot_taken}
use Rattle.bh_tickets.specs.Same.{IsSame}
use Rattle.bh_tickets.specs.Spare.{IsGiven, IsTaken, IsVacant, free_slots}
use Rattle.bh_tickets.specs.TicketsView.{GroupTickets, no_tickets_in}
use Rattle.bh_tickets.specs.Whole.{AreGroupSlots, IsWhole, group_of, groups_of, rooms, unmades, view_of}
use Rattle.bh_tickets.specs.declared.names.NameLists.{NameLists}
use Rattle.bh_tickets.specs.Names.{AreLeft}
use Rattle.bh_tickets.proofs.AddedGroup.{map_same}
use Rattle.bh_tickets.proofs.Beside.{apart_lists, lists_of}
use Rattle.bh_tickets.proofs.NamesLeft.{left_same}
use Rattle.bh_tickets.proofs.Others.{group_same, slots_same}
use Rattle.bh_tickets.proofs.Vacant.{is_vacant, max_is, taken_few, vacant_group, vacant_shown}
use Rattle.bh_tickets.proofs.Whole.{get_lt, set_other, set_same, sum_now}

-- ---- lists of parts

-- a part in place of another: the room of all is as much more as that of the part
pub rooms_now : (ss : List GroupSlots) (i : ℕ) (s r : GroupSlots) → slice_get ss i ≡ Some s → rooms (set ss i r) + s.slots.max ≡ rooms ss + r.slots.max
rooms_now = sum_now (λ (s : GroupSlots). s.slots.max)

-- and so many more slots are not made yet
pub unmades_now : (ss : List GroupSlots) (i : ℕ) (s r : GroupSlots) → slice_get ss i ≡ Some s → unmades (set ss i r) + s.unmade ≡ unmades ss + r.unmade
unmades_now = sum_now (λ (s : GroupSlots). s.unmade)

-- the room of all groups is that of the first and of the others
pub rooms_first : (p : GroupSlots) (ss : List GroupSlots) → rooms (p ∷ ss) ≡ p.slots.max + rooms ss
rooms_first p ss = sum_by-cons (λ (s : GroupSlots). s.slots.max) p ss

pub unmades_first : (p : GroupSlots) (ss : List GroupSlots) → unmades (p ∷ ss) ≡ p.unmade + unmades ss
unmades_first p ss = sum_by-cons (λ (s : GroupSlots). s.unmade) p ss

map_set : (f g : GroupSlots → GroupTickets) (ss : List GroupSlots) (i : ℕ) (r : GroupSlots) (x : GroupTickets) → f r ≡ x → ((j : ℕ) (s : GroupSlots) → slice_get ss j ≡ Some s → j ≢ i → f s ≡ g s) → map f (set ss i r) ≡ set (map g ss) i x
map_set f g [] i r x is same = refl
map_set f g (y ∷ ys) zero r x is same = λ i. is i ∷ map_same f g ys (λ j s e. same (suc j) s e (λ q. absurd (omega (arith, q)))) i
map_set f g (y ∷ ys) (suc k) r x is same = λ i. same 0 y refl (λ q. absurd (omega (arith, q))) i ∷ map_set f g ys k r x is (λ j s e ne. same (suc j) s e (λ q. ne (omega (arith, q)))) i

-- ---- parts with the same lists

-- the part has the lists of one that was at the number
pub record IsPartOf (b : Slots) (qs : List GroupSlots) (j : ℕ) (r : GroupSlots) : Type 0 where
  pub was : GroupSlots
  pub there : slice_get qs j ≡ Some was
  pub lists : r.lists ≡ was.lists
  pub group : IsGroupSlots b r

-- where each part has the lists of one that was there, and fits its tickets, all are as they should be
pub rebuilt : (a b : Slots) (qs rs : List GroupSlots) → AreGroupSlots a qs → IsArena b 0 → ((j : ℕ) (r : GroupSlots) → slice_get rs j ≡ Some r → IsPartOf b qs j r) → AreGroupSlots b rs
rebuilt a b qs rs whole arena parts = record {
  arena = arena;
  each = λ j r e. (parts j r e).group;
  apart = λ i j r t e f ne.
      let p = parts i r e in
      let q = parts j t f in
      subst (λ (z : GroupLists). IsApart z t.lists) (sym p.lists) (subst (λ (z : GroupLists). IsApart p.was.lists z) (sym q.lists) (whole.apart i j p.was q.was p.there q.there ne));
}

some_same : (s t : GroupSlots) → Some s ≡ Some t → s ≡ t
some_same s t e = cc

-- ---- the spare slots and a group change

module _ (a b : Slots) (p q : GroupSlots) (ss : List GroupSlots) (i : ℕ) (s r : GroupSlots) (whole : AreGroupSlots a (p ∷ ss)) (is : slice_get ss i ≡ Some s) (arena : IsArena b 0)
    (spare : IsGroupSlots b q) (spare_lists : q.lists ≡ p.lists) (group : IsGroupSlots b r) (lists : r.lists ≡ s.lists) (same : (h : GroupLists) → IsApart p.lists h → IsApart s.lists h → IsSame h a b) where
  here : slice_get (set ss i r) i ≡ Some r
  here = set_same ss i r (get_lt ss i s is)

  same_other : (j : ℕ) (t : GroupSlots) → slice_get ss j ≡ Some t → j ≢ i → IsSame t.lists a b
  same_other j t e ne = same t.lists (whole.apart 0 (suc j) p t refl e (λ k. absurd (omega (arith, k)))) (whole.apart (suc i) (suc j) s t is e (λ k. ne (let l : j ≡ i = omega (arith, k) in l)))

  two_parts : (j : ℕ) (t : GroupSlots) → slice_get (q ∷ set ss i r) j ≡ Some t → IsPartOf b (p ∷ ss) j t
  two_parts zero t e =
      let k : q ≡ t = some_same q t e in
      record { was = p; there = refl; lists = ap (λ (z : GroupSlots). z.lists) (sym k) ∙ spare_lists; group = subst (IsGroupSlots b) k spare }
  two_parts (suc j) t e = elim (cases_eq j i) [
    | inl f ↦
        let k : r ≡ t = some_same r t (sym here ∙ ap (slice_get (set ss i r)) (sym f) ∙ e) in
        record { was = s; there = ap (slice_get ss) f ∙ is; lists = ap (λ (z : GroupSlots). z.lists) (sym k) ∙ lists; group = subst (IsGroupSlots b) k group }
    | inr ne ↦
        let was = sym (set_other ss i j r ne) ∙ e in
        record { was = t; there = was; lists = refl; group = slots_same a b t (same_other j t was ne) whole.arena (whole.each (suc j) t was) }
  ]

  -- the spare slots and all groups are as they should be
  pub two_changed : AreGroupSlots b (q ∷ set ss i r)
  two_changed = rebuilt a b (p ∷ ss) (q ∷ set ss i r) whole arena two_parts

  -- chains that no group has are those of none still
  pub two_left : (ns : List NameLists) → AreLeft a (p ∷ ss) ns → AreLeft b (q ∷ set ss i r) ns
  two_left ns left = left_same a b (p ∷ ss) (q ∷ set ss i r) ns left
      (λ k n e. (same (lists_of n) (apart_lists p.lists n (left.beside k 0 n p e refl)) (apart_lists s.lists n (left.beside k (suc i) n s e is))).chains)
      (λ j t e. let part = two_parts j t e in record { number = j; was = part.was; there = part.there; lists = part.lists })

  -- contracts see each other group as it was
  pub two_others : (j : ℕ) → j ≢ i → slice_get (groups_of b (set ss i r)) j ≡ slice_get (groups_of a ss) j
  two_others j ne = slice_get-map (group_of b) (set ss i r) j ∙ ap (option_map (group_of b)) (set_other ss i j r ne) ∙ at (slice_get ss j) refl ne ∙ sym (slice_get-map (group_of a) ss j)
    where
      at : (k : Option GroupSlots) → slice_get ss j ≡ k → j ≢ i → option_map (group_of b) k ≡ option_map (group_of a) k
      at None e ne = refl
      at (Some k) e ne = ap Some (group_same a b k (same_other j k e ne) whole.arena (whole.each (suc j) k e))

  -- and the group as it is now
  pub two_groups : (x : GroupTickets) → group_of b r ≡ x → groups_of b (set ss i r) ≡ set (groups_of a ss) i x
  two_groups x shown = map_set (group_of b) (group_of a) ss i r x shown (λ j t e ne. group_same a b t (same_other j t e ne) whole.arena (whole.each (suc j) t e))

  pub two_here : (x : GroupTickets) → group_of b r ≡ x → slice_get (groups_of b (set ss i r)) i ≡ Some x
  two_here x shown = slice_get-map (group_of b) (set ss i r) i ∙ ap (option_map (group_of b)) here ∙ ap Some shown

-- what a group without tickets keeps, where its lists and its numbers are the same
vacant_is : (q : GroupSlots) (g : GroupLists) (n m : ℕ) → q ≡ no_slot_taken g n m → q ≡ no_slot_taken q.lists q.slots.max q.unmade
vacant_is q g n m e = subst (λ (z : GroupSlots). z ≡ no_slot_taken z.lists z.slots.max z.unmade) (sym e) refl

some_there : (p : GroupSlots) → Some p ≡ None → ⊥
some_there p e = cc

-- ---- what the spare slots are

module _ (a : Slots) (p : GroupSlots) (ss : List GroupSlots) (ns : List NameLists) (whole : IsWhole a (Some p) ss ns) where
  none_taken : p.slots.taken ≡ 0
  none_taken = ap (λ (z : GroupSlots). z.slots.taken) (whole.free p refl)

  -- none of them has a ticket
  pub spare_vacant : IsVacant a p.lists
  spare_vacant = is_vacant a p whole.all.arena (whole.all.each 0 p refl) none_taken

  -- and they are as many as lie on the list of free ones, and those that are not made yet
  pub spare_max : p.slots.max ≡ free_slots a p.lists + p.unmade
  spare_max = max_is a p whole.all.arena (whole.all.each 0 p refl) none_taken

  -- they and the room of all groups are all slots
  pub spare_slots : length a.payloads + a.reserved ≡ p.slots.max + rooms ss
  spare_slots = whole.slots ∙ rooms_first p ss

  -- and those of all that are not made yet are reserved
  pub spare_unmade : a.reserved ≡ p.unmade + unmades ss
  spare_unmade = whole.reserved ∙ unmades_first p ss

  pub spare_apart : (i : ℕ) (s : GroupSlots) → slice_get ss i ≡ Some s → IsApart p.lists s.lists
  spare_apart i s is = whole.all.apart 0 (suc i) p s refl is (λ e. absurd (omega (arith, e)))

  pub whole_group : (i : ℕ) (s : GroupSlots) → slice_get ss i ≡ Some s → IsGroupSlots a s
  whole_group i s is = whole.all.each (suc i) s is

  -- a group without slots has no ticket
  pub entry_taken : (i : ℕ) (s : GroupSlots) → slice_get ss i ≡ Some s → s.slots.max ≡ 0 → s.slots.taken ≡ 0
  entry_taken i s is none = omega (arith, taken_few a s (whole_group i s is), none)

  pub entry_vacant : (i : ℕ) (s : GroupSlots) → slice_get ss i ≡ Some s → s.slots.max ≡ 0 → IsVacant a s.lists
  entry_vacant i s is none = is_vacant a s whole.all.arena (whole_group i s is) (entry_taken i s is none)

-- without spare slots there is none
pub none_slots : (a : Slots) (ss : List GroupSlots) (ns : List NameLists) → IsWhole a None ss ns → length a.payloads + a.reserved ≡ rooms ss
none_slots a ss ns whole = whole.slots

-- ---- slots are taken from the spare ones

module _ (a b : Slots) (p q : GroupSlots) (ss : List GroupSlots) (ns : List NameLists) (i count unmade spare_left : ℕ) (s r : GroupSlots) (whole : IsWhole a (Some p) ss ns) (is : slice_get ss i ≡ Some s) (empty : s.slots.max ≡ 0)
    (taken : IsTaken count p.lists s.lists a b) (arena : IsArena b 0) (both : unmade + spare_left ≡ p.unmade) (q_is : q ≡ no_slot_taken p.lists (free_slots b p.lists + spare_left) spare_left) (r_is : r ≡ no_slot_taken s.lists (free_slots b s.lists + unmade) unmade) where
  left : free_slots b p.lists + count + p.unmade ≡ p.slots.max
  left = omega (arith, taken.left, spare_max a p ss ns whole)

  had : s.slots.max ≡ free_slots a s.lists + s.unmade
  had = max_is a s whole.all.arena (whole_group a p ss ns whole i s is) (entry_taken a p ss ns whole i s is empty)

  got : free_slots b s.lists ≡ count
  got = omega (arith, taken.got, had, empty)

  small : p.slots.max < 2 ^ 63
  small = (whole.all.each 0 p refl).few

  spare_now : IsGroupSlots b q
  spare_now = subst (IsGroupSlots b) (sym q_is) (vacant_group b p.lists taken.giver spare_left arena (omega (arith, left, both, small)))

  group_now : IsGroupSlots b r
  group_now = subst (IsGroupSlots b) (sym r_is) (vacant_group b s.lists taken.taker unmade arena (omega (arith, got, left, both, small)))

  q_lists : q.lists ≡ p.lists
  q_lists = ap (λ (z : GroupSlots). z.lists) q_is

  r_lists : r.lists ≡ s.lists
  r_lists = ap (λ (z : GroupSlots). z.lists) r_is

  q_max : q.slots.max ≡ free_slots b p.lists + spare_left
  q_max = ap (λ (z : GroupSlots). z.slots.max) q_is

  r_max : r.slots.max ≡ count + unmade
  r_max = ap (λ (z : GroupSlots). z.slots.max) r_is ∙ ap (λ n. n + unmade) got

  -- the room of all groups is as much more
  pub taken_rooms : rooms (set ss i r) ≡ rooms ss + (count + unmade)
  taken_rooms = omega (arith, rooms_now ss i s r is, empty, r_max)

  -- the spare slots and all groups are as they should be
  pub taken_whole : IsWhole b (Some q) (set ss i r) ns
  taken_whole = record {
    all = two_changed a b p q ss i s r whole.all is arena spare_now q_lists group_now r_lists taken.same;
    slots = omega (arith, taken.slots, ap (λ (k : ℕ × ℕ). k.1) taken.bounds, spare_slots a p ss ns whole, rooms_first q (set ss i r), taken_rooms, q_max, left, both);
    reserved = omega (arith, ap (λ (k : ℕ × ℕ). k.1) taken.bounds, spare_unmade a p ss ns whole, unmades_first q (set ss i r), unmades_now ss i s r is, had, empty, both, ap (λ (z : GroupSlots). z.unmade) q_is, ap (λ (z : GroupSlots). z.unmade) r_is);
    free = λ t e. let k : q ≡ t = some_same q t e in subst (λ (z : GroupSlots). z ≡ no_slot_taken z.lists z.slots.max z.unmade) k (vacant_is q p.lists (free_slots b p.lists + spare_left) spare_left q_is);
    first = λ e. absurd (some_there q e);
    names = two_left a b p q ss i s r whole.all is arena spare_now q_lists group_now r_lists taken.same ns whole.names;
  }

  pub taken_others : (j : ℕ) → j ≢ i → slice_get (groups_of b (set ss i r)) j ≡ slice_get (groups_of a ss) j
  taken_others = two_others a b p q ss i s r whole.all is arena spare_now q_lists group_now r_lists taken.same

  pub taken_here : slice_get (groups_of b (set ss i r)) i ≡ Some (no_tickets_in (count + unmade))
  taken_here = two_here a b p q ss i s r whole.all is arena spare_now q_lists group_now r_lists taken.same (no_tickets_in (count + unmade))
      (ap (group_of b) (r_is ∙ ap (λ n. no_slot_taken s.lists (n + unmade) unmade) got) ∙ vacant_shown b s.lists taken.taker (count + unmade) unmade)

-- ---- all slots of a group go to the spare ones

module _ (a b : Slots) (p q : GroupSlots) (ss : List GroupSlots) (ns : List NameLists) (i : ℕ) (s r : GroupSlots) (whole : IsWhole a (Some p) ss ns) (is : slice_get ss i ≡ Some s)
    (given : IsGiven s p.lists a b) (arena : IsArena b 0) (few : length b.payloads + b.reserved < 2 ^ 32) (q_is : q ≡ no_slot_taken p.lists (free_slots b p.lists + (p.unmade + s.unmade)) (p.unmade + s.unmade)) (r_is : r ≡ no_slot_taken s.lists (free_slots b s.lists + 0) 0) where
  given_got : free_slots b p.lists + (p.unmade + s.unmade) ≡ p.slots.max + s.slots.max
  given_got = omega (arith, given.got, spare_max a p ss ns whole)

  given_q_lists : q.lists ≡ p.lists
  given_q_lists = ap (λ (z : GroupSlots). z.lists) q_is

  given_r_lists : r.lists ≡ s.lists
  given_r_lists = ap (λ (z : GroupSlots). z.lists) r_is

  given_q_max : q.slots.max ≡ free_slots b p.lists + (p.unmade + s.unmade)
  given_q_max = ap (λ (z : GroupSlots). z.slots.max) q_is

  given_r_max : r.slots.max ≡ 0
  given_r_max = omega (arith, ap (λ (z : GroupSlots). z.slots.max) r_is, given.none)

  given_rooms : rooms (set ss i r) + s.slots.max ≡ rooms ss
  given_rooms = omega (arith, rooms_now ss i s r is, given_r_max)

  all_slots : length b.payloads + b.reserved ≡ free_slots b p.lists + (p.unmade + s.unmade) + rooms (set ss i r)
  all_slots = omega (arith, given.slots, ap (λ (k : ℕ × ℕ). k.1) given.bounds, spare_slots a p ss ns whole, given_rooms, given_got)

  given_spare : IsGroupSlots b q
  given_spare = subst (IsGroupSlots b) (sym q_is) (vacant_group b p.lists given.taker (p.unmade + s.unmade) arena (omega (arith, all_slots, few)))

  given_group : IsGroupSlots b r
  given_group = subst (IsGroupSlots b) (sym r_is) (vacant_group b s.lists given.giver 0 arena (omega (arith, given.none)))

  same_given : (h : GroupLists) → IsApart p.lists h → IsApart s.lists h → IsSame h a b
  same_given h f g = given.same h g f

  -- the spare slots and all groups are as they should be
  pub given_whole : IsWhole b (Some q) (set ss i r) ns
  given_whole = record {
    all = two_changed a b p q ss i s r whole.all is arena given_spare given_q_lists given_group given_r_lists same_given;
    slots = omega (arith, all_slots, given_q_max, rooms_first q (set ss i r));
    reserved = omega (arith, ap (λ (k : ℕ × ℕ). k.1) given.bounds, spare_unmade a p ss ns whole, unmades_first q (set ss i r), unmades_now ss i s r is, ap (λ (z : GroupSlots). z.unmade) q_is, ap (λ (z : GroupSlots). z.unmade) r_is);
    free = λ t e. let k : q ≡ t = some_same q t e in subst (λ (z : GroupSlots). z ≡ no_slot_taken z.lists z.slots.max z.unmade) k (vacant_is q p.lists (free_slots b p.lists + (p.unmade + s.unmade)) (p.unmade + s.unmade) q_is);
    first = λ e. absurd (some_there q e);
    names = two_left a b p q ss i s r whole.all is arena given_spare given_q_lists given_group given_r_lists same_given ns whole.names;
  }

  -- contracts see no ticket and no slot in the group, and all others as they were
  pub given_view : view_of b (set ss i r) ≡ record (view_of a ss) { groups = set (groups_of a ss) i (no_tickets_in 0) }
  given_view = λ j. record {
    limit = (given.bounds j).0;
    groups = two_groups a b p q ss i s r whole.all is arena given_spare given_q_lists given_group given_r_lists same_given (no_tickets_in 0)
        (ap (group_of b) (r_is ∙ ap (λ n. no_slot_taken s.lists (n + 0) 0) given.none) ∙ vacant_shown b s.lists given.giver 0 0) j;
  }
