-- One group of many changes, and what is read of its tickets.
use Rattle.std.proofs.Common.{◌≡◌, ℕ, zero, suc, ◌+◌, ◌<◌, ◌≤◌, inl, inr, Bool, true, false, List, [], ◌∷◌, length, set, get_or, Option, Some, None, refl, ◌∙◌, sym, ap, subst, arith, length-set}
use Rattle.std.proofs.lemmas.List.Sums.{sum_by-cons}
use Rattle.std.specs.Prelude.{◌≢◌, ◌^◌, slice_get, find, count_by, sum_by, if◌then◌else◌}
use Rattle.std.specs.Option.{option_map}
use Rattle.std.proofs.lemmas.Bool.{cases_eq, cases_lt, eq-eqb, ne_eqb}
use Rattle.std.proofs.lemmas.List.{length-map}
use Rattle.std.proofs.lemmas.Option.{slice_get-map}
use Rattle.bh_base.specs.declared.ticket.Ticket.{Ticket}
use Rattle.bh_base.specs.Tickets.{changed_first}
use Rattle.bh_cache.specs.declared.lists.GroupLists.{GroupLists}
use Rattle.bh_tickets.specs.declared.group_slots.GroupSlots.{GroupSlots}
use Rattle.bh_cache.specs.Slots.{Slots, is_live, is_owned, ticket_at, tickets_of, has_one, IsArena, IsApart}
use Rattle.bh_tickets.specs.GroupSlots.{IsGroupSlots, IsGroupChange, IsPut, CanBe, CanAdd, count_at, is_any}
use Rattle.bh_tickets.specs.declared.changes.TicketChange.{TicketChange}
use Rattle.bh_tickets.specs.declared.new_ticket.NewTicket.{NewTicket}
use Rattle.bh_tickets.specs.Changes.{changed_by}
use Rattle.bh_tickets.specs.TicketsView.{TicketsView, GroupTickets, ChangesOnly, CanPush, at_in, in_slot, group_at}
use Rattle.bh_tickets.specs.Whole.{group_of, groups_of, rooms, unmades, view_of, slotted, slot_in, AreGroupSlots, IsWhole, IsChanged, CanChange}
use Rattle.bh_cache.proofs.Listed.{changed_is_map}
use Rattle.bh_cache.proofs.Order.{count_le, length_listed}
use Rattle.bh_cache.proofs.Counts.{count_listed}
use Rattle.bh_tickets.proofs.Own.{tickets_rising}
use Rattle.bh_tickets.proofs.Others.{frame_same, group_same, slots_same}
use Rattle.bh_tickets.proofs.Changed.{serial_kept}
use Rattle.bh_tickets.proofs.Puts.{owned_if, within_slots, held_at}
use Rattle.bh_tickets.proofs.Adds.{any_is, live_within}
use Rattle.bh_tickets.specs.declared.names.NameLists.{NameLists}
use Rattle.bh_tickets.specs.Names.{AreLeft}
use Rattle.bh_tickets.specs.Same.{KeepsNames}
use Rattle.bh_tickets.proofs.Chained.{beside_kept}
use Rattle.bh_tickets.proofs.NamesLeft.{HadLists, left_same}

-- a group's part is at the number where it was set
pub set_same : (ss : List GroupSlots) (i : ℕ) (x : GroupSlots) → i < length ss → slice_get (set ss i x) i ≡ Some x
set_same [] i x lt = absurd (omega (arith, lt))
set_same (y ∷ ys) zero x lt = refl
set_same (y ∷ ys) (suc i) x lt = set_same ys i x (omega (arith, lt))

-- the parts at other numbers are as they were
pub set_other : (ss : List GroupSlots) (i j : ℕ) (x : GroupSlots) → (j ≡ i → ⊥) → slice_get (set ss i x) j ≡ slice_get ss j
set_other [] i j x ne = refl
set_other (y ∷ ys) zero zero x ne = absurd (ne refl)
set_other (y ∷ ys) zero (suc j) x ne = refl
set_other (y ∷ ys) (suc i) zero x ne = refl
set_other (y ∷ ys) (suc i) (suc j) x ne = set_other ys i j x (λ e. ne (ap suc e))

-- a number at which there is a part is less than how many parts there are
pub get_lt : (ss : List GroupSlots) (i : ℕ) (s : GroupSlots) → slice_get ss i ≡ Some s → i < length ss
get_lt [] i s e = absurd cc
get_lt (y ∷ ys) zero s e = omega arith
get_lt (y ∷ ys) (suc i) s e = let k : i < length ys = get_lt ys i s e in omega (arith, k)

-- what contracts see at a group's number is what they see of the group's part
pub group_is : (a : Slots) (ss : List GroupSlots) (i : ℕ) (s : GroupSlots) → slice_get ss i ≡ Some s → group_at (view_of a ss) i ≡ group_of a s
group_is a [] i s e = absurd cc
group_is a (y ∷ ys) zero s e = let k : y ≡ s = cc in ap (group_of a) k
group_is a (y ∷ ys) (suc i) s e = group_is a ys i s e

-- what is read at a number below how many parts there are is the part there
pub get_is : (ss : List GroupSlots) (i : ℕ) (s : GroupSlots) → i < length ss → s ≡ get_or ss i s → slice_get ss i ≡ Some s
get_is [] i s lt e = absurd (omega (arith, lt))
get_is (y ∷ ys) zero s lt e = ap Some (sym e)
get_is (y ∷ ys) (suc i) s lt e = get_is ys i s (omega (arith, lt)) e

-- a part in place of another: what is counted of all is as much more as that of the part
pub sum_now : (f : GroupSlots → ℕ) (ss : List GroupSlots) (i : ℕ) (s r : GroupSlots) → slice_get ss i ≡ Some s → sum_by f (set ss i r) + f s ≡ sum_by f ss + f r
sum_now f [] i s r is = absurd cc
sum_now f (y ∷ ys) zero s r is =
    let k : y ≡ s = cc in
    omega (arith, ap f k, sum_by-cons f r ys, sum_by-cons f y ys)
sum_now f (y ∷ ys) (suc i) s r is = omega (arith, sum_now f ys i s r is, sum_by-cons f y (set ys i r), sum_by-cons f y ys)

-- a part in place of one with as much room leaves the room of all groups as it was
pub rooms_set : (ss : List GroupSlots) (i : ℕ) (s r : GroupSlots) → slice_get ss i ≡ Some s → r.slots.max ≡ s.slots.max → rooms (set ss i r) ≡ rooms ss
rooms_set ss i s r is same = omega (arith, same, sum_now (λ (s : GroupSlots). s.slots.max) ss i s r is)

-- and one with as many slots that are not made yet leaves these
pub unmades_set : (ss : List GroupSlots) (i : ℕ) (s r : GroupSlots) → slice_get ss i ≡ Some s → r.unmade ≡ s.unmade → unmades (set ss i r) ≡ unmades ss
unmades_set ss i s r is same = omega (arith, same, sum_now (λ (s : GroupSlots). s.unmade) ss i s r is)

module _ (a b : Slots) (ss : List GroupSlots) (i : ℕ) (s r : GroupSlots) (whole : AreGroupSlots a ss) (is : slice_get ss i ≡ Some s)
    (change : IsGroupChange a s b r) where
  here : slice_get (set ss i r) i ≡ Some r
  here = set_same ss i r (get_lt ss i s is)

  now_r : (k : GroupSlots) → slice_get (set ss i r) i ≡ Some k → k ≡ r
  now_r k e = let f : Some k ≡ Some r = sym e ∙ here in cc

  apart_own : (j : ℕ) (k : GroupSlots) → (j ≡ i → ⊥) → slice_get ss j ≡ Some k → IsApart s.lists k.lists
  apart_own j k ne e = whole.apart i j s k is e (λ q. ne (sym q))

  -- once one group has changed, the parts of all groups are as they should be again
  pub whole_kept : AreGroupSlots b (set ss i r)
  whole_kept = record {
    arena = change.arena;
    each = λ j k e. elim (cases_eq j i) [
      | inl q ↦ subst (IsGroupSlots b) (sym (now_r k (ap (slice_get (set ss i r)) (sym q) ∙ e))) change.group
      | inr ne ↦ let was = sym (set_other ss i j r ne) ∙ e in slots_same a b k (frame_same s.lists k.lists a b whole.arena (whole.each i s is).numbered change.frame change.chains (apart_own j k ne was)) whole.arena (whole.each j k was)
    ];
    apart = λ j l k m e f ne. elim (cases_eq j i) [
      | inl q ↦
          let kr : k ≡ r = now_r k (ap (slice_get (set ss i r)) (sym q) ∙ e) in
          let nl : l ≡ i → ⊥ = λ z. ne (q ∙ sym z) in
          subst (λ (z : GroupLists). IsApart z m.lists) (sym (ap (λ (z : GroupSlots). z.lists) kr ∙ change.lists)) (apart_own l m nl (sym (set_other ss i l r nl) ∙ f))
      | inr nj ↦ elim (cases_eq l i) [
        | inl q ↦
            let mr : m ≡ r = now_r m (ap (slice_get (set ss i r)) (sym q) ∙ f) in
            subst (λ (z : GroupLists). IsApart k.lists z) (sym (ap (λ (z : GroupSlots). z.lists) mr ∙ change.lists)) (whole.apart j i k s (sym (set_other ss i j r nj) ∙ e) is nj)
        | inr nl ↦ whole.apart j l k m (sym (set_other ss i j r nj) ∙ e) (sym (set_other ss i l r nl) ∙ f) ne
      ]
    ];
  }

  -- contracts see each other group as it was
  pub others_same : (j : ℕ) → j ≢ i → slice_get (groups_of b (set ss i r)) j ≡ slice_get (groups_of a ss) j
  others_same j ne = slice_get-map (group_of b) (set ss i r) j ∙ ap (option_map (group_of b)) (set_other ss i j r ne) ∙ at (slice_get ss j) refl ne ∙ sym (slice_get-map (group_of a) ss j)
    where
      at : (k : Option GroupSlots) → slice_get ss j ≡ k → j ≢ i → option_map (group_of b) k ≡ option_map (group_of a) k
      at None e ne = refl
      at (Some k) e ne = ap Some (group_same a b k (frame_same s.lists k.lists a b whole.arena (whole.each i s is).numbered change.frame change.chains (apart_own j k ne e)) whole.arena (whole.each j k e))

  -- at the group's number contracts see the part that was set
  pub now_group : group_at (view_of b (set ss i r)) i ≡ group_of b r
  now_group = group_is b (set ss i r) i r here

  -- contracts see as many groups as before
  pub same_count : length (groups_of b (set ss i r)) ≡ length (groups_of a ss)
  same_count = length-map (set ss i r) (group_of b) ∙ length-set ss i r ∙ sym (length-map ss (group_of a))

-- ---- the groups beside the spare slots

-- the groups are as they should be
pub groups_in : {a : Slots} {spare : Option GroupSlots} {ss : List GroupSlots} {ns : List NameLists} → IsWhole a spare ss ns → AreGroupSlots a ss
groups_in {spare = None} whole = whole.all
groups_in {spare = Some p} whole = record {
  arena = whole.all.arena;
  each = λ i s e. whole.all.each (suc i) s e;
  apart = λ i j s r e f ne. whole.all.apart (suc i) (suc j) s r e f (λ q. ne (let k : i ≡ j = omega (arith, q) in k));
}

-- once one group has changed, chains that no group has are those of none still
left_kept : (a b : Slots) (qs : List GroupSlots) (ns : List NameLists) (i : ℕ) (s r : GroupSlots) → AreLeft a qs ns → slice_get qs i ≡ Some s → IsGroupChange a s b r → AreLeft b (set qs i r) ns
left_kept a b qs ns i s r left is change = left_same a b qs (set qs i r) ns left keeps had
  where
    keeps : (j : ℕ) (n : NameLists) → slice_get ns j ≡ Some n → KeepsNames n a b
    keeps j n e = beside_kept s.lists n a b change.chains (left.beside j i n s e is)

    had : (j : ℕ) (k : GroupSlots) → slice_get (set qs i r) j ≡ Some k → HadLists qs k
    had j k e = elim (cases_eq j i) [
      | inl q ↦
          let f : Some k ≡ Some r = sym (ap (slice_get (set qs i r)) (sym q) ∙ e) ∙ set_same qs i r (get_lt qs i s is) in
          let kr : k ≡ r = cc in
          record { number = i; was = s; there = is; lists = ap (λ (z : GroupSlots). z.lists) kr ∙ change.lists }
      | inr ne ↦ record { number = j; was = k; there = sym (set_other qs i j r ne) ∙ e; lists = refl }
    ]

-- once one group has changed, the spare slots and all groups are as they should be again
pub kept : (a b : Slots) (spare : Option GroupSlots) (ss : List GroupSlots) (ns : List NameLists) (i : ℕ) (s r : GroupSlots) → IsWhole a spare ss ns → slice_get ss i ≡ Some s → IsGroupChange a s b r → IsWhole b spare (set ss i r) ns
kept a b None ss ns i s r whole is change = absurd (no_group ss i s (whole.first refl) is)
  where
    no_group : (ss : List GroupSlots) (i : ℕ) (s : GroupSlots) → ss ≡ [] → slice_get ss i ≡ Some s → ⊥
    no_group [] i s none e = cc
    no_group (y ∷ ys) i s none e = cc
kept a b (Some p) ss ns i s r whole is change = record {
  all = whole_kept a b (p ∷ ss) (suc i) s r whole.all is change;
  slots = omega (arith, change.frame.slots, whole.slots, rooms_set (p ∷ ss) (suc i) s r is change.room, ap (λ (k : ℕ × ℕ). k.1) change.bounds);
  reserved = ap (λ (k : ℕ × ℕ). k.1) change.bounds ∙ whole.reserved ∙ sym (unmades_set (p ∷ ss) (suc i) s r is change.unmade);
  free = whole.free;
  first = λ e. absurd (some_there e);
  names = left_kept a b (p ∷ ss) ns (suc i) s r whole.names is change;
}
  where
    some_there : Some p ≡ None → ⊥
    some_there e = cc

-- ---- what is read

-- ---- slots with their tickets

past_slots : (at : ℕ → Option Ticket) (n x : ℕ) → n ≤ x → at_in (slotted at n) x ≡ None
past_slots at zero x le = refl
past_slots at (suc n) x le = by (at n) (past_slots at n x (omega (arith, le)))
  where
    by : (o : Option Ticket) → at_in (slotted at n) x ≡ None → at_in (slot_in n o (slotted at n)) x ≡ None
    by None e = e
    by (Some t) e = ap (λ b. if b then Some t else at_in (slotted at n) x) (ne_eqb n x (λ q. absurd (omega (arith, le, q)))) ∙ e

below_slots : (at : ℕ → Option Ticket) (n x : ℕ) → x < n → at_in (slotted at n) x ≡ at x
below_slots at zero x lt = absurd (omega (arith, lt))
below_slots at (suc n) x lt = elim (cases_eq n x) [
  | inl e ↦ here (at n) refl e (past_slots at n x (omega (arith, e)))
  | inr ne ↦ there (at n) ne (below_slots at n x (omega (arith, lt, ne)))
]
  where
    here : (o : Option Ticket) → at n ≡ o → n ≡ x → at_in (slotted at n) x ≡ None → at_in (slot_in n o (slotted at n)) x ≡ at x
    here None is e none = none ∙ sym is ∙ ap at e
    here (Some t) is e none = ap (λ b. if b then Some t else at_in (slotted at n) x) (eq-eqb n x e) ∙ sym is ∙ ap at e

    there : (o : Option Ticket) → (n ≡ x → ⊥) → at_in (slotted at n) x ≡ at x → at_in (slot_in n o (slotted at n)) x ≡ at x
    there None ne rest = rest
    there (Some t) ne rest = ap (λ b. if b then Some t else at_in (slotted at n) x) (ne_eqb n x ne) ∙ rest

-- the store shows the ticket of each slot
pub shows : (a : Slots) (s : GroupSlots) (x : ℕ) → IsArena a 0 → in_slot (group_of a s) x ≡ ticket_at a s.lists x
shows a s x arena = elim (cases_lt x (length a.payloads)) [
  | inl lt ↦ below_slots (ticket_at a s.lists) (length a.payloads) x lt
  | inr past ↦ past_slots (ticket_at a s.lists) (length a.payloads) x past ∙ sym (by (is_live a s.lists x) refl past)
]
  where
    by : (b : Bool) → is_live a s.lists x ≡ b → length a.payloads ≤ x → (if b then slice_get a.payloads x else None) ≡ None
    by true e past = absurd (omega (arith, past, live_within a s.lists x arena e))
    by false e past = refl

module _ (a : Slots) (s : GroupSlots) (group : IsGroupSlots a s) where
  -- as many slots are taken as the group has tickets
  pub taken_is : s.slots.taken ≡ length (tickets_of a s.lists)
  taken_is = group.taken ∙ sym (length_listed (ticket_at a s.lists) (λ x. has_one is_any (ticket_at a s.lists x)) (length a.payloads) (λ x lt. any_is (ticket_at a s.lists x)))

  -- counted by slots, as many tickets pass as in the list of the group's tickets
  pub count_is : (q : Ticket → Bool) → count_at a s.lists q ≡ count_by q (tickets_of a s.lists)
  count_is q = sym (count_listed q (ticket_at a s.lists) (length a.payloads))

  -- what may happen to a ticket that contracts see may happen to that in the slot
  pub can_be : (x : ℕ) (change : TicketChange) → IsArena a 0 → CanChange (group_of a s) x change → CanBe a s x change
  can_be x change arena can = record { was = can.ticket; here = sym (shows a s x arena) ∙ can.here; allowed = can.allowed }

-- what a ticket that was put does to the list, whatever test found it
pub put_items : (a b : Slots) (s r : GroupSlots) (x : ℕ) (t v : Ticket) → IsGroupSlots a s → IsPut a s x v b r → v.serial ≡ t.serial
    → (p : Ticket → Bool) (f : Ticket → Ticket) → find p (tickets_of a s.lists) ≡ Some t → f t ≡ v → tickets_of b s.lists ≡ changed_first p f (tickets_of a s.lists)
put_items a b s r x t v group done serial p f found is =
    done.items ∙ sym (changed_is_map p f (tickets_of a s.lists) t v (tickets_rising a s.lists s.next group.arranged) found is serial)

module _ (a b : Slots) (ss : List GroupSlots) (i : ℕ) (s r : GroupSlots) (whole : AreGroupSlots a ss) (is : slice_get ss i ≡ Some s) (change : IsGroupChange a s b r) where
  -- what contracts saw of the group is what they see of its part as it was
  pub old_group : group_at (view_of a ss) i ≡ group_of a s
  old_group = group_is a ss i s is

  -- what contracts see of the group now is what they see of the part that was set
  pub new_group : group_at (view_of b (set ss i r)) i ≡ group_of b r
  new_group = now_group a b ss i s r whole is change

  -- where the next serial is as it was, nothing but the group's tickets has changed
  pub else_is : r.next ≡ s.next → ChangesOnly i (view_of a ss) (view_of b (set ss i r))
  else_is next = record {
    limit = ap (λ (k : ℕ × ℕ). k.0) change.bounds;
    others = λ g ne. others_same a b ss i s r whole is change g ne;
    count = same_count a b ss i s r whole is change;
    room = ap (λ (z : GroupTickets). z.room) new_group ∙ change.room ∙ sym (ap (λ (z : GroupTickets). z.room) old_group);
    next = ap (λ (z : GroupTickets). z.next) new_group ∙ next ∙ sym (ap (λ (z : GroupTickets). z.next) old_group);
  }

  -- what became of the group's tickets became of those that contracts see
  pub items_now : (f : List Ticket → List Ticket) → tickets_of b s.lists ≡ f (tickets_of a s.lists) → (group_at (view_of b (set ss i r)) i).items ≡ f (group_at (view_of a ss) i).items
  items_now f e = ap (λ (z : GroupTickets). z.items) new_group ∙ ap (tickets_of b) change.lists ∙ e ∙ sym (ap (λ (z : GroupTickets). f z.items) old_group)

module _ (a b : Slots) (ss : List GroupSlots) (i : ℕ) (s r : GroupSlots) (whole : AreGroupSlots a ss) (is : slice_get ss i ≡ Some s) (change : IsGroupChange a s b r) where
  -- what became of the part's next serial became of that which contracts see
  pub next_now : (f : ℕ → ℕ) → r.next ≡ f s.next → (group_at (view_of b (set ss i r)) i).next ≡ f (group_at (view_of a ss) i).next
  next_now f e = ap (λ (z : GroupTickets). z.next) (now_group a b ss i s r whole is change) ∙ e ∙ sym (ap (λ (z : GroupTickets). f z.next) (group_is a ss i s is))

  -- contracts see as much room in the group as before
  pub room_now : (group_at (view_of b (set ss i r)) i).room ≡ (group_at (view_of a ss) i).room
  room_now = ap (λ (z : GroupTickets). z.room) (now_group a b ss i s r whole is change) ∙ change.room ∙ sym (ap (λ (z : GroupTickets). z.room) (group_is a ss i s is))

-- the group's part, as the code reads it
pub part_is : (a : Slots) (ss : List GroupSlots) (view : TicketsView) (i : ℕ) (s : GroupSlots) → view_of a ss ≡ view → i < length view.groups → s ≡ get_or ss i s → slice_get ss i ≡ Some s
part_is a ss view i s e lt is = get_is ss i s (let n : length (groups_of a ss) ≡ length view.groups = ap (λ (v : TicketsView). length v.groups) e in omega (arith, n, lt, length-map ss (group_of a))) is

-- a ticket that is shown lies in the slot
pub there_is : (a : Slots) (ss : List GroupSlots) (i x : ℕ) (s : GroupSlots) (t : Ticket) → AreGroupSlots a ss → slice_get ss i ≡ Some s → in_slot (group_at (view_of a ss) i) x ≡ Some t → ticket_at a s.lists x ≡ Some t
there_is a ss i x s t whole is e = sym (shows a s x whole.arena) ∙ ap (λ (z : GroupTickets). in_slot z x) (sym (group_is a ss i s is)) ∙ e

-- what may happen to a ticket that contracts see in one of all groups may happen to that in the slot
pub can_be_at : (a : Slots) (ss : List GroupSlots) (i x : ℕ) (s : GroupSlots) (change : TicketChange) → AreGroupSlots a ss → slice_get ss i ≡ Some s → CanChange (group_at (view_of a ss) i) x change → CanBe a s x change
can_be_at a ss i x s change whole is can = can_be a s (whole.each i s is) x change whole.arena (subst (λ (z : GroupTickets). CanChange z x change) (group_is a ss i s is) can)

-- a ticket of one group has changed
pub changed_is : (a b : Slots) (ss : List GroupSlots) (i x : ℕ) (s r : GroupSlots) (change : TicketChange) → AreGroupSlots a ss → slice_get ss i ≡ Some s → CanChange (group_at (view_of a ss) i) x change
    → ((t : Ticket) → ticket_at a s.lists x ≡ Some t → IsPut a s x (changed_by change t) b r) → IsChanged i x change (view_of a ss) (view_of b (set ss i r))
changed_is a b ss i x s r change whole is can done = record {
  items = λ p first.
      let t : Ticket = first.ticket in
      let put = done t (there_is a ss i x s t whole is first.here) in
      items_now a b ss i s r whole is put.change (changed_first p (changed_by change))
      (put_items a b s r x t (changed_by change t) (whole.each i s is) put (serial_kept change t) p (changed_by change) (ap (λ (z : GroupTickets). find p z.items) (sym (group_is a ss i s is)) ∙ first.first) refl);
  left = let put = done can.ticket (there_is a ss i x s can.ticket whole is can.here) in else_is a b ss i s r whole is put.change put.next;
}

-- a new ticket that can be pushed, as contracts see the group, can be added to the group's part, where a slot is made for it
pub can_add_at : (a : Slots) (ss : List GroupSlots) (i : ℕ) (s : GroupSlots) (new : NewTicket) → AreGroupSlots a ss → slice_get ss i ≡ Some s → CanPush (group_at (view_of a ss) i) new → (s.slots.taken < s.slots.max → s.slots.taken + s.unmade < s.slots.max) → CanAdd s new
can_add_at a ss i s new whole is can made =
    let store = group_is a ss i s is in
    let room : length (tickets_of a s.lists) < s.slots.max = subst (λ (z : GroupTickets). length z.items < z.room) store can.room in
    record {
      room = made (omega (arith, room, taken_is a s (whole.each i s is)));
      few = subst (λ (z : GroupTickets). z.next < 2 ^ 63) store can.few;
      command = can.command;
    }

-- the next serial as contracts see it
pub next_is : (a : Slots) (ss : List GroupSlots) (i : ℕ) (s : GroupSlots) → slice_get ss i ≡ Some s → s.next ≡ (group_at (view_of a ss) i).next
next_is a ss i s is = sym (ap (λ (z : GroupTickets). z.next) (group_is a ss i s is))

-- as many slots are taken as contracts see tickets in the group
pub len_is : (a : Slots) (ss : List GroupSlots) (i : ℕ) (s : GroupSlots) → AreGroupSlots a ss → slice_get ss i ≡ Some s → s.slots.taken ≡ length (group_at (view_of a ss) i).items
len_is a ss i s whole is = taken_is a s (whole.each i s is) ∙ ap (λ (z : GroupTickets). length z.items) (sym (group_is a ss i s is))

-- a list made of the tickets that contracts see is as long as one made alike of those in the arena
pub shown_length : (a : Slots) (ss : List GroupSlots) (i : ℕ) (s : GroupSlots) → slice_get ss i ≡ Some s → (f : List Ticket → List Ticket) → length (f (group_at (view_of a ss) i).items) ≡ length (f (tickets_of a s.lists))
shown_length a ss i s is f = ap (λ (z : GroupTickets). length (f z.items)) (group_is a ss i s is)

-- of the tickets that contracts see as many pass as of those in the arena
pub shown_count : (a : Slots) (ss : List GroupSlots) (i : ℕ) (s : GroupSlots) → slice_get ss i ≡ Some s → (q : Ticket → Bool) → count_by q (group_at (view_of a ss) i).items ≡ count_by q (tickets_of a s.lists)
shown_count a ss i s is q = ap (λ (z : GroupTickets). count_by q z.items) (group_is a ss i s is)

-- counted by slots, as many tickets pass as among those that contracts see
pub counted_is : (a : Slots) (ss : List GroupSlots) (i : ℕ) (s : GroupSlots) (q : Ticket → Bool) → AreGroupSlots a ss → slice_get ss i ≡ Some s → count_at a s.lists q ≡ count_by q (group_at (view_of a ss) i).items
counted_is a ss i s q whole is = count_is a s (whole.each i s is) q ∙ ap (λ (z : GroupTickets). count_by q z.items) (sym (group_is a ss i s is))

some_group : (ss : List GroupSlots) (i : ℕ) → i < length ss → (s : GroupSlots) × (slice_get ss i ≡ Some s)
some_group [] i lt = absurd (omega (arith, lt))
some_group (y ∷ ys) zero lt = (y, refl)
some_group (y ∷ ys) (suc i) lt = some_group ys i (omega (arith, lt))

-- at a number below how many groups contracts see there is a part
pub part_there : (a : Slots) (ss : List GroupSlots) (view : TicketsView) (i : ℕ) → view_of a ss ≡ view → i < length view.groups → (s : GroupSlots) × (slice_get ss i ≡ Some s)
part_there a ss view i e lt = some_group ss i (let n : length (groups_of a ss) ≡ length view.groups = ap (λ (v : TicketsView). length v.groups) e in omega (arith, n, lt, length-map ss (group_of a)))

within_groups : (a : Slots) (ss : List GroupSlots) (i : ℕ) → i < length (groups_of a ss) → i < length ss
within_groups a ss i lt = omega (arith, lt, length-map ss (group_of a))

-- a slot in which contracts see a ticket is one of the arena's
pub slot_there : (a : Slots) (ss : List GroupSlots) (i x : ℕ) (t : Ticket) → AreGroupSlots a ss → i < length (groups_of a ss) → in_slot (group_at (view_of a ss) i) x ≡ Some t → x < length a.payloads
slot_there a ss i x t whole lt e =
    let r = some_group ss i (within_groups a ss i lt) in
    within_slots a r.0.lists x t (there_is a ss i x r.0 t whole r.1 e)

-- what is read in the slot is the ticket
pub some_part : (a : Slots) (ss : List GroupSlots) (i x : ℕ) (t u : Ticket) → AreGroupSlots a ss → i < length (groups_of a ss) → in_slot (group_at (view_of a ss) i) x ≡ Some t → Some u ≡ slice_get a.payloads x → in_slot (group_at (view_of a ss) i) x ≡ Some u
some_part a ss i x t u whole lt e is =
    let r = some_group ss i (within_groups a ss i lt) in
    e ∙ sym (held_at a r.0.lists x t (there_is a ss i x r.0 t whole r.1 e)).1 ∙ sym is

-- no more tickets than slots
pub items_few : (a : Slots) (ss : List GroupSlots) (i : ℕ) (s : GroupSlots) → AreGroupSlots a ss → slice_get ss i ≡ Some s → length (group_at (view_of a ss) i).items ≤ (group_at (view_of a ss) i).room
items_few a ss i s whole is =
    let group = whole.each i s is in
    let taken : s.slots.taken ≤ s.slots.max = omega (arith, group.taken, group.slots, count_le (λ x. has_one is_any (ticket_at a s.lists x)) (is_owned a s.lists) (length a.payloads) (owned_if a s.lists is_any)) in
    let shown = group_is a ss i s is in
    omega (arith, taken, taken_is a s group, ap (λ (z : GroupTickets). length z.items) shown, ap (λ (z : GroupTickets). z.room) shown)
