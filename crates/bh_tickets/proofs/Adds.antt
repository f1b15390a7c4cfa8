-- A ticket comes.
use Rattle.std.proofs.Common.{◌≡◌, ℕ, zero, suc, ◌+◌, ◌<◌, ◌≤◌, ◌^◌, inl, inr, Bool, true, false, List, [], ◌∷◌, ◌++◌, length, Option, Some, None, refl, ◌∙◌, sym, ap, subst, arith}
use Rattle.std.specs.Prelude.{◌||◌, ◌≢◌, max, eqb, reverse, slice_get, is_some, if◌then◌else◌}
use Rattle.std.proofs.lemmas.Bool.{cases_eq, eq-eqb, ne_eqb}
use Rattle.std.proofs.lemmas.List.{nil_from_length, length-reverse, length-set}
use Rattle.bh_base.specs.declared.ticket.Ticket.{Ticket}
use Rattle.bh_base.specs.declared.ticket.TicketState.{TicketState}
use Rattle.bh_base.specs.Tickets.{is_queued, is_kept}
use Rattle.bh_index_lists.specs.Lists.{without}
use Rattle.bh_cache.specs.declared.lists.GroupLists.{GroupLists}
use Rattle.bh_tickets.specs.declared.group_slots.GroupSlots.{GroupSlots}
use Rattle.bh_slot_arena.specs.Slots.{lists_in, slots_on, with_payload, with_moved}
use Rattle.bh_cache.specs.Slots.{Slots, has, is_on, is_live_list, is_live, is_owned, ticket_at, list_for, serial_in, InOrder, count_below, has_one, one, IsArena}
use Rattle.bh_tickets.specs.declared.new_ticket.NewTicket.{NewTicket}
use Rattle.bh_tickets.specs.NewTicket.{is_busy_from, ticket_of}
use Rattle.bh_tickets.specs.GroupSlots.{AreInTurn, IsNumbered, IsGroupSlots, CanAdd, IsAdded, count_at, counted_in, is_any, with_submit}
use Rattle.bh_tickets.specs.declared.counts.CommandCounts.{CommandCounts}
use Rattle.bh_tickets.specs.Counts.{HasRoomFor, all_more, counts_of, is_open, open_since}
use Rattle.bh_tickets.proofs.InTime.{times_more}
use Rattle.bh_tickets.proofs.InTurn.{IsTurned, turns_less, turns_more}
use Rattle.bh_tickets.proofs.Since.{since_more, since_own}
use Rattle.bh_tickets.proofs.ByCommand.{counts_more, has_room}
use Rattle.bh_cache.specs.Notes.{is_noted}
use Rattle.bh_cache.proofs.Order.{order_same, order_without, order_append, front_on, front_none, count_le, count_same}
use Rattle.bh_cache.proofs.Counts.{count_point}
use Rattle.bh_cache.proofs.Members.{get_set, has_reverse}
use Rattle.bh_tickets.proofs.Touched.{IsTouched, touched_both, payload_other, payload_slot, at_other, at_slot, touched_arena, touched_frame, owned_same}
use Rattle.bh_cache.proofs.Moves.{has_without, list_to}
use Rattle.bh_tickets.proofs.Own.{come_arranged, come_tickets, live_for}
use Rattle.bh_tickets.proofs.Others.{each_list, own_for}
use Rattle.bh_tickets.proofs.Chained.{chains_placed, moved_keeps, placed_on, touched_placed}
use Rattle.bh_cache.specs.Chains.{IsChainFrame, IsChained, is_named, with_placed_where}
use Rattle.bh_cache.proofs.Placed.{alike_same, alike_trans, unnamed_alike}

-- a ticket of the next serial and of a command below 16 that somebody needs, where a slot is free
pub record IsNew (s : GroupSlots) (v : Ticket) : Type 0 where
  pub room : s.slots.taken + s.unmade < s.slots.max
  pub serial : v.serial ≡ s.next
  pub few : s.next < 2 ^ 63
  pub command : v.command < 16
  pub needed : is_kept v ≡ true

-- a new ticket is needed by whoever asked for it
new_needed : (new : NewTicket) (serial : ℕ) → is_kept (ticket_of new serial) ≡ true
new_needed new serial = by (is_busy_from new.start)
  where
    by : (b : Bool) → (b || true || new.cached) ≡ true
    by true = refl
    by false = refl

-- a new ticket that can be added is such a one
pub is_new : (s : GroupSlots) (new : NewTicket) → CanAdd s new → IsNew s (ticket_of new s.next)
is_new s new can = record { room = can.room; serial = refl; few = can.few; command = can.command; needed = new_needed new s.next }

-- what is read from the slot in which it was written is the ticket of the next serial
pub read_new : (a : Slots) (s : GroupSlots) (new : NewTicket) (x : ℕ) (kept got : Ticket) → x < length a.payloads → kept ≡ ticket_of new s.next → Some got ≡ slice_get (with_payload x kept a).payloads x → got ≡ ticket_of new s.next
read_new a s new x kept got lt written read =
    let e : Some got ≡ Some kept = read ∙ get_set a.payloads x x kept lt ∙ ap (λ c. if c then Some kept else slice_get a.payloads x) (eq-eqb x x refl) in
    let f : got ≡ kept = cc in
    f ∙ written

-- ---- tickets lie in live slots

-- each slot below the number of payloads has one
pub payload_some : (ps : List Ticket) (y : ℕ) → y < length ps → is_some (slice_get ps y) ≡ true
payload_some [] y lt = absurd (omega (arith, lt))
payload_some (p ∷ ps) zero lt = refl
payload_some (p ∷ ps) (suc y) lt = payload_some ps y (omega (arith, lt))

-- a slot on one of the group's lists with tickets is below the number of slots
pub live_within : (a : Slots) (g : GroupLists) (x : ℕ) → IsArena a 0 → is_live a g x ≡ true → x < length a.payloads
live_within a g x arena e = by (is_on a 0 g.queued x) (is_on a 0 g.running x) (is_on a 0 g.settled x) refl refl refl e
  where
    by : (p q r : Bool) → is_on a 0 g.queued x ≡ p → is_on a 0 g.running x ≡ q → is_on a 0 g.settled x ≡ r → (p || (q || r)) ≡ true → x < length a.payloads
    by true q r i j k e = arena.within g.queued x i
    by false true r i j k e = arena.within g.running x j
    by false false true i j k e = arena.within g.settled x k
    by false false false i j k e = absurd cc

-- where there is a ticket, there is one that passes the test that all pass, and else there is none
pub any_is : (o : Option Ticket) → has_one is_any o ≡ is_some o
any_is None = refl
any_is (Some t) = refl

-- a slot has a ticket of the group just where it is on one of the group's lists with tickets
pub live_is : (a : Slots) (g : GroupLists) (x : ℕ) → IsArena a 0 → has_one is_any (ticket_at a g x) ≡ is_live a g x
live_is a g x arena = by (is_live a g x) refl
  where
    by : (b : Bool) → is_live a g x ≡ b → has_one is_any (if b then slice_get a.payloads x else None) ≡ b
    by true e = any_is (slice_get a.payloads x) ∙ payload_some a.payloads x (live_within a g x arena e)
    by false e = refl

-- the last slot of a list is on it
pub back_on : (x : ℕ) (xs : List ℕ) → slice_get (reverse xs) 0 ≡ Some x → has x xs ≡ true
back_on x xs e = sym (has_reverse x xs) ∙ front_on x (reverse xs) e

-- a list that has no last slot is empty
back_none : (xs : List ℕ) → slice_get (reverse xs) 0 ≡ None → xs ≡ []
back_none xs e = nil_from_length xs (sym (length-reverse xs) ∙ ap length (front_none (reverse xs) e))

-- where no slot is free, all are taken
pub all_taken : (a : Slots) (s : GroupSlots) → IsArena a 0 → IsGroupSlots a s → slice_get (reverse (slots_on a 0 s.lists.free)) 0 ≡ None → s.slots.taken + s.unmade ≡ s.slots.max
all_taken a s arena group none =
    ap (λ n. n + s.unmade) (group.taken
    ∙ count_same (λ x. has_one is_any (ticket_at a s.lists x)) (is_owned a s.lists) (length a.payloads)
    (λ x. live_is a s.lists x arena ∙ sym (ap (λ xs. has x xs || is_live a s.lists x) (back_none (slots_on a 0 s.lists.free) none))))
    ∙ group.slots

-- a slot that is free has no ticket
pub free_slot : (a : Slots) (s : GroupSlots) (x : ℕ) → IsArena a 0 → IsGroupSlots a s → is_on a 0 s.lists.free x ≡ true → ticket_at a s.lists x ≡ None
free_slot a s x arena group on = by (is_on a 0 s.lists.queued x) (is_on a 0 s.lists.running x) (is_on a 0 s.lists.settled x) refl refl refl
  where
    by : (p q r : Bool) → is_on a 0 s.lists.queued x ≡ p → is_on a 0 s.lists.running x ≡ q → is_on a 0 s.lists.settled x ≡ r → (if (p || (q || r)) then slice_get a.payloads x else None) ≡ None
    by true q r i j k = let e : s.lists.free ≡ s.lists.queued = arena.apart s.lists.free s.lists.queued x on i in absurd (omega (arith, e, group.numbered.queued))
    by false true r i j k = let e : s.lists.free ≡ s.lists.running = arena.apart s.lists.free s.lists.running x on j in absurd (omega (arith, e, group.numbered.running))
    by false false true i j k = let e : s.lists.free ≡ s.lists.settled = arena.apart s.lists.free s.lists.settled x on k in absurd (omega (arith, e, group.numbered.settled))
    by false false false i j k = refl

-- no count is more than that of all tickets
pub count_few : (a : Slots) (s : GroupSlots) (q : Ticket → Bool) → IsGroupSlots a s → count_at a s.lists q ≤ s.slots.taken
count_few a s q group = omega (arith, group.taken, count_le (λ x. has_one q (ticket_at a s.lists x)) (λ x. has_one is_any (ticket_at a s.lists x)) (length a.payloads) (λ x e. any (ticket_at a s.lists x) e))
  where
    any : (o : Option Ticket) → has_one q o ≡ true → has_one is_any o ≡ true
    any None e = absurd cc
    any (Some t) e = refl

-- there is room in the counts for a ticket that can be added
pub room_for : (a : Slots) (s : GroupSlots) (v : Ticket) → IsGroupSlots a s → IsNew s v → HasRoomFor v (counts_of s.commands v.command)
room_for a s v group can = has_room (count_at a s.lists) v (counts_of s.commands v.command) (group.counts v.command can.command) (λ q. omega (arith, count_few a s q group, can.room, group.few))

or_first : (b c : Bool) → b ≡ true → (b || c) ≡ true
or_first b c e = ap (λ d. d || c) e

or_second : (b c : Bool) → c ≡ true → (b || c) ≡ true
or_second true c e = refl
or_second false c e = e

-- no list for a state is the free one
pub not_free : (g : GroupLists) (r : TicketState) → IsNumbered g → g.free ≢ list_for g r
not_free g r n = each_list (λ l. g.free ≢ l) g (λ e. absurd (omega (arith, e, n.queued))) (λ e. absurd (omega (arith, e, n.running))) (λ e. absurd (omega (arith, e, n.settled))) r

module _ (a b : Slots) (s : GroupSlots) (x : ℕ) (v : Ticket) (arena : IsArena a 0) (group : IsGroupSlots a s) (back : slice_get (reverse (slots_on a 0 s.lists.free)) 0 ≡ Some x) (can : IsNew s v)
    (names : IsArena a 1) (contexts : IsArena a 2) (is : b ≡ with_placed_where (is_named (Some v)) s.lists x (Some v) (with_moved 0 x (list_for s.lists v.state) (with_payload x v a))) where
  on : is_on a 0 s.lists.free x ≡ true
  on = back_on x (slots_on a 0 s.lists.free) back

  within : x < length a.payloads
  within = arena.within s.lists.free x on

  was : ticket_at a s.lists x ≡ None
  was = free_slot a s x arena group on

  there : list_for s.lists v.state < length (lists_in a 0)
  there = each_list (λ l. l < length (lists_in a 0)) s.lists (omega (arith, group.there, group.numbered.queued, group.numbered.settled)) (omega (arith, group.there, group.numbered.running, group.numbered.settled)) group.there v.state

  before : IsTouched a (with_moved 0 x (list_for s.lists v.state) (with_payload x v a)) x (list_for s.lists v.state) v
  before = touched_both a x (list_for s.lists v.state) v arena within there

  touched : IsTouched a b x (list_for s.lists v.state) v
  touched = subst (λ (z : Slots). IsTouched a z x (list_for s.lists v.state) v) (sym is) (touched_placed (is_named (Some v)) a (with_moved 0 x (list_for s.lists v.state) (with_payload x v a)) x (list_for s.lists v.state) v s.lists (Some v) before)

  away : (y : ℕ) → has y (without x (slots_on a 0 s.lists.queued)) ≡ true → (y ≡ x → ⊥) × (has y (slots_on a 0 s.lists.queued) ≡ true)
  away y i = elim (cases_eq y x) [
    | inl e ↦ let k : false ≡ true = sym (has_without y x (slots_on a 0 s.lists.queued) ∙ ap (λ c. if c then false else has y (slots_on a 0 s.lists.queued)) (eq-eqb y x e)) ∙ i in cc
    | inr ne ↦ (ne, sym (has_without y x (slots_on a 0 s.lists.queued) ∙ ap (λ c. if c then false else has y (slots_on a 0 s.lists.queued)) (ne_eqb y x ne)) ∙ i)
  ]

  rest : InOrder b.payloads (without x (slots_on a 0 s.lists.queued))
  rest = order_same a.payloads b.payloads (without x (slots_on a 0 s.lists.queued)) (λ y i. ap serial_in (payload_other a b x (list_for s.lists v.state) v touched y (away y i).0)) (order_without a.payloads x (slots_on a 0 s.lists.queued) group.arranged.order)

  -- the serials of those that wait are less
  less : (y : ℕ) → has y (without x (slots_on a 0 s.lists.queued)) ≡ true → serial_in (slice_get b.payloads y) < serial_in (slice_get b.payloads x)
  less y i =
      let k = away y i in
      let live : is_live a s.lists y ≡ true = or_first (is_on a 0 s.lists.queued y) (is_on a 0 s.lists.running y || is_on a 0 s.lists.settled y) k.1 in
      let same : slice_get b.payloads y ≡ slice_get a.payloads y = payload_other a b x (list_for s.lists v.state) v touched y k.0 in
      let lt : serial_in (slice_get a.payloads y) < s.next = by (slice_get a.payloads y) refl (payload_some a.payloads y (live_within a s.lists y arena live)) live in
      let e : serial_in (slice_get b.payloads x) ≡ s.next = ap serial_in (payload_slot a b x (list_for s.lists v.state) v touched) ∙ can.serial in
      omega (arith, lt, e, ap serial_in same)
    where
      by : (o : Option Ticket) → slice_get a.payloads y ≡ o → is_some o ≡ true → is_live a s.lists y ≡ true → serial_in o < s.next
      by None e some live = absurd cc
      by (Some t) e some live = group.arranged.below y t (ap (λ c. if c then slice_get a.payloads y else None) live ∙ e)

  order : InOrder b.payloads (slots_on b 0 s.lists.queued)
  order = elim (cases_eq s.lists.queued (list_for s.lists v.state)) [
    | inl e ↦
        let at_end : slots_on b 0 s.lists.queued ≡ without x (slots_on a 0 s.lists.queued) ++ x ∷ [] =
        ap (λ (z : Slots). slots_on z 0 s.lists.queued) is ∙ placed_on (is_named (Some v)) s.lists x (Some v) (with_moved 0 x (list_for s.lists v.state) (with_payload x v a)) s.lists.queued ∙ ap (λ l. slots_on (with_moved 0 x l (with_payload x v a)) 0 s.lists.queued) (sym e) ∙ list_to (with_payload x v a) 0 x s.lists.queued arena.wide (subst (λ l. l < length (lists_in a 0)) (sym e) there) in
        subst (InOrder b.payloads) (sym at_end) (order_append b.payloads x (without x (slots_on a 0 s.lists.queued)) rest less)
    | inr ne ↦ subst (InOrder b.payloads) (sym (touched.left s.lists.queued ne)) rest
  ]

  now_here : ticket_at b s.lists x ≡ Some v
  now_here = at_slot a b x (list_for s.lists v.state) v touched s.lists ∙ ap (λ c. if c then Some v else None) (live_for s.lists v.state)

  else_same : (y : ℕ) → (y ≡ x → ⊥) → ticket_at b s.lists y ≡ ticket_at a s.lists y
  else_same y ne = at_other a b x (list_for s.lists v.state) v touched s.lists y ne

  owned_slot : is_owned a s.lists x ≡ true
  owned_slot = or_first (is_on a 0 s.lists.free x) (is_live a s.lists x) on

  owned_list : (eqb s.lists.free (list_for s.lists v.state) || is_live_list s.lists (list_for s.lists v.state)) ≡ true
  owned_list = or_second (eqb s.lists.free (list_for s.lists v.state)) (is_live_list s.lists (list_for s.lists v.state)) (live_for s.lists v.state)

  chains : IsChained b s.lists × IsChainFrame s.lists a b
  chains = chains_placed (is_named (Some v)) a (with_moved 0 x (list_for s.lists v.state) (with_payload x v a)) b s.lists x (list_for s.lists v.state) v (Some v) before (moved_keeps a x (list_for s.lists v.state) v) names contexts group.chained owned_slot owned_list
      (sym (ap (λ c. if c then Some v else None) (live_for s.lists v.state)))
      (λ off. alike_trans s.lists (Some v) None (ticket_at a s.lists x) (unnamed_alike s.lists (Some v) off) (alike_same s.lists None (ticket_at a s.lists x) (sym was))) is

  recount : (q : Ticket → Bool) → count_at b s.lists q ≡ count_at a s.lists q + one (q v)
  recount q =
      let k : one (has_one q (ticket_at a s.lists x)) ≡ 0 = ap (λ o. one (has_one q o)) was in
      let l : one (has_one q (ticket_at b s.lists x)) ≡ one (q v) = ap (λ o. one (has_one q o)) now_here in
      let m : count_at b s.lists q ≡ count_below (length a.payloads) (λ y. has_one q (ticket_at b s.lists y)) = ap (λ n. count_below n (λ y. has_one q (ticket_at b s.lists y))) touched.slots in
      omega (arith, k, l, m, count_point (λ y. has_one q (ticket_at a s.lists y)) (λ y. has_one q (ticket_at b s.lists y)) (length a.payloads) x within (λ y ne. ap (has_one q) (else_same y ne)))

  -- the running tickets, where what is noted of their turn fits the list of the new one
  pub turns_now : (last : ℕ) (in_turn : Bool) → IsTurned a s v.serial s.lists.free (list_for s.lists v.state) last in_turn → AreInTurn b s.lists last in_turn
  turns_now last in_turn turned = elim (cases_eq (list_for s.lists v.state) s.lists.running) [
    | inl k ↦
        let at_end : slots_on b 0 s.lists.running ≡ without x (slots_on a 0 s.lists.running) ++ x ∷ [] =
        ap (λ (z : Slots). slots_on z 0 s.lists.running) is ∙ placed_on (is_named (Some v)) s.lists x (Some v) (with_moved 0 x (list_for s.lists v.state) (with_payload x v a)) s.lists.running ∙ ap (λ l. slots_on (with_moved 0 x l (with_payload x v a)) 0 s.lists.running) k ∙ list_to (with_payload x v a) 0 x s.lists.running arena.wide (omega (arith, group.there, group.numbered.running, group.numbered.settled)) in
        let now = turned.starts (λ e. not_free s.lists v.state group.numbered e) k in
        subst (λ n. AreInTurn b s.lists n in_turn) (sym now.0) (subst (AreInTurn b s.lists (if turned.alone then v.serial else max s.order.last_started v.serial)) (sym now.1)
        (turns_more a b s.lists x v.serial s.order.last_started s.order.in_turn turned.alone at_end (λ y nq. payload_other a b x (list_for s.lists v.state) v touched y nq) (ap serial_in (payload_slot a b x (list_for s.lists v.state) v touched)) turned.none group.turns))
    | inr nk ↦
        let was = turned.other nk in
        subst (λ n. AreInTurn b s.lists n in_turn) (sym was.0) (subst (AreInTurn b s.lists s.order.last_started) (sym was.1)
        (turns_less a b s.lists x s.order.last_started s.order.in_turn (touched.left s.lists.running (λ k. nk (sym k))) (λ y nq. payload_other a b x (list_for s.lists v.state) v touched y nq) group.turns))
  ]

  module _ (r : GroupSlots) (last : ℕ) (in_turn : Bool) (turns : AreInTurn b s.lists last in_turn) (made : r ≡ record (with_submit v (counted_in v s)) { slots = record s.slots { taken = s.slots.taken + 1 }; next = s.next + 1; order = record (with_submit v s).order { last_started = last; in_turn = in_turn } }) where
    needed : (y : ℕ) (u : Ticket) → ticket_at b s.lists y ≡ Some u → is_kept u ≡ false → is_noted s.needless y ≡ true
    needed y u e k = elim (cases_eq y x) [
      | inl q ↦
          let f : Some u ≡ Some v = sym e ∙ ap (ticket_at b s.lists) q ∙ now_here in
          let g : u ≡ v = cc in
          let h : true ≡ false = sym can.needed ∙ ap is_kept (sym g) ∙ k in cc
      | inr ne ↦ group.needed y u (sym (else_same y ne) ∙ e) k
    ]

    known : (y : ℕ) (u : Ticket) → ticket_at b s.lists y ≡ Some u → u.command < 16
    known y u e = elim (cases_eq y x) [
      | inl q ↦
          let f : Some v ≡ Some u = sym now_here ∙ ap (ticket_at b s.lists) (sym q) ∙ e in
          let g : v ≡ u = cc in
          subst (λ (z : Ticket). z.command < 16) g can.command
      | inr ne ↦ group.known y u (sym (else_same y ne) ∙ e)
    ]

    since : (y : ℕ) (u : Ticket) → ticket_at b s.lists y ≡ Some u → is_open u ≡ true → open_since (all_more v s.commands) u.command ≤ u.submitted
    since y u e opens = elim (cases_eq y x) [
      | inl q ↦
          let f : Some v ≡ Some u = sym now_here ∙ ap (ticket_at b s.lists) (sym q) ∙ e in
          let g : v ≡ u = cc in
          subst (λ (z : Ticket). open_since (all_more v s.commands) z.command ≤ z.submitted) g (since_own s.commands v (omega (arith, group.commands, can.command)) (ap is_open g ∙ opens))
      | inr ne ↦ omega (arith, since_more s.commands v (omega (arith, group.commands, can.command)) u.command, group.since y u (sym (else_same y ne) ∙ e) opens)
    ]

    whole : IsGroupSlots b (record (with_submit v (counted_in v s)) { slots = record s.slots { taken = s.slots.taken + 1 }; next = s.next + 1; order = record (with_submit v s).order { last_started = last; in_turn = in_turn } })
    whole = record {
      numbered = group.numbered;
      there = omega (arith, group.there, touched.count);
      chained = chains.0;
      arranged = come_arranged a b s.lists x s.next v group.arranged within was can.serial touched order;
      slots = ap (λ n. n + s.unmade) (ap (λ n. count_below n (is_owned b s.lists)) touched.slots
          ∙ count_same (is_owned b s.lists) (is_owned a s.lists) (length a.payloads) (owned_same a b x (list_for s.lists v.state) v touched s.lists owned_slot owned_list))
          ∙ group.slots;
      few = group.few;
      taken = omega (arith, group.taken, recount is_any);
      queued = omega (arith, group.queued, recount is_queued);
      commands = omega (arith, group.commands, length-set {A = CommandCounts});
      counts = counts_more (count_at a s.lists) (count_at b s.lists) v s.commands group.commands can.command group.counts recount;
      known = known;
      since = since;
      turns = turns;
      times = times_more a b s.lists x v s.order.latest s.order.in_time else_same now_here (λ y u e. subst (λ n. u.serial < n) (sym can.serial) (group.arranged.below y u e)) group.times;
      needed = needed;
    }

    -- a ticket that is put in the first free slot is added to the group
    pub add_is : IsAdded a s v b r
    add_is = record {
      change = record {
        arena = touched_arena a b x (list_for s.lists v.state) v touched arena within;
        group = subst (IsGroupSlots b) (sym made) whole;
        frame = touched_frame a b x (list_for s.lists v.state) v touched s.lists s.lists.free arena on (record { from = omega arith; to = omega (arith, group.numbered.settled) }) (own_for s.lists group.numbered v.state);
        chains = chains.1;
        bounds = touched.bounds;
        lists = ap (λ (z : GroupSlots). z.lists) made;
        room = ap (λ (z : GroupSlots). z.slots.max) made;
        unmade = ap (λ (z : GroupSlots). z.unmade) made;
      };
      next = ap (λ (z : GroupSlots). z.next) made;
      items = come_tickets a b s.lists x s.next v group.arranged within was can.serial touched;
      come = record { slot = x; last = back; free = was; here = now_here; others = else_same };
    }

-- where a ticket can be added, there is a last free slot
pub not_full : (a : Slots) (s : GroupSlots) (v : Ticket) → IsArena a 0 → IsGroupSlots a s → IsNew s v → slice_get (reverse (slots_on a 0 s.lists.free)) 0 ≡ None → ⊥
not_full a s v arena group can none = absurd (omega (arith, can.room, all_taken a s arena group none))

-- the list for a state is there
pub to_list : (a : Slots) (s : GroupSlots) (to : ℕ) (r : TicketState) → IsGroupSlots a s → to ≡ list_for s.lists r → to < length (lists_in a 0)
to_list a s to r group is = subst (λ l. l < length (lists_in a 0)) (sym is) (each_list (λ l. l < length (lists_in a 0)) s.lists (omega (arith, group.there, group.numbered.queued, group.numbered.settled)) (omega (arith, group.there, group.numbered.running, group.numbered.settled)) group.there r)

-- as the code reads it
pub add_from : (a b : Slots) (s : GroupSlots) (x to : ℕ) (v : Ticket) → IsArena a 0 → IsGroupSlots a s → slice_get (reverse (slots_on a 0 s.lists.free)) 0 ≡ Some x → IsNew s v → IsArena a 1 → IsArena a 2 → to ≡ list_for s.lists v.state
    → b ≡ with_placed_where (is_named (Some v)) s.lists x (Some v) (with_moved 0 x to (with_payload x v a)) → (r : GroupSlots) (last : ℕ) (in_turn : Bool) → r ≡ record (with_submit v (counted_in v s)) { slots = record s.slots { taken = s.slots.taken + 1 }; next = s.next + 1; order = record (with_submit v s).order { last_started = last; in_turn = in_turn } }
    → IsTurned a s v.serial s.lists.free to last in_turn → IsAdded a s v b r
add_from a b s x to v arena group back can names contexts is moved r last in_turn made turned =
    let placed = moved ∙ ap (λ l. with_placed_where (is_named (Some v)) s.lists x (Some v) (with_moved 0 x l (with_payload x v a))) is in
    let turns = turns_now a b s x v arena group back can names contexts placed last in_turn (subst (λ l. IsTurned a s v.serial s.lists.free l last in_turn) is turned) in
    add_is a b s x v arena group back can names contexts placed r last in_turn turns made

-- a slot that was written, moved and placed, as the code reads it
pub placed_from : (a z m b : Slots) (g h : GroupLists) (x to : ℕ) (v : Ticket) → x < length a.payloads → h ≡ g → z ≡ with_payload x v a → m ≡ with_moved 0 x to z → b ≡ with_placed_where (is_named (slice_get m.payloads x)) h x (slice_get m.payloads x) m
    → b ≡ with_placed_where (is_named (Some v)) g x (Some v) (with_moved 0 x to (with_payload x v a))
placed_from a z m b g h x to v lt same written moved placed =
    placed ∙ ap (λ (l : GroupLists). with_placed_where (is_named (slice_get m.payloads x)) l x (slice_get m.payloads x) m) same
    ∙ ap (λ (y : Slots). with_placed_where (is_named (slice_get y.payloads x)) g x (slice_get y.payloads x) y) (moved ∙ ap (λ (y : Slots). with_moved 0 x to y) written)
    ∙ ap (λ (o : Option Ticket). with_placed_where (is_named o) g x o (with_moved 0 x to (with_payload x v a))) (get_set a.payloads x x v lt ∙ ap (λ c. if c then Some v else slice_get a.payloads x) (eq-eqb x x refl))
