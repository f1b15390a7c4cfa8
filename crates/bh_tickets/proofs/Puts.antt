-- One ticket of a group changes.
use Rattle.std.proofs.Common.{◌≡◌, ℕ, zero, suc, ◌+◌, ◌-◌, ◌<◌, ◌≤◌, ◌⊎◌, inl, inr, Bool, true, false, [], ◌∷◌, ◌++◌, length, Some, None, refl, ◌∙◌, sym, ap, subst, arith}
use Rattle.std.specs.Prelude.{◌||◌, ◌≢◌, max, eqb, slice_get, if◌then◌else◌}
use Rattle.std.proofs.lemmas.Bool.{cases_eq}
use Rattle.std.proofs.lemmas.List.{length-set}
use Rattle.bh_base.specs.declared.ticket.Ticket.{Ticket}
use Rattle.bh_base.specs.declared.ticket.TicketState.{TicketState}
use Rattle.bh_base.specs.declared.ticket.TicketState.TheVariants as ticket
use Rattle.bh_base.specs.Tickets.{is_queued, is_kept}
use Rattle.bh_cache.specs.declared.lists.GroupLists.{GroupLists}
use Rattle.bh_tickets.specs.declared.counts.CommandCounts.{CommandCounts}
use Rattle.bh_tickets.specs.declared.group_slots.GroupSlots.{GroupSlots}
use Rattle.bh_slot_arena.specs.Slots.{lists_in, slots_on, with_payload, with_moved}
use Rattle.bh_cache.specs.Slots.{Slots, has, is_on, is_live_list, is_live, is_owned, ticket_at, list_for, serial_in, InOrder, count_below, has_one, one, IsArena}
use Rattle.bh_cache.specs.declared.notes.Noted.{Noted}
use Rattle.bh_cache.specs.Notes.{IsNoted, is_noted}
use Rattle.bh_tickets.specs.GroupSlots.{AreInTurn, IsNumbered, IsGroupSlots, CanPut, IsPut, count_at, counted_in, counted_out, is_any}
use Rattle.bh_tickets.specs.Counts.{AreCounts, HasRoomFor, IsCounted, all_less, all_more, counts_of, is_open, one_less, open_since}
use Rattle.bh_tickets.proofs.ByCommand.{counts_less, counts_more, has_room, is_counted}
use Rattle.bh_tickets.proofs.InTime.{Had, had, times_kept}
use Rattle.bh_tickets.proofs.InTurn.{IsTurned, turns_kept, turns_less, turns_more}
use Rattle.bh_cache.proofs.Moves.{list_to}
use Rattle.bh_tickets.proofs.Since.{since_less, since_more, since_own}
use Rattle.bh_index_lists.specs.Lists.{without}
use Rattle.bh_cache.proofs.Order.{order_same, order_without, count_le, count_same, one_le}
use Rattle.bh_cache.proofs.Counts.{count_point}
use Rattle.bh_tickets.proofs.Touched.{IsTouched, touched_both, touched_set, payload_other, payload_slot, at_other, at_slot, touched_arena, touched_frame, owned_same}
use Rattle.bh_cache.proofs.Members.{get_within}
use Rattle.bh_tickets.proofs.Own.{changed_arranged, changed_tickets, live_for}
use Rattle.bh_tickets.proofs.Others.{own_for}
use Rattle.bh_tickets.proofs.Chained.{KeepsChains, chains_touched, moved_keeps}
use Rattle.bh_cache.proofs.Placed.{frame_same}
use Rattle.bh_cache.specs.Chains.{IsChained}

-- a ticket of the group lies in a slot of the group
pub held_at : (a : Slots) (g : GroupLists) (x : ℕ) (t : Ticket) → ticket_at a g x ≡ Some t → (is_live a g x ≡ true) × (slice_get a.payloads x ≡ Some t)
held_at a g x t e = by (is_live a g x) refl e
  where
    by : (b : Bool) → is_live a g x ≡ b → (if b then slice_get a.payloads x else None) ≡ Some t → (is_live a g x ≡ true) × (slice_get a.payloads x ≡ Some t)
    by true is e = (is, e)
    by false is e = absurd (none e)
      where
        none : None ≡ Some t → ⊥
        none e = cc

-- a slot that has a ticket of the group is below the number of slots
pub within_slots : (a : Slots) (g : GroupLists) (x : ℕ) (t : Ticket) → ticket_at a g x ≡ Some t → x < length a.payloads
within_slots a g x t e = get_within a.payloads x t (held_at a g x t e).1

-- a number below n that passes is in the count
pub count_has : (p : ℕ → Bool) (n x : ℕ) → x < n → one (p x) ≤ count_below n p
count_has p zero x lt = absurd (omega (arith, lt))
count_has p (suc n) x lt = elim (cases_eq x n) [
  | inl e ↦ let k : one (p x) ≡ one (p n) = ap (λ z. one (p z)) e in omega (arith, k)
  | inr ne ↦ let k : one (p x) ≤ count_below n p = count_has p n x (omega (arith, lt, ne)) in omega (arith, k)
]

-- room for one more that passes
pub count_room : (p q : ℕ → Bool) (n x : ℕ) → x < n → ((y : ℕ) → p y ≡ true → q y ≡ true) → q x ≡ true → count_below n p + 1 ≤ count_below n q + one (p x)
count_room p q zero x lt h yes' = absurd (omega (arith, lt))
count_room p q (suc n) x lt h yes' = elim (cases_eq x n) [
  | inl e ↦
      let k : one (p x) ≡ one (p n) = ap (λ z. one (p z)) e in
      let l : one (q n) ≡ 1 = ap (λ z. one (q z)) (sym e) ∙ ap one yes' in
      omega (arith, k, l, count_le p q n h)
  | inr ne ↦ omega (arith, one_le (p n) (q n) (h n), count_room p q n x (omega (arith, lt, ne)) h yes')
]

or_right : (b c : Bool) → c ≡ true → (b || c) ≡ true
or_right true c e = refl
or_right false c e = e

-- a slot with a ticket of the group that passes is a slot of the group
pub owned_if : (a : Slots) (g : GroupLists) (q : Ticket → Bool) (x : ℕ) → has_one q (ticket_at a g x) ≡ true → is_owned a g x ≡ true
owned_if a g q x e = by (is_live a g x) refl e
  where
    by : (b : Bool) → is_live a g x ≡ b → has_one q (if b then slice_get a.payloads x else None) ≡ true → is_owned a g x ≡ true
    by true is e = or_right (is_on a 0 g.free x) (is_live a g x) is
    by false is e = absurd cc

module _ (a : Slots) (s : GroupSlots) (x : ℕ) (t : Ticket) (group : IsGroupSlots a s) (here : ticket_at a s.lists x ≡ Some t) where
  -- what is counted of the ticket is in the count
  pub counted_at : (q : Ticket → Bool) → one (q t) ≤ count_at a s.lists q
  counted_at q = subst (λ o. one (has_one q o) ≤ count_at a s.lists q) here (count_has (λ y. has_one q (ticket_at a s.lists y)) (length a.payloads) x (within_slots a s.lists x t here))

  -- and it may pass in place of not passing
  pub room_at : (q : Ticket → Bool) → count_at a s.lists q + 1 ≤ s.slots.max + one (q t)
  room_at q =
      let k : one (has_one q (ticket_at a s.lists x)) ≡ one (q t) = ap (λ o. one (has_one q o)) here in
      omega (
        arith,
        k,
        group.slots,
        count_room (λ y. has_one q (ticket_at a s.lists y)) (is_owned a s.lists) (length a.payloads) x (within_slots a s.lists x t here) (owned_if a s.lists q)
            (or_right (is_on a 0 s.lists.free x) (is_live a s.lists x) (held_at a s.lists x t here).0),
      )

  -- the ticket's command is counted
  known_at : t.command < 16
  known_at = group.known x t here

  -- the ticket is in the counts of its command
  pub counted_there : IsCounted t (counts_of s.commands t.command)
  counted_there = is_counted (count_at a s.lists) t (counts_of s.commands t.command) (group.counts t.command known_at) counted_at

  -- the counts of all commands without the ticket
  pub counts_without : (command : ℕ) → command < 16 → AreCounts (λ q. count_at a s.lists q - one (q t)) command (counts_of (all_less t s.commands) command)
  counts_without = counts_less (count_at a s.lists) (λ q. count_at a s.lists q - one (q t)) t s.commands group.commands known_at group.counts (λ q. omega (arith, counted_at q))

  -- without it, there is room in the counts for a ticket of a command that is counted
  pub room_without : (v : Ticket) → v.command < 16 → HasRoomFor v (counts_of (all_less t s.commands) v.command)
  room_without v known = has_room (λ q. count_at a s.lists q - one (q t)) v (counts_of (all_less t s.commands) v.command) (counts_without v.command known) (λ q. omega (arith, group.few, room_at q))

-- ---- the queue

-- a state whose list is that of queued tickets is that of a ticket that waits
pub queued_list : (g : GroupLists) (s : TicketState) → IsNumbered g → g.queued ≡ list_for g s → s ≡ ticket.Queued
queued_list g ticket.Queued n e = refl
queued_list g ticket.Running n e = absurd (omega (arith, n.queued, n.running, e))
queued_list g (ticket.NeedsFallback c) n e = absurd (omega (arith, n.queued, n.settled, e))
queued_list g (ticket.InFallback c) n e = absurd (omega (arith, n.queued, n.settled, e))
queued_list g (ticket.Answered c) n e = absurd (omega (arith, n.queued, n.settled, e))

-- whether a ticket in the state waits
abbrev pub queued_in : TicketState → Bool
queued_in s = elim s [ ticket.Queued ↦ true | _ ↦ false ]

-- a ticket waits in one state only
pub queued_state : (s : TicketState) → queued_in s ≡ true → s ≡ ticket.Queued
queued_state ticket.Queued e = refl
queued_state ticket.Running e = absurd cc
queued_state (ticket.NeedsFallback c) e = absurd cc
queued_state (ticket.InFallback c) e = absurd cc
queued_state (ticket.Answered c) e = absurd cc

-- a ticket waits afterwards only if it did before
pub still_waits : (g : GroupLists) (t v : Ticket) → IsNumbered g → (is_queued v ≡ true → is_queued t ≡ true) → (list_for g t.state ≡ list_for g v.state → ⊥) → g.queued ≡ list_for g v.state → ⊥
still_waits g t v n waits ne e =
    let k : v.state ≡ ticket.Queued = queued_list g v.state n e in
    let q : is_queued t ≡ true = waits (ap queued_in k) in
    ne (ap (list_for g) (queued_state t.state q) ∙ e)

module _ (a b : Slots) (s : GroupSlots) (x : ℕ) (t v : Ticket) (arena : IsArena a 0) (group : IsGroupSlots a s) (can : CanPut a s x v) (was : can.was ≡ t)
    (same : list_for s.lists t.state ≡ list_for s.lists v.state → b ≡ with_payload x v a)
    (moved : list_for s.lists t.state ≢ list_for s.lists v.state → b ≡ with_moved 0 x (list_for s.lists v.state) (with_payload x v a)) where
  here : ticket_at a s.lists x ≡ Some t
  here = can.here ∙ ap Some was

  serial : v.serial ≡ t.serial
  serial = can.serial ∙ ap (λ (u : Ticket). u.serial) was

  command : v.command ≡ t.command
  command = can.command ∙ ap (λ (u : Ticket). u.command) was

  v_known : v.command < 16
  v_known = omega (arith, command, group.known x t here)

  lies : is_on a 0 (list_for s.lists t.state) x ≡ true
  lies = group.arranged.placed x t here

  to_there : (r : TicketState) → list_for s.lists r < length (lists_in a 0)
  to_there ticket.Queued = omega (arith, group.there, group.numbered.queued, group.numbered.settled)
  to_there ticket.Running = omega (arith, group.there, group.numbered.running, group.numbered.settled)
  to_there (ticket.NeedsFallback c) = group.there
  to_there (ticket.InFallback c) = group.there
  to_there (ticket.Answered c) = group.there

  -- just the one slot has changed: it has the ticket, and is on the list for the ticket's state
  pub touched : IsTouched a b x (list_for s.lists v.state) v
  touched = elim (cases_eq (list_for s.lists t.state) (list_for s.lists v.state)) [
    | inl e ↦ subst (λ (z : Slots). IsTouched a z x (list_for s.lists v.state) v) (sym (same e)) (touched_set a x (list_for s.lists v.state) v arena (subst (λ l. is_on a 0 l x ≡ true) e lies))
    | inr ne ↦ subst (λ (z : Slots). IsTouched a z x (list_for s.lists v.state) v) (sym (moved ne)) (touched_both a x (list_for s.lists v.state) v arena (within_slots a s.lists x t here) (to_there v.state))
  ]

  keeps : KeepsChains a b
  keeps = elim (cases_eq (list_for s.lists t.state) (list_for s.lists v.state)) [
    | inl e ↦ subst (KeepsChains a) (sym (same e)) (record { families = refl; names = refl; contexts = refl })
    | inr ne ↦ subst (KeepsChains a) (sym (moved ne)) (moved_keeps a x (list_for s.lists v.state) v)
  ]

  serial_same : (y : ℕ) → serial_in (slice_get b.payloads y) ≡ serial_in (slice_get a.payloads y)
  serial_same y = elim (cases_eq y x) [
    | inl e ↦ ap (λ z. serial_in (slice_get b.payloads z)) e ∙ ap serial_in (payload_slot a b x (list_for s.lists v.state) v touched) ∙ serial ∙ sym (ap serial_in (held_at a s.lists x t here).1) ∙ ap (λ z. serial_in (slice_get a.payloads z)) (sym e)
    | inr ne ↦ ap serial_in (payload_other a b x (list_for s.lists v.state) v touched y ne)
  ]

  queue_at : slots_on b 0 s.lists.queued ≡ slots_on a 0 s.lists.queued ⊎ slots_on b 0 s.lists.queued ≡ without x (slots_on a 0 s.lists.queued)
  queue_at = elim (cases_eq (list_for s.lists t.state) (list_for s.lists v.state)) [
    | inl e ↦ inl (ap (λ (z : Slots). slots_on z 0 s.lists.queued) (same e))
    | inr ne ↦ inr (touched.left s.lists.queued (still_waits s.lists t v group.numbered (λ q. ap is_queued (sym was) ∙ can.waits q) ne))
  ]

  order : InOrder b.payloads (slots_on b 0 s.lists.queued)
  order = elim queue_at [
    | inl e ↦ subst (InOrder b.payloads) (sym e) (order_same a.payloads b.payloads (slots_on a 0 s.lists.queued) (λ y i. serial_same y) group.arranged.order)
    | inr e ↦ subst (InOrder b.payloads) (sym e) (order_same a.payloads b.payloads (without x (slots_on a 0 s.lists.queued)) (λ y i. serial_same y) (order_without a.payloads x (slots_on a 0 s.lists.queued) group.arranged.order))
  ]

  now_here : ticket_at b s.lists x ≡ Some v
  now_here = at_slot a b x (list_for s.lists v.state) v touched s.lists ∙ ap (λ c. if c then Some v else None) (live_for s.lists v.state)

  is_v : (u : Ticket) → ticket_at b s.lists x ≡ Some u → u ≡ v
  is_v u e = let k : Some u ≡ Some v = sym e ∙ now_here in cc

  else_same : (y : ℕ) → (y ≡ x → ⊥) → ticket_at b s.lists y ≡ ticket_at a s.lists y
  else_same y ne = at_other a b x (list_for s.lists v.state) v touched s.lists y ne

  -- the counts
  recount : (q : Ticket → Bool) → count_at b s.lists q + one (q t) ≡ count_at a s.lists q + one (q v)
  recount q =
      let k : one (has_one q (ticket_at a s.lists x)) ≡ one (q t) = ap (λ o. one (has_one q o)) here in
      let l : one (has_one q (ticket_at b s.lists x)) ≡ one (q v) = ap (λ o. one (has_one q o)) now_here in
      let m : count_at b s.lists q ≡ count_below (length a.payloads) (λ y. has_one q (ticket_at b s.lists y)) = ap (λ n. count_below n (λ y. has_one q (ticket_at b s.lists y))) touched.slots in
      omega (arith, k, l, m, count_point (λ y. has_one q (ticket_at a s.lists y)) (λ y. has_one q (ticket_at b s.lists y)) (length a.payloads) x (within_slots a s.lists x t here) (λ y ne. ap (has_one q) (else_same y ne)))

  known : (y : ℕ) (u : Ticket) → ticket_at b s.lists y ≡ Some u → u.command < 16
  known y u e = elim (cases_eq y x) [
    | inl q ↦ subst (λ (z : Ticket). z.command < 16) (sym (is_v u (ap (ticket_at b s.lists) (sym q) ∙ e))) v_known
    | inr ne ↦ group.known y u (sym (else_same y ne) ∙ e)
  ]

  counts : (c : ℕ) → c < 16 → AreCounts (count_at b s.lists) c (counts_of (all_more v (all_less t s.commands)) c)
  counts = counts_more (λ q. count_at a s.lists q - one (q t)) (count_at b s.lists) v (all_less t s.commands) (length-set s.commands t.command (one_less t (counts_of s.commands t.command)) ∙ group.commands) v_known
      (counts_without a s x t group here) (λ q. omega (arith, recount q, counted_at a s x t group here q))

  since : (y : ℕ) (u : Ticket) → ticket_at b s.lists y ≡ Some u → is_open u ≡ true → open_since (all_more v (all_less t s.commands)) u.command ≤ u.submitted
  since y u e opens = elim (cases_eq y x) [
    | inl q ↦
        let is : u ≡ v = is_v u (ap (ticket_at b s.lists) (sym q) ∙ e) in
        subst (λ (z : Ticket). open_since (all_more v (all_less t s.commands)) z.command ≤ z.submitted) (sym is) (since_own (all_less t s.commands) v kept_size (ap is_open (sym is) ∙ opens))
    | inr ne ↦
        let same = since_less s.commands t (omega (arith, group.commands, group.known x t here)) u.command in
        omega (arith, same, since_more (all_less t s.commands) v kept_size u.command, group.since y u (sym (else_same y ne) ∙ e) opens)
  ]
    where
      kept_size : v.command < length (all_less t s.commands)
      kept_size = omega (arith, v_known, group.commands, length-set s.commands t.command (one_less t (counts_of s.commands t.command)))

  was_there : (y : ℕ) (u : Ticket) → ticket_at b s.lists y ≡ Some u → Had a s.lists u
  was_there y u e = elim (cases_eq y x) [
    | inl q ↦
        let is : u ≡ v = is_v u (ap (ticket_at b s.lists) (sym q) ∙ e) in
        subst (Had a s.lists) (sym is) (record { slot = x; was = t; here = here; serial = sym serial; submitted = sym (can.submitted ∙ ap (λ (u : Ticket). u.submitted) was) })
    | inr ne ↦ had a s.lists y u (sym (else_same y ne) ∙ e)
  ]

  -- the running tickets, where what is noted of their turn fits how the slot moved
  pub turns_now : (last : ℕ) (in_turn : Bool) → IsTurned a s v.serial (list_for s.lists t.state) (list_for s.lists v.state) last in_turn → AreInTurn b s.lists last in_turn
  turns_now last in_turn turned = elim (cases_eq (list_for s.lists t.state) (list_for s.lists v.state)) [
    | inl e ↦
        let on : slots_on b 0 s.lists.running ≡ slots_on a 0 s.lists.running = ap (λ (z : Slots). slots_on z 0 s.lists.running) (same e) in
        as_was last in_turn (turned.stays e) (turns_kept a b s.lists s.order.last_started s.order.in_turn (λ y i. (sym (ap (has y) on) ∙ i, serial_same y)) (λ order. subst (InOrder a.payloads) (sym on) order) group.turns)
    | inr ne ↦ elim (cases_eq (list_for s.lists v.state) s.lists.running) [
      | inl k ↦
          let at_end : slots_on b 0 s.lists.running ≡ without x (slots_on a 0 s.lists.running) ++ x ∷ [] =
          ap (λ (z : Slots). slots_on z 0 s.lists.running) (moved ne) ∙ ap (λ l. slots_on (with_moved 0 x l (with_payload x v a)) 0 s.lists.running) k ∙ list_to (with_payload x v a) 0 x s.lists.running arena.wide (omega (arith, group.there, group.numbered.running, group.numbered.settled)) in
          let now = turned.starts ne k in
          subst (λ n. AreInTurn b s.lists n in_turn) (sym now.0) (subst (AreInTurn b s.lists (if turned.alone then v.serial else max s.order.last_started v.serial)) (sym now.1)
          (turns_more a b s.lists x v.serial s.order.last_started s.order.in_turn turned.alone at_end (λ y nq. payload_other a b x (list_for s.lists v.state) v touched y nq) (ap serial_in (payload_slot a b x (list_for s.lists v.state) v touched)) turned.none group.turns))
      | inr nk ↦ as_was last in_turn (turned.other nk) (turns_less a b s.lists x s.order.last_started s.order.in_turn (touched.left s.lists.running (λ k. nk (sym k))) (λ y nq. payload_other a b x (list_for s.lists v.state) v touched y nq) group.turns)
    ]
  ]
    where
      as_was : (last : ℕ) (in_turn : Bool) → (last ≡ s.order.last_started) × (in_turn ≡ s.order.in_turn) → AreInTurn b s.lists s.order.last_started s.order.in_turn → AreInTurn b s.lists last in_turn
      as_was last in_turn is turns = subst (λ n. AreInTurn b s.lists n in_turn) (sym is.0) (subst (AreInTurn b s.lists s.order.last_started) (sym is.1) turns)

  owned_slot : is_owned a s.lists x ≡ true
  owned_slot = or_right (is_on a 0 s.lists.free x) (is_live a s.lists x) (held_at a s.lists x t here).0

  owned_list : (eqb s.lists.free (list_for s.lists v.state) || is_live_list s.lists (list_for s.lists v.state)) ≡ true
  owned_list = or_right (eqb s.lists.free (list_for s.lists v.state)) (is_live_list s.lists (list_for s.lists v.state)) (live_for s.lists v.state)

  chained : IsChained b s.lists
  chained = chains_touched a b s.lists x (list_for s.lists v.state) t v touched keeps group.chained owned_slot owned_list here now_here
      (can.cache ∙ ap (λ (u : Ticket). u.cache) was) (can.cached ∙ ap (λ (u : Ticket). u.cached) was)

  owned_now : count_below (length b.payloads) (is_owned b s.lists) + s.unmade ≡ s.slots.max
  owned_now = ap (λ n. n + s.unmade) (ap (λ n. count_below n (is_owned b s.lists)) touched.slots
      ∙ count_same (is_owned b s.lists) (is_owned a s.lists) (length a.payloads) (owned_same a b x (list_for s.lists v.state) v touched s.lists owned_slot owned_list))
      ∙ group.slots

  module _ (r : GroupSlots) (now : Noted) (last : ℕ) (in_turn : Bool) (turns : AreInTurn b s.lists last in_turn) (is : r ≡ record (counted_in v (counted_out t s)) { needless = now; order = record s.order { last_started = last; in_turn = in_turn } })
      (noting : ((is_kept v ≡ false) × IsNoted x s.needless now) ⊎ ((is_kept v ≡ true) × (now ≡ s.needless))) where
    needed : (y : ℕ) (u : Ticket) → ticket_at b s.lists y ≡ Some u → is_kept u ≡ false → is_noted now y ≡ true
    needed y u e k = elim (cases_eq y x) [
      | inl q ↦ elim noting [
        | inl n ↦ ap (is_noted now) q ∙ n.1.it
        | inr n ↦ let f : true ≡ false = sym n.0 ∙ ap is_kept (sym (is_v u (ap (ticket_at b s.lists) (sym q) ∙ e))) ∙ k in cc
      ]
      | inr ne ↦
          let had : is_noted s.needless y ≡ true = group.needed y u (sym (else_same y ne) ∙ e) k in
          elim noting [
            | inl n ↦ n.1.more y had
            | inr n ↦ ap (λ m. is_noted m y) n.1 ∙ had
          ]
    ]

    made : IsGroupSlots b (record (counted_in v (counted_out t s)) { needless = now; order = record s.order { last_started = last; in_turn = in_turn } })
    made = record {
      numbered = group.numbered;
      there = omega (arith, group.there, touched.count);
      chained = chained;
      arranged = changed_arranged a b s.lists x s.next t v group.arranged here serial touched order;
      slots = owned_now;
      few = group.few;
      taken = omega (arith, group.taken, recount is_any);
      queued = omega (arith, group.queued, recount is_queued, counted_at a s x t group here is_queued);
      commands = omega (arith, group.commands, length-set {A = CommandCounts});
      counts = counts;
      known = known;
      since = since;
      turns = turns;
      times = times_kept a b s.lists s.order.latest s.order.in_time was_there group.times;
      needed = needed;
    }

    -- where the group has counted the ticket and noted what nobody needs, the slot has the ticket now
    pub put_is : IsPut a s x v b r
    put_is = record {
      change = record {
        arena = touched_arena a b x (list_for s.lists v.state) v touched arena (within_slots a s.lists x t here);
        group = subst (IsGroupSlots b) (sym is) made;
        frame = touched_frame a b x (list_for s.lists v.state) v touched s.lists (list_for s.lists t.state) arena lies (own_for s.lists group.numbered t.state) (own_for s.lists group.numbered v.state);
        chains = frame_same s.lists a b (owned_same a b x (list_for s.lists v.state) v touched s.lists owned_slot owned_list) keeps.names keeps.contexts;
        bounds = touched.bounds;
        lists = ap (λ (z : GroupSlots). z.lists) is;
        room = ap (λ (z : GroupSlots). z.slots.max) is;
        unmade = ap (λ (z : GroupSlots). z.unmade) is;
      };
      next = ap (λ (z : GroupSlots). z.next) is;
      items = changed_tickets a b s.lists x s.next t v group.arranged here serial touched;
      counts = λ q. subst (λ o. count_at b s.lists q + one (has_one q o) ≡ count_at a s.lists q + one (q v)) (sym here) (recount q);
      left = touched.left;
      here = now_here;
      others = else_same;
    }

-- the payload of the slot is the ticket
pub was_is : (a : Slots) (g : GroupLists) (x : ℕ) (t u : Ticket) → ticket_at a g x ≡ Some t → slice_get a.payloads x ≡ Some u → ticket_at a g x ≡ Some u
was_is a g x t u e is = let k = held_at a g x t e in ap (λ b. if b then slice_get a.payloads x else None) k.0 ∙ is

-- as the code reads it
pub put_from : (a b : Slots) (s : GroupSlots) (x : ℕ) (t v : Ticket) → IsArena a 0 → IsGroupSlots a s → CanPut a s x v → Some t ≡ slice_get a.payloads x
    → (from to : ℕ) → from ≡ list_for s.lists t.state → to ≡ list_for s.lists v.state → (from ≡ to → b ≡ with_payload x v a) → (from ≢ to → b ≡ with_moved 0 x to (with_payload x v a))
    → (r : GroupSlots) (now : Noted) (last : ℕ) (in_turn : Bool) → r ≡ record (counted_in v (counted_out t s)) { needless = now; order = record s.order { last_started = last; in_turn = in_turn } }
    → IsTurned a s v.serial from to last in_turn → ((is_kept v ≡ false) × IsNoted x s.needless now) ⊎ ((is_kept v ≡ true) × (now ≡ s.needless)) → IsPut a s x v b r
put_from a b s x t v arena group can is from to f g same moved r now last in_turn made turned noting =
    let k : Some can.was ≡ Some t = sym (can.here) ∙ was_is a s.lists x can.was t can.here (sym is) in
    let was : can.was ≡ t = cc in
    let put = λ (e : list_for s.lists t.state ≡ list_for s.lists v.state). same (f ∙ e ∙ sym g) in
    let shift = λ (ne : list_for s.lists t.state ≢ list_for s.lists v.state). moved (λ e. ne (sym f ∙ e ∙ g)) ∙ ap (λ l. with_moved 0 x l (with_payload x v a)) g in
    let turns = turns_now a b s x t v arena group can was put shift last in_turn (subst (λ l. IsTurned a s v.serial l (list_for s.lists v.state) last in_turn) f (subst (λ l. IsTurned a s v.serial from l last in_turn) g turned)) in
    put_is a b s x t v arena group can was put shift r now last in_turn turns made noting
