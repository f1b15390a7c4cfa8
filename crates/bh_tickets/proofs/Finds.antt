-- Which ticket a search finds.
use Rattle.std.proofs.Common.{◌≡◌, ℕ, ◌<◌, ◌≤◌, Bool, true, false, List, length, Option, Some, None, refl, ◌∙◌, sym, ap, subst, arith}
use Rattle.std.specs.Prelude.{◌||◌, ◌&&◌, ◌==◌, IfSome, nat_lt, slice_get, find, is_some, if◌then◌else◌}
use Rattle.std.proofs.lemmas.Bool.Decides.{nat_tests}
use Rattle.bh_base.specs.declared.ticket.Ticket.{Ticket}
use Rattle.bh_base.specs.declared.ticket.TicketState.TheVariants as ticket
use Rattle.bh_base.specs.Tickets.{is_queued}
use Rattle.bh_tickets.specs.declared.group_slots.GroupSlots.{GroupSlots}
use Rattle.bh_slot_arena.specs.Slots.{slots_on}
use Rattle.bh_cache.specs.Slots.{Slots, is_on, ticket_at, tickets_of, list_for, has_serial_in, serial_in, has, InOrder, IsArena, HasLists}
use Rattle.bh_tickets.specs.GroupSlots.{IsGroupSlots}
use Rattle.bh_tickets.specs.TicketsView.{GroupTickets, group_at, IsFirstAt}
use Rattle.bh_tickets.specs.Whole.{view_of, AreGroupSlots}
use Rattle.bh_cache.proofs.Listed.{IsIn, from_listed, in_listed, find_least, find_none}
use Rattle.bh_cache.proofs.Order.{front_is, front_none, front_on, first_least}
use Rattle.bh_tickets.proofs.Own.{tickets_rising}
use Rattle.bh_tickets.proofs.Puts.{held_at, was_is, within_slots, queued_in, queued_list, queued_state}
use Rattle.bh_tickets.proofs.Adds.{payload_some}
use Rattle.bh_tickets.proofs.Whole.{shows, group_is}

module _ (a : Slots) (s : GroupSlots) (arena : IsArena a 0) (group : IsGroupSlots a s) where
  -- a ticket in a slot is among the group's tickets
  pub is_in : (x : ℕ) (t : Ticket) → ticket_at a s.lists x ≡ Some t → IsIn t (tickets_of a s.lists)
  is_in x t e = in_listed (ticket_at a s.lists) (length a.payloads) x t (within_slots a s.lists x t e) e

  -- ---- by serial
  module _ (serial : ℕ) (q : Ticket → Bool) where
    abbrev pub passes : Ticket → Bool
    passes u = u.serial == serial && q u

    serial_of : (b : Bool) (n : ℕ) → ((n == serial) && b) ≡ true → n ≡ serial
    serial_of true n e = let k : (n == serial) ≡ true = sym (and_true (n == serial)) ∙ e in grind (arith, nat_tests)
      where
        and_true : (c : Bool) → (c && true) ≡ c
        and_true true = refl
        and_true false = refl
    serial_of false n e = absurd (never (n == serial) e)
      where
        never : (c : Bool) → (c && false) ≡ true → ⊥
        never true e = cc
        never false e = cc

    module _ (x : ℕ) (t : Ticket) (here : ticket_at a s.lists x ≡ Some t) (same : t.serial ≡ serial) where
      is_same : (t.serial == serial) ≡ true
      is_same = grind (arith, nat_tests)

      -- where the ticket of the serial passes, the search by serial and test finds it
      pub found_first : q t ≡ true → find (λ u. u.serial == serial && q u) (tickets_of a s.lists) ≡ Some t
      found_first yes' = find_least (λ u. u.serial == serial && q u) (tickets_of a s.lists) t (tickets_rising a s.lists s.next group.arranged) (is_in x t here)
          (ap (λ b. b && q t) is_same ∙ yes')
          (λ u i e. let k : u.serial ≡ serial = serial_of (q u) u.serial e in omega (arith, k, same))

      -- where the ticket of the serial does not pass, the search finds none
      pub other_first : q t ≡ false → find (λ u. u.serial == serial && q u) (tickets_of a s.lists) ≡ None
      other_first no' = find_none (λ u. u.serial == serial && q u) (tickets_of a s.lists) (λ u i. by u i ((u.serial == serial) && q u) refl)
        where
          by : (u : Ticket) → IsIn u (tickets_of a s.lists) → (b : Bool) → ((u.serial == serial) && q u) ≡ b → b ≡ false
          by u i false e = refl
          by u i true e =
              let r = from_listed (ticket_at a s.lists) (length a.payloads) u i in
              let k : u.serial ≡ serial = serial_of (q u) u.serial e in
              let z : r.0 ≡ x = group.arranged.distinct r.0 x u t r.2 here (k ∙ sym same) in
              let f : Some u ≡ Some t = sym r.2 ∙ ap (ticket_at a s.lists) z ∙ here in
              let g : u ≡ t = cc in
              let h : true ≡ false = sym e ∙ ap (λ (w : Ticket). (w.serial == serial) && q w) g ∙ ap (λ b. b && q t) is_same ∙ no' in absurd cc

    -- where no slot has a ticket of the serial, the search finds none
    pub none_first : ((x : ℕ) → has_serial_in serial (ticket_at a s.lists x) ≡ false) → find (λ u. u.serial == serial && q u) (tickets_of a s.lists) ≡ None
    none_first none = find_none (λ u. u.serial == serial && q u) (tickets_of a s.lists) (λ u i.
        let r = from_listed (ticket_at a s.lists) (length a.payloads) u i in
        let k : (u.serial == serial) ≡ false = ap (has_serial_in serial) (sym r.2) ∙ none r.0 in
        ap (λ b. b && q u) k)

  -- a slot that is said to have the serial has a ticket of this serial
  pub has_serial : (serial x : ℕ) → has_serial_in serial (ticket_at a s.lists x) ≡ true → (t : Ticket) × (ticket_at a s.lists x ≡ Some t) × (t.serial ≡ serial)
  has_serial serial x e = by (ticket_at a s.lists x) refl e
    where
      by : (o : Option Ticket) → ticket_at a s.lists x ≡ o → has_serial_in serial o ≡ true → (t : Ticket) × (ticket_at a s.lists x ≡ Some t) × (t.serial ≡ serial)
      by None is e = absurd cc
      by (Some t) is e = (t, is, (let k : (t.serial == serial) ≡ true = e in grind (arith, nat_tests)))

  -- ---- the queue
  waits_at : (x : ℕ) (t : Ticket) → is_on a 0 s.lists.queued x ≡ true → ticket_at a s.lists x ≡ Some t → t.state ≡ ticket.Queued
  waits_at x t on here = queued_list s.lists t.state group.numbered (arena.apart s.lists.queued (list_for s.lists t.state) x on (group.arranged.placed x t here))

  on_queue : (x : ℕ) (t : Ticket) → is_queued t ≡ true → ticket_at a s.lists x ≡ Some t → is_on a 0 s.lists.queued x ≡ true
  on_queue x t waits here = subst (λ l. is_on a 0 l x ≡ true) (ap (list_for s.lists) (queued_state t.state waits)) (group.arranged.placed x t here)

  -- a slot on the queue has a ticket
  pub ticket_on_queue : (x : ℕ) → is_on a 0 s.lists.queued x ≡ true → (t : Ticket) × (ticket_at a s.lists x ≡ Some t)
  ticket_on_queue x on = by (slice_get a.payloads x) refl (payload_some a.payloads x (arena.within s.lists.queued x on))
    where
      by : (o : Option Ticket) → slice_get a.payloads x ≡ o → is_some o ≡ true → (t : Ticket) × (ticket_at a s.lists x ≡ Some t)
      by None is e = absurd cc
      by (Some t) is e = (t, ap (λ b. if (b || (is_on a 0 s.lists.running x || is_on a 0 s.lists.settled x)) then slice_get a.payloads x else None) on ∙ is)

  -- the slot at the front of the queue has the first of the group's tickets that waits
  pub front_first : (x : ℕ) → slice_get (slots_on a 0 s.lists.queued) 0 ≡ Some x → (t : Ticket) × (ticket_at a s.lists x ≡ Some t) × (find is_queued (tickets_of a s.lists) ≡ Some t)
  front_first x front =
      let on = front_on x (slots_on a 0 s.lists.queued) front in
      let r = ticket_on_queue x on in
      let t : Ticket = r.0 in
      let split = front_is x (slots_on a 0 s.lists.queued) front in (
        t,
        r.1,
        find_least is_queued (tickets_of a s.lists) t (tickets_rising a s.lists s.next group.arranged) (is_in x t r.1) (ap queued_in (waits_at x t on r.1)) (λ u i e.
            let z = from_listed (ticket_at a s.lists) (length a.payloads) u i in
            let le : serial_in (slice_get a.payloads x) ≤ serial_in (slice_get a.payloads z.0) = first_least a.payloads x z.0 split.0 (subst (InOrder a.payloads) split.1 group.arranged.order) (ap (has z.0) (sym split.1) ∙ on_queue z.0 u e z.2) in
            let j : serial_in (slice_get a.payloads x) ≡ t.serial = ap serial_in (held_at a s.lists x t r.1).1 in
            let k : serial_in (slice_get a.payloads z.0) ≡ u.serial = ap serial_in (held_at a s.lists z.0 u z.2).1 in
            omega (arith, le, j, k)),
      )

  -- where the queue has no front, none of the group's tickets waits
  pub no_front : slice_get (slots_on a 0 s.lists.queued) 0 ≡ None → find is_queued (tickets_of a s.lists) ≡ None
  no_front none = find_none is_queued (tickets_of a s.lists) (λ u i. by u i (is_queued u) refl)
    where
      by : (u : Ticket) → IsIn u (tickets_of a s.lists) → (b : Bool) → is_queued u ≡ b → b ≡ false
      by u i false e = refl
      by u i true e =
          let z = from_listed (ticket_at a s.lists) (length a.payloads) u i in
          let k : false ≡ true = sym (ap (has z.0) (front_none (slots_on a 0 s.lists.queued) none)) ∙ on_queue z.0 u e z.2 in absurd cc

-- ---- as the store shows it
module _ (a : Slots) (ss : List GroupSlots) (i : ℕ) (s : GroupSlots) (whole : AreGroupSlots a ss) (is : slice_get ss i ≡ Some s) where
  -- where a slot has the first of the group's tickets that passes, contracts see it so
  pub first_at : (p : Ticket → Bool) (x : ℕ) (t : Ticket) → ticket_at a s.lists x ≡ Some t → find p (tickets_of a s.lists) ≡ Some t → IsFirstAt p (group_at (view_of a ss) i) x
  first_at p x t here first = subst (λ (z : GroupTickets). IsFirstAt p z x) (sym (group_is a ss i s is)) (record { ticket = t; here = shows a s x whole.arena ∙ here; first = first })

  -- where none of the group's tickets passes, contracts see none that passes
  pub none_at : (p : Ticket → Bool) → find p (tickets_of a s.lists) ≡ None → find p (group_at (view_of a ss) i).items ≡ None
  none_at p e = ap (λ (z : GroupTickets). find p z.items) (group_is a ss i s is) ∙ e

  -- the front of the queue, where there is one, has the first ticket that contracts see wait
  pub queue_found : (o : Option ℕ) → o ≡ slice_get (slots_on a 0 s.lists.queued) 0 → IfSome o (λ x. IsFirstAt is_queued (group_at (view_of a ss) i) x)
  queue_found None e = tt
  queue_found (Some x) e = let r = front_first a s whole.arena (whole.each i s is) x (sym e) in first_at is_queued x r.0 r.1 r.2

  -- where the queue has no front, contracts see no ticket that waits
  pub queue_none : (o : Option ℕ) → o ≡ slice_get (slots_on a 0 s.lists.queued) 0 → o ≡ None → find is_queued (group_at (view_of a ss) i).items ≡ None
  queue_none o e none = none_at is_queued (no_front a s whole.arena (whole.each i s is) (sym e ∙ none))

  -- the ticket of the serial that lies in the slot
  pub ticket_of : (serial x : ℕ) (t : Ticket) → has_serial_in serial (ticket_at a s.lists x) ≡ true → Some t ≡ slice_get a.payloads x → (ticket_at a s.lists x ≡ Some t) × (t.serial ≡ serial)
  ticket_of serial x t has' read =
      let r = has_serial a s whole.arena (whole.each i s is) serial x has' in
      let here : ticket_at a s.lists x ≡ Some t = was_is a s.lists x r.0 t r.1 (sym read) in
      let f : Some r.0 ≡ Some t = sym r.1 ∙ here in
      let g : r.0 ≡ t = cc in
      (here, ap (λ (u : Ticket). u.serial) (sym g) ∙ r.2)

  -- a slot that has a ticket of the serial is one of the arena's
  pub serial_within : (serial x : ℕ) → has_serial_in serial (ticket_at a s.lists x) ≡ true → x < length a.payloads
  serial_within serial x has' = let r = has_serial a s whole.arena (whole.each i s is) serial x has' in within_slots a s.lists x r.0 r.1

  -- where the slot's ticket has the serial and passes, the slot has the first such ticket that contracts see
  pub serial_found : (serial : ℕ) (q : Ticket → Bool) (x : ℕ) (t : Ticket) → has_serial_in serial (ticket_at a s.lists x) ≡ true → Some t ≡ slice_get a.payloads x → q t ≡ true → IsFirstAt (λ u. u.serial == serial && q u) (group_at (view_of a ss) i) x
  serial_found serial q x t has' read yes' =
      let r = ticket_of serial x t has' read in
      first_at (λ u. u.serial == serial && q u) x t r.0 (found_first a s whole.arena (whole.each i s is) serial q x t r.0 r.1 yes')

  -- where the slot's ticket has the serial and does not pass, contracts see none that has it and passes
  pub serial_other : (serial : ℕ) (q : Ticket → Bool) (x : ℕ) (t : Ticket) → has_serial_in serial (ticket_at a s.lists x) ≡ true → Some t ≡ slice_get a.payloads x → q t ≡ false → find (λ u. u.serial == serial && q u) (group_at (view_of a ss) i).items ≡ None
  serial_other serial q x t has' read no' =
      let r = ticket_of serial x t has' read in
      none_at (λ u. u.serial == serial && q u) (other_first a s whole.arena (whole.each i s is) serial q x t r.0 r.1 no')

  -- where no slot has a ticket of the serial, contracts see none that has it and passes
  pub serial_none : (serial : ℕ) (q : Ticket → Bool) → ((x : ℕ) → has_serial_in serial (ticket_at a s.lists x) ≡ false) → find (λ u. u.serial == serial && q u) (group_at (view_of a ss) i).items ≡ None
  serial_none serial q none = none_at (λ u. u.serial == serial && q u) (none_first a s whole.arena (whole.each i s is) serial q none)

-- a holder is to collect the ticket's answer
abbrev pub is_held : Ticket → Bool
is_held t = nat_lt 0 t.holders

-- each of the group's lists is there
pub lists_there : (a : Slots) (s : GroupSlots) → IsGroupSlots a s → HasLists a s.lists
lists_there a s group = record {
  free = omega (arith, group.there, group.numbered.settled);
  queued = omega (arith, group.there, group.numbered.queued, group.numbered.settled);
  running = omega (arith, group.there, group.numbered.running, group.numbered.settled);
  settled = group.there;
}
