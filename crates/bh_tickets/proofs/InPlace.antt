-- A ticket is changed in place.
use Rattle.std.proofs.Common.{◌≡◌, ℕ, ◌<◌, ◌⊎◌, true, false, Some, refl, ◌∙◌, sym, ap, subst, arith}
use Rattle.std.specs.Prelude.{◌≢◌, Bool, slice_get, if◌then◌else◌}
use Rattle.std.proofs.lemmas.Bool.{eq-eqb}
use Rattle.bh_base.specs.declared.ticket.Ticket.{Ticket}
use Rattle.bh_base.specs.Tickets.{is_kept}
use Rattle.bh_slot_arena.specs.Slots.{with_payload, with_moved}
use Rattle.bh_cache.specs.Slots.{Slots, ticket_at, list_for, IsArena}
use Rattle.bh_tickets.specs.declared.changes.TicketChange.{TicketChange}
use Rattle.bh_tickets.specs.declared.group_slots.GroupSlots.{GroupSlots}
use Rattle.bh_cache.specs.declared.notes.Noted.{Noted}
use Rattle.bh_cache.specs.Notes.{IsNoted}
use Rattle.bh_tickets.specs.Changes.{IsAllowed, changed_by}
use Rattle.bh_tickets.specs.GroupSlots.{CanBe, IsGroupSlots, IsPut, counted_in, counted_out}
use Rattle.bh_tickets.proofs.Changed.{cache_kept, cached_kept, command_kept, serial_kept, submitted_kept, waits_kept}
use Rattle.bh_tickets.proofs.InTurn.{IsTurned}
use Rattle.bh_tickets.proofs.Puts.{put_from, was_is, within_slots}
use Rattle.bh_cache.proofs.Members.{get_set}

some_same : (t u : Ticket) → Some t ≡ Some u → t ≡ u
some_same t u e = cc

module _ (a : Slots) (s : GroupSlots) (x : ℕ) (change : TicketChange) (can : CanBe a s x change) (was : Ticket) (read : Some was ≡ slice_get a.payloads x) where
  -- what was read from the slot is the ticket that the group has there
  pub here_is : ticket_at a s.lists x ≡ Some was
  here_is = was_is a s.lists x can.was was can.here (sym read)

  allowed_was : can.was ≡ was
  allowed_was = some_same can.was was (sym can.here ∙ here_is)

  module _ (got now read_now : Ticket) (taken : Some got ≡ slice_get a.payloads x) (applied : now ≡ changed_by change got) (again : Some read_now ≡ slice_get (with_payload x now a).payloads x) where
    now_is : now ≡ changed_by change was
    now_is = applied ∙ ap (changed_by change) (some_same got was (taken ∙ sym read))

    read_is : read_now ≡ changed_by change was
    read_is = some_same read_now now (again ∙ get_set a.payloads x x now (within_slots a s.lists x was here_is) ∙ ap (λ c. if c then Some now else slice_get a.payloads x) (eq-eqb x x refl)) ∙ now_is

    -- the changed ticket is of a command that is counted
    pub read_known : IsGroupSlots a s → read_now.command < 16
    read_known group = omega (arith, group.known x was here_is, ap (λ (u : Ticket). u.command) read_is, command_kept change was)

    -- a slot whose payload is changed, and that is on the list for the new state, has the changed ticket
    pub change_from : (b : Slots) → IsArena a 0 → IsGroupSlots a s → (from to : ℕ) → from ≡ list_for s.lists was.state → to ≡ list_for s.lists read_now.state
        → (from ≡ to → b ≡ with_payload x now a) → (from ≢ to → b ≡ with_moved 0 x to (with_payload x now a))
        → (r : GroupSlots) (needless : Noted) (last : ℕ) (in_turn : Bool) → r ≡ record (counted_in read_now (counted_out was s)) { needless = needless; order = record s.order { last_started = last; in_turn = in_turn } }
        → IsTurned a s read_now.serial from to last in_turn
        → ((is_kept read_now ≡ false) × IsNoted x s.needless needless) ⊎ ((is_kept read_now ≡ true) × (needless ≡ s.needless))
        → (t : Ticket) → ticket_at a s.lists x ≡ Some t → IsPut a s x (changed_by change t) b r
    change_from b arena group from to f g same moved r needless last in_turn made turned noting t e =
        let v : Ticket = changed_by change was in
        let w : was ≡ t = some_same was t (sym here_is ∙ e) in
        subst (λ (u : Ticket). IsPut a s x (changed_by change u) b r) w
        (put_from a b s x was v arena group
        (record { was = was; here = here_is; serial = serial_kept change was; command = command_kept change was; submitted = submitted_kept change was; cache = cache_kept change was; cached = cached_kept change was; waits = waits_kept change was (subst (IsAllowed change) allowed_was can.allowed) })
        read from to f (g ∙ ap (λ (u : Ticket). list_for s.lists u.state) read_is)
        (λ q. same q ∙ ap (λ (u : Ticket). with_payload x u a) now_is)
        (λ q. moved q ∙ ap (λ (u : Ticket). with_moved 0 x to (with_payload x u a)) now_is)
        r needless last in_turn (made ∙ ap (λ (u : Ticket). record (counted_in u (counted_out was s)) { needless = needless; order = record s.order { last_started = last; in_turn = in_turn } }) read_is)
        (subst (λ (u : Ticket). IsTurned a s u.serial from to last in_turn) read_is turned)
        (subst (λ (u : Ticket). ((is_kept u ≡ false) × IsNoted x s.needless needless) ⊎ ((is_kept u ≡ true) × (needless ≡ s.needless))) read_is noting))
