-- A ticket times out, where it is due.
use Rattle.std.proofs.Common.{◌≡◌, ℕ, ◌-◌, inl, inr, Bool, true, false, Option, Some, None, refl, ◌∙◌, sym, ap, arith}
use Rattle.std.specs.Prelude.{◌&&◌, eqb, nat_le, if◌then◌else◌}
use Rattle.std.specs.Option.{option_map}
use Rattle.std.proofs.lemmas.Bool.{cases_eq, eq-eqb, ne_eqb}
use Rattle.bh_base.specs.declared.ticket.Ticket.{Ticket}
use Rattle.bh_index_lists.specs.Lists.{without}
use Rattle.bh_tickets.specs.declared.states.DueRule.{DueRule}
use Rattle.bh_tickets.specs.declared.group_slots.GroupSlots.{GroupSlots}
use Rattle.bh_slot_arena.specs.Slots.{slots_on}
use Rattle.bh_cache.specs.Slots.{Slots, ticket_at, has_one, one, IsArena}
use Rattle.bh_tickets.specs.GroupSlots.{IsGroupSlots, CanPut, IsPut, IsTimed}
use Rattle.bh_tickets.proofs.Releases.{change_none}
use Rattle.bh_base.specs.declared.ticket.TicketState.TheVariants as ticket
use Rattle.bh_base.specs.declared.reply.Cause.TheVariants as cause
use Rattle.bh_base.specs.Tickets.{in_state, is_of}
use Rattle.bh_tickets.specs.Changes.{is_due_by, timed_out_by}

and_false : (b c : Bool) → (b && false && c) ≡ false
and_false true c = refl
and_false false c = refl

-- as it is once it has timed out
abbrev pub with_timeout : Ticket → Ticket
with_timeout t = in_state (ticket.NeedsFallback cause.Timeout) t

-- a ticket that has timed out is due no more
pub due_no_more : (due : DueRule) (t : Ticket) → is_due_by due (with_timeout t) ≡ false
due_no_more due t = at (is_of due.command t)
  where
    at : (own : Bool) → (own && due.timeout_on && false && nat_le due.timeout_ms (due.moment - t.submitted)) ≡ false
    at true = and_false due.timeout_on (nat_le due.timeout_ms (due.moment - t.submitted))
    at false = refl

module _ (a : Slots) (s : GroupSlots) (x : ℕ) (t : Ticket) (due : DueRule) (arena : IsArena a 0) (group : IsGroupSlots a s) (here : ticket_at a s.lists x ≡ Some t) where
  same_or : (y : ℕ) (o : Option Ticket) → ticket_at a s.lists y ≡ o → is_due_by due t ≡ false → o ≡ option_map (λ u. if eqb y x then timed_out_by due u else u) o
  same_or y None e off = refl
  same_or y (Some u) e off = elim (cases_eq y x) [
    | inl q ↦
        let f : Some u ≡ Some t = sym e ∙ ap (ticket_at a s.lists) q ∙ here in
        let g : u ≡ t = cc in
        sym (ap (λ b. Some (if b then timed_out_by due u else u)) (eq-eqb y x q) ∙ ap (λ b. Some (if b then with_timeout u else u)) (ap (is_due_by due) g ∙ off))
    | inr ne ↦ sym (ap (λ b. Some (if b then timed_out_by due u else u)) (ne_eqb y x ne))
  ]

  -- where the ticket is not due, all stays as it is, and none has timed out
  pub not_due : is_due_by due t ≡ false → IsTimed a s x due 0 a s
  not_due off = record {
    change = change_none a s arena group;
    next = refl;
    tickets = λ y. same_or y (ticket_at a s.lists y) refl off;
    count = omega arith;
    walk = λ l ne. sym (ap (λ b. if b then without x (slots_on a 0 l) else slots_on a 0 l) (ap (has_one (is_due_by due)) here ∙ off));
  }

  -- the ticket may be put in its slot again as one that has timed out
  pub can_time_out : CanPut a s x (with_timeout t)
  can_time_out = record {
    was = t;
    here = here;
    serial = refl;
    command = refl;
    submitted = refl;
    cache = refl;
    cached = refl;
    waits = λ e. absurd (never e);
  }
    where
      never : false ≡ true → ⊥
      never e = cc

  -- where the ticket was due and is in its slot as one that has timed out, one has timed out
  pub has_timed_out : (b : Slots) (r : GroupSlots) → IsPut a s x (with_timeout t) b r → is_due_by due t ≡ true → IsTimed a s x due 1 b r
  has_timed_out b r done on = record {
    change = done.change;
    next = done.next;
    tickets = λ y. elim (cases_eq y x) [
      | inl q ↦
          ap (ticket_at b s.lists) q ∙ done.here ∙ sym (
          ap (λ z. option_map (λ u. if eqb y x then timed_out_by due u else u) (ticket_at a s.lists z)) q
          ∙ ap (option_map (λ u. if eqb y x then timed_out_by due u else u)) here
          ∙ ap (λ c. Some (if c then timed_out_by due t else t)) (eq-eqb y x q)
          ∙ ap (λ c. Some (if c then with_timeout t else t)) on)
      | inr ne ↦ done.others y ne ∙ other y (ticket_at a s.lists y) ne
    ];
    count = (let k = done.counts (is_due_by due) in
        let l : one (has_one (is_due_by due) (ticket_at a s.lists x)) ≡ 1 = ap (λ o. one (has_one (is_due_by due) o)) here ∙ ap one on in
        let m : one (is_due_by due (with_timeout t)) ≡ 0 = ap one (due_no_more due t) in
        omega (arith, k, l, m));
    walk = λ l ne. done.left l ne ∙ sym (ap (λ c. if c then without x (slots_on a 0 l) else slots_on a 0 l) (ap (has_one (is_due_by due)) here ∙ on));
  }
    where
      other : (y : ℕ) (o : Option Ticket) → (y ≡ x → ⊥) → o ≡ option_map (λ u. if eqb y x then timed_out_by due u else u) o
      other y None ne = refl
      other y (Some u) ne = sym (ap (λ c. Some (if c then timed_out_by due u else u)) (ne_eqb y x ne))
