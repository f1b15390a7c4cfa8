-- All of a group's tickets that are due time out.
use Rattle.std.proofs.Common.{◌≡◌, ℕ, ◌+◌, ◌-◌, ◌≤◌, ◌⊎◌, inl, inr, Bool, true, false, List, [], ◌∷◌, length, take, Option, Some, None, refl, ◌∙◌, sym, ap, subst, arith}
use Rattle.std.specs.Prelude.{◌&&◌, ◌==◌, eqb, nat_le, slice_get, if◌then◌else◌}
use Rattle.std.specs.Option.{option_map}
use Rattle.std.proofs.lemmas.List.Sums.{length-filter}
use Rattle.bh_base.specs.Tickets.{is_of}
use Rattle.bh_base.specs.declared.ticket.Ticket.{Ticket}
use Rattle.bh_base.specs.declared.ticket.TicketState.{TicketState}
use Rattle.bh_base.specs.declared.ticket.TicketState.TheVariants as ticket
use Rattle.bh_slot_arena.specs.Slots.{slots_on}
use Rattle.bh_cache.specs.declared.lists.GroupLists.{GroupLists}
use Rattle.bh_cache.specs.Listed.{listed}
use Rattle.bh_cache.specs.Slots.{Slots, has_one, has_serial_in, is_on, list_for, ticket_at, tickets_of}
use Rattle.bh_cache.proofs.Counts.{count_all, count_listed, count_none}
use Rattle.bh_cache.proofs.Listed.{listed_map}
use Rattle.bh_tickets.specs.declared.group_slots.GroupSlots.{GroupSlots}
use Rattle.bh_tickets.specs.declared.states.DueRule.{DueRule}
use Rattle.bh_tickets.specs.Changes.{is_due_by, timed_out_by}
use Rattle.bh_tickets.specs.GroupSlots.{IsGroupSlots, IsGroupChange, IsTimed, count_at}
use Rattle.bh_tickets.specs.Sweeps.{IsTimedFrom, IsTimedOut}
use Rattle.bh_tickets.proofs.Along.{change_trans, has_one_slot, swept_more}
use Rattle.bh_tickets.proofs.Times.{due_no_more, with_timeout}

timed_again : (due : DueRule) (t : Ticket) → timed_out_by due (timed_out_by due t) ≡ timed_out_by due t
timed_again due t = by (is_due_by due t) refl
  where
    by : (b : Bool) → is_due_by due t ≡ b → timed_out_by due (if b then with_timeout t else t) ≡ (if b then with_timeout t else t)
    by true e = ap (λ b. if b then with_timeout (with_timeout t) else with_timeout t) (due_no_more due t)
    by false e = ap (λ b. if b then with_timeout t else t) e

timed_not_due : (due : DueRule) (t : Ticket) → is_due_by due (timed_out_by due t) ≡ false
timed_not_due due t = by (is_due_by due t) refl
  where
    by : (b : Bool) → is_due_by due t ≡ b → is_due_by due (if b then with_timeout t else t) ≡ false
    by true e = due_no_more due t
    by false e = e

timed_serial : (due : DueRule) (t : Ticket) → (timed_out_by due t).serial ≡ t.serial
timed_serial due t = by (is_due_by due t)
  where
    by : (b : Bool) → (if b then with_timeout t else t).serial ≡ t.serial
    by true = refl
    by false = refl

again : (due : DueRule) (o : Option Ticket) → option_map (timed_out_by due) (option_map (timed_out_by due) o) ≡ option_map (timed_out_by due) o
again due None = refl
again due (Some t) = ap Some (timed_again due t)

-- a ticket that is due waits or runs
due_open : (due : DueRule) (t : Ticket) → is_due_by due t ≡ true → (t.state ≡ ticket.Queued) ⊎ (t.state ≡ ticket.Running)
due_open due t e = by t.state e
  where
    none : (a b c : Bool) → (a && b && false && c) ≡ true → ⊥
    none true true c e = cc
    none true false c e = cc
    none false b c e = cc

    by : (st : TicketState) → is_due_by due (record t { state = st }) ≡ true → (st ≡ ticket.Queued) ⊎ (st ≡ ticket.Running)
    by ticket.Queued e = inl refl
    by ticket.Running e = inr refl
    by (ticket.NeedsFallback c) e = absurd (none (is_of due.command t) due.timeout_on (nat_le due.timeout_ms (due.moment - t.submitted)) e)
    by (ticket.InFallback c) e = absurd (none (is_of due.command t) due.timeout_on (nat_le due.timeout_ms (due.moment - t.submitted)) e)
    by (ticket.Answered c) e = absurd (none (is_of due.command t) due.timeout_on (nat_le due.timeout_ms (due.moment - t.submitted)) e)

-- one slot
pub timed_slot : (a : Slots) (s : GroupSlots) (x : ℕ) (due : DueRule) (n : ℕ) (b : Slots) (r : GroupSlots) → IsTimed a s x due n b r → IsTimedFrom (x ∷ []) a s due n b r
timed_slot a s x due n b r timed = record {
  swept = record {
    change = timed.change;
    next = timed.next;
    tickets = λ y.
        timed.tickets y ∙ by (eqb y x) (ticket_at a s.lists y)
        ∙ sym (ap (λ d. if d then option_map (timed_out_by due) (ticket_at a s.lists y) else ticket_at a s.lists y) (has_one_slot x y));
  };
  count = timed.count;
}
  where
    by : (d : Bool) (o : Option Ticket) → option_map (λ t. if d then timed_out_by due t else t) o ≡ (if d then option_map (timed_out_by due) o else o)
    by true None = refl
    by true (Some t) = refl
    by false None = refl
    by false (Some t) = refl

-- one slot more of a list
pub timed_more : (xs : List ℕ) (i x : ℕ) (a : Slots) (s : GroupSlots) (due : DueRule) (n : ℕ) (b : Slots) (r : GroupSlots) (m : ℕ) (c : Slots) (u : GroupSlots) → slice_get xs i ≡ Some x → IsTimedFrom (take i xs) a s due n b r → IsTimed b r x due m c u → IsTimedFrom (take (i + 1) xs) a s due (n + m) c u
timed_more xs i x a s due n b r m c u at first second = record {
  swept = swept_more (option_map (timed_out_by due)) (again due) xs i x a s b r c u at first.swept (timed_slot b r x due m c u second).swept;
  count =
      (let k = subst (λ (g : GroupLists). m + count_at c g (is_due_by due) ≡ count_at b g (is_due_by due)) first.swept.change.lists second.count in
      omega (arith, k, first.count));
}

-- no more are due than there are slots
pub timed_few : (xs : List ℕ) (a : Slots) (s : GroupSlots) (due : DueRule) (n : ℕ) (b : Slots) (r : GroupSlots) → IsTimedFrom xs a s due n b r → n ≤ length a.payloads
timed_few xs a s due n b r timed = let k = count_all (length a.payloads) (λ x. has_one (is_due_by due) (ticket_at a s.lists x)) in omega (arith, k, timed.count)

-- both lists on which a ticket can be due
module _ (a : Slots) (s : GroupSlots) (due : DueRule) (n m : ℕ) (b : Slots) (r : GroupSlots) (c : Slots) (u : GroupSlots) (group : IsGroupSlots a s)
    (first : IsTimedFrom (slots_on a 0 s.lists.queued) a s due n b r) (second : IsTimedFrom (slots_on b 0 r.lists.running) b r due m c u) where
  lists : r.lists ≡ s.lists
  lists = first.swept.change.lists

  -- each ticket has timed out that was due
  pub all_timed : (y : ℕ) → ticket_at c s.lists y ≡ option_map (timed_out_by due) (ticket_at a s.lists y)
  all_timed y =
      subst (λ (g : GroupLists). ticket_at c g y ≡ (if is_on b 0 g.running y then option_map (timed_out_by due) (ticket_at b g y) else ticket_at b g y)) lists (second.swept.tickets y)
      ∙ by (ticket_at a s.lists y) refl (first.swept.tickets y)
    where
      -- a ticket that was not on the list of queued ones, and then not on that of running ones, is not due
      out : (t : Ticket) → ticket_at a s.lists y ≡ Some t → ticket_at b s.lists y ≡ Some t → is_on a 0 s.lists.queued y ≡ false → is_on b 0 s.lists.running y ≡ false → is_due_by due t ≡ true → ⊥
      out t was now not_queued not_running e = elim (due_open due t e) [
        | inl q ↦
            let on : is_on a 0 s.lists.queued y ≡ true = ap (λ st. is_on a 0 (list_for s.lists st) y) (sym q) ∙ group.arranged.placed y t was in
            let z : true ≡ false = sym on ∙ not_queued in cc
        | inr q ↦
            let there : ticket_at b r.lists y ≡ Some t = ap (λ (g : GroupLists). ticket_at b g y) lists ∙ now in
            let on : is_on b 0 s.lists.running y ≡ true = ap (λ (g : GroupLists). is_on b 0 g.running y) (sym lists) ∙ ap (λ st. is_on b 0 (list_for r.lists st) y) (sym q) ∙ first.swept.change.group.arranged.placed y t there in
            let z : true ≡ false = sym on ∙ not_running in cc
      ]

      stays : (t : Ticket) → (is_due_by due t ≡ true → ⊥) → Some t ≡ Some (timed_out_by due t)
      stays t no' = case (is_due_by due t) refl
        where
          case : (d : Bool) → is_due_by due t ≡ d → Some t ≡ Some (if d then with_timeout t else t)
          case true e = absurd (no' e)
          case false e = refl

      twice : (t : Ticket) (d e : Bool) (o : Option Ticket) → is_on a 0 s.lists.queued y ≡ d → is_on b 0 s.lists.running y ≡ e → ticket_at a s.lists y ≡ Some t → ticket_at b s.lists y ≡ o → o ≡ (if d then Some (timed_out_by due t) else Some t) → (if e then option_map (timed_out_by due) o else o) ≡ Some (timed_out_by due t)
      twice t true true o on_q on_r was now is = ap (option_map (timed_out_by due)) is ∙ ap Some (timed_again due t)
      twice t true false o on_q on_r was now is = is
      twice t false true o on_q on_r was now is = ap (option_map (timed_out_by due)) is
      twice t false false o on_q on_r was now is = is ∙ stays t (out t was (now ∙ is) on_q on_r)

      none : (d e : Bool) (o : Option Ticket) → o ≡ (if d then None else None) → (if e then option_map (timed_out_by due) o else o) ≡ None
      none true true o is = ap (option_map (timed_out_by due)) is
      none true false o is = is
      none false true o is = ap (option_map (timed_out_by due)) is
      none false false o is = is

      by : (o : Option Ticket) → ticket_at a s.lists y ≡ o → ticket_at b s.lists y ≡ (if is_on a 0 s.lists.queued y then option_map (timed_out_by due) (ticket_at a s.lists y) else ticket_at a s.lists y)
          → (if is_on b 0 s.lists.running y then option_map (timed_out_by due) (ticket_at b s.lists y) else ticket_at b s.lists y) ≡ option_map (timed_out_by due) o
      by None e is = none (is_on a 0 s.lists.queued y) (is_on b 0 s.lists.running y) (ticket_at b s.lists y) (is ∙ ap (λ o. if is_on a 0 s.lists.queued y then option_map (timed_out_by due) o else o) e)
      by (Some t) e is = twice t (is_on a 0 s.lists.queued y) (is_on b 0 s.lists.running y) (ticket_at b s.lists y) refl refl e refl (is ∙ ap (λ o. if is_on a 0 s.lists.queued y then option_map (timed_out_by due) o else o) e)

  change_both : IsGroupChange a s c u
  change_both = change_trans a s b r c u first.swept.change second.swept.change

  none_due : (y : ℕ) → has_one (is_due_by due) (ticket_at c s.lists y) ≡ false
  none_due y = ap (has_one (is_due_by due)) (all_timed y) ∙ at (ticket_at a s.lists y)
    where
      at : (o : Option Ticket) → has_one (is_due_by due) (option_map (timed_out_by due) o) ≡ false
      at None = refl
      at (Some t) = timed_not_due due t

  serial_stays : (n : ℕ) (o : Option Ticket) → has_serial_in n (option_map (timed_out_by due) o) ≡ has_serial_in n o
  serial_stays n None = refl
  serial_stays n (Some t) = ap (λ m. m == n) (timed_serial due t)

  -- after the walks over both lists, each ticket of the group that was due has timed out
  pub timed_out_all : IsTimedOut a s due (n + m) c u
  timed_out_all = record {
    change = change_both;
    next = second.swept.next ∙ first.swept.next;
    serials = record { same = λ n y. ap (has_serial_in n) (all_timed y) ∙ serial_stays n (ticket_at a s.lists y) };
    items = ap (listed (ticket_at c s.lists)) change_both.frame.slots ∙ listed_map (timed_out_by due) (ticket_at a s.lists) (ticket_at c s.lists) (length a.payloads) (timed_serial due) all_timed;
    count =
        (let k = subst (λ (g : GroupLists). m + count_at c g (is_due_by due) ≡ count_at b g (is_due_by due)) lists second.count in
        let z = count_none (length c.payloads) (λ y. has_one (is_due_by due) (ticket_at c s.lists y)) none_due in
        let all = count_listed (is_due_by due) (ticket_at a s.lists) (length a.payloads) in
        omega (arith, k, first.count, z, all, length-filter (is_due_by due) (tickets_of a s.lists)));
  }
