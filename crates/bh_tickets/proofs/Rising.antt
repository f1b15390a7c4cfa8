-- Lists whose tickets lie in the order of their submits.
use Rattle.std.proofs.Common.{◌≡◌, ℕ, zero, suc, ◌-◌, ◌<◌, ◌≤◌, Bool, true, false, List, [], ◌∷◌, drop, min, take, Option, Some, None, refl, ◌∙◌, sym, ap, subst, arith}
use Rattle.std.specs.Prelude.{◌||◌, ◌&&◌, eqb, nat_le, slice_get, is_some, if◌then◌else◌}
use Rattle.std.specs.Option.{option_map}
use Rattle.std.proofs.lemmas.Bool.{leb-true, ltb-true}
use Rattle.std.proofs.lemmas.List.{take-append-drop}
use Rattle.bh_base.specs.declared.ticket.Ticket.{Ticket}
use Rattle.bh_base.specs.declared.ticket.TicketState.TheVariants as ticket
use Rattle.bh_base.specs.Tickets.{is_of}
use Rattle.bh_slot_arena.specs.Slots.{slots_on}
use Rattle.bh_cache.specs.declared.lists.GroupLists.{GroupLists}
use Rattle.bh_cache.specs.Slots.{Slots, has, has_one, is_live_list, serial_in, ticket_at, InOrder, IsArena}
use Rattle.bh_cache.proofs.Order.{first_least}
use Rattle.bh_cache.proofs.Members.{has_append, has_at}
use Rattle.bh_cache.proofs.Walks.{on_live_list}
use Rattle.bh_tickets.specs.declared.group_slots.GroupSlots.{GroupSlots}
use Rattle.bh_tickets.specs.declared.states.DueRule.{DueRule}
use Rattle.bh_tickets.specs.Changes.{is_due_by, is_young_by, timed_out_by}
use Rattle.bh_tickets.specs.Counts.{is_open}
use Rattle.bh_tickets.specs.GroupSlots.{IsGroupSlots, IsRising, any_at, submitted_in}
use Rattle.bh_tickets.specs.Sweeps.{IsSinceFrom, IsTimedFrom}
use Rattle.bh_tickets.proofs.Adds.{payload_some}
use Rattle.bh_tickets.proofs.Exists.{any_slot}
use Rattle.bh_tickets.proofs.Own.{live_for}
use Rattle.bh_tickets.proofs.Puts.{held_at}
use Rattle.bh_tickets.proofs.SinceAll.{all_four}
use Rattle.bh_tickets.proofs.Times.{with_timeout}

-- ---- what lies ahead

-- the serials from a place on are not less than the one there
order_from : (ps : List Ticket) (xs : List ℕ) (i x y : ℕ) → InOrder ps xs → slice_get xs i ≡ Some x → has y (drop i xs) ≡ true → serial_in (slice_get ps x) ≤ serial_in (slice_get ps y)
order_from ps [] i x y order at on = absurd cc
order_from ps (z ∷ zs) zero x y order at on = let k : z ≡ x = cc in subst (λ w. serial_in (slice_get ps w) ≤ serial_in (slice_get ps y)) k (first_least ps z y zs order on)
order_from ps (z ∷ zs) (suc i) x y order at on = order_from ps zs i x y order.1 at on

has_drop : (xs : List ℕ) (i y : ℕ) → has y (drop i xs) ≡ true → has y xs ≡ true
has_drop [] zero y on = on
has_drop [] (suc i) y on = on
has_drop (z ∷ zs) zero y on = on
has_drop (z ∷ zs) (suc i) y on = ap (λ b. eqb z y || b) (has_drop zs i y on) ∙ or_true (eqb z y)
  where
    or_true : (b : Bool) → (b || true) ≡ true
    or_true true = refl
    or_true false = refl

-- where the serials along a list of the group rise and its tickets are in time, the submits rise
pub list_rises : (a : Slots) (s : GroupSlots) (l : ℕ) → IsArena a 0 → IsGroupSlots a s → is_live_list s.lists l ≡ true → InOrder a.payloads (slots_on a 0 l) → s.order.in_time ≡ true → IsRising a.payloads (slots_on a 0 l)
list_rises a s l arena group live order in_time = record {
  rising = λ i x y at on.
      by x y (order_from a.payloads (slots_on a 0 l) i x y order at on) (has_at (slots_on a 0 l) i x at) (has_drop (slots_on a 0 l) i y on) (slice_get a.payloads x) (slice_get a.payloads y) refl refl;
}
  where
    here : (x : ℕ) (t : Ticket) → has x (slots_on a 0 l) ≡ true → slice_get a.payloads x ≡ Some t → ticket_at a s.lists x ≡ Some t
    here x t on e = ap (λ c. if c then slice_get a.payloads x else None) (on_live_list a s.lists l x live on) ∙ e

    by : (x y : ℕ) → serial_in (slice_get a.payloads x) ≤ serial_in (slice_get a.payloads y) → has x (slots_on a 0 l) ≡ true → has y (slots_on a 0 l) ≡ true
        → (o q : Option Ticket) → slice_get a.payloads x ≡ o → slice_get a.payloads y ≡ q → submitted_in o ≤ submitted_in q
    by x y le on_x on_y None q e f = omega arith
    by x y le on_x on_y (Some t) None e f =
        let some = payload_some a.payloads y (arena.within l y on_y) in
        let z : false ≡ true = sym (ap is_some f) ∙ some in absurd cc
    by x y le on_x on_y (Some t) (Some u) e f =
        group.times.rising in_time x y t u (here x t on_x e) (here y u on_y f) (omega (arith, le, ap serial_in e, ap serial_in f))

-- the queue of a group
pub queue_rises : (a : Slots) (s : GroupSlots) → IsArena a 0 → IsGroupSlots a s → s.order.in_time ≡ true → IsRising a.payloads (slots_on a 0 s.lists.queued)
queue_rises a s arena group in_time = list_rises a s s.lists.queued arena group (live_for s.lists ticket.Queued) group.arranged.order in_time

both_first : (c d : Bool) → (c && d) ≡ true → c ≡ true
both_first true d e = refl
both_first false d e = e

both_second : (c d : Bool) → (c && d) ≡ true → d ≡ true
both_second true d e = e
both_second false d e = absurd cc

-- and the running tickets, where they are in turn
pub running_rises : (a : Slots) (s : GroupSlots) (rising : Bool) → IsArena a 0 → IsGroupSlots a s → rising ≡ (s.order.in_time && s.order.in_turn) → rising ≡ true → IsRising a.payloads (slots_on a 0 s.lists.running)
running_rises a s rising arena group is on =
    let both : (s.order.in_time && s.order.in_turn) ≡ true = sym is ∙ on in
    list_rises a s s.lists.running arena group (live_for s.lists ticket.Running) (group.turns.order (both_second s.order.in_time s.order.in_turn both)) (both_first s.order.in_time s.order.in_turn both)

-- ---- what is due

-- what was submitted later than a ticket that is too young is not due either
pub young_not_due : (due : DueRule) (t u : Ticket) → is_young_by due t ≡ true → t.submitted ≤ u.submitted → is_due_by due u ≡ false
young_not_due due t u young le = by (is_due_by due u) refl
  where
    by : (d : Bool) → is_due_by due u ≡ d → d ≡ false
    by false e = refl
    by true e =
        let four = all_four (is_of due.command u) due.timeout_on (is_open u) (nat_le due.timeout_ms (due.moment - u.submitted)) e in
        let long : due.timeout_ms ≤ due.moment - u.submitted = leb-true due.timeout_ms (due.moment - u.submitted) four.3 in
        let short : due.moment - t.submitted < due.timeout_ms = ltb-true (due.moment - t.submitted) due.timeout_ms young in
        absurd (omega (arith, long, short, le))

-- so none from there on is due
pub none_from : (due : DueRule) (ps : List Ticket) (xs : List ℕ) (i x : ℕ) (t : Ticket) → slice_get xs i ≡ Some x → IsRising ps xs → Some t ≡ slice_get ps x → is_young_by due t ≡ true → any_at (is_due_by due) ps (drop i xs) ≡ false
none_from due ps xs i x t at rising is young = by (any_at (is_due_by due) ps (drop i xs)) refl
  where
    never : (y : ℕ) → has y (drop i xs) ≡ true → (o : Option Ticket) → slice_get ps y ≡ o → has_one (is_due_by due) o ≡ true → ⊥
    never y on None e f = cc
    never y on (Some u) e f =
        let le : t.submitted ≤ u.submitted = omega (arith, rising.rising i x y at on, ap submitted_in is, ap submitted_in e) in
        let z : false ≡ true = sym (young_not_due due t u young le) ∙ f in cc

    by : (d : Bool) → any_at (is_due_by due) ps (drop i xs) ≡ d → d ≡ false
    by false e = refl
    by true e =
        let r = any_slot (λ y. has_one (is_due_by due) (slice_get ps y)) (drop i xs) e in
        absurd (never r.0 r.1 (slice_get ps r.0) refl r.2)

-- ---- a walk that ends early

module _ (a : Slots) (s : GroupSlots) (due : DueRule) (n : ℕ) (b : Slots) (r : GroupSlots) (xs : List ℕ) (i x : ℕ) (t : Ticket) (at : slice_get xs i ≡ Some x) (rising : IsRising a.payloads xs)
    (timed : IsTimedFrom (take i xs) a s due n b r) (here : ticket_at b r.lists x ≡ Some t) (young : is_young_by due t ≡ true) where
  -- none that lies ahead was submitted before
  rest_later : (y : ℕ) (u : Ticket) → has y (drop i xs) ≡ true → ticket_at a s.lists y ≡ Some u → t.submitted ≤ u.submitted
  rest_later y u on there = by (has x (take i xs)) (ticket_at a s.lists x) refl (sym (ap (λ (g : GroupLists). ticket_at b g x) (sym timed.swept.change.lists) ∙ here) ∙ timed.swept.tickets x)
    where
      from : (w : Ticket) → ticket_at a s.lists x ≡ Some w → w.submitted ≡ t.submitted → t.submitted ≤ u.submitted
      from w e k = omega (arith, k, rising.rising i x y at on, ap submitted_in (held_at a s.lists x w e).1, ap submitted_in (held_at a s.lists y u there).1)

      same : (w : Ticket) (d : Bool) → Some t ≡ Some (if d then with_timeout w else w) → w.submitted ≡ t.submitted
      same w true f = let k : t ≡ with_timeout w = cc in sym (ap (λ (z : Ticket). z.submitted) k)
      same w false f = let k : t ≡ w = cc in sym (ap (λ (z : Ticket). z.submitted) k)

      by : (d : Bool) (o : Option Ticket) → ticket_at a s.lists x ≡ o → Some t ≡ (if d then option_map (timed_out_by due) (ticket_at a s.lists x) else ticket_at a s.lists x) → t.submitted ≤ u.submitted
      by true None e f = let z : Some t ≡ None = f ∙ ap (option_map (timed_out_by due)) e in absurd cc
      by true (Some w) e f = from w e (same w (is_due_by due w) (f ∙ ap (option_map (timed_out_by due)) e))
      by false None e f = let z : Some t ≡ None = f ∙ e in absurd cc
      by false (Some w) e f = from w e (same w false (f ∙ e))

  has_parts : (y : ℕ) → has y xs ≡ (has y (take i xs) || has y (drop i xs))
  has_parts y = ap (has y) (sym (take-append-drop i xs)) ∙ has_append y (take i xs) (drop i xs)

  -- the walk that ends there has seen all that are due
  pub timed_early : IsTimedFrom xs a s due n b r
  timed_early = record {
    swept = record {
      change = timed.swept.change;
      next = timed.swept.next;
      tickets = λ y. timed.swept.tickets y ∙ by y (ticket_at a s.lists y) refl (has y (take i xs)) (has y (drop i xs)) refl ∙ sym (ap (λ d. if d then option_map (timed_out_by due) (ticket_at a s.lists y) else ticket_at a s.lists y) (has_parts y));
    };
    count = timed.count;
  }
    where
      by : (y : ℕ) (o : Option Ticket) → ticket_at a s.lists y ≡ o → (d e : Bool) → has y (drop i xs) ≡ e → (if d then option_map (timed_out_by due) o else o) ≡ (if (d || e) then option_map (timed_out_by due) o else o)
      by y o is true e on = refl
      by y o is false false on = refl
      by y None is false true on = refl
      by y (Some u) is false true on = sym (ap (λ d. Some (if d then with_timeout u else u)) (young_not_due due t u young (rest_later y u on is)))

  -- and the earliest submit of the command's tickets that are not
  pub since_early : (before mid : ℕ) → IsSinceFrom (take i xs) a s due before mid → IsSinceFrom xs a s due before (min mid t.submitted)
  since_early before mid since = record {
    earlier = omega (arith, since.earlier);
    own = λ y u on is k off. by y u is k off (has y (take i xs)) refl (sym (has_parts y) ∙ on);
  }
    where
      by : (y : ℕ) (u : Ticket) → ticket_at a s.lists y ≡ Some u → u.command ≡ due.command → is_due_by due u ≡ false → (d : Bool) → has y (take i xs) ≡ d → (has y (take i xs) || has y (drop i xs)) ≡ true → min mid t.submitted ≤ u.submitted
      by y u is k off true e f = omega (arith, since.own y u e is k off)
      by y u is k off false e f = omega (arith, rest_later y u (ap (λ d. d || has y (drop i xs)) (sym e) ∙ f) is)
