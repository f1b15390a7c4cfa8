-- A ticket goes that nobody needs.
use Rattle.std.proofs.Common.{◌≡◌, ℕ, ◌+◌, ◌-◌, ◌<◌, ◌≤◌, inl, inr, Bool, true, false, length, Option, Some, None, refl, ◌∙◌, sym, ap, subst, arith}
use Rattle.std.specs.Prelude.{◌||◌, eqb, slice_get, is_some, if◌then◌else◌}
use Rattle.std.proofs.lemmas.Bool.{cases_eq, eq-eqb, ne_eqb}
use Rattle.std.proofs.lemmas.List.{length-set}
use Rattle.bh_base.specs.declared.ticket.Ticket.{Ticket}
use Rattle.bh_base.specs.Tickets.{is_queued, is_kept}
use Rattle.bh_index_lists.specs.Lists.{without}
use Rattle.bh_tickets.specs.declared.group_slots.GroupSlots.{GroupSlots}
use Rattle.bh_cache.specs.declared.notes.Noted.TheVariants as noted
use Rattle.bh_cache.specs.Notes.{is_noted}
use Rattle.bh_slot_arena.specs.Slots.{slots_on, with_moved}
use Rattle.bh_cache.specs.Slots.{Slots, is_on, is_live, is_live_list, is_owned, ticket_at, list_for, InOrder, count_below, has_one, one, IsArena}
use Rattle.bh_tickets.specs.GroupSlots.{IsGroupSlots, IsGroupChange, IsReleasedAt, if_kept, count_at, counted_out, is_any}
use Rattle.bh_tickets.specs.declared.counts.CommandCounts.{CommandCounts}
use Rattle.bh_tickets.specs.Counts.{all_less, is_open, open_since}
use Rattle.bh_tickets.proofs.ByCommand.{counts_less}
use Rattle.bh_tickets.proofs.InTime.{Had, had, times_kept}
use Rattle.bh_tickets.proofs.InTurn.{turns_less}
use Rattle.bh_tickets.proofs.Since.{since_less}
use Rattle.bh_cache.proofs.Order.{order_without, count_same}
use Rattle.bh_cache.proofs.Counts.{count_point}
use Rattle.bh_tickets.proofs.Touched.{IsTouched, touched_moved, at_other, at_slot, touched_arena, touched_frame, owned_same}
use Rattle.bh_tickets.proofs.Own.{gone_arranged, not_live_free}
use Rattle.bh_tickets.proofs.Others.{own_for, frame_refl}
use Rattle.bh_tickets.proofs.Puts.{held_at, within_slots}
use Rattle.bh_tickets.proofs.Chained.{chains_placed, freed_keeps, payloads_placed, touched_placed}
use Rattle.bh_cache.proofs.Placed.{alike_same, alike_sym, alike_trans, frame_refl as chain_frame_refl, unnamed_alike}
use Rattle.bh_cache.specs.Chains.{IsChainFrame, IsChained, is_named, with_placed_where}

-- what is there is read
pub there_at : (a : Slots) (s : GroupSlots) (x : ℕ) (t : Ticket) → is_some (ticket_at a s.lists x) ≡ true → Some t ≡ slice_get a.payloads x → ticket_at a s.lists x ≡ Some t
there_at a s x t some is = by (is_live a s.lists x) some
  where
    by : (b : Bool) → is_some (if b then slice_get a.payloads x else None) ≡ true → (if b then slice_get a.payloads x else None) ≡ Some t
    by true e = sym is
    by false e = absurd cc

-- a slot that has a ticket of the group is below the number of slots
pub there_within : (a : Slots) (s : GroupSlots) (x : ℕ) → is_some (ticket_at a s.lists x) ≡ true → x < length a.payloads
there_within a s x some = by (ticket_at a s.lists x) refl some
  where
    by : (o : Option Ticket) → ticket_at a s.lists x ≡ o → is_some o ≡ true → x < length a.payloads
    by None e f = absurd cc
    by (Some t) e f = within_slots a s.lists x t e

-- where nothing has changed, that is a change of the group too
pub change_none : (a : Slots) (s : GroupSlots) → IsArena a 0 → IsGroupSlots a s → IsGroupChange a s a s
change_none a s arena group = record { arena = arena; group = group; frame = frame_refl s.lists a; chains = chain_frame_refl s.lists a; bounds = refl; lists = refl; room = refl; unmade = refl }

-- a ticket that somebody needs stays
pub stays_at : (a : Slots) (s : GroupSlots) (x : ℕ) (t : Ticket) → IsArena a 0 → IsGroupSlots a s → ticket_at a s.lists x ≡ Some t → is_kept t ≡ true → IsReleasedAt a s x a s
stays_at a s x t arena group here keeps = record {
  change = change_none a s arena group;
  next = refl;
  needless = refl;
  tickets = λ y. elim (cases_eq y x) [
    | inl q ↦ ap (ticket_at a s.lists) q ∙ here ∙ sym (ap (λ c. if c then if_kept (ticket_at a s.lists y) else ticket_at a s.lists y) (eq-eqb y x q) ∙ ap (λ z. if_kept (ticket_at a s.lists z)) q ∙ ap if_kept here ∙ ap (λ c. if c then Some t else None) keeps)
    | inr ne ↦ sym (ap (λ c. if c then if_kept (ticket_at a s.lists y) else ticket_at a s.lists y) (ne_eqb y x ne))
  ];
  walk = λ l ne. sym (ap (λ c. if c then slots_on a 0 l else without x (slots_on a 0 l)) (ap (has_one is_kept) here ∙ keeps));
}

or_second : (b c : Bool) → c ≡ true → (b || c) ≡ true
or_second true c e = refl
or_second false c e = e

or_first : (b c : Bool) → b ≡ true → (b || c) ≡ true
or_first b c e = ap (λ d. d || c) e

module _ (a b : Slots) (s : GroupSlots) (x : ℕ) (t : Ticket) (arena : IsArena a 0) (group : IsGroupSlots a s) (many : s.needless ≡ noted.Many) (here : ticket_at a s.lists x ≡ Some t) (drops : is_kept t ≡ false)
    (names : IsArena a 1) (contexts : IsArena a 2) (is : b ≡ with_placed_where (is_named (Some t)) s.lists x None (with_moved 0 x s.lists.free a)) where
  payload : slice_get a.payloads x ≡ Some t
  payload = (held_at a s.lists x t here).1

  within : x < length a.payloads
  within = within_slots a s.lists x t here

  before : IsTouched a (with_moved 0 x s.lists.free a) x s.lists.free t
  before = touched_moved a x s.lists.free t arena payload (omega (arith, group.there, group.numbered.settled))

  touched : IsTouched a b x s.lists.free t
  touched = subst (λ (z : Slots). IsTouched a z x s.lists.free t) (sym is) (touched_placed (is_named (Some t)) a (with_moved 0 x s.lists.free a) x s.lists.free t s.lists None before)

  owned_slot : is_owned a s.lists x ≡ true
  owned_slot = or_second (is_on a 0 s.lists.free x) (is_live a s.lists x) (held_at a s.lists x t here).0

  owned_list : (eqb s.lists.free s.lists.free || is_live_list s.lists s.lists.free) ≡ true
  owned_list = or_first (eqb s.lists.free s.lists.free) (is_live_list s.lists s.lists.free) (eq-eqb s.lists.free s.lists.free refl)

  chains : IsChained b s.lists × IsChainFrame s.lists a b
  chains = chains_placed (is_named (Some t)) a (with_moved 0 x s.lists.free a) b s.lists x s.lists.free t None before (freed_keeps a x s.lists.free) names contexts group.chained owned_slot owned_list
      (sym (ap (λ c. if c then Some t else None) (not_live_free s.lists group.numbered)))
      (λ off. alike_sym s.lists (ticket_at a s.lists x) None (alike_trans s.lists (ticket_at a s.lists x) (Some t) None (alike_same s.lists (ticket_at a s.lists x) (Some t) here) (unnamed_alike s.lists (Some t) off))) is

  gone : ticket_at b s.lists x ≡ None
  gone = at_slot a b x s.lists.free t touched s.lists ∙ ap (λ c. if c then Some t else None) (not_live_free s.lists group.numbered)

  else_same : (y : ℕ) → (y ≡ x → ⊥) → ticket_at b s.lists y ≡ ticket_at a s.lists y
  else_same y ne = at_other a b x s.lists.free t touched s.lists y ne

  filtered : (y : ℕ) → ticket_at b s.lists y ≡ (if eqb y x then if_kept (ticket_at a s.lists y) else ticket_at a s.lists y)
  filtered y = elim (cases_eq y x) [
    | inl q ↦ ap (ticket_at b s.lists) q ∙ gone ∙ sym (ap (λ c. if c then if_kept (ticket_at a s.lists y) else ticket_at a s.lists y) (eq-eqb y x q) ∙ ap (λ z. if_kept (ticket_at a s.lists z)) q ∙ ap if_kept here ∙ ap (λ c. if c then Some t else None) drops)
    | inr ne ↦ else_same y ne ∙ sym (ap (λ c. if c then if_kept (ticket_at a s.lists y) else ticket_at a s.lists y) (ne_eqb y x ne))
  ]

  same_payload : b.payloads ≡ a.payloads
  same_payload = ap (λ (z : Slots). z.payloads) is ∙ payloads_placed (is_named (Some t)) s.lists x None (with_moved 0 x s.lists.free a)

  order : InOrder b.payloads (slots_on b 0 s.lists.queued)
  order = subst (InOrder b.payloads) (sym (touched.left s.lists.queued (λ e. absurd (omega (arith, e, group.numbered.queued)))))
      (subst (λ ps. InOrder ps (without x (slots_on a 0 s.lists.queued))) (sym same_payload) (order_without a.payloads x (slots_on a 0 s.lists.queued) group.arranged.order))

  recount : (q : Ticket → Bool) → count_at b s.lists q + one (q t) ≡ count_at a s.lists q
  recount q =
      let k : one (has_one q (ticket_at a s.lists x)) ≡ one (q t) = ap (λ o. one (has_one q o)) here in
      let l : one (has_one q (ticket_at b s.lists x)) ≡ 0 = ap (λ o. one (has_one q o)) gone in
      let m : count_at b s.lists q ≡ count_below (length a.payloads) (λ y. has_one q (ticket_at b s.lists y)) = ap (λ n. count_below n (λ y. has_one q (ticket_at b s.lists y))) touched.slots in
      omega (arith, k, l, m, count_point (λ y. has_one q (ticket_at a s.lists y)) (λ y. has_one q (ticket_at b s.lists y)) (length a.payloads) x within (λ y ne. ap (has_one q) (else_same y ne)))

  known : (y : ℕ) (u : Ticket) → ticket_at b s.lists y ≡ Some u → u.command < 16
  known y u e = elim (cases_eq y x) [
    | inl q ↦ let f : None ≡ Some u = sym gone ∙ ap (ticket_at b s.lists) (sym q) ∙ e in absurd cc
    | inr ne ↦ group.known y u (sym (else_same y ne) ∙ e)
  ]

  since : (y : ℕ) (u : Ticket) → ticket_at b s.lists y ≡ Some u → is_open u ≡ true → open_since (all_less t s.commands) u.command ≤ u.submitted
  since y u e opens = elim (cases_eq y x) [
    | inl q ↦ let f : None ≡ Some u = sym gone ∙ ap (ticket_at b s.lists) (sym q) ∙ e in absurd cc
    | inr ne ↦
        let same = since_less s.commands t (omega (arith, group.commands, group.known x t here)) u.command in
        omega (arith, same, group.since y u (sym (else_same y ne) ∙ e) opens)
  ]

  was_there : (y : ℕ) (u : Ticket) → ticket_at b s.lists y ≡ Some u → Had a s.lists u
  was_there y u e = elim (cases_eq y x) [
    | inl q ↦ let f : None ≡ Some u = sym gone ∙ ap (ticket_at b s.lists) (sym q) ∙ e in absurd cc
    | inr ne ↦ had a s.lists y u (sym (else_same y ne) ∙ e)
  ]

  lies : is_on a 0 (list_for s.lists t.state) x ≡ true
  lies = group.arranged.placed x t here

  module _ (r : GroupSlots) (made : r ≡ record (counted_out t s) { slots = record s.slots { taken = s.slots.taken - 1 } }) where
    whole : IsGroupSlots b (record (counted_out t s) { slots = record s.slots { taken = s.slots.taken - 1 } })
    whole = record {
      numbered = group.numbered;
      there = omega (arith, group.there, touched.count);
      chained = chains.0;
      arranged = gone_arranged a b s.lists x s.next t t group.arranged group.numbered here touched order;
      slots = ap (λ n. n + s.unmade) (ap (λ n. count_below n (is_owned b s.lists)) touched.slots
          ∙ count_same (is_owned b s.lists) (is_owned a s.lists) (length a.payloads) (owned_same a b x s.lists.free t touched s.lists owned_slot owned_list))
          ∙ group.slots;
      few = group.few;
      taken = omega (arith, group.taken, recount is_any);
      queued = omega (arith, group.queued, recount is_queued);
      commands = omega (arith, group.commands, length-set {A = CommandCounts});
      counts = counts_less (count_at a s.lists) (count_at b s.lists) t s.commands group.commands (group.known x t here) group.counts recount;
      known = known;
      since = since;
      turns = turns_less a b s.lists x s.order.last_started s.order.in_turn (touched.left s.lists.running (λ e. absurd (omega (arith, e, group.numbered.running)))) (λ y ne. ap (λ ps. slice_get ps y) same_payload) group.turns;
      times = times_kept a b s.lists s.order.latest s.order.in_time was_there group.times;
      needed = λ y u e k. ap (λ n. is_noted n y) many;
    }

    -- a ticket that nobody needs is gone once its slot is put on the list of free slots
    pub gone_from : IsReleasedAt a s x b r
    gone_from = record {
      change = record {
        arena = touched_arena a b x s.lists.free t touched arena within;
        group = subst (IsGroupSlots b) (sym made) whole;
        frame = touched_frame a b x s.lists.free t touched s.lists (list_for s.lists t.state) arena lies (own_for s.lists group.numbered t.state) (record { from = omega arith; to = omega (arith, group.numbered.settled) });
        chains = chains.1;
        bounds = touched.bounds;
        lists = ap (λ (z : GroupSlots). z.lists) made;
        room = ap (λ (z : GroupSlots). z.slots.max) made;
        unmade = ap (λ (z : GroupSlots). z.unmade) made;
      };
      next = ap (λ (z : GroupSlots). z.next) made;
      needless = ap (λ (z : GroupSlots). z.needless) made;
      tickets = filtered;
      walk = λ l ne. touched.left l ne ∙ sym (ap (λ c. if c then slots_on a 0 l else without x (slots_on a 0 l)) (ap (has_one is_kept) here ∙ drops));
    }
