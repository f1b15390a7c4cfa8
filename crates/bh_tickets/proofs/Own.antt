-- What a change of one slot does to its group's tickets.
use Rattle.std.proofs.Common.{◌≡◌, ℕ, ◌+◌, ◌<◌, ◌⊎◌, inl, inr, Bool, true, false, [], ◌∷◌, ◌++◌, map, length, Option, Some, None, refl, ◌∙◌, sym, ap, subst, arith}
use Rattle.std.specs.Prelude.{◌||◌, ◌==◌, eqb, if◌then◌else◌}
use Rattle.std.specs.Option.{option_map}
use Rattle.std.proofs.lemmas.Bool.{cases_eq, eq-eqb, ne_eqb}
use Rattle.std.proofs.lemmas.Bool.Decides.{nat_tests}
use Rattle.bh_base.specs.declared.ticket.Ticket.{Ticket}
use Rattle.bh_base.specs.declared.ticket.TicketState.{TicketState}
use Rattle.bh_base.specs.declared.ticket.TicketState.TheVariants as ticket
use Rattle.bh_cache.specs.declared.lists.GroupLists.{GroupLists}
use Rattle.bh_cache.specs.Listed.{listed, now_is}
use Rattle.bh_slot_arena.specs.Slots.{slots_on}
use Rattle.bh_cache.specs.Slots.{Slots, is_on, is_live_list, ticket_at, tickets_of, list_for, InOrder}
use Rattle.bh_tickets.specs.GroupSlots.{IsNumbered, IsArranged}
use Rattle.bh_cache.proofs.Listed.{Rising, rising, listed_map, listed_added}
use Rattle.bh_tickets.proofs.Touched.{IsTouched, on_other, on_slot, at_other, at_slot}

second : (a b c : Bool) → b ≡ true → (a || (b || c)) ≡ true
second true b c e = refl
second false b c e = ap (λ d. d || c) e

third : (a b c : Bool) → c ≡ true → (a || (b || c)) ≡ true
third true b c e = refl
third false true c e = refl
third false false c e = e

-- the list for a state has tickets
pub live_for : (g : GroupLists) (s : TicketState) → is_live_list g (list_for g s) ≡ true
live_for g ticket.Queued = first (eqb g.queued g.queued) (eq-eqb g.queued g.queued refl)
  where
    first : (b : Bool) → b ≡ true → (b || (eqb g.running g.queued || eqb g.settled g.queued)) ≡ true
    first b e = ap (λ c. c || (eqb g.running g.queued || eqb g.settled g.queued)) e
live_for g ticket.Running = second (eqb g.queued g.running) (eqb g.running g.running) (eqb g.settled g.running) (eq-eqb g.running g.running refl)
live_for g (ticket.NeedsFallback c) = third (eqb g.queued g.settled) (eqb g.running g.settled) (eqb g.settled g.settled) (eq-eqb g.settled g.settled refl)
live_for g (ticket.InFallback c) = third (eqb g.queued g.settled) (eqb g.running g.settled) (eqb g.settled g.settled) (eq-eqb g.settled g.settled refl)
live_for g (ticket.Answered c) = third (eqb g.queued g.settled) (eqb g.running g.settled) (eqb g.settled g.settled) (eq-eqb g.settled g.settled refl)

-- the list of free slots is none of the lists with tickets
pub not_live_free : (g : GroupLists) → IsNumbered g → is_live_list g g.free ≡ false
not_live_free g n = by (ne_eqb g.queued g.free (λ e. absurd (omega (arith, e, n.queued)))) (ne_eqb g.running g.free (λ e. absurd (omega (arith, e, n.running)))) (ne_eqb g.settled g.free (λ e. absurd (omega (arith, e, n.settled))))
  where
    by : {a b c : Bool} → a ≡ false → b ≡ false → c ≡ false → (a || (b || c)) ≡ false
    by p q r = λ i. p i || (q i || r i)

-- the tickets are in the slots
module _ (a : Slots) (g : GroupLists) (s : ℕ) (arranged : IsArranged a g s) where
  -- the serials of the group's tickets rise
  pub tickets_rising : Rising (tickets_of a g)
  tickets_rising = rising (ticket_at a g) (length a.payloads) arranged.distinct

-- ---- one ticket changes
module _ (a b : Slots) (g : GroupLists) (x s : ℕ) (t v : Ticket) (arranged : IsArranged a g s) (was : ticket_at a g x ≡ Some t) (serial : v.serial ≡ t.serial)
    (touched : IsTouched a b x (list_for g v.state) v) where
  now_at : ticket_at b g x ≡ Some v
  now_at = at_slot a b x (list_for g v.state) v touched g ∙ ap (λ c. if c then Some v else None) (live_for g v.state)

  is_now : (u : Ticket) → ticket_at b g x ≡ Some u → u ≡ v
  is_now u e = let k : Some u ≡ Some v = sym e ∙ now_at in cc

  before : (y : ℕ) (u : Ticket) → ticket_at b g y ≡ Some u → (w : Ticket) × (ticket_at a g y ≡ Some w) × (w.serial ≡ u.serial)
  before y u e = elim (cases_eq y x) [
    | inl q ↦ (t, ap (ticket_at a g) q ∙ was, sym serial ∙ ap (λ (w : Ticket). w.serial) (sym (is_now u (ap (ticket_at b g) (sym q) ∙ e))))
    | inr ne ↦ (u, sym (at_other a b x (list_for g v.state) v touched g y ne) ∙ e, refl)
  ]

  -- the tickets are arranged after the change too, where the queue is in order
  pub changed_arranged : InOrder b.payloads (slots_on b 0 g.queued) → IsArranged b g s
  changed_arranged order = record {
    distinct = λ y z u w p q e. let h = before y u p in let k = before z w q in arranged.distinct y z h.0 k.0 h.1 k.1 (h.2 ∙ e ∙ sym k.2);
    below = λ y u p. let h = before y u p in subst (λ n. n < s) h.2 (arranged.below y h.0 h.1);
    placed = λ y u p. elim (cases_eq y x) [
      | inl q ↦
          let k : u ≡ v = is_now u (ap (ticket_at b g) (sym q) ∙ p) in
          ap (is_on b 0 (list_for g u.state)) q ∙ on_slot a b x (list_for g v.state) v touched (list_for g u.state) ∙ eq-eqb (list_for g u.state) (list_for g v.state) (ap (λ (w : Ticket). list_for g w.state) k)
      | inr ne ↦ on_other a b x (list_for g v.state) v touched (list_for g u.state) y ne ∙ arranged.placed y u (sym (at_other a b x (list_for g v.state) v touched g y ne) ∙ p)
    ];
    order = order;
  }

  keeps : (u : Ticket) → (now_is v u).serial ≡ u.serial
  keeps u = by (u.serial == v.serial) refl
    where
      by : (c : Bool) → (u.serial == v.serial) ≡ c → (if c then v else u).serial ≡ u.serial
      by true e = grind (arith, nat_tests)
      by false e = refl

  mapped : (y : ℕ) → ticket_at b g y ≡ option_map (now_is v) (ticket_at a g y)
  mapped y = elim (cases_eq y x) [
    | inl q ↦ ap (ticket_at b g) q ∙ now_at ∙ sym (ap (λ z. option_map (now_is v) (ticket_at a g z)) q ∙ ap (option_map (now_is v)) was ∙ ap (λ c. Some (if c then v else t)) same)
    | inr ne ↦ at_other a b x (list_for g v.state) v touched g y ne ∙ other (ticket_at a g y) refl ne
  ]
    where
      same : (t.serial == v.serial) ≡ true
      same = grind (arith, nat_tests, serial)

      other : (o : Option Ticket) → ticket_at a g y ≡ o → (y ≡ x → ⊥) → o ≡ option_map (now_is v) o
      other None e ne = refl
      other (Some u) e ne =
          let differ : (u.serial ≡ v.serial) → ⊥ = λ k. ne (arranged.distinct y x u t e was (k ∙ serial)) in
          let c : (u.serial == v.serial) ≡ false = grind (arith, nat_tests, differ) in
          sym (ap (λ d. Some (if d then v else u)) c)

  -- the group's tickets are those from before, but for the one of the serial, which is the new one
  pub changed_tickets : tickets_of b g ≡ map (now_is v) (tickets_of a g)
  changed_tickets = ap (listed (ticket_at b g)) touched.slots ∙ listed_map (now_is v) (ticket_at a g) (ticket_at b g) (length a.payloads) keeps mapped

-- ---- one ticket comes
module _ (a b : Slots) (g : GroupLists) (x s : ℕ) (v : Ticket) (arranged : IsArranged a g s) (within : x < length a.payloads) (was : ticket_at a g x ≡ None) (serial : v.serial ≡ s)
    (touched : IsTouched a b x (list_for g v.state) v) where
  come_at : ticket_at b g x ≡ Some v
  come_at = at_slot a b x (list_for g v.state) v touched g ∙ ap (λ c. if c then Some v else None) (live_for g v.state)

  -- each ticket is the new one, or was there
  since : (y : ℕ) (u : Ticket) → ticket_at b g y ≡ Some u → ((y ≡ x) × (u ≡ v)) ⊎ ((y ≡ x → ⊥) × (ticket_at a g y ≡ Some u))
  since y u e = elim (cases_eq y x) [
    | inl q ↦ let k : Some u ≡ Some v = sym e ∙ ap (ticket_at b g) q ∙ come_at in let m : u ≡ v = cc in inl (q, m)
    | inr ne ↦ inr (ne, sym (at_other a b x (list_for g v.state) v touched g y ne) ∙ e)
  ]

  fresh : (y z : ℕ) (u w : Ticket) → ((y ≡ x) × (u ≡ v)) ⊎ ((y ≡ x → ⊥) × (ticket_at a g y ≡ Some u)) → ((z ≡ x) × (w ≡ v)) ⊎ ((z ≡ x → ⊥) × (ticket_at a g z ≡ Some w)) → u.serial ≡ w.serial → y ≡ z
  fresh y z u w (inl p) (inl q) e = p.0 ∙ sym q.0
  fresh y z u w (inl p) (inr q) e = let lt : w.serial < s = arranged.below z w q.1 in let k : u.serial ≡ v.serial = ap (λ (r : Ticket). r.serial) p.1 in absurd (omega (arith, lt, k, e, serial))
  fresh y z u w (inr p) (inl q) e = let lt : u.serial < s = arranged.below y u p.1 in let k : w.serial ≡ v.serial = ap (λ (r : Ticket). r.serial) q.1 in absurd (omega (arith, lt, k, e, serial))
  fresh y z u w (inr p) (inr q) e = arranged.distinct y z u w p.1 q.1 e

  -- the tickets are arranged with the new one too, where the queue is in order
  pub come_arranged : InOrder b.payloads (slots_on b 0 g.queued) → IsArranged b g (s + 1)
  come_arranged order = record {
    distinct = λ y z u w p q e. fresh y z u w (since y u p) (since z w q) e;
    below = λ y u p. elim (since y u p) [
      | inl k ↦ let e : u.serial ≡ v.serial = ap (λ (r : Ticket). r.serial) k.1 in omega (arith, e, serial)
      | inr k ↦ let lt : u.serial < s = arranged.below y u k.1 in omega (arith, lt)
    ];
    placed = λ y u p. elim (since y u p) [
      | inl k ↦ ap (is_on b 0 (list_for g u.state)) k.0 ∙ on_slot a b x (list_for g v.state) v touched (list_for g u.state) ∙ eq-eqb (list_for g u.state) (list_for g v.state) (ap (λ (w : Ticket). list_for g w.state) k.1)
      | inr k ↦ on_other a b x (list_for g v.state) v touched (list_for g u.state) y k.0 ∙ arranged.placed y u k.1
    ];
    order = order;
  }

  -- the group's tickets are those from before, and the new one after them
  pub come_tickets : tickets_of b g ≡ tickets_of a g ++ v ∷ []
  come_tickets = ap (listed (ticket_at b g)) touched.slots ∙ listed_added (ticket_at a g) (ticket_at b g) (length a.payloads) x v within was come_at (λ y ne. at_other a b x (list_for g v.state) v touched g y ne)
      (λ y u e. let lt : u.serial < s = arranged.below y u e in omega (arith, lt, serial))

-- ---- one ticket goes
module _ (a b : Slots) (g : GroupLists) (x s : ℕ) (t v : Ticket) (arranged : IsArranged a g s) (numbered : IsNumbered g) (was : ticket_at a g x ≡ Some t) (touched : IsTouched a b x g.free v) where
  gone_at : ticket_at b g x ≡ None
  gone_at = at_slot a b x g.free v touched g ∙ ap (λ c. if c then Some v else None) (not_live_free g numbered)

  still : (y : ℕ) (u : Ticket) → ticket_at b g y ≡ Some u → (y ≡ x → ⊥) × (ticket_at a g y ≡ Some u)
  still y u e = elim (cases_eq y x) [
    | inl q ↦ let k : None ≡ Some u = sym gone_at ∙ ap (ticket_at b g) (sym q) ∙ e in absurd cc
    | inr ne ↦ (ne, sym (at_other a b x g.free v touched g y ne) ∙ e)
  ]

  -- the tickets are arranged without the one that went too, where the queue is in order
  pub gone_arranged : InOrder b.payloads (slots_on b 0 g.queued) → IsArranged b g s
  gone_arranged order = record {
    distinct = λ y z u w p q e. arranged.distinct y z u w (still y u p).1 (still z w q).1 e;
    below = λ y u p. arranged.below y u (still y u p).1;
    placed = λ y u p. let k = still y u p in on_other a b x g.free v touched (list_for g u.state) y k.0 ∙ arranged.placed y u k.1;
    order = order;
  }
