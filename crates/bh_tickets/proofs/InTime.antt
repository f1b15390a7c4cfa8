-- Tickets of later serials were not submitted earlier.
use Rattle.std.proofs.Common.{◌≡◌, ℕ, ◌<◌, ◌≤◌, inl, inr, Bool, true, false, Some, refl, ◌∙◌, sym, ap, arith}
use Rattle.std.specs.Prelude.{◌&&◌, max, nat_le}
use Rattle.std.proofs.lemmas.Bool.{cases_eq, leb-true}
use Rattle.bh_base.specs.declared.ticket.Ticket.{Ticket}
use Rattle.bh_cache.specs.declared.lists.GroupLists.{GroupLists}
use Rattle.bh_cache.specs.Slots.{Slots, ticket_at}
use Rattle.bh_tickets.specs.GroupSlots.{AreInTime}

-- a ticket of this serial and this submit was there
pub record Had (a : Slots) (g : GroupLists) (u : Ticket) : Type 0 where
  pub slot : ℕ
  pub was : Ticket
  pub here : ticket_at a g slot ≡ Some was
  pub serial : was.serial ≡ u.serial
  pub submitted : was.submitted ≡ u.submitted

-- the same ticket was there
pub had : (a : Slots) (g : GroupLists) (x : ℕ) (u : Ticket) → ticket_at a g x ≡ Some u → Had a g u
had a g x u here = record { slot = x; was = u; here = here; serial = refl; submitted = refl }

-- where each ticket was there, they are in time as before
pub times_kept : (a b : Slots) (g : GroupLists) (latest : ℕ) (in_time : Bool) → ((x : ℕ) (u : Ticket) → ticket_at b g x ≡ Some u → Had a g u) → AreInTime a g latest in_time → AreInTime b g latest in_time
times_kept a b g latest in_time from times = record {
  before = λ x t p. let h = from x t p in omega (arith, h.submitted, times.before h.slot h.was h.here);
  rising = λ on x y t u p q le.
      let h = from x t p in
      let k = from y u q in
      omega (arith, h.submitted, k.submitted, times.rising on h.slot k.slot h.was k.was h.here k.here (omega (arith, h.serial, k.serial, le)));
}

-- and where one came that is of a later serial than each that was there
pub times_more : (a b : Slots) (g : GroupLists) (x : ℕ) (v : Ticket) (latest : ℕ) (in_time : Bool) → ((y : ℕ) → (y ≡ x → ⊥) → ticket_at b g y ≡ ticket_at a g y) → ticket_at b g x ≡ Some v
    → ((y : ℕ) (u : Ticket) → ticket_at a g y ≡ Some u → u.serial < v.serial) → AreInTime a g latest in_time → AreInTime b g (max latest v.submitted) (in_time && nat_le latest v.submitted)
times_more a b g x v latest in_time same here below times = record {
  before = λ y t p. elim (cases_eq y x) [
    | inl e ↦ omega (arith, ap (λ (u : Ticket). u.submitted) (is_new y t e p))
    | inr ne ↦ omega (arith, times.before y t (sym (same y ne) ∙ p))
  ];
  rising = λ on y z t u p q le.
      let late : latest ≤ v.submitted = leb-true latest v.submitted (second in_time (nat_le latest v.submitted) on) in
      elim (cases_eq y x) [
        | inl e ↦ elim (cases_eq z x) [
          | inl f ↦ omega (arith, ap (λ (w : Ticket). w.submitted) (is_new y t e p), ap (λ (w : Ticket). w.submitted) (is_new z u f q))
          | inr nf ↦ absurd (omega (arith, le, ap (λ (w : Ticket). w.serial) (is_new y t e p), below z u (sym (same z nf) ∙ q)))
        ]
        | inr ne ↦ elim (cases_eq z x) [
          | inl f ↦ omega (arith, late, times.before y t (sym (same y ne) ∙ p), ap (λ (w : Ticket). w.submitted) (is_new z u f q))
          | inr nf ↦ times.rising (first in_time (nat_le latest v.submitted) on) y z t u (sym (same y ne) ∙ p) (sym (same z nf) ∙ q) le
        ]
      ];
}
  where
    is_new : (y : ℕ) (t : Ticket) → y ≡ x → ticket_at b g y ≡ Some t → t ≡ v
    is_new y t e p = let k : Some t ≡ Some v = sym p ∙ ap (ticket_at b g) e ∙ here in cc

    first : (c d : Bool) → (c && d) ≡ true → c ≡ true
    first true d e = refl
    first false d e = e

    second : (c d : Bool) → (c && d) ≡ true → d ≡ true
    second true d e = e
    second false d e = absurd cc
