-- Running tickets lie in the order of their serials.
use Rattle.std.proofs.Common.{◌≡◌, ℕ, ◌<◌, ◌≤◌, inl, inr, Bool, true, false, List, [], ◌∷◌, ◌++◌, length, refl, ◌∙◌, sym, ap, subst, arith}
use Rattle.std.specs.Prelude.{◌||◌, ◌&&◌, ◌≢◌, eqb, max, nat_eq, nat_lt, slice_get, if◌then◌else◌}
use Rattle.std.proofs.lemmas.Bool.{cases_eq, eq-eqb, eqb-true, ltb-true, ne_eqb}
use Rattle.std.proofs.lemmas.List.{nil_from_length}
use Rattle.bh_index_lists.specs.Lists.{without}
use Rattle.bh_slot_arena.specs.Slots.{slots_on}
use Rattle.bh_cache.specs.declared.lists.GroupLists.{GroupLists}
use Rattle.bh_cache.specs.Slots.{Slots, has, is_on, serial_in, InOrder}
use Rattle.bh_cache.proofs.Moves.{has_without}
use Rattle.bh_cache.proofs.Order.{order_append, order_same, order_without}
use Rattle.bh_cache.proofs.Members.{has_append}
use Rattle.bh_tickets.specs.declared.group_slots.GroupSlots.{GroupSlots}
use Rattle.bh_tickets.specs.GroupSlots.{AreInTurn, with_start}

-- what is noted of the running tickets where one of the serial goes from a list to another
pub record IsTurned (a : Slots) (s : GroupSlots) (serial from to last : ℕ) (in_turn : Bool) : Type 0 where
  pub alone : Bool
  pub none : alone ≡ true → slots_on a 0 s.lists.running ≡ []
  pub stays : from ≡ to → (last ≡ s.order.last_started) × (in_turn ≡ s.order.in_turn)
  pub other : to ≢ s.lists.running → (last ≡ s.order.last_started) × (in_turn ≡ s.order.in_turn)
  pub starts : from ≢ to → to ≡ s.lists.running → (last ≡ (if alone then serial else max s.order.last_started serial)) × (in_turn ≡ (alone || (s.order.in_turn && nat_lt s.order.last_started serial)))

-- as the code notes it
pub turned : (a : Slots) (s g u : GroupSlots) (serial from to size : ℕ) → g.lists ≡ s.lists → g.order.last_started ≡ s.order.last_started → g.order.in_turn ≡ s.order.in_turn → size ≡ length (slots_on a 0 g.lists.running)
    → (from ≡ to → u ≡ g) → (to ≢ g.lists.running → u ≡ g) → (from ≢ to → to ≡ g.lists.running → u ≡ with_start serial (nat_eq size 0) g) → IsTurned a s serial from to u.order.last_started u.order.in_turn
turned a s g u serial from to size lists last in_turn sized stays other starts = record {
  alone = nat_eq size 0;
  none = λ e. nil_from_length (slots_on a 0 s.lists.running) (sym (sized ∙ ap (λ (z : GroupLists). length (slots_on a 0 z.running)) lists) ∙ eqb-true size 0 e);
  stays = λ e. same (stays e);
  other = λ ne. same (other (λ e. ne (e ∙ ap (λ (z : GroupLists). z.running) lists)));
  starts = λ ne e.
      let is : u ≡ with_start serial (nat_eq size 0) g = starts ne (e ∙ sym (ap (λ (z : GroupLists). z.running) lists)) in (
        ap (λ (z : GroupSlots). z.order.last_started) is ∙ ap (λ n. if nat_eq size 0 then serial else max n serial) last,
        ap (λ (z : GroupSlots). z.order.in_turn) is ∙ (λ i. nat_eq size 0 || (in_turn i && nat_lt (last i) serial)),
      );
}
  where
    same : u ≡ g → (u.order.last_started ≡ s.order.last_started) × (u.order.in_turn ≡ s.order.in_turn)
    same is = (ap (λ (z : GroupSlots). z.order.last_started) is ∙ last, ap (λ (z : GroupSlots). z.order.in_turn) is ∙ in_turn)

-- a slot that is left on a list without another was on it, and is another
pub left_on : (x y : ℕ) (xs : List ℕ) → has y (without x xs) ≡ true → (y ≡ x → ⊥) × (has y xs ≡ true)
left_on x y xs on = elim (cases_eq y x) [
  | inl e ↦ let k : false ≡ true = sym (has_without y x xs ∙ ap (λ c. if c then false else has y xs) (eq-eqb y x e)) ∙ on in cc
  | inr ne ↦ (ne, sym (has_without y x xs ∙ ap (λ c. if c then false else has y xs) (ne_eqb y x ne)) ∙ on)
]

-- where the running tickets were running before, in the same order and with the same serials, they are in turn as before
pub turns_kept : (a b : Slots) (g : GroupLists) (last : ℕ) (in_turn : Bool) → ((y : ℕ) → is_on b 0 g.running y ≡ true → (is_on a 0 g.running y ≡ true) × (serial_in (slice_get b.payloads y) ≡ serial_in (slice_get a.payloads y)))
    → (InOrder a.payloads (slots_on a 0 g.running) → InOrder a.payloads (slots_on b 0 g.running)) → AreInTurn a g last in_turn → AreInTurn b g last in_turn
turns_kept a b g last in_turn from keeps turns = record {
  below = λ y on. let h = from y on in omega (arith, h.1, turns.below y h.0);
  order = λ on. order_same a.payloads b.payloads (slots_on b 0 g.running) (λ y i. (from y i).1) (keeps (turns.order on));
}

-- and so they are without the slot
pub turns_less : (a b : Slots) (g : GroupLists) (x last : ℕ) (in_turn : Bool) → slots_on b 0 g.running ≡ without x (slots_on a 0 g.running) → ((y : ℕ) → (y ≡ x → ⊥) → slice_get b.payloads y ≡ slice_get a.payloads y) → AreInTurn a g last in_turn → AreInTurn b g last in_turn
turns_less a b g x last in_turn is same turns = turns_kept a b g last in_turn
    (λ y on. let h = left_on x y (slots_on a 0 g.running) (sym (ap (has y) is) ∙ on) in (h.1, ap serial_in (same y h.0)))
    (λ order. subst (InOrder a.payloads) (sym is) (order_without a.payloads x (slots_on a 0 g.running) order)) turns

-- with the slot at the end, they are where the slot is alone there, or has a greater serial than each
pub turns_more : (a b : Slots) (g : GroupLists) (x n last : ℕ) (in_turn alone : Bool) → slots_on b 0 g.running ≡ without x (slots_on a 0 g.running) ++ x ∷ [] → ((y : ℕ) → (y ≡ x → ⊥) → slice_get b.payloads y ≡ slice_get a.payloads y)
    → serial_in (slice_get b.payloads x) ≡ n → (alone ≡ true → slots_on a 0 g.running ≡ []) → AreInTurn a g last in_turn → AreInTurn b g (if alone then n else max last n) (alone || (in_turn && nat_lt last n))
turns_more a b g x n last in_turn alone is same here none turns = by alone none
  where
    old : List ℕ
    old = slots_on a 0 g.running

    either : (y : ℕ) → is_on b 0 g.running y ≡ true → (has y (without x old) || has y (x ∷ [])) ≡ true
    either y on = sym (ap (has y) is ∙ has_append y (without x old) (x ∷ [])) ∙ on

    -- the only slot of a list
    only : (y : ℕ) → has y (x ∷ []) ≡ true → y ≡ x
    only y on = sym (eqb-true x y (or_none (eqb x y) on))
      where
        or_none : (c : Bool) → (c || false) ≡ true → c ≡ true
        or_none true e = refl
        or_none false e = e

    -- a running ticket was one before, or is the one in the slot
    below : (bound : ℕ) → n ≤ bound → ((y : ℕ) → has y old ≡ true → serial_in (slice_get a.payloads y) ≤ bound) → (y : ℕ) → is_on b 0 g.running y ≡ true → serial_in (slice_get b.payloads y) ≤ bound
    below bound le each y on = at (has y (without x old)) refl (either y on)
      where
        at : (d : Bool) → has y (without x old) ≡ d → (has y (without x old) || has y (x ∷ [])) ≡ true → serial_in (slice_get b.payloads y) ≤ bound
        at true e f = let h = left_on x y old e in omega (arith, ap serial_in (same y h.0), each y h.1)
        at false e f =
            let q : y ≡ x = only y (ap (λ d. d || has y (x ∷ [])) (sym e) ∙ f) in
            omega (arith, here, le, ap (λ z. serial_in (slice_get b.payloads z)) q)

    first : (c d : Bool) → (c && d) ≡ true → c ≡ true
    first true d e = refl
    first false d e = e

    second : (c d : Bool) → (c && d) ≡ true → d ≡ true
    second true d e = e
    second false d e = absurd cc

    nothing : (y : ℕ) → old ≡ [] → has y old ≡ true → serial_in (slice_get a.payloads y) ≤ n
    nothing y empty on = let z : false ≡ true = sym (ap (has y) empty) ∙ on in absurd cc

    by : (d : Bool) → (d ≡ true → old ≡ []) → AreInTurn b g (if d then n else max last n) (d || (in_turn && nat_lt last n))
    by true empty = record {
      below = below n (omega arith) (λ y on. nothing y (empty refl) on);
      order = λ on. subst (InOrder b.payloads) (sym (is ∙ ap (λ xs. without x xs ++ x ∷ []) (empty refl))) (tt, tt);
    }
    by false empty = record {
      below = below (max last n) (omega arith) (λ y on. omega (arith, turns.below y on));
      order = λ on.
          let less : last < n = ltb-true last n (second in_turn (nat_lt last n) on) in
          subst (InOrder b.payloads) (sym is)
          (order_append b.payloads x (without x old)
          (order_same a.payloads b.payloads (without x old) (λ y i. ap serial_in (same y (left_on x y old i).0)) (order_without a.payloads x old (turns.order (first in_turn (nat_lt last n) on))))
          (λ y i. let h = left_on x y old i in omega (arith, less, here, ap serial_in (same y h.0), turns.below y h.1)));
    }
