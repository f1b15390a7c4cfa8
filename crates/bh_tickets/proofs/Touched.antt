-- One slot gets another ticket, or goes to another list.
use Rattle.std.proofs.Common.{◌≡◌, ℕ, ◌<◌, inl, inr, Bool, true, false, not, cond, List, [], ◌∷◌, ◌++◌, length, Some, None, refl, ◌∙◌, sym, ap, subst, arith, length-set}
use Rattle.std.specs.Prelude.{◌||◌, eqb, slice_get, if◌then◌else◌}
use Rattle.std.proofs.lemmas.Bool.{cases_eq, eq-eqb, ne_eqb}
use Rattle.std.proofs.lemmas.Bool.Decides.{nat_tests}
use Rattle.bh_base.specs.declared.ticket.Ticket.{Ticket}
use Rattle.bh_index_lists.specs.Lists.{without}
use Rattle.bh_slot_arena.specs.Lists.{moved}
use Rattle.bh_cache.specs.declared.lists.GroupLists.{GroupLists}
use Rattle.bh_slot_arena.specs.Slots.{bounds_of, lists_in, slots_on, with_payload, with_moved}
use Rattle.bh_cache.proofs.Moves.{has_without, list_not_to, list_to, lists_count, on_moved, without_absent}
use Rattle.bh_cache.proofs.Members.{get_set, has_append}
use Rattle.bh_cache.specs.Slots.{Slots, has, is_on, is_live_list, is_owned, ticket_at, Once, IsArena, IsOwn, IsFrame}

-- ---- no slot comes twice

-- where no slot comes twice, none does without one of them
pub once_without : (x : ℕ) (xs : List ℕ) → Once xs → Once (without x xs)
once_without x [] h = tt
once_without x (y ∷ ys) h = by (eqb y x) (once_without x ys h.1)
  where
    out : has y (without x ys) ≡ false
    out = has_without y x ys ∙ ap (λ b. if eqb y x then false else b) h.0 ∙ none (eqb y x)
      where
        none : (b : Bool) → (if b then false else false) ≡ false
        none true = refl
        none false = refl

    by : (b : Bool) → Once (without x ys) → Once (cond (not b) (y ∷ without x ys) (without x ys))
    by true r = r
    by false r = (out, r)

-- where no slot comes twice, none does with one at the end that was not there
pub once_append : (x : ℕ) (xs : List ℕ) → has x xs ≡ false → Once xs → Once (xs ++ x ∷ [])
once_append x [] out h = (refl, tt)
once_append x (y ∷ ys) out h = (has_append y ys (x ∷ []) ∙ ap (λ b. b || (eqb x y || false)) h.0 ∙ apart, once_append x ys (rest (eqb y x) (has x ys) out) h.1)
  where
    rest : (b c : Bool) → (b || c) ≡ false → c ≡ false
    rest true c e = absurd cc
    rest false c e = e

    apart : (eqb x y || false) ≡ false
    apart = grind (arith, nat_tests, out)

-- the slot x has the ticket v now, and lies on the list `to`
pub record IsTouched (a b : Slots) (x to : ℕ) (v : Ticket) : Type 0 where
  pub slots : length b.payloads ≡ length a.payloads
  pub wide : 0 < length b.families
  pub bounds : bounds_of b ≡ bounds_of a
  pub count : length (lists_in b 0) ≡ length (lists_in a 0)
  pub payload : (y : ℕ) → slice_get b.payloads y ≡ (if eqb y x then Some v else slice_get a.payloads y)
  pub on : (l y : ℕ) → is_on b 0 l y ≡ (if eqb y x then eqb l to else is_on a 0 l y)
  pub left : (l : ℕ) → (l ≡ to → ⊥) → slots_on b 0 l ≡ without x (slots_on a 0 l)
  pub once : ((l : ℕ) → Once (slots_on a 0 l)) → (l : ℕ) → Once (slots_on b 0 l)

once_moved : (a : Slots) (x to l : ℕ) → 0 < length a.families → to < length (lists_in a 0) → ((m : ℕ) → Once (slots_on a 0 m)) → Once (slots_on (with_moved 0 x to a) 0 l)
once_moved a x to l wide there once = elim (cases_eq l to) [
  | inl e ↦ subst (λ k. Once (slots_on (with_moved 0 x to a) 0 k)) (sym e) (subst Once (sym (list_to a 0 x to wide there)) (once_append x (without x (slots_on a 0 to)) (has_without x x (slots_on a 0 to) ∙ ap (λ b. if b then false else has x (slots_on a 0 to)) (eq-eqb x x refl)) (once_without x (slots_on a 0 to) (once to))))
  | inr ne ↦ subst Once (sym (list_not_to a 0 x to wide l ne)) (once_without x (slots_on a 0 l) (once l))
]

-- written and moved
pub touched_both : (a : Slots) (x to : ℕ) (v : Ticket) → IsArena a 0 → x < length a.payloads → to < length (lists_in a 0) → IsTouched a (with_moved 0 x to (with_payload x v a)) x to v
touched_both a x to v arena within there = record {
  slots = length-set a.payloads x v;
  wide = omega (arith, arena.wide, length-set a.families 0 (moved x to (lists_in a 0)));
  bounds = refl;
  count = lists_count a 0 x to arena.wide;
  payload = λ y. get_set a.payloads x y v within;
  on = λ l y. on_moved a 0 x to arena.wide there l y;
  left = λ l ne. list_not_to a 0 x to arena.wide l ne;
  once = λ once l. once_moved a x to l arena.wide there once;
}

itself : (xs : List Ticket) (x y : ℕ) (v : Ticket) → slice_get xs x ≡ Some v → slice_get xs y ≡ (if eqb y x then Some v else slice_get xs y)
itself xs x y v is = elim (cases_eq y x) [
  | inl e ↦ ap (slice_get xs) e ∙ is ∙ sym (ap (λ b. if b then Some v else slice_get xs y) (eq-eqb y x e))
  | inr ne ↦ sym (ap (λ b. if b then Some v else slice_get xs y) (ne_eqb y x ne))
]

-- moved as it is
pub touched_moved : (a : Slots) (x to : ℕ) (v : Ticket) → IsArena a 0 → slice_get a.payloads x ≡ Some v → to < length (lists_in a 0) → IsTouched a (with_moved 0 x to a) x to v
touched_moved a x to v arena is there = record {
  slots = refl;
  wide = omega (arith, arena.wide, length-set a.families 0 (moved x to (lists_in a 0)));
  bounds = refl;
  count = lists_count a 0 x to arena.wide;
  payload = λ y. itself a.payloads x y v is;
  on = λ l y. on_moved a 0 x to arena.wide there l y;
  left = λ l ne. list_not_to a 0 x to arena.wide l ne;
  once = λ once l. once_moved a x to l arena.wide there once;
}

-- a slot that is on a list is on no other
pub not_on : (a : Slots) (l m x : ℕ) → IsArena a 0 → is_on a 0 l x ≡ true → (m ≡ l → ⊥) → is_on a 0 m x ≡ false
not_on a l m x arena on ne = by (is_on a 0 m x) refl
  where
    by : (b : Bool) → is_on a 0 m x ≡ b → b ≡ false
    by true e = absurd (ne (arena.apart m l x e on))
    by false e = refl

-- written alone, on its list
pub touched_set : (a : Slots) (x to : ℕ) (v : Ticket) → IsArena a 0 → is_on a 0 to x ≡ true → IsTouched a (with_payload x v a) x to v
touched_set a x to v arena on = record {
  slots = length-set a.payloads x v;
  wide = arena.wide;
  bounds = refl;
  count = refl;
  payload = λ y. get_set a.payloads x y v (arena.within to x on);
  on = λ l y. elim (cases_eq y x) [
    | inl e ↦ elim (cases_eq l to) [
      | inl q ↦ ap (is_on a 0 l) e ∙ ap (λ k. is_on a 0 k x) q ∙ on ∙ sym (eq-eqb l to q) ∙ sym (ap (λ b. if b then eqb l to else is_on a 0 l y) (eq-eqb y x e))
      | inr ne ↦ ap (is_on a 0 l) e ∙ not_on a to l x arena on ne ∙ sym (ne_eqb l to ne) ∙ sym (ap (λ b. if b then eqb l to else is_on a 0 l y) (eq-eqb y x e))
    ]
    | inr ne ↦ sym (ap (λ b. if b then eqb l to else is_on a 0 l y) (ne_eqb y x ne))
  ];
  left = λ l ne. sym (without_absent x (slots_on a 0 l) (not_on a to l x arena on ne));
  once = λ once l. once l;
}

-- ---- what is seen of it

module _ (a b : Slots) (x to : ℕ) (v : Ticket) (touched : IsTouched a b x to v) where
  -- each other slot is on the lists that it was on
  pub on_other : (l y : ℕ) → (y ≡ x → ⊥) → is_on b 0 l y ≡ is_on a 0 l y
  on_other l y ne = touched.on l y ∙ ap (λ c. if c then eqb l to else is_on a 0 l y) (ne_eqb y x ne)

  -- the slot is on the list to which it went, and on no other
  pub on_slot : (l : ℕ) → is_on b 0 l x ≡ eqb l to
  on_slot l = touched.on l x ∙ ap (λ c. if c then eqb l to else is_on a 0 l x) (eq-eqb x x refl)

  -- each other slot has the payload that it had
  pub payload_other : (y : ℕ) → (y ≡ x → ⊥) → slice_get b.payloads y ≡ slice_get a.payloads y
  payload_other y ne = touched.payload y ∙ ap (λ c. if c then Some v else slice_get a.payloads y) (ne_eqb y x ne)

  -- the slot's payload is the ticket
  pub payload_slot : slice_get b.payloads x ≡ Some v
  payload_slot = touched.payload x ∙ ap (λ c. if c then Some v else slice_get a.payloads x) (eq-eqb x x refl)

  -- in each other slot a group has the ticket that it had there
  pub at_other : (g : GroupLists) (y : ℕ) → (y ≡ x → ⊥) → ticket_at b g y ≡ ticket_at a g y
  at_other g y ne = λ i. if (on_other g.queued y ne i || (on_other g.running y ne i || on_other g.settled y ne i)) then payload_other y ne i else None

  -- a group has the ticket in the slot if the list is one of its lists with tickets, and else none there
  pub at_slot : (g : GroupLists) → ticket_at b g x ≡ (if is_live_list g to then Some v else None)
  at_slot g = λ i. if (on_slot g.queued i || (on_slot g.running i || on_slot g.settled i)) then payload_slot i else None

  -- each slot is still on one list at most, and there once
  pub touched_arena : IsArena a 0 → x < length a.payloads → IsArena b 0
  touched_arena arena within = record {
    wide = touched.wide;
    apart = λ l m y p q. elim (cases_eq y x) [
      | inl e ↦
          let r : eqb l to ≡ true = sym (on_slot l) ∙ ap (is_on b 0 l) (sym e) ∙ p in
          let s : eqb m to ≡ true = sym (on_slot m) ∙ ap (is_on b 0 m) (sym e) ∙ q in
          both l m r s
      | inr ne ↦ arena.apart l m y (sym (on_other l y ne) ∙ p) (sym (on_other m y ne) ∙ q)
    ];
    within = λ l y p. elim (cases_eq y x) [
      | inl e ↦ omega (arith, e, within, touched.slots)
      | inr ne ↦ let lt : y < length a.payloads = arena.within l y (sym (on_other l y ne) ∙ p) in omega (arith, lt, touched.slots)
    ];
    once = touched.once arena.once;
  }
    where
      both : (l m : ℕ) → eqb l to ≡ true → eqb m to ≡ true → l ≡ m
      both l m r s = grind (arith, nat_tests)

  -- where the slot was on a list of the group and went to one, the lists of other groups are as before
  pub touched_frame : (g : GroupLists) (from : ℕ) → IsArena a 0 → is_on a 0 from x ≡ true → IsOwn g from → IsOwn g to → IsFrame g a b
  touched_frame g from arena on own own_to = record {
    slots = touched.slots;
    count = touched.count;
    lists = λ l out. touched.left l (λ e. out (subst (IsOwn g) (sym e) own_to)) ∙ without_absent x (slots_on a 0 l) (not_on a from l x arena on (λ e. out (subst (IsOwn g) (sym e) own)));
    payloads = λ l y out there. payload_other y (λ e. out (subst (IsOwn g) (sym (arena.apart l from x (ap (is_on a 0 l) (sym e) ∙ there) on)) own));
  }

  -- the group has the slots that it had
  pub owned_same : (g : GroupLists) → is_owned a g x ≡ true → (eqb g.free to || is_live_list g to) ≡ true → (y : ℕ) → is_owned b g y ≡ is_owned a g y
  owned_same g own own_to y = elim (cases_eq y x) [
    | inl e ↦ ap (is_owned b g) e ∙ (λ i. on_slot g.free i || (on_slot g.queued i || (on_slot g.running i || on_slot g.settled i))) ∙ own_to ∙ sym own ∙ ap (is_owned a g) (sym e)
    | inr ne ↦ λ i. on_other g.free y ne i || (on_other g.queued y ne i || (on_other g.running y ne i || on_other g.settled y ne i))
  ]
