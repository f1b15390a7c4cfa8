-- Slots go from one group without tickets to another.
use Rattle.std.proofs.Common.{◌≡◌, ℕ, ◌+◌, ◌<◌, inl, inr, Bool, true, false, List, [], ◌∷◌, ◌++◌, length, get_or, Some, refl, ◌∙◌, sym, ap, subst, arith, length-append}
use Rattle.std.specs.Prelude.{◌||◌, ◌≢◌, eqb, slice_get, if◌then◌else◌}
use Rattle.std.proofs.lemmas.Bool.{cases_eq, eq-eqb, ne_eqb}
use Rattle.bh_base.specs.declared.ticket.Ticket.{Ticket}
use Rattle.bh_index_lists.specs.Lists.{without}
use Rattle.bh_slot_arena.specs.Slots.{lists_in, slots_on, with_moved, with_payload}
use Rattle.bh_cache.specs.declared.lists.GroupLists.{GroupLists}
use Rattle.bh_cache.specs.Chains.{unchained}
use Rattle.bh_cache.specs.Slots.{Slots, has, is_on, IsApart, IsArena, IsOwn, Once}
use Rattle.bh_cache.proofs.Along.{without_at}
use Rattle.bh_cache.proofs.Moves.{list_to, without_absent}
use Rattle.bh_cache.proofs.Order.{front_is, front_on}
use Rattle.bh_tickets.specs.Same.{IsSame, KeepsOwn}
use Rattle.bh_tickets.specs.Spare.{IsTaken, IsVacant, free_slots}
use Rattle.bh_tickets.proofs.Chained.{KeepsChains, moved_keeps}
use Rattle.bh_tickets.proofs.Shifted.{HasLists, IsGained, IsGainedFree, IsLost, own_free, vacant_gained, vacant_lost}
use Rattle.bh_tickets.proofs.Touched.{IsTouched, not_on, payload_other, touched_both}

-- ---- step after step

keeps_both : (f first end : ℕ) (a b c : Slots) → KeepsOwn f first end a b → KeepsOwn f first end b c → KeepsOwn f first end a c
keeps_both f first end a b c p q = record { count = omega (arith, p.count, q.count); lists = λ l ne from til. q.lists l ne from til ∙ p.lists l ne from til }

-- where the family stays, so do chains of it
keeps_all : (f first end : ℕ) (a b : Slots) → lists_in b f ≡ lists_in a f → KeepsOwn f first end a b
keeps_all f first end a b same = record {
  count = omega (arith, ap (λ (ls : List (List ℕ)). length ls) same);
  lists = λ l ne from til. ap (λ (ls : List (List ℕ)). get_or ls l []) same;
}

-- what stays of a group twice stays
pub same_both : (h : GroupLists) (a b c : Slots) → IsSame h a b → IsSame h b c → IsSame h a c
same_both h a b c p q = record {
  slots = omega (arith, p.slots, q.slots);
  count = omega (arith, p.count, q.count);
  lists = λ l own. q.lists l own ∙ p.lists l own;
  payloads = λ l x own on. q.payloads l x own (ap (has x) (p.lists l own) ∙ on) ∙ p.payloads l x own on;
  chains = record {
    names = keeps_both 1 h.names h.names_end a b c p.chains.names q.chains.names;
    contexts = keeps_both 2 h.contexts h.contexts_end a b c p.chains.contexts q.chains.contexts;
  };
  by_name = λ l x own on. q.by_name l x own (ap (has x) (p.lists l own) ∙ on) ∙ p.by_name l x own on;
  by_context = λ l x own on. q.by_context l x own (ap (has x) (p.lists l own) ∙ on) ∙ p.by_context l x own on;
}

-- where nothing changes, all stays of a group
pub same_refl : (h : GroupLists) (a : Slots) → IsSame h a a
same_refl h a = record {
  slots = omega arith;
  count = omega arith;
  lists = λ l own. refl;
  payloads = λ l x own on. refl;
  chains = record { names = keeps_all 1 h.names h.names_end a a refl; contexts = keeps_all 2 h.contexts h.contexts_end a a refl };
  by_name = λ l x own on. refl;
  by_context = λ l x own on. refl;
}

-- no slot has gone
pub taken_none : (g h : GroupLists) (a : Slots) → IsVacant a g → IsVacant a h → IsTaken 0 g h a a
taken_none g h a giver taker = record { giver = giver; taker = taker; left = omega arith; got = omega arith; same = λ k p q. same_refl k a; slots = refl; bounds = refl }

-- one slot more has gone
pub taken_more : (n : ℕ) (g h : GroupLists) (a b c : Slots) → IsTaken n g h a b → IsTaken 1 g h b c → IsTaken (n + 1) g h a c
taken_more n g h a b c p q = record {
  giver = q.giver;
  taker = q.taker;
  left = omega (arith, p.left, q.left);
  got = omega (arith, p.got, q.got);
  same = λ k f e. same_both k a b c (p.same k f e) (q.same k f e);
  slots = q.slots ∙ p.slots;
  bounds = q.bounds ∙ p.bounds;
}

-- ---- one slot

if_or : (b c : Bool) → (if b then true else c) ≡ (c || b)
if_or true true = refl
if_or true false = refl
if_or false true = refl
if_or false false = refl

if_same : (b c d : Bool) → c ≡ d → (if b then c else d) ≡ d
if_same true c d e = e
if_same false c d e = refl

off : (a : Slots) (f x l m : ℕ) → IsArena a f → is_on a f l x ≡ true → m ≢ l → is_on a f m x ≡ false
off a f x l m arena here ne = by (is_on a f m x) refl
  where
    by : (b : Bool) → is_on a f m x ≡ b → b ≡ false
    by true e = absurd (ne (arena.apart m l x e here))
    by false e = refl

module _ (a : Slots) (g h : GroupLists) (x : ℕ) (v : Ticket) (giver : IsVacant a g) (taker : IsVacant a h) (apart : IsApart g h) (first : IsArena a 0) (second : IsArena a 1) (third : IsArena a 2)
    (front : slice_get (slots_on a 0 g.free) 0 ≡ Some x) where
  abbrev written : Slots
  written = with_payload x v a

  abbrev now : Slots
  now = with_moved 0 x h.free written

  on : is_on a 0 g.free x ≡ true
  on = front_on x (slots_on a 0 g.free) front

  within : x < length a.payloads
  within = first.within g.free x on

  to_there : h.free < length (lists_in a 0)
  to_there = omega (arith, taker.there, taker.numbered.settled)

  touched : IsTouched a now x h.free v
  touched = touched_both a x h.free v first within to_there

  keeps : KeepsChains a now
  keeps = moved_keeps a x h.free v

  has_lists : HasLists a now
  has_lists = record { first = omega (arith, touched.count); second = omega (arith, ap (λ (ls : List (List ℕ)). length ls) keeps.names); third = omega (arith, ap (λ (ls : List (List ℕ)). length ls) keeps.contexts) }

  -- ---- the group that gives

  own_h : IsOwn h h.free
  own_h = own_free h taker.numbered

  lost : IsLost g x a now
  lost = record { on = λ l y own. touched.on l y ∙ ap (λ c. if eqb y x then c else is_on a 0 l y) (ne_eqb l h.free (λ e. apart.apart l own (subst (IsOwn h) (sym e) own_h))) }

  giver_now : IsVacant now g
  giver_now = vacant_lost x a now g giver second third has_lists on lost keeps.names keeps.contexts

  -- ---- the group that takes

  -- the slot lies already where slots without a cached ticket do
  gained_in : (f first end : ℕ) → lists_in now f ≡ lists_in a f → is_on a f unchained x ≡ true → IsGained f first end (λ y. eqb y x) a now
  gained_in f first end same there = record {
    on = λ y e. still unchained y ∙ elim (cases_eq y x) [
      | inl q ↦ subst (λ z. is_on a f unchained z ≡ true) (sym q) there
      | inr ne ↦ by (is_on a f unchained y) (eqb y x) (ne_eqb y x ne) e
    ];
    kept = λ l y low high e. sym (still l y) ∙ e;
  }
    where
      still : (l y : ℕ) → is_on now f l y ≡ is_on a f l y
      still l y = ap (λ (ls : List (List ℕ)). has y (get_or ls l [])) same

      by : (b c : Bool) → c ≡ false → (b || c) ≡ true → b ≡ true
      by true c e h = refl
      by false c e h = absurd (no (sym e ∙ h))
        where
          no : false ≡ true → ⊥
          no k = cc

  gained_free : IsGainedFree (λ y. eqb y x) h a now
  gained_free = record {
    on = λ y. touched.on h.free y ∙ ap (λ c. if eqb y x then c else is_on a 0 h.free y) (eq-eqb h.free h.free refl) ∙ if_or (eqb y x) (is_on a 0 h.free y);
    kept = λ l y own ne e. by (eqb y x) (is_on a 0 l y) (sym (touched.on l y ∙ ap (λ c. if eqb y x then c else is_on a 0 l y) (ne_eqb l h.free ne)) ∙ e);
  }
    where
      by : (b c : Bool) → (if b then false else c) ≡ true → c ≡ true
      by true c e = absurd cc
      by false c e = e

  taker_now : IsVacant now h
  taker_now = vacant_gained (λ y. eqb y x) a now h taker has_lists gained_free (gained_in 1 h.names h.names_end keeps.names (giver.names.placed x on)) (gained_in 2 h.contexts h.contexts_end keeps.contexts (giver.contexts.placed x on))

  -- ---- how many

  not_free : g.free ≢ h.free
  not_free e = apart.apart g.free (own_free g giver.numbered) (subst (IsOwn h) (sym e) own_h)

  left_now : free_slots now g + 1 ≡ free_slots a g
  left_now =
      let r = front_is x (slots_on a 0 g.free) front in
      let once : Once (x ∷ r.0) = subst Once r.1 (first.once g.free) in
      let cut : slots_on now 0 g.free ≡ r.0 = touched.left g.free not_free ∙ ap (without x) r.1 ∙ without_at x [] r.0 once in
      omega (arith, ap (λ (xs : List ℕ). length xs) cut, ap (λ (xs : List ℕ). length xs) r.1)

  got_now : free_slots now h ≡ free_slots a h + 1
  got_now =
      let put : slots_on now 0 h.free ≡ without x (slots_on a 0 h.free) ++ x ∷ [] = list_to written 0 x h.free first.wide to_there in
      let same : without x (slots_on a 0 h.free) ≡ slots_on a 0 h.free = without_absent x (slots_on a 0 h.free) (not_on a g.free h.free x first on (λ e. not_free (sym e))) in
      omega (arith, ap (λ (xs : List ℕ). length xs) put, ap (λ (xs : List ℕ). length xs) same, length-append (without x (slots_on a 0 h.free)) (x ∷ []))

  -- ---- other groups

  module _ (k : GroupLists) (from_giver : IsApart g k) (from_taker : IsApart h k) where
    same_now : IsSame k a now
    same_now = record {
      slots = omega (arith, touched.slots);
      count = omega (arith, touched.count);
      lists = λ l own. touched.left l (λ e. from_taker.apart l (subst (IsOwn h) (sym e) own_h) own)
          ∙ without_absent x (slots_on a 0 l) (off a 0 x g.free l first on (λ e. from_giver.apart l (subst (IsOwn g) (sym e) (own_free g giver.numbered)) own));
      payloads = λ l y own here. payload_other a now x h.free v touched y (λ e. from_giver.apart l (subst (IsOwn g) (first.apart g.free l y (subst (λ z. is_on a 0 g.free z ≡ true) (sym e) on) here) (own_free g giver.numbered)) own);
      chains = record { names = keeps_all 1 k.names k.names_end a now keeps.names; contexts = keeps_all 2 k.contexts k.contexts_end a now keeps.contexts };
      by_name = λ l y own here. ap (λ (ls : List (List ℕ)). has y (get_or ls unchained [])) keeps.names;
      by_context = λ l y own here. ap (λ (ls : List (List ℕ)). has y (get_or ls unchained [])) keeps.contexts;
    }

  -- the first free slot of the one group has gone to the other
  pub taken_one : IsTaken 1 g h a now
  taken_one = record { giver = giver_now; taker = taker_now; left = left_now; got = got_now; same = same_now; slots = touched.slots; bounds = touched.bounds }
