-- All slots of a group go to one without tickets.
use Rattle.std.proofs.Common.{◌≡◌, ℕ, zero, suc, ◌+◌, ◌-◌, ◌<◌, ◌≤◌, inl, inr, Bool, true, false, List, [], length, Option, refl, ◌∙◌, sym, ap, subst, arith}
use Rattle.std.specs.Prelude.{◌||◌, slice_get}
use Rattle.std.proofs.lemmas.Bool.{cases_eq}
use Rattle.bh_base.specs.declared.ticket.Ticket.{Ticket}
use Rattle.bh_slot_arena.specs.Slots.{slots_on}
use Rattle.bh_cache.specs.declared.lists.GroupLists.{GroupLists}
use Rattle.bh_cache.specs.Chains.{AreOn, list_by_context, list_by_name, unchained}
use Rattle.bh_cache.specs.Slots.{Slots, has, is_on, is_owned, ticket_at, count_below, one, IsApart, IsArena, IsOwn}
use Rattle.bh_cache.proofs.Order.{count_same}
use Rattle.bh_cache.proofs.Placed.{IsListOf, context_list_within, name_list_within}
use Rattle.bh_tickets.specs.declared.group_slots.GroupSlots.{GroupSlots}
use Rattle.bh_tickets.specs.GroupSlots.{IsGroupSlots}
use Rattle.bh_tickets.specs.Names.{AreApart}
use Rattle.bh_tickets.specs.Same.{IsSame, KeepsOwn}
use Rattle.bh_tickets.specs.Spare.{IsGathered, IsGiven, IsVacant, free_slots, on_run}
use Rattle.bh_tickets.proofs.Gathered.{IsEmptied, IsOnOne, emptied, on_run_in, on_run_out}
use Rattle.bh_tickets.proofs.Chained.{chains_there}
use Rattle.bh_tickets.proofs.Others.{not_owned}
use Rattle.bh_tickets.proofs.Shifted.{HasLists, IsGained, live_none, own_free, own_queued, own_running, own_settled, vacant_gained}
use Rattle.bh_tickets.proofs.Vacant.{count_list, none_free, not_true, or_false, or_true}

both_ways : (b c : Bool) → (b ≡ true → c ≡ true) → (c ≡ true → b ≡ true) → b ≡ c
both_ways true c f g = sym (f refl)
both_ways false true f g = g refl
both_ways false false f g = refl

-- of tests that no number passes both, as many numbers pass one of them as pass the first and the second
count_either : (p q : ℕ → Bool) (n : ℕ) → ((x : ℕ) → p x ≡ true → q x ≡ true → ⊥) → count_below n (λ x. p x || q x) ≡ count_below n p + count_below n q
count_either p q zero apart = refl
count_either p q (suc n) apart = omega (arith, count_either p q n apart, by (p n) (q n) (apart n))
  where
    by : (b c : Bool) → (b ≡ true → c ≡ true → ⊥) → one (b || c) ≡ one b + one c
    by true true out = absurd (out refl refl)
    by true false out = refl
    by false true out = refl
    by false false out = refl

first_of : (p q r s : Bool) → p ≡ true → (p || (q || (r || s))) ≡ true
first_of p q r s e = ap (λ z. z || (q || (r || s))) e

second_of : (p q r s : Bool) → q ≡ true → (p || (q || (r || s))) ≡ true
second_of p q r s e = ap (λ z. p || (z || (r || s))) e ∙ or_true p

third_of : (p q r s : Bool) → r ≡ true → (p || (q || (r || s))) ≡ true
third_of p q r s e = ap (λ z. p || (q || (z || s))) e ∙ ap (λ z. p || z) (or_true q) ∙ or_true p

fourth_of : (p q r s : Bool) → s ≡ true → (p || (q || (r || s))) ≡ true
fourth_of p q r s e = ap (λ z. p || (q || (r || z))) e ∙ ap (λ z. p || (q || z)) (or_true r) ∙ ap (λ z. p || z) (or_true q) ∙ or_true p

module _ (a : Slots) (s : GroupSlots) (group : IsGroupSlots a s) where
  -- the group's slots are those on its lists of the first family
  run_first : (x : ℕ) → on_run a 0 s.lists.free 4 x ≡ is_owned a s.lists x
  run_first x = both_ways (on_run a 0 s.lists.free 4 x) (is_owned a s.lists x) (λ e. owned (on_run_out a 0 s.lists.free 4 x e))
      (λ e. by (is_on a 0 s.lists.free x) (is_on a 0 s.lists.queued x) (is_on a 0 s.lists.running x) (is_on a 0 s.lists.settled x) refl refl refl refl e)
    where
      owned : IsOnOne a 0 s.lists.free 4 x → is_owned a s.lists x ≡ true
      owned r = elim (cases_eq r.list s.lists.free) [
        | inl e ↦ first_of (is_on a 0 s.lists.free x) (is_on a 0 s.lists.queued x) (is_on a 0 s.lists.running x) (is_on a 0 s.lists.settled x) (ap (λ l. is_on a 0 l x) (sym e) ∙ r.on)
        | inr p ↦ elim (cases_eq r.list s.lists.queued) [
          | inl e ↦ second_of (is_on a 0 s.lists.free x) (is_on a 0 s.lists.queued x) (is_on a 0 s.lists.running x) (is_on a 0 s.lists.settled x) (ap (λ l. is_on a 0 l x) (sym e) ∙ r.on)
          | inr q ↦ elim (cases_eq r.list s.lists.running) [
            | inl e ↦ third_of (is_on a 0 s.lists.free x) (is_on a 0 s.lists.queued x) (is_on a 0 s.lists.running x) (is_on a 0 s.lists.settled x) (ap (λ l. is_on a 0 l x) (sym e) ∙ r.on)
            | inr t ↦
                let e : r.list ≡ s.lists.settled = omega (arith, r.from, r.to, p, q, t, group.numbered.queued, group.numbered.running, group.numbered.settled) in
                fourth_of (is_on a 0 s.lists.free x) (is_on a 0 s.lists.queued x) (is_on a 0 s.lists.running x) (is_on a 0 s.lists.settled x) (ap (λ l. is_on a 0 l x) (sym e) ∙ r.on)
          ]
        ]
      ]

      by : (p q r t : Bool) → is_on a 0 s.lists.free x ≡ p → is_on a 0 s.lists.queued x ≡ q → is_on a 0 s.lists.running x ≡ r → is_on a 0 s.lists.settled x ≡ t → (p || (q || (r || t))) ≡ true → on_run a 0 s.lists.free 4 x ≡ true
      by true q r t i j k l e = on_run_in a 0 s.lists.free 4 s.lists.free x (omega arith) (omega arith) i
      by false true r t i j k l e = on_run_in a 0 s.lists.free 4 s.lists.queued x (omega (arith, group.numbered.queued)) (omega (arith, group.numbered.queued)) j
      by false false true t i j k l e = on_run_in a 0 s.lists.free 4 s.lists.running x (omega (arith, group.numbered.running)) (omega (arith, group.numbered.running)) k
      by false false false true i j k l e = on_run_in a 0 s.lists.free 4 s.lists.settled x (omega (arith, group.numbered.settled)) (omega (arith, group.numbered.settled)) l
      by false false false false i j k l e = absurd cc

-- ---- the chains of one family

module _ (f first end : ℕ) (le : first ≤ end) where
  -- what lies on the group's chains are slots of the group
  run_owned : (to : Option Ticket → ℕ) (a : Slots) (g : GroupLists) → AreOn f first end to a g → (x : ℕ) → on_run a f first (end - first) x ≡ true → is_owned a g x ≡ true
  run_owned to a g are x e = let r = on_run_out a f first (end - first) x e in are.owned r.list x r.from (omega (arith, r.to, le)) r.on

  module _ (a b : Slots) (emptied : IsEmptied f first (end - first) unchained a b) where
    -- the group's slots have come to the list for slots without a cached ticket, and none to the chains of the group that takes
    gained : (to : Option Ticket → ℕ) (g : GroupLists) (from til : ℕ) → AreOn f first end to a g → ((o : Option Ticket) → IsListOf first end (to o)) → unchained < from → AreApart first end from til → IsGained f from til (is_owned a g) a b
    gained to g from til are within behind apart = record {
      on = λ x e. emptied.on x ∙ by x (is_on a f unchained x) (is_owned a g x) refl refl e;
      kept = λ l x low high e. sym (ap (has x) (emptied.kept l (λ p q. apart l (p, omega (arith, q, le)) (low, high)) (λ q. absurd (omega (arith, behind, low, q))))) ∙ e;
    }
      where
        lies : (x : ℕ) → is_owned a g x ≡ true → (l : ℕ) → IsListOf first end l → is_on a f l x ≡ true → (is_on a f unchained x || on_run a f first (end - first) x) ≡ true
        lies x own l (inl e) on = ap (λ z. z || on_run a f first (end - first) x) (ap (λ k. is_on a f k x) (sym e) ∙ on)
        lies x own l (inr k) on = ap (λ z. is_on a f unchained x || z) (on_run_in a f first (end - first) l x k.0 (omega (arith, k.1, le)) on) ∙ or_true (is_on a f unchained x)

        by : (x : ℕ) (p q : Bool) → is_on a f unchained x ≡ p → is_owned a g x ≡ q → (p || q) ≡ true → (is_on a f unchained x || on_run a f first (end - first) x) ≡ true
        by x true q i j e = ap (λ z. z || on_run a f first (end - first) x) i
        by x false true i j e = lies x j (to (ticket_at a g x)) (within (ticket_at a g x)) (are.placed x j)
        by x false false i j e = absurd cc

    gone : (l : ℕ) → first ≤ l → l < end → slots_on b f l ≡ []
    gone l low high = emptied.gone l low (omega (arith, high, le))

    -- what lies on chains beside those of the group lies there still
    kept : (low high : ℕ) → AreApart first end low high → KeepsOwn f low high a b
    kept low high p = record {
      count = omega (arith, emptied.lists);
      lists = λ l ne i j. emptied.kept l (λ m n. p l (m, omega (arith, n, le)) (i, j)) ne;
    }

    -- and a slot that is not the group's lies on the list for slots without a cached ticket just where it did
    others : (to : Option Ticket → ℕ) (g : GroupLists) → AreOn f first end to a g → (x : ℕ) → is_owned a g x ≡ false → is_on b f unchained x ≡ is_on a f unchained x
    others to g are x out = emptied.on x ∙ ap (λ z. is_on a f unchained x || z) (off (on_run a f first (end - first) x) refl) ∙ or_false (is_on a f unchained x)
      where
        off : (c : Bool) → on_run a f first (end - first) x ≡ c → c ≡ false
        off false e = refl
        off true e = absurd (not_true out (run_owned to a g are x e))

module _ (a c d b : Slots) (s : GroupSlots) (to : GroupLists) (group : IsGroupSlots a s) (vacant : IsVacant a to) (apart : IsApart s.lists to) (arena : IsArena a 0) (after : IsArena b 0)
    (one_ : IsGathered 0 s.lists.free 4 to.free a c) (two : IsGathered 1 s.lists.names (s.lists.names_end - s.lists.names) unchained c d) (three : IsGathered 2 s.lists.contexts (s.lists.contexts_end - s.lists.contexts) unchained d b) where
  first : IsEmptied 0 s.lists.free 4 to.free a b
  first = emptied 0 s.lists.free 4 to.free a a c b refl one_ (three.others 0 (λ e. absurd (omega (arith, e))) ∙ two.others 0 (λ e. absurd (omega (arith, e))))

  second : IsEmptied 1 s.lists.names (s.lists.names_end - s.lists.names) unchained a b
  second = emptied 1 s.lists.names (s.lists.names_end - s.lists.names) unchained a c d b (one_.others 1 (λ e. absurd (omega (arith, e)))) two (three.others 1 (λ e. absurd (omega (arith, e))))

  third : IsEmptied 2 s.lists.contexts (s.lists.contexts_end - s.lists.contexts) unchained a b
  third = emptied 2 s.lists.contexts (s.lists.contexts_end - s.lists.contexts) unchained a d b b (two.others 2 (λ e. absurd (omega (arith, e))) ∙ one_.others 2 (λ e. absurd (omega (arith, e)))) three refl

  named : s.lists.names ≤ s.lists.names_end
  named = omega (arith, group.chained.lists.names_some)

  inside : s.lists.contexts ≤ s.lists.contexts_end
  inside = omega (arith, group.chained.lists.contexts_some)

  payloads : b.payloads ≡ a.payloads
  payloads = three.payloads ∙ two.payloads ∙ one_.payloads

  size : length b.payloads ≡ length a.payloads
  size = ap (λ (ps : List Ticket). length ps) payloads

  there : HasLists a b
  there = record { first = omega (arith, first.lists); second = omega (arith, second.lists); third = omega (arith, third.lists) }

  own : (l : ℕ) → s.lists.free ≤ l → l < s.lists.free + 4 → IsOwn s.lists l
  own l low high = record { from = low; to = omega (arith, high, group.numbered.settled) }

  -- ---- the group that takes

  taker_now : IsVacant b to
  taker_now = vacant_gained (is_owned a s.lists) a b to vacant there
      (record {
        on = λ x. first.on x ∙ ap (λ z. is_on a 0 to.free x || z) (run_first a s group x);
        kept = λ l x mine ne e. sym (ap (has x) (first.kept l (λ low high. apart.apart l (own l low high) mine) ne)) ∙ e;
      })
      (gained 1 s.lists.names s.lists.names_end named a b second (list_by_name s.lists) s.lists to.names to.names_end group.chained.names (λ o. name_list_within a s.lists group.chained.lists o) vacant.chains.names_behind apart.names)
      (gained 2 s.lists.contexts s.lists.contexts_end inside a b third (list_by_context s.lists) s.lists to.contexts to.contexts_end group.chained.contexts (λ o. context_list_within a s.lists group.chained.lists o) vacant.chains.contexts_behind apart.contexts)

  -- ---- the group that gives

  empty_first : (l x : ℕ) → IsOwn s.lists l → is_on b 0 l x ≡ false
  empty_first l x mine = ap (has x) (first.gone l mine.from (omega (arith, mine.to, group.numbered.settled)))

  no_free : slots_on b 0 s.lists.free ≡ []
  no_free = first.gone s.lists.free (omega arith) (omega arith)

  giver_now : IsVacant b s.lists
  giver_now = record {
    numbered = group.numbered;
    there = omega (arith, group.there, there.first);
    chains = chains_there a b s.lists there.second there.third group.chained.lists;
    live = λ x. live_none b s.lists x
        (not_true (empty_first s.lists.queued x (own_queued s.lists group.numbered)))
        (not_true (empty_first s.lists.running x (own_running s.lists group.numbered)))
        (not_true (empty_first s.lists.settled x (own_settled s.lists group.numbered)));
    names = none_free 1 s.lists.names s.lists.names_end b s.lists no_free (gone 1 s.lists.names s.lists.names_end named a b second);
    contexts = none_free 2 s.lists.contexts s.lists.contexts_end b s.lists no_free (gone 2 s.lists.contexts s.lists.contexts_end inside a b third);
  }

  none_left : free_slots b s.lists ≡ 0
  none_left = ap (λ (xs : List ℕ). length xs) no_free

  -- ---- how many

  disjoint : (x : ℕ) → is_on a 0 to.free x ≡ true → is_owned a s.lists x ≡ true → ⊥
  disjoint x on mine =
      let r = on_run_out a 0 s.lists.free 4 x (run_first a s group x ∙ mine) in
      apart.apart to.free (subst (IsOwn s.lists) (sym (arena.apart to.free r.list x on r.on)) (own r.list r.from r.to)) (own_free to vacant.numbered)

  got_now : free_slots b to + s.unmade ≡ free_slots a to + s.slots.max
  got_now =
      let n : ℕ = length a.payloads in
      let now : count_below n (λ x. has x (slots_on b 0 to.free)) ≡ free_slots b to = count_list n (slots_on b 0 to.free) (after.once to.free) (λ x on. let lt : x < length b.payloads = after.within to.free x on in omega (arith, lt, size)) in
      let was : count_below n (λ x. has x (slots_on a 0 to.free)) ≡ free_slots a to = count_list n (slots_on a 0 to.free) (arena.once to.free) (λ x on. arena.within to.free x on) in
      let both : count_below n (λ x. has x (slots_on b 0 to.free)) ≡ count_below n (λ x. is_on a 0 to.free x || is_owned a s.lists x) = count_same (λ x. has x (slots_on b 0 to.free)) (λ x. is_on a 0 to.free x || is_owned a s.lists x) n (λ x. first.on x ∙ ap (λ z. is_on a 0 to.free x || z) (run_first a s group x)) in
      omega (arith, now, was, both, count_either (λ x. is_on a 0 to.free x) (is_owned a s.lists) n disjoint, group.slots)

  -- ---- other groups

  same_now : (h : GroupLists) → IsApart s.lists h → IsApart to h → IsSame h a b
  same_now h p q = record {
    slots = omega (arith, size);
    count = omega (arith, first.lists);
    lists = λ l mine. first.kept l (λ low high. p.apart l (own l low high) mine) (λ e. q.apart l (subst (IsOwn to) (sym e) (own_free to vacant.numbered)) mine);
    payloads = λ l x mine on. ap (λ (ps : List Ticket). slice_get ps x) payloads;
    chains = record { names = kept 1 s.lists.names s.lists.names_end named a b second h.names h.names_end p.names; contexts = kept 2 s.lists.contexts s.lists.contexts_end inside a b third h.contexts h.contexts_end p.contexts };
    by_name = λ l x mine on. others 1 s.lists.names s.lists.names_end named a b second (list_by_name s.lists) s.lists group.chained.names x (not_owned a s.lists h arena group.numbered p l x mine on);
    by_context = λ l x mine on. others 2 s.lists.contexts s.lists.contexts_end inside a b third (list_by_context s.lists) s.lists group.chained.contexts x (not_owned a s.lists h arena group.numbered p l x mine on);
  }

  -- all slots of the one group have gone to the other
  pub given_all : IsGiven s to a b
  given_all = record { giver = giver_now; taker = taker_now; none = none_left; got = got_now; same = same_now; slots = size; bounds = three.bounds ∙ two.bounds ∙ one_.bounds }
