-- A group without tickets.
use Rattle.std.proofs.Common.{◌≡◌, ℕ, zero, suc, ◌+◌, ◌<◌, ◌≤◌, inl, inr, Bool, true, false, List, [], ◌∷◌, length, Option, Some, None, refl, ◌∙◌, sym, ap, subst, arith}
use Rattle.std.specs.Prelude.{◌||◌, ◌^◌, eqb, slice_get, if◌then◌else◌}
use Rattle.std.proofs.lemmas.Bool.{cases_eq, eq-eqb, ne_eqb}
use Rattle.std.proofs.lemmas.List.{get_or-replicate}
use Rattle.bh_base.specs.declared.ticket.Ticket.{Ticket}
use Rattle.bh_base.specs.Tickets.{is_queued}
use Rattle.bh_slot_arena.specs.Slots.{slots_on}
use Rattle.bh_cache.specs.declared.lists.GroupLists.{GroupLists}
use Rattle.bh_cache.specs.Chains.{AreOn, list_by_context, list_by_name, unchained}
use Rattle.bh_cache.specs.Listed.{listed, put_in}
use Rattle.bh_cache.specs.Slots.{Slots, has, is_live, is_on, is_owned, ticket_at, has_one, one, count_below, IsArena, InOrder, Once}
use Rattle.bh_cache.proofs.Counts.{count_none, count_point}
use Rattle.bh_cache.proofs.Order.{count_le, count_same}
use Rattle.bh_tickets.specs.declared.group_slots.GroupSlots.{GroupSlots}
use Rattle.bh_tickets.specs.Counts.{AreCounts, busy_of, in_fallback_of, no_counts, queued_of, zero_counts}
use Rattle.bh_tickets.specs.GroupSlots.{IsGroupSlots, count_at, no_slot_taken, is_any}
use Rattle.bh_tickets.specs.Spare.{AreFreeOn, IsVacant, free_slots}
use Rattle.bh_tickets.specs.TicketsView.{no_tickets_in}
use Rattle.bh_tickets.specs.Whole.{group_of, slotted, slot_in}
use Rattle.bh_tickets.proofs.Adds.{live_is, live_within}
use Rattle.bh_tickets.proofs.Puts.{owned_if}

-- ---- lists and counts

pub not_true : {b : Bool} → b ≡ false → b ≡ true → ⊥
not_true e f = cc

pub or_false : (b : Bool) → (b || false) ≡ b
or_false true = refl
or_false false = refl

pub or_true : (b : Bool) → (b || true) ≡ true
or_true true = refl
or_true false = refl

-- a list on which nothing lies is empty
pub none_on : (xs : List ℕ) → ((x : ℕ) → has x xs ≡ false) → xs ≡ []
none_on [] none = refl
none_on (y ∷ ys) none = absurd (not_true (none y) (ap (λ b. b || has y ys) (eq-eqb y y refl)))

-- of the numbers below n as many lie on a list as it is long
pub count_list : (n : ℕ) (xs : List ℕ) → Once xs → ((x : ℕ) → has x xs ≡ true → x < n) → count_below n (λ x. has x xs) ≡ length xs
count_list n [] once within = count_none n (λ x. false) (λ x. refl)
count_list n (y ∷ ys) once within =
    let here : has y (y ∷ ys) ≡ true = ap (λ b. b || has y ys) (eq-eqb y y refl) in
    let lt : y < n = within y here in
    let rest : count_below n (λ x. has x ys) ≡ length ys = count_list n ys once.1 (λ x on. within x (ap (λ b. eqb y x || b) on ∙ or_true (eqb y x))) in
    let out : one (has y ys) ≡ 0 = ap one once.0 in
    let in' : one (has y (y ∷ ys)) ≡ 1 = ap one here in
    omega (arith, rest, out, in', count_point (λ x. has x ys) (λ x. has x (y ∷ ys)) n y lt (λ z ne. ap (λ b. b || has z ys) (ne_eqb y z (λ e. ne (sym e)))))

count_zero : (p : ℕ → Bool) (n x : ℕ) → count_below n p ≡ 0 → x < n → p x ≡ false
count_zero p n x none lt = by (p x) refl
  where
    more : (m : ℕ) → x < m → p x ≡ true → 0 < count_below m p
    more zero l e = absurd (omega (arith, l))
    more (suc m) l e = elim (cases_eq x m) [
      | inl q ↦ let k : one (p m) ≡ 1 = ap (λ z. one (p z)) (sym q) ∙ ap one e in omega (arith, k)
      | inr ne ↦ let k : 0 < count_below m p = more m (omega (arith, l, ne)) e in omega (arith, k)
    ]

    by : (b : Bool) → p x ≡ b → b ≡ false
    by false e = refl
    by true e = absurd (omega (arith, none, more n lt e))

pub nothing_listed : (at : ℕ → Option Ticket) (n : ℕ) → ((x : ℕ) → at x ≡ None) → listed at n ≡ []
nothing_listed at zero none = refl
nothing_listed at (suc n) none = ap (λ o. put_in o (listed at n)) (none n) ∙ nothing_listed at n none

nothing_slotted : (at : ℕ → Option Ticket) (n : ℕ) → ((x : ℕ) → at x ≡ None) → slotted at n ≡ []
nothing_slotted at zero none = refl
nothing_slotted at (suc n) none = ap (λ o. slot_in n o (slotted at n)) (none n) ∙ nothing_slotted at n none

-- where no slot is free, and the chains of a family are empty, they are as for a group without tickets
pub none_free : (f first end : ℕ) (a : Slots) (g : GroupLists) → slots_on a 0 g.free ≡ [] → ((l : ℕ) → first ≤ l → l < end → slots_on a f l ≡ []) → AreFreeOn f first end a g
none_free f first end a g none empty = record {
  placed = λ x on. absurd (not_true (ap (has x) none) on);
  owned = λ l x low high on. absurd (not_true (ap (has x) (empty l low high)) on);
}

-- ---- what is known of a group of which no slot is taken

module _ (a : Slots) (s : GroupSlots) (arena : IsArena a 0) (group : IsGroupSlots a s) (none : s.slots.taken ≡ 0) where
  not_live : (x : ℕ) → is_live a s.lists x ≡ false
  not_live x = by (is_live a s.lists x) refl
    where
      by : (b : Bool) → is_live a s.lists x ≡ b → b ≡ false
      by false e = refl
      by true e = absurd (not_true (count_zero (λ y. has_one is_any (ticket_at a s.lists y)) (length a.payloads) x (sym group.taken ∙ none) (live_within a s.lists x arena e)) (live_is a s.lists x arena ∙ e))

  at_none : (x : ℕ) → ticket_at a s.lists x ≡ None
  at_none x = ap (λ c. if c then slice_get a.payloads x else None) (not_live x)

  owned_free : (x : ℕ) → is_owned a s.lists x ≡ is_on a 0 s.lists.free x
  owned_free x = ap (λ c. is_on a 0 s.lists.free x || c) (not_live x) ∙ or_false (is_on a 0 s.lists.free x)

  free_on : (f first end : ℕ) (to : Option Ticket → ℕ) → to None ≡ unchained → AreOn f first end to a s.lists → AreFreeOn f first end a s.lists
  free_on f first end to is are = record {
    placed = λ x on. ap (λ l. is_on a f l x) (sym is) ∙ ap (λ o. is_on a f (to o) x) (sym (at_none x)) ∙ are.placed x (owned_free x ∙ on);
    owned = λ l x from til on. sym (owned_free x) ∙ are.owned l x from til on;
  }

  -- it is one without tickets
  pub is_vacant : IsVacant a s.lists
  is_vacant = record {
    numbered = group.numbered;
    there = group.there;
    chains = group.chained.lists;
    live = not_live;
    names = free_on 1 s.lists.names s.lists.names_end (list_by_name s.lists) refl group.chained.names;
    contexts = free_on 2 s.lists.contexts s.lists.contexts_end (list_by_context s.lists) refl group.chained.contexts;
  }

  -- and has as many slots as lie on the list of free ones, and those that are not made yet
  pub max_is : s.slots.max ≡ free_slots a s.lists + s.unmade
  max_is = sym group.slots ∙ ap (λ n. n + s.unmade) (count_same (is_owned a s.lists) (λ x. has x (slots_on a 0 s.lists.free)) (length a.payloads) owned_free
      ∙ count_list (length a.payloads) (slots_on a 0 s.lists.free) (arena.once s.lists.free) (λ x on. arena.within s.lists.free x on))

-- no more slots are taken than are made
pub taken_few : (a : Slots) (s : GroupSlots) → IsGroupSlots a s → s.slots.taken + s.unmade ≤ s.slots.max
taken_few a s group = omega (arith, group.taken, group.slots, count_le (λ x. has_one is_any (ticket_at a s.lists x)) (is_owned a s.lists) (length a.payloads) (owned_if a s.lists is_any))

-- ---- and what makes one

module _ (a : Slots) (g : GroupLists) (vacant : IsVacant a g) where
  pub vacant_none : (x : ℕ) → ticket_at a g x ≡ None
  vacant_none x = ap (λ c. if c then slice_get a.payloads x else None) (vacant.live x)

  no_ticket : (x : ℕ) (t : Ticket) → ticket_at a g x ≡ Some t → ⊥
  no_ticket x t e = no_some (sym (vacant_none x) ∙ e)
    where
      no_some : None ≡ Some t → ⊥
      no_some f = cc

  owned_is : (x : ℕ) → is_owned a g x ≡ is_on a 0 g.free x
  owned_is x = ap (λ c. is_on a 0 g.free x || c) (vacant.live x) ∙ or_false (is_on a 0 g.free x)

  chains_on : (f first end : ℕ) (to : Option Ticket → ℕ) → to None ≡ unchained → AreFreeOn f first end a g → AreOn f first end to a g
  chains_on f first end to is are = record {
    placed = λ x own. ap (λ o. is_on a f (to o) x) (vacant_none x) ∙ ap (λ l. is_on a f l x) is ∙ are.placed x (sym (owned_is x) ∙ own);
    owned = λ l x from til on. owned_is x ∙ are.owned l x from til on;
  }

  no_count : (q : Ticket → Bool) → count_at a g q ≡ 0
  no_count q = count_none (length a.payloads) (λ x. has_one q (ticket_at a g x)) (λ x. ap (has_one q) (vacant_none x))

  no_queue : slots_on a 0 g.queued ≡ []
  no_queue = none_on (slots_on a 0 g.queued) (λ x. first (is_on a 0 g.queued x) _ (vacant.live x))
    where
      first : (b c : Bool) → (b || c) ≡ false → b ≡ false
      first true c e = e
      first false c e = refl

  not_running : (x : ℕ) → is_on a 0 g.running x ≡ false
  not_running x = second (is_on a 0 g.queued x) (is_on a 0 g.running x) (is_on a 0 g.settled x) (vacant.live x)
    where
      second : (b c d : Bool) → (b || (c || d)) ≡ false → c ≡ false
      second true c d e = absurd cc
      second false true d e = e
      second false false d e = refl

  none_running : (x : ℕ) → is_on a 0 g.running x ≡ true → ⊥
  none_running x on = let z : false ≡ true = sym (not_running x) ∙ on in cc

  no_runs : slots_on a 0 g.running ≡ []
  no_runs = none_on (slots_on a 0 g.running) not_running

  -- what a group keeps without tickets fits its slots
  pub vacant_group : (unmade : ℕ) → IsArena a 0 → free_slots a g + unmade < 2 ^ 63 → IsGroupSlots a (no_slot_taken g (free_slots a g + unmade) unmade)
  vacant_group unmade arena few = record {
    numbered = vacant.numbered;
    there = vacant.there;
    chained = record {
      lists = vacant.chains;
      names = chains_on 1 g.names g.names_end (list_by_name g) refl vacant.names;
      contexts = chains_on 2 g.contexts g.contexts_end (list_by_context g) refl vacant.contexts;
    };
    arranged = record {
      distinct = λ x y t u e f k. absurd (no_ticket x t e);
      below = λ x t e. absurd (no_ticket x t e);
      placed = λ x t e. absurd (no_ticket x t e);
      order = subst (InOrder a.payloads) (sym no_queue) tt;
    };
    slots = ap (λ n. n + unmade) (slots_are arena);
    few = few;
    taken = sym (no_count is_any);
    queued = sym (no_count is_queued);
    commands = refl;
    counts = λ c lt. subst (AreCounts (count_at a g) c) (sym (get_or-replicate 16 c no_counts zero_counts lt)) (record {
      busy = sym (no_count (busy_of c));
      queued = sym (no_count (queued_of c));
      in_fallback = sym (no_count (in_fallback_of c));
    });
    known = λ x t e. absurd (no_ticket x t e);
    since = λ x t e opens. absurd (no_ticket x t e);
    times = record { before = λ x t e. absurd (no_ticket x t e); rising = λ on x y t u e f le. absurd (no_ticket x t e) };
    turns = record { below = λ x on. absurd (none_running x on); order = λ on. subst (InOrder a.payloads) (sym no_runs) tt };
    needed = λ x t e k. absurd (no_ticket x t e);
  }
    where
      slots_are : IsArena a 0 → count_below (length a.payloads) (is_owned a g) ≡ free_slots a g
      slots_are arena = count_same (is_owned a g) (λ x. has x (slots_on a 0 g.free)) (length a.payloads) owned_is
          ∙ count_list (length a.payloads) (slots_on a 0 g.free) (arena.once g.free) (λ x on. arena.within g.free x on)

  -- contracts see a group with so many slots and no ticket
  pub vacant_shown : (count unmade : ℕ) → group_of a (no_slot_taken g count unmade) ≡ no_tickets_in count
  vacant_shown count unmade = λ i. record { items = nothing_listed (ticket_at a g) (length a.payloads) vacant_none i; room = count; next = 1; slots = nothing_slotted (ticket_at a g) (length a.payloads) vacant_none i }
