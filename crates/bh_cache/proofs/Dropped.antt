-- What becomes of the slots of a list as a request context ends.
use Rattle.std.proofs.Common.{◌≡◌, ℕ, ◌+◌, ◌<◌, ◌≤◌, inl, inr, Bool, true, false, List, [], ◌∷◌, ◌++◌, length, take, Option, Some, None, refl, ◌∙◌, sym, ap, subst, arith}
use Rattle.std.specs.Prelude.{◌||◌, ◌&&◌, eqb, slice_get, count_by, if◌then◌else◌}
use Rattle.std.specs.Option.{option_map}
use Rattle.std.proofs.lemmas.Bool.{cases_eq, eq-eqb, ne_eqb}
use Rattle.bh_base.specs.declared.ticket.Ticket.{Ticket}
use Rattle.bh_base.specs.Tickets.{is_cached_in}
use Rattle.bh_slot_arena.specs.Slots.{bounds_of, lists_in}
use Rattle.bh_cache.specs.declared.lists.GroupLists.{GroupLists}
use Rattle.bh_cache.specs.Cache.{IsDropped, IsDroppedFrom, cached_among, uncached_in}
use Rattle.bh_cache.specs.Chains.{IsChained, IsChainFrame}
use Rattle.bh_cache.specs.Listed.{listed}
use Rattle.bh_cache.specs.Slots.{Slots, count_below, has, has_one, is_live, one, ticket_at, tickets_of}
use Rattle.bh_cache.proofs.Counts.{count_all, count_listed, count_none, count_point}
use Rattle.bh_cache.proofs.Found.{HaveAllCached}
use Rattle.bh_cache.proofs.Listed.{listed_map}
use Rattle.bh_cache.proofs.Placed.{frame_trans, live_same}
use Rattle.bh_cache.proofs.Members.{has_append, take_one_more}
use Rattle.bh_cache.proofs.Order.{count_same}

-- ---- one ticket

-- a ticket made uncached in the context is not cached in it
pub uncached_not : (context : ℕ) (t : Ticket) → is_cached_in context (uncached_in context t) ≡ false
uncached_not context t = by (is_cached_in context t) refl
  where
    by : (b : Bool) → is_cached_in context t ≡ b → is_cached_in context (if b then record t { cached = false } else t) ≡ false
    by true e = refl
    by false e = e

-- a ticket that is not cached in the context stays as it is
pub uncached_same : (context : ℕ) (t : Ticket) → is_cached_in context t ≡ false → uncached_in context t ≡ t
uncached_same context t e = ap (λ b. if b then record t { cached = false } else t) e

-- its serial stays
pub uncached_serial : (context : ℕ) (t : Ticket) → (uncached_in context t).serial ≡ t.serial
uncached_serial context t = by (is_cached_in context t)
  where
    by : (b : Bool) → (if b then record t { cached = false } else t).serial ≡ t.serial
    by true = refl
    by false = refl

-- made uncached twice it is as made so once
pub twice : (context : ℕ) (o : Option Ticket) → option_map (uncached_in context) (option_map (uncached_in context) o) ≡ option_map (uncached_in context) o
twice context None = refl
twice context (Some t) = ap Some (uncached_same context (uncached_in context t) (uncached_not context t))

-- no ticket made uncached in the context is cached in it
pub none_cached : (context : ℕ) (o : Option Ticket) → has_one (is_cached_in context) (option_map (uncached_in context) o) ≡ false
none_cached context None = refl
none_cached context (Some t) = uncached_not context t

-- ---- one slot

module _ (context : ℕ) (a b : Slots) (g : GroupLists) (slot : ℕ) (t : Ticket) (n : ℕ) (within : slot < length a.payloads) (is : slice_get a.payloads slot ≡ Some t)
    (bounds : bounds_of b ≡ bounds_of a) (first : lists_in b 0 ≡ lists_in a 0) (families : length b.families ≡ length a.families) (chained : IsChained b g) (frame : IsChainFrame g a b) (slots : length b.payloads ≡ length a.payloads)
    (now : (y : ℕ) → slice_get b.payloads y ≡ (if eqb y slot then Some (uncached_in context t) else slice_get a.payloads y)) (number : n ≡ one (is_cached_in context t)) where
  now_slot : slice_get b.payloads slot ≡ Some (uncached_in context t)
  now_slot = now slot ∙ ap (λ c. if c then Some (uncached_in context t) else slice_get a.payloads slot) (eq-eqb slot slot refl)

  now_other : (y : ℕ) → (y ≡ slot → ⊥) → slice_get b.payloads y ≡ slice_get a.payloads y
  now_other y ne = now y ∙ ap (λ c. if c then Some (uncached_in context t) else slice_get a.payloads y) (ne_eqb y slot ne)

  or_no : (c : Bool) → (c || false) ≡ c
  or_no true = refl
  or_no false = refl

  payload_at : (y : ℕ) → slice_get b.payloads y ≡ (if (eqb slot y || false) then option_map (uncached_in context) (slice_get a.payloads y) else slice_get a.payloads y)
  payload_at y = elim (cases_eq slot y) [
    | inl e ↦
        ap (slice_get b.payloads) (sym e) ∙ now_slot ∙ ap (option_map (uncached_in context)) (sym is) ∙ ap (λ z. option_map (uncached_in context) (slice_get a.payloads z)) e
        ∙ sym (ap (λ c. if c then option_map (uncached_in context) (slice_get a.payloads y) else slice_get a.payloads y) (or_no (eqb slot y) ∙ eq-eqb slot y e))
    | inr ne ↦
        now_other y (λ e. ne (sym e))
        ∙ sym (ap (λ c. if c then option_map (uncached_in context) (slice_get a.payloads y) else slice_get a.payloads y) (or_no (eqb slot y) ∙ ne_eqb slot y ne))
  ]

  -- the one slot's ticket is cached in the context no more, and the number says whether it was
  pub dropped_at : IsDroppedFrom context g (slot ∷ []) a b n
  dropped_at = record {
    bounds = bounds;
    first = first;
    families = families;
    chained = chained;
    frame = frame;
    slots = slots;
    payloads = payload_at;
    count = λ live covers.
        let before : ℕ → Bool = λ x. live x && has_one (is_cached_in context) (slice_get a.payloads x) in
        let after : ℕ → Bool = λ x. live x && has_one (is_cached_in context) (slice_get b.payloads x) in
        let lives : live slot ≡ true = covers slot (or_no (eqb slot slot) ∙ eq-eqb slot slot refl) in
        let was : before slot ≡ is_cached_in context t = ap (λ c. c && has_one (is_cached_in context) (slice_get a.payloads slot)) lives ∙ ap (has_one (is_cached_in context)) is in
        let gone : after slot ≡ false = ap (λ c. c && has_one (is_cached_in context) (slice_get b.payloads slot)) lives ∙ ap (has_one (is_cached_in context)) now_slot ∙ uncached_not context t in
        let k : one (before slot) ≡ n = ap one was ∙ sym number in
        let z : one (after slot) ≡ 0 = ap one gone in
        let size : count_below (length b.payloads) after ≡ count_below (length a.payloads) after = ap (λ m. count_below m after) slots in
        let point = count_point before after (length a.payloads) slot within (λ y ne. ap (λ o. live y && has_one (is_cached_in context) o) (now_other y ne)) in
        omega (arith, k, z, size, point);
  }

-- ---- many slots

module _ (context : ℕ) (g : GroupLists) (xs ys : List ℕ) (a b c : Slots) (n m : ℕ) (first : IsDroppedFrom context g xs a b n) (second : IsDroppedFrom context g ys b c m) where
  payload_both : (x : ℕ) → slice_get c.payloads x ≡ (if has x (xs ++ ys) then option_map (uncached_in context) (slice_get a.payloads x) else slice_get a.payloads x)
  payload_both x =
      second.payloads x
      ∙ by (has x xs) (has x ys) (slice_get a.payloads x) (slice_get b.payloads x) (first.payloads x)
      ∙ sym (ap (λ d. if d then option_map (uncached_in context) (slice_get a.payloads x) else slice_get a.payloads x) (has_append x xs ys))
    where
      by : (d e : Bool) (o q : Option Ticket) → q ≡ (if d then option_map (uncached_in context) o else o) → (if e then option_map (uncached_in context) q else q) ≡ (if (d || e) then option_map (uncached_in context) o else o)
      by true true o q is = ap (option_map (uncached_in context)) is ∙ twice context o
      by true false o q is = is
      by false true o q is = ap (option_map (uncached_in context)) is
      by false false o q is = is

  -- slots that are dropped after others are dropped together with them, and the numbers add up
  pub dropped_both : IsDroppedFrom context g (xs ++ ys) a c (n + m)
  dropped_both = record {
    bounds = second.bounds ∙ first.bounds;
    first = second.first ∙ first.first;
    families = second.families ∙ first.families;
    chained = second.chained;
    frame = frame_trans g a b c first.frame second.frame;
    slots = second.slots ∙ first.slots;
    payloads = payload_both;
    count = λ live covers.
        let f = first.count live (λ x h. covers x (has_append x xs ys ∙ left (has x xs) (has x ys) h)) in
        let s = second.count live (λ x h. covers x (has_append x xs ys ∙ right (has x xs) (has x ys) h)) in
        omega (arith, f, s);
  }
    where
      left : (d e : Bool) → d ≡ true → (d || e) ≡ true
      left d e h = ap (λ z. z || e) h

      right : (d e : Bool) → e ≡ true → (d || e) ≡ true
      right true e h = refl
      right false e h = h

-- where the first i slots of a list are dropped, and then the next, one slot more of the list is
pub dropped_more : (context : ℕ) (g : GroupLists) (xs : List ℕ) (i x : ℕ) (a b c : Slots) (n m : ℕ) → slice_get xs i ≡ Some x → IsDroppedFrom context g (take i xs) a b n → IsDroppedFrom context g (x ∷ []) b c m → IsDroppedFrom context g (take (i + 1) xs) a c (n + m)
dropped_more context g xs i x a b c n m at first second = subst (λ ys. IsDroppedFrom context g ys a c (n + m)) (sym (take_one_more xs i x at)) (dropped_both context g (take i xs) (x ∷ []) a b c n m first second)

-- no more were dropped than there are slots
pub dropped_few : (context : ℕ) (g : GroupLists) (xs : List ℕ) (a b : Slots) (n : ℕ) → IsDroppedFrom context g xs a b n → n ≤ length a.payloads
dropped_few context g xs a b n dropped =
    let k = dropped.count (λ x. true) (λ x h. refl) in
    let l = count_all (length a.payloads) (λ x. true && has_one (is_cached_in context) (slice_get a.payloads x)) in
    omega (arith, k, l)

-- ---- the tickets of a group

module _ (context : ℕ) (a b : Slots) (g : GroupLists) (n : ℕ) (xs : List ℕ) (dropped : IsDroppedFrom context g xs a b n) (have : HaveAllCached context a g xs) where
  -- a ticket of another slot is not cached in the context
  stays : (x : ℕ) → is_live a g x ≡ true → has x xs ≡ false → (o : Option Ticket) → slice_get a.payloads x ≡ o → o ≡ option_map (uncached_in context) o
  stays x live off None is = refl
  stays x live off (Some t) is = ap Some (sym (uncached_same context t (by (is_cached_in context t) refl)))
    where
      by : (d : Bool) → is_cached_in context t ≡ d → d ≡ false
      by false e = refl
      by true e = let k : true ≡ false = sym (have.all x live (ap (has_one (is_cached_in context)) is ∙ e)) ∙ off in absurd cc

  payload_is : (x : ℕ) → slice_get b.payloads x ≡ (if is_live a g x then option_map (uncached_in context) (slice_get a.payloads x) else slice_get a.payloads x)
  payload_is x = by (has x xs) (is_live a g x) refl refl (dropped.payloads x)
    where
      by : (d e : Bool) → has x xs ≡ d → is_live a g x ≡ e → slice_get b.payloads x ≡ (if d then option_map (uncached_in context) (slice_get a.payloads x) else slice_get a.payloads x)
          → slice_get b.payloads x ≡ (if e then option_map (uncached_in context) (slice_get a.payloads x) else slice_get a.payloads x)
      by true true p q now = now
      by true false p q now = let k : true ≡ false = sym (have.live x p) ∙ q in absurd cc
      by false true p q now = now ∙ stays x q p (slice_get a.payloads x) refl
      by false false p q now = now

  here_is : (x : ℕ) → ticket_at b g x ≡ option_map (uncached_in context) (ticket_at a g x)
  here_is x = ap (λ d. if d then slice_get b.payloads x else None) (live_same a b g dropped.first x) ∙ by (is_live a g x) (payload_is x)
    where
      by : (d : Bool) → slice_get b.payloads x ≡ (if d then option_map (uncached_in context) (slice_get a.payloads x) else slice_get a.payloads x) → (if d then slice_get b.payloads x else None) ≡ option_map (uncached_in context) (if d then slice_get a.payloads x else None)
      by true e = e
      by false e = refl

  counted : n ≡ count_by (is_cached_in context) (tickets_of a g)
  counted =
      let k = dropped.count (is_live a g) have.live in
      let none : cached_among (is_live a g) context b.payloads ≡ 0 = count_none (length b.payloads) (λ x. is_live a g x && has_one (is_cached_in context) (slice_get b.payloads x)) still in
      let all : cached_among (is_live a g) context a.payloads ≡ count_below (length a.payloads) (λ x. has_one (is_cached_in context) (ticket_at a g x))
      = count_same _ (λ x. has_one (is_cached_in context) (ticket_at a g x)) (length a.payloads) (λ x. either (is_live a g x) (slice_get a.payloads x)) in
      let total = count_listed (is_cached_in context) (ticket_at a g) (length a.payloads) in
      omega (arith, k, none, all, total)
    where
      either : (d : Bool) (o : Option Ticket) → (d && has_one (is_cached_in context) o) ≡ has_one (is_cached_in context) (if d then o else None)
      either true o = refl
      either false o = refl

      gone : (d : Bool) (o q : Option Ticket) → q ≡ (if d then option_map (uncached_in context) o else o) → (d && has_one (is_cached_in context) q) ≡ false
      gone true o q e = ap (has_one (is_cached_in context)) e ∙ none_cached context o
      gone false o q e = refl

      still : (x : ℕ) → (is_live a g x && has_one (is_cached_in context) (slice_get b.payloads x)) ≡ false
      still x = gone (is_live a g x) (slice_get a.payloads x) (slice_get b.payloads x) (payload_is x)

  -- where the slots that have all tickets of the context are dropped, the tickets of the group are
  pub dropped_group : IsDropped context g a b n
  dropped_group = record {
    bounds = dropped.bounds;
    first = dropped.first;
    families = dropped.families;
    chained = dropped.chained;
    frame = dropped.frame;
    slots = dropped.slots;
    here = here_is;
    others = λ x out. payload_is x ∙ ap (λ d. if d then option_map (uncached_in context) (slice_get a.payloads x) else slice_get a.payloads x) out;
    tickets = ap (listed (ticket_at b g)) dropped.slots ∙ listed_map (uncached_in context) (ticket_at a g) (ticket_at b g) (length a.payloads) (uncached_serial context) here_is;
    count = counted;
  }
