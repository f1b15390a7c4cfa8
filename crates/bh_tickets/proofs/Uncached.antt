-- The end of a request context.
use Rattle.std.proofs.Common.{◌≡◌, ℕ, ◌+◌, ◌<◌, Bool, true, false, List, [], length, get_or, Option, Some, None, refl, ◌∙◌, sym, ap, subst, arith}
use Rattle.std.specs.Prelude.{◌||◌, ◌==◌, slice_get, if◌then◌else◌}
use Rattle.std.specs.Option.{option_map}
use Rattle.bh_base.specs.declared.ticket.Ticket.{Ticket}
use Rattle.bh_base.specs.Tickets.{is_cached_in, is_queued, is_kept}
use Rattle.bh_slot_arena.specs.Slots.{lists_in, slots_on}
use Rattle.bh_cache.specs.Cache.{IsDropped, uncached_in}
use Rattle.bh_cache.specs.Slots.{Slots, has, is_on, is_live, is_owned, ticket_at, list_for, serial_in, InOrder, Once, count_below, has_one, has_serial_in, IsArena, IsOwn, IsFrame}
use Rattle.bh_cache.proofs.Order.{order_same, count_same}
use Rattle.bh_tickets.specs.declared.group_slots.GroupSlots.{GroupSlots}
use Rattle.bh_cache.specs.declared.notes.Noted.{Noted}
use Rattle.bh_cache.specs.Notes.{AreNoted, is_noted}
use Rattle.bh_tickets.specs.GroupSlots.{IsArranged, IsGroupSlots, IsUncached, count_at, is_any}
use Rattle.bh_tickets.specs.Counts.{busy_of, in_fallback_of, is_open, open_since, queued_of}
use Rattle.bh_tickets.proofs.InTime.{times_kept}
use Rattle.bh_tickets.proofs.InTurn.{turns_kept}
use Rattle.bh_tickets.proofs.Puts.{held_at}
use Rattle.bh_tickets.proofs.Others.{own_for}
use Rattle.bh_cache.proofs.Walks.{on_queued, on_running}
use Rattle.bh_base.specs.declared.ticket.TicketState.TheVariants as ticket

-- what is the same of a ticket that is cached no more
module _ (context : ℕ) (t : Ticket) where
  same_of : {A : Type 0} (f : Ticket → A) → f (record t { cached = false }) ≡ f t → f (uncached_in context t) ≡ f t
  same_of f e = by (is_cached_in context t)
    where
      by : (b : Bool) → f (if b then record t { cached = false } else t) ≡ f t
      by true = e
      by false = refl

module _ (a b : Slots) (s : GroupSlots) (context n : ℕ) (arena : IsArena a 0) (group : IsGroupSlots a s) (dropped : IsDropped context s.lists a b n) where
  lists_same : lists_in b 0 ≡ lists_in a 0
  lists_same = dropped.first

  on_same : (l x : ℕ) → is_on b 0 l x ≡ is_on a 0 l x
  on_same l x = ap (λ (ls : List (List ℕ)). has x (get_or ls l [])) dropped.first

  slots_same_on : (l : ℕ) → slots_on b 0 l ≡ slots_on a 0 l
  slots_same_on l = ap (λ (ls : List (List ℕ)). get_or ls l []) dropped.first

  owned_same : (x : ℕ) → is_owned b s.lists x ≡ is_owned a s.lists x
  owned_same x = λ i. on_same s.lists.free x i || (on_same s.lists.queued x i || (on_same s.lists.running x i || on_same s.lists.settled x i))

  arena_kept : IsArena b 0
  arena_kept = record {
    wide = omega (arith, arena.wide, dropped.families);
    apart = λ l m x p q. arena.apart l m x (sym (on_same l x) ∙ p) (sym (on_same m x) ∙ q);
    within = λ l x p. let lt : x < length a.payloads = arena.within l x (sym (on_same l x) ∙ p) in omega (arith, lt, dropped.slots);
    once = λ l. subst Once (sym (slots_same_on l)) (arena.once l);
  }

  live_same : (x : ℕ) → is_live b s.lists x ≡ is_live a s.lists x
  live_same x = λ i. on_same s.lists.queued x i || (on_same s.lists.running x i || on_same s.lists.settled x i)

  -- what lies on another group's list is no ticket of this one
  not_live : (l x : ℕ) → (IsOwn s.lists l → ⊥) → is_on a 0 l x ≡ true → is_live a s.lists x ≡ false
  not_live l x out on = by (is_on a 0 s.lists.queued x) (is_on a 0 s.lists.running x) (is_on a 0 s.lists.settled x) refl refl refl
    where
      by : (p q r : Bool) → is_on a 0 s.lists.queued x ≡ p → is_on a 0 s.lists.running x ≡ q → is_on a 0 s.lists.settled x ≡ r → (p || (q || r)) ≡ false
      by true q r e f k = absurd (out (subst (IsOwn s.lists) (arena.apart s.lists.queued l x e on) (own_for s.lists group.numbered ticket.Queued)))
      by false true r e f k = absurd (out (subst (IsOwn s.lists) (arena.apart s.lists.running l x f on) (own_for s.lists group.numbered ticket.Running)))
      by false false true e f k = absurd (out (subst (IsOwn s.lists) (arena.apart s.lists.settled l x k on) (record { from = omega (arith, group.numbered.settled); to = omega arith })))
      by false false false e f k = refl

  frame : IsFrame s.lists a b
  frame = record {
    slots = dropped.slots;
    count = ap (λ (ls : List (List ℕ)). length ls) lists_same;
    lists = λ l out. slots_same_on l;
    payloads = λ l x out on. dropped.others x (not_live l x out on);
  }

  -- each ticket was there
  before : (x : ℕ) (t : Ticket) → ticket_at b s.lists x ≡ Some t → (w : Ticket) × (ticket_at a s.lists x ≡ Some w) × (uncached_in context w ≡ t)
  before x t e = by (ticket_at a s.lists x) refl
    where
      by : (o : Option Ticket) → ticket_at a s.lists x ≡ o → (w : Ticket) × (ticket_at a s.lists x ≡ Some w) × (uncached_in context w ≡ t)
      by None k = let f : None ≡ Some t = ap (option_map (uncached_in context)) (sym k) ∙ sym (dropped.here x) ∙ e in absurd (no_some f)
        where
          no_some : None ≡ Some t → ⊥
          no_some f = cc
      by (Some w) k = (w, k, some_same (ap (option_map (uncached_in context)) (sym k) ∙ sym (dropped.here x) ∙ e))
        where
          some_same : Some (uncached_in context w) ≡ Some t → uncached_in context w ≡ t
          some_same f = cc

  same_by : {A : Type 0} (f : Ticket → A) (w t : Ticket) → uncached_in context w ≡ t → f (record w { cached = false }) ≡ f w → f w ≡ f t
  same_by f w t e k = sym (same_of context w f k) ∙ ap f e

  payload_at : (y : ℕ) → is_live a s.lists y ≡ true → slice_get b.payloads y ≡ option_map (uncached_in context) (slice_get a.payloads y)
  payload_at y live = sym (ap (λ c. if c then slice_get b.payloads y else None) (live_same y ∙ live)) ∙ dropped.here y ∙ ap (λ c. option_map (uncached_in context) (if c then slice_get a.payloads y else None)) live

  serial_of : (o : Option Ticket) → serial_in (option_map (uncached_in context) o) ≡ serial_in o
  serial_of None = refl
  serial_of (Some t) = same_of context t (λ (u : Ticket). u.serial) refl

  order : InOrder b.payloads (slots_on b 0 s.lists.queued)
  order = subst (InOrder b.payloads) (sym (slots_same_on s.lists.queued))
      (order_same a.payloads b.payloads (slots_on a 0 s.lists.queued) (λ y i. ap serial_in (payload_at y (on_queued a s.lists y i)) ∙ serial_of (slice_get a.payloads y)) group.arranged.order)

  arranged : IsArranged b s.lists s.next
  arranged = record {
    distinct = λ x y t u p q e.
        let h = before x t p in
        let k = before y u q in
        group.arranged.distinct x y h.0 k.0 h.1 k.1 (same_by (λ (u : Ticket). u.serial) h.0 t h.2 refl ∙ e ∙ sym (same_by (λ (u : Ticket). u.serial) k.0 u k.2 refl));
    below = λ x t p. let h = before x t p in subst (λ n. n < s.next) (same_by (λ (u : Ticket). u.serial) h.0 t h.2 refl) (group.arranged.below x h.0 h.1);
    placed = λ x t p.
        let h = before x t p in
        on_same (list_for s.lists t.state) x ∙ ap (λ l. is_on a 0 l x) (sym (same_by (λ (u : Ticket). list_for s.lists u.state) h.0 t h.2 refl)) ∙ group.arranged.placed x h.0 h.1;
    order = order;
  }

  has_same : (q : Ticket → Bool) → ((t : Ticket) → q (record t { cached = false }) ≡ q t) → (o : Option Ticket) → has_one q (option_map (uncached_in context) o) ≡ has_one q o
  has_same q same None = refl
  has_same q same (Some t) = same_of context t q (same t)

  recount : (q : Ticket → Bool) → ((t : Ticket) → q (record t { cached = false }) ≡ q t) → count_at b s.lists q ≡ count_at a s.lists q
  recount q same = ap (λ m. count_below m (λ x. has_one q (ticket_at b s.lists x))) dropped.slots
      ∙ count_same (λ x. has_one q (ticket_at b s.lists x)) (λ x. has_one q (ticket_at a s.lists x)) (length a.payloads) (λ x. ap (has_one q) (dropped.here x) ∙ has_same q same (ticket_at a s.lists x))

  module _ (r : GroupSlots) (now : Noted) (made : r ≡ record s { needless = now }) (noting : AreNoted context (is_live a s.lists) a s.needless now) where
    -- a ticket that nobody needs was cached in the context, and is noted now, or was needless before
    needed : (x : ℕ) (t : Ticket) → ticket_at b s.lists x ≡ Some t → is_kept t ≡ false → is_noted now x ≡ true
    needed x t e k = let h = before x t e in by h.0 h.1 h.2 (is_cached_in context h.0) refl
      where
        by : (w : Ticket) → ticket_at a s.lists x ≡ Some w → uncached_in context w ≡ t → (c : Bool) → is_cached_in context w ≡ c → is_noted now x ≡ true
        by w here is true cached = let h = held_at a s.lists x w here in noting.cached x h.0 (ap (has_one (is_cached_in context)) h.1 ∙ cached)
        by w here is false off =
            let same : w ≡ t = sym (ap (λ c. if c then record w { cached = false } else w) off) ∙ is in
            noting.more x (group.needed x w here (ap is_kept same ∙ k))

    whole : IsGroupSlots b (record s { needless = now })
    whole = record {
      numbered = group.numbered;
      there = omega (arith, group.there, ap (λ (ls : List (List ℕ)). length ls) lists_same);
      chained = dropped.chained;
      arranged = arranged;
      slots = ap (λ m. m + s.unmade) (ap (λ m. count_below m (is_owned b s.lists)) dropped.slots ∙ count_same (is_owned b s.lists) (is_owned a s.lists) (length a.payloads) owned_same) ∙ group.slots;
      few = group.few;
      taken = group.taken ∙ sym (recount is_any (λ t. refl));
      queued = group.queued ∙ sym (recount is_queued (λ t. refl));
      commands = group.commands;
      counts = λ c lt. record {
        busy = (group.counts c lt).busy ∙ sym (recount (busy_of c) (λ t. refl));
        queued = (group.counts c lt).queued ∙ sym (recount (queued_of c) (λ t. refl));
        in_fallback = (group.counts c lt).in_fallback ∙ sym (recount (in_fallback_of c) (λ t. refl));
      };
      known = λ x t p. let h = before x t p in subst (λ c. c < 16) (same_by (λ (u : Ticket). u.command) h.0 t h.2 refl) (group.known x h.0 h.1);
      since = λ x t p opens.
          let h = before x t p in
          omega (
            arith,
            same_by (λ (u : Ticket). open_since s.commands u.command) h.0 t h.2 refl,
            same_by (λ (u : Ticket). u.submitted) h.0 t h.2 refl,
            group.since x h.0 h.1 (same_by is_open h.0 t h.2 refl ∙ opens),
          );
      times = times_kept a b s.lists s.order.latest s.order.in_time (λ x t p. let h = before x t p in record { slot = x; was = h.0; here = h.1; serial = same_by (λ (u : Ticket). u.serial) h.0 t h.2 refl; submitted = same_by (λ (u : Ticket). u.submitted) h.0 t h.2 refl }) group.times;
      turns = turns_kept a b s.lists s.order.last_started s.order.in_turn
          (λ y i.
          let was : is_on a 0 s.lists.running y ≡ true = sym (on_same s.lists.running y) ∙ i in
          (was, ap serial_in (payload_at y (on_running a s.lists y was)) ∙ serial_of (slice_get a.payloads y)))
          (λ order. subst (InOrder a.payloads) (sym (slots_same_on s.lists.running)) order) group.turns;
      needed = needed;
    }

    serial_stays : (m : ℕ) (o : Option Ticket) → has_serial_in m (option_map (uncached_in context) o) ≡ has_serial_in m o
    serial_stays m None = refl
    serial_stays m (Some t) = ap (λ k. k == m) (same_of context t (λ (u : Ticket). u.serial) refl)

    -- the group's tickets are uncached, where those are noted that were cached
    pub uncached_is : IsUncached a s context n b r
    uncached_is = record {
      change = record {
        arena = arena_kept;
        group = subst (IsGroupSlots b) (sym made) whole;
        frame = frame;
        chains = dropped.frame;
        bounds = dropped.bounds;
        lists = ap (λ (z : GroupSlots). z.lists) made;
        room = ap (λ (z : GroupSlots). z.slots.max) made;
        unmade = ap (λ (z : GroupSlots). z.unmade) made;
      };
      next = ap (λ (z : GroupSlots). z.next) made;
      items = dropped.tickets;
      serials = record { same = λ m y. ap (has_serial_in m) (dropped.here y) ∙ serial_stays m (ticket_at a s.lists y) };
      count = dropped.count;
    }
