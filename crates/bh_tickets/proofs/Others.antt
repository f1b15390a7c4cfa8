-- The other groups stay as they were.
use Rattle.std.proofs.Common.{◌≡◌, ℕ, zero, suc, ◌+◌, ◌≤◌, inl, inr, Bool, true, false, length, Option, None, refl, ◌∙◌, sym, ap, subst, arith}
use Rattle.std.specs.Prelude.{◌≢◌, ◌||◌, slice_get, if◌then◌else◌}
use Rattle.bh_base.specs.declared.ticket.Ticket.{Ticket}
use Rattle.bh_base.specs.declared.ticket.TicketState.{TicketState}
use Rattle.bh_base.specs.declared.ticket.TicketState.TheVariants as ticket
use Rattle.bh_base.specs.Tickets.{is_queued}
use Rattle.bh_cache.specs.declared.lists.GroupLists.{GroupLists}
use Rattle.bh_tickets.specs.declared.group_slots.GroupSlots.{GroupSlots}
use Rattle.std.proofs.lemmas.Bool.{cases_eq}
use Rattle.bh_cache.specs.Listed.{listed, put_in}
use Rattle.bh_tickets.specs.Whole.{group_of, slotted, slot_in}
use Rattle.bh_slot_arena.specs.Slots.{lists_in, slots_on}
use Rattle.bh_cache.specs.Slots.{Slots, has, is_on, is_live, is_owned, ticket_at, tickets_of, list_for, serial_in, InOrder, count_below, IsOwn, IsApart, IsFrame, IsArena, has_one, one}
use Rattle.bh_tickets.specs.GroupSlots.{IsNumbered, IsArranged, IsGroupSlots, count_at, is_any}
use Rattle.bh_tickets.specs.Counts.{counts_of}
use Rattle.bh_tickets.proofs.InTime.{had, times_kept}
use Rattle.bh_tickets.proofs.InTurn.{turns_kept}
use Rattle.bh_tickets.proofs.ByCommand.{counts_alike}
use Rattle.bh_cache.proofs.Order.{order_same, count_same}
use Rattle.bh_cache.specs.Chains.{IsChainFrame, IsChained}
use Rattle.bh_tickets.specs.Same.{IsSame}
use Rattle.bh_tickets.specs.Names.{names_of}
use Rattle.bh_tickets.proofs.Beside.{apart_beside}
use Rattle.bh_tickets.proofs.Chained.{beside_kept, chains_kept}

-- what holds of the three lists holds of that for a state
pub each_list : (P : ℕ → Type 0) (g : GroupLists) → P g.queued → P g.running → P g.settled → (s : TicketState) → P (list_for g s)
each_list P g p q r ticket.Queued = p
each_list P g p q r ticket.Running = q
each_list P g p q r (ticket.NeedsFallback c) = r
each_list P g p q r (ticket.InFallback c) = r
each_list P g p q r (ticket.Answered c) = r

-- the list for a state is one of the group's
pub own_for : (g : GroupLists) → IsNumbered g → (s : TicketState) → IsOwn g (list_for g s)
own_for g n s = each_list (IsOwn g) g (record { from = omega (arith, n.queued); to = omega (arith, n.queued, n.settled) }) (record { from = omega (arith, n.running); to = omega (arith, n.running, n.settled) }) (record { from = omega (arith, n.settled); to = omega arith }) s

-- where nothing changes, the lists of other groups are as before
pub frame_refl : (g : GroupLists) (a : Slots) → IsFrame g a a
frame_refl g a = record { slots = refl; count = refl; lists = λ l out. refl; payloads = λ l x out on. refl }

-- where two changes in turn leave the lists of other groups as before, both together do
pub frame_trans : (g : GroupLists) (a b c : Slots) → IsFrame g a b → IsFrame g b c → IsFrame g a c
frame_trans g a b c f h = record {
  slots = h.slots ∙ f.slots;
  count = h.count ∙ f.count;
  lists = λ l out. h.lists l out ∙ f.lists l out;
  payloads = λ l x out on. h.payloads l x out (ap (has x) (f.lists l out) ∙ on) ∙ f.payloads l x out on;
}

-- a slot of a group is on one of its lists
pub record HasList (a : Slots) (g : GroupLists) (x : ℕ) : Type 0 where
  pub list : ℕ
  pub own : IsOwn g list
  pub on : is_on a 0 list x ≡ true

pub owned_list : (a : Slots) (g : GroupLists) (x : ℕ) → IsNumbered g → is_owned a g x ≡ true → HasList a g x
owned_list a g x n own = by (is_on a 0 g.free x) (is_on a 0 g.queued x) (is_on a 0 g.running x) (is_on a 0 g.settled x) refl refl refl refl own
  where
    by : (p q r t : Bool) → is_on a 0 g.free x ≡ p → is_on a 0 g.queued x ≡ q → is_on a 0 g.running x ≡ r → is_on a 0 g.settled x ≡ t → (p || (q || (r || t))) ≡ true → HasList a g x
    by true q r t i j k l e = record { list = g.free; own = record { from = omega arith; to = omega (arith, n.settled) }; on = i }
    by false true r t i j k l e = record { list = g.queued; own = record { from = omega (arith, n.queued); to = omega (arith, n.queued, n.settled) }; on = j }
    by false false true t i j k l e = record { list = g.running; own = record { from = omega (arith, n.running); to = omega (arith, n.running, n.settled) }; on = k }
    by false false false true i j k l e = record { list = g.settled; own = record { from = omega (arith, n.settled); to = omega arith }; on = l }
    by false false false false i j k l e = absurd cc

-- what lies on a list of one group is no slot of another
pub not_owned : (a : Slots) (g h : GroupLists) → IsArena a 0 → IsNumbered g → IsApart g h → (l x : ℕ) → IsOwn h l → is_on a 0 l x ≡ true → is_owned a g x ≡ false
not_owned a g h arena n apart l x own on = by (is_owned a g x) refl
  where
    by : (b : Bool) → is_owned a g x ≡ b → b ≡ false
    by false e = refl
    by true e = let r = owned_list a g x n e in absurd (apart.apart l (subst (IsOwn g) (arena.apart r.list l x r.on on) r.own) own)

-- as for each group but the one that changed
pub frame_same : (g h : GroupLists) (a b : Slots) → IsArena a 0 → IsNumbered g → IsFrame g a b → IsChainFrame g a b → IsApart g h → IsSame h a b
frame_same g h a b arena n frame chains apart = record {
  slots = omega (arith, frame.slots);
  count = omega (arith, frame.count);
  lists = λ l own. frame.lists l (λ other. apart.apart l other own);
  payloads = λ l x own on. frame.payloads l x (λ other. apart.apart l other own) on;
  chains = beside_kept g (names_of h) a b chains (apart_beside g h apart);
  by_name = λ l x own on. chains.names.others x (not_owned a g h arena n apart l x own on);
  by_context = λ l x own on. chains.contexts.others x (not_owned a g h arena n apart l x own on);
}

-- numbers of which none passes count for nothing
count_past : (p : ℕ → Bool) (n m : ℕ) → n ≤ m → ((x : ℕ) → n ≤ x → p x ≡ false) → count_below m p ≡ count_below n p
count_past p n zero le none = let e : n ≡ 0 = omega (arith, le) in sym (ap (λ z. count_below z p) e)
count_past p n (suc m) le none = elim (cases_eq n (suc m)) [
  | inl e ↦ sym (ap (λ z. count_below z p) e)
  | inr ne ↦ let k : one (p m) ≡ 0 = ap one (none m (omega (arith, le, ne))) in omega (arith, k, count_past p n m (omega (arith, le, ne)) none)
]

listed_past : (at : ℕ → Option Ticket) (n m : ℕ) → n ≤ m → ((x : ℕ) → n ≤ x → at x ≡ None) → listed at m ≡ listed at n
listed_past at n zero le none = let e : n ≡ 0 = omega (arith, le) in sym (ap (listed at) e)
listed_past at n (suc m) le none = elim (cases_eq n (suc m)) [
  | inl e ↦ sym (ap (listed at) e)
  | inr ne ↦ ap (λ o. put_in o (listed at m)) (none m (omega (arith, le, ne))) ∙ listed_past at n m (omega (arith, le, ne)) none
]

slotted_past : (at : ℕ → Option Ticket) (n m : ℕ) → n ≤ m → ((x : ℕ) → n ≤ x → at x ≡ None) → slotted at m ≡ slotted at n
slotted_past at n zero le none = let e : n ≡ 0 = omega (arith, le) in sym (ap (slotted at) e)
slotted_past at n (suc m) le none = elim (cases_eq n (suc m)) [
  | inl e ↦ sym (ap (slotted at) e)
  | inr ne ↦ ap (λ o. slot_in m o (slotted at m)) (none m (omega (arith, le, ne))) ∙ slotted_past at n m (omega (arith, le, ne)) none
]

-- the lists of the group that have tickets, and what lies on them, are as before
pub record KeepsLive (g : GroupLists) (a b : Slots) : Type 0 where
  pub slots : length a.payloads ≤ length b.payloads
  pub count : length (lists_in a 0) ≤ length (lists_in b 0)
  pub lists : (l : ℕ) → IsOwn g l → l ≢ g.free → slots_on b 0 l ≡ slots_on a 0 l
  pub payloads : (l x : ℕ) → IsOwn g l → is_on a 0 l x ≡ true → slice_get b.payloads x ≡ slice_get a.payloads x

module _ (a b : Slots) (h : GroupSlots) (same : KeepsLive h.lists a b) (arena : IsArena a 0) (group : IsGroupSlots a h) where
  n : IsNumbered h.lists
  n = group.numbered

  own_queued : IsOwn h.lists h.lists.queued
  own_queued = record { from = omega (arith, n.queued); to = omega (arith, n.queued, n.settled) }

  own_running : IsOwn h.lists h.lists.running
  own_running = record { from = omega (arith, n.running); to = omega (arith, n.running, n.settled) }

  own_settled : IsOwn h.lists h.lists.settled
  own_settled = record { from = omega (arith, n.settled); to = omega arith }

  queued_same : slots_on b 0 h.lists.queued ≡ slots_on a 0 h.lists.queued
  queued_same = same.lists h.lists.queued own_queued (λ e. absurd (omega (arith, e, n.queued)))

  running_same : slots_on b 0 h.lists.running ≡ slots_on a 0 h.lists.running
  running_same = same.lists h.lists.running own_running (λ e. absurd (omega (arith, e, n.running)))

  settled_same : slots_on b 0 h.lists.settled ≡ slots_on a 0 h.lists.settled
  settled_same = same.lists h.lists.settled own_settled (λ e. absurd (omega (arith, e, n.settled)))

  -- what lay on the group's lists with tickets lies there still
  pub live_same : (x : ℕ) → is_live b h.lists x ≡ is_live a h.lists x
  live_same x = λ i. has x (queued_same i) || (has x (running_same i) || has x (settled_same i))

  -- a slot has the ticket of the group that it had
  pub at_same : (x : ℕ) → ticket_at b h.lists x ≡ ticket_at a h.lists x
  at_same x = ap (λ c. if c then slice_get b.payloads x else None) (live_same x)
      ∙ by (is_on a 0 h.lists.queued x) (is_on a 0 h.lists.running x) (is_on a 0 h.lists.settled x) refl refl refl
    where
      by : (p q r : Bool) → is_on a 0 h.lists.queued x ≡ p → is_on a 0 h.lists.running x ≡ q → is_on a 0 h.lists.settled x ≡ r → (if (p || (q || r)) then slice_get b.payloads x else None) ≡ (if (p || (q || r)) then slice_get a.payloads x else None)
      by true q r e f k = same.payloads h.lists.queued x own_queued e
      by false true r e f k = same.payloads h.lists.running x own_running f
      by false false true e f k = same.payloads h.lists.settled x own_settled k
      by false false false e f k = refl

  -- past the slots that there were nothing is the group's
  off : (l x : ℕ) → length a.payloads ≤ x → is_on a 0 l x ≡ false
  off l x past = by (is_on a 0 l x) refl
    where
      by : (c : Bool) → is_on a 0 l x ≡ c → c ≡ false
      by false e = refl
      by true e = absurd (omega (arith, past, arena.within l x e))

  -- and none has a ticket
  pub none_past : (x : ℕ) → length a.payloads ≤ x → ticket_at a h.lists x ≡ None
  none_past x past = ap (λ c. if c then slice_get a.payloads x else None) (λ i. off h.lists.queued x past i || (off h.lists.running x past i || off h.lists.settled x past i))

  pub owned_past : (x : ℕ) → length a.payloads ≤ x → is_owned a h.lists x ≡ false
  owned_past x past = λ i. off h.lists.free x past i || (off h.lists.queued x past i || (off h.lists.running x past i || off h.lists.settled x past i))

  -- the group's tickets are as they were
  tickets_same : tickets_of b h.lists ≡ tickets_of a h.lists
  tickets_same = (λ i. listed (λ x. at_same x i) (length b.payloads)) ∙ listed_past (ticket_at a h.lists) (length a.payloads) (length b.payloads) same.slots none_past

  -- the group's tickets with their slots are as they were
  slotted_same : slotted (ticket_at b h.lists) (length b.payloads) ≡ slotted (ticket_at a h.lists) (length a.payloads)
  slotted_same = (λ i. slotted (λ x. at_same x i) (length b.payloads)) ∙ slotted_past (ticket_at a h.lists) (length a.payloads) (length b.payloads) same.slots none_past

  -- as many of the group's tickets pass as before
  count_alike : (q : Ticket → Bool) → count_at b h.lists q ≡ count_at a h.lists q
  count_alike q = count_same (λ x. has_one q (ticket_at b h.lists x)) (λ x. has_one q (ticket_at a h.lists x)) (length b.payloads) (λ x. ap (has_one q) (at_same x))
      ∙ count_past (λ x. has_one q (ticket_at a h.lists x)) (length a.payloads) (length b.payloads) same.slots (λ x past. ap (has_one q) (none_past x past))

  arranged_same : IsArranged b h.lists h.next
  arranged_same = record {
    distinct = λ x y t u p q e. group.arranged.distinct x y t u (sym (at_same x) ∙ p) (sym (at_same y) ∙ q) e;
    below = λ x t p. group.arranged.below x t (sym (at_same x) ∙ p);
    placed = λ x t p. each_list (λ l. is_on b 0 l x ≡ is_on a 0 l x) h.lists (ap (has x) queued_same) (ap (has x) running_same) (ap (has x) settled_same) t.state ∙ group.arranged.placed x t (sym (at_same x) ∙ p);
    order = subst (InOrder b.payloads) (sym queued_same)
        (order_same a.payloads b.payloads (slots_on a 0 h.lists.queued) (λ y i. ap serial_in (same.payloads h.lists.queued y own_queued i)) group.arranged.order);
  }

  -- what the group keeps still fits its tickets, with so many slots that are not made yet, where its slots do and lie on its chains
  pub live_kept : (unmade : ℕ) → IsChained b h.lists → count_below (length b.payloads) (is_owned b h.lists) + unmade ≡ h.slots.max → IsGroupSlots b (record h { unmade = unmade })
  live_kept unmade chained slots = record {
    numbered = group.numbered;
    there = omega (arith, group.there, same.count);
    arranged = arranged_same;
    chained = chained;
    slots = slots;
    few = group.few;
    taken = group.taken ∙ sym (count_alike is_any);
    queued = group.queued ∙ sym (count_alike is_queued);
    commands = group.commands;
    counts = λ c lt. counts_alike (count_at a h.lists) (count_at b h.lists) c (counts_of h.commands c) count_alike (group.counts c lt);
    known = λ x t p. group.known x t (sym (at_same x) ∙ p);
    since = λ x t p opens. group.since x t (sym (at_same x) ∙ p) opens;
    times = times_kept a b h.lists h.order.latest h.order.in_time (λ x u p. had a h.lists x u (sym (at_same x) ∙ p)) group.times;
    turns = turns_kept a b h.lists h.order.last_started h.order.in_turn
        (λ y i.
        let was : is_on a 0 h.lists.running y ≡ true = sym (ap (has y) running_same) ∙ i in
        (was, ap serial_in (same.payloads h.lists.running y own_running was)))
        (λ order. subst (InOrder a.payloads) (sym running_same) order) group.turns;
    needed = λ x t p. group.needed x t (sym (at_same x) ∙ p);
  }

  -- contracts see the group as it was
  pub live_shown : (unmade : ℕ) → group_of b (record h { unmade = unmade }) ≡ group_of a h
  live_shown unmade = λ i. record { items = tickets_same i; room = h.slots.max; next = h.next; slots = slotted_same i }

-- ---- the lists of the group are as before

live_from : (g : GroupLists) (a b : Slots) → IsSame g a b → KeepsLive g a b
live_from g a b same = record { slots = same.slots; count = same.count; lists = λ l own ne. same.lists l own; payloads = same.payloads }

module _ (a b : Slots) (h : GroupSlots) (same : IsSame h.lists a b) (arena : IsArena a 0) (group : IsGroupSlots a h) where
  abbrev keeps : KeepsLive h.lists a b
  keeps = live_from h.lists a b same

  free_same : slots_on b 0 h.lists.free ≡ slots_on a 0 h.lists.free
  free_same = same.lists h.lists.free (record { from = omega arith; to = omega (arith, group.numbered.settled) })

  owned_alike : (x : ℕ) → is_owned b h.lists x ≡ is_owned a h.lists x
  owned_alike x = λ i. has x (free_same i) || live_same a b h keeps arena group x i

  -- what the group keeps still fits its tickets
  pub slots_same : IsGroupSlots b h
  slots_same = live_kept a b h keeps arena group h.unmade
      (chains_kept a b h.lists same.chains
      (λ x was. let r = owned_list a h.lists x group.numbered was in same.by_name r.list x r.own r.on)
      (λ x was. let r = owned_list a h.lists x group.numbered was in same.by_context r.list x r.own r.on) owned_alike (at_same a b h keeps arena group) group.chained)
      (ap (λ m. m + h.unmade) (count_same (is_owned b h.lists) (is_owned a h.lists) (length b.payloads) owned_alike ∙ count_past (is_owned a h.lists) (length a.payloads) (length b.payloads) same.slots (owned_past a b h keeps arena group)) ∙ group.slots)

  -- contracts see the group as it was
  pub group_same : group_of b h ≡ group_of a h
  group_same = live_shown a b h keeps arena group h.unmade
