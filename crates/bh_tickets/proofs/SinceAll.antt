-- A walk for tickets that are due finds since when tickets of the command wait or run.
use Rattle.std.proofs.Common.{◌≡◌, ℕ, ◌+◌, ◌-◌, ◌<◌, ◌≤◌, ◌⊎◌, inl, inr, Bool, true, false, List, [], ◌∷◌, take, Option, Some, None, refl, ◌∙◌, sym, ap, subst, arith}
use Rattle.std.specs.Prelude.{◌&&◌, ◌||◌, eqb, nat_le, nat_lt, slice_get, if◌then◌else◌}
use Rattle.std.specs.Option.{option_map}
use Rattle.std.proofs.lemmas.Bool.{cases_eq, leb-true, le-leb, lt-ltb, eqb-true}
use Rattle.std.proofs.lemmas.List.{get_or-set_same, get_or-set_other, length-set}
use Rattle.bh_base.specs.declared.ticket.Ticket.{Ticket}
use Rattle.bh_base.specs.declared.ticket.TicketState.{TicketState}
use Rattle.bh_base.specs.declared.ticket.TicketState.TheVariants as ticket
use Rattle.bh_base.specs.Tickets.{is_of}
use Rattle.bh_slot_arena.specs.Slots.{slots_on}
use Rattle.bh_cache.specs.declared.lists.GroupLists.{GroupLists}
use Rattle.bh_cache.specs.Slots.{Slots, has, is_on, list_for, ticket_at, IsArena}
use Rattle.bh_cache.proofs.Members.{has_append, take_one_more}
use Rattle.bh_tickets.specs.declared.counts.CommandCounts.{CommandCounts}
use Rattle.bh_tickets.specs.declared.group_slots.GroupSlots.{GroupSlots}
use Rattle.bh_tickets.specs.declared.states.DueRule.{DueRule}
use Rattle.bh_tickets.specs.Changes.{is_due_by, timed_out_by}
use Rattle.bh_tickets.specs.Counts.{AreCounts, counts_of, is_open, zero_counts, open_since}
use Rattle.bh_tickets.specs.GroupSlots.{IsGroupSlots, IsSinceAt, count_at, may_be_due, with_since}
use Rattle.bh_tickets.specs.Sweeps.{IsSinceFrom, IsTimedFrom, IsTimedOut}
use Rattle.bh_tickets.proofs.Along.{has_one_slot}
use Rattle.bh_tickets.proofs.Exists.{running_in}
use Rattle.bh_tickets.proofs.Puts.{queued_in}
use Rattle.bh_tickets.proofs.Releases.{change_none}
use Rattle.bh_tickets.proofs.TimedAll.{all_timed, timed_out_all}
use Rattle.bh_tickets.proofs.Times.{with_timeout}

-- ---- one slot

-- a ticket that is not due
pub since_stays : (o : Option Ticket) (t : Ticket) (due : DueRule) (before after : ℕ) → o ≡ Some t → after ≤ before → (t.command ≡ due.command → after ≤ t.submitted) → IsSinceAt o due before after
since_stays o t due before after is earlier own = record {
  earlier = earlier;
  own = λ u e k off. let same : t ≡ u = some_same t u (sym is ∙ e) in subst (λ (z : Ticket). z.command ≡ due.command → after ≤ z.submitted) same own k;
}
  where
    some_same : (t u : Ticket) → Some t ≡ Some u → t ≡ u
    some_same t u e = cc

-- one that is
pub since_due : (o : Option Ticket) (t : Ticket) (due : DueRule) (since : ℕ) → o ≡ Some t → is_due_by due t ≡ true → IsSinceAt o due since since
since_due o t due since is on = record {
  earlier = omega arith;
  own = λ u e k off.
      let same : Some t ≡ Some u = sym is ∙ e in
      let here : t ≡ u = cc in
      let z : true ≡ false = sym on ∙ ap (is_due_by due) here ∙ off in cc;
}

-- ---- a list

pub since_none : (a : Slots) (s : GroupSlots) (due : DueRule) (since : ℕ) → IsSinceFrom [] a s due since since
since_none a s due since = record { earlier = omega arith; own = λ x t e here k off. absurd (none e) }
  where
    none : false ≡ true → ⊥
    none e = cc

-- a ticket that is not due is there still
pub not_due_stays : (xs : List ℕ) (a : Slots) (s : GroupSlots) (due : DueRule) (n : ℕ) (b : Slots) (r : GroupSlots) (y : ℕ) (t : Ticket) → IsTimedFrom xs a s due n b r → ticket_at a s.lists y ≡ Some t → is_due_by due t ≡ false → ticket_at b s.lists y ≡ Some t
not_due_stays xs a s due n b r y t timed here off = timed.swept.tickets y ∙ by (has y xs)
  where
    by : (d : Bool) → (if d then option_map (timed_out_by due) (ticket_at a s.lists y) else ticket_at a s.lists y) ≡ Some t
    by true = ap (option_map (timed_out_by due)) here ∙ ap (λ c. Some (if c then with_timeout t else t)) off
    by false = here

-- one slot more of a list
pub since_next : (xs : List ℕ) (i x : ℕ) (a : Slots) (s : GroupSlots) (due : DueRule) (n : ℕ) (b : Slots) (r : GroupSlots) (before mid after : ℕ) → slice_get xs i ≡ Some x → IsTimedFrom (take i xs) a s due n b r → IsSinceFrom (take i xs) a s due before mid → IsSinceAt (ticket_at b r.lists x) due mid after → IsSinceFrom (take (i + 1) xs) a s due before after
since_next xs i x a s due n b r before mid after at timed first second = record {
  earlier = omega (arith, first.earlier, second.earlier);
  own = λ y t e here k off. by y t here k off (has y (take i xs)) refl (sym (ap (has y) (take_one_more xs i x at) ∙ has_append y (take i xs) (x ∷ []) ∙ ap (λ d. has y (take i xs) || d) (has_one_slot x y)) ∙ e);
}
  where
    by : (y : ℕ) (t : Ticket) → ticket_at a s.lists y ≡ Some t → t.command ≡ due.command → is_due_by due t ≡ false → (d : Bool) → has y (take i xs) ≡ d → (has y (take i xs) || eqb y x) ≡ true → after ≤ t.submitted
    by y t here k off true is e = omega (arith, first.own y t is here k off, second.earlier)
    by y t here k off false is e =
        let q : y ≡ x = eqb-true y x (ap (λ d. d || eqb y x) (sym is) ∙ e) in
        let there : ticket_at b r.lists x ≡ Some t = ap (λ (g : GroupLists). ticket_at b g x) timed.swept.change.lists ∙ ap (ticket_at b s.lists) (sym q) ∙ not_due_stays (take i xs) a s due n b r y t timed here off in
        second.own t there k off

-- ---- the group

open_state : (st : TicketState) → (queued_in st || running_in st) ≡ true → (st ≡ ticket.Queued) ⊎ (st ≡ ticket.Running)
open_state ticket.Queued e = inl refl
open_state ticket.Running e = inr refl
open_state (ticket.NeedsFallback c) e = absurd cc
open_state (ticket.InFallback c) e = absurd cc
open_state (ticket.Answered c) e = absurd cc

-- both lists on which a ticket can be due
module _ (a : Slots) (s : GroupSlots) (due : DueRule) (n m : ℕ) (b : Slots) (r : GroupSlots) (c : Slots) (u : GroupSlots) (group : IsGroupSlots a s)
    (first : IsTimedFrom (slots_on a 0 s.lists.queued) a s due n b r) (second : IsTimedFrom (slots_on b 0 r.lists.running) b r due m c u)
    (before mid after : ℕ) (since : IsSinceFrom (slots_on a 0 s.lists.queued) a s due before mid) (then_since : IsSinceFrom (slots_on b 0 r.lists.running) b r due mid after) where
  -- a ticket that waits or runs after the walks did so before, and was not due
  was_open : (x : ℕ) (t : Ticket) → ticket_at c u.lists x ≡ Some t → is_open t ≡ true → (ticket_at a s.lists x ≡ Some t) × (is_due_by due t ≡ false)
  was_open x t here opens = by (ticket_at a s.lists x) refl
    where
      all : ticket_at c s.lists x ≡ option_map (timed_out_by due) (ticket_at a s.lists x)
      all = all_timed a s due n m b r c u group first second x

      lists : u.lists ≡ s.lists
      lists = second.swept.change.lists ∙ first.swept.change.lists

      by : (o : Option Ticket) → ticket_at a s.lists x ≡ o → (o ≡ Some t) × (is_due_by due t ≡ false)
      by o e = at o (sym (sym (ap (λ (g : GroupLists). ticket_at c g x) lists) ∙ here) ∙ all ∙ ap (option_map (timed_out_by due)) e)
        where
          at : (o : Option Ticket) → Some t ≡ option_map (timed_out_by due) o → (o ≡ Some t) × (is_due_by due t ≡ false)
          at None f = absurd cc
          at (Some w) f = case (is_due_by due w) refl f
            where
              case : (d : Bool) → is_due_by due w ≡ d → Some t ≡ Some (if d then with_timeout w else w) → (Some w ≡ Some t) × (is_due_by due t ≡ false)
              case true k g =
                  let same : t ≡ with_timeout w = cc in
                  let z : false ≡ true = sym (ap is_open same) ∙ opens in absurd cc
              case false k g =
                  let same : t ≡ w = cc in
                  (sym g, ap (is_due_by due) same ∙ k)

  pub open_after : (x : ℕ) (t : Ticket) → ticket_at c u.lists x ≡ Some t → t.command ≡ due.command → is_open t ≡ true → after ≤ t.submitted
  open_after x t here k opens =
      let was = was_open x t here opens in
      elim (open_state t.state opens) [
        | inl q ↦
            let on : is_on a 0 s.lists.queued x ≡ true = ap (λ st. is_on a 0 (list_for s.lists st) x) (sym q) ∙ group.arranged.placed x t was.0 in
            omega (arith, since.own x t on was.0 k was.1, then_since.earlier)
        | inr q ↦
            let there : ticket_at b r.lists x ≡ Some t = ap (λ (g : GroupLists). ticket_at b g x) first.swept.change.lists ∙ not_due_stays (slots_on a 0 s.lists.queued) a s due n b r x t first was.0 was.1 in
            let on : is_on b 0 r.lists.running x ≡ true = ap (λ st. is_on b 0 (list_for r.lists st) x) (sym q) ∙ first.swept.change.group.arranged.placed x t there in
            then_since.own x t on there k was.1
      ]

-- where tickets of the command wait and run since then, what the group keeps may say so
pub since_set : (a : Slots) (s : GroupSlots) (command since : ℕ) → IsGroupSlots a s → command < 16 → ((x : ℕ) (t : Ticket) → ticket_at a s.lists x ≡ Some t → t.command ≡ command → is_open t ≡ true → since ≤ t.submitted) → IsGroupSlots a (with_since command since s)
since_set a s command since group known own = record {
  numbered = group.numbered;
  there = group.there;
  arranged = group.arranged;
  chained = group.chained;
  slots = group.slots;
  few = group.few;
  taken = group.taken;
  queued = group.queued;
  commands = omega (arith, group.commands, length-set {A = CommandCounts});
  counts = λ c lt. elim (cases_eq c command) [
    | inl e ↦ subst (AreCounts (count_at a s.lists) c) (sym (ap (counts_of (with_since command since s).commands) e ∙ here)) (subst (λ d. AreCounts (count_at a s.lists) c (record (counts_of s.commands d) { open_since = since })) e (record {
      busy = (group.counts c lt).busy;
      queued = (group.counts c lt).queued;
      in_fallback = (group.counts c lt).in_fallback;
    }))
    | inr ne ↦ subst (AreCounts (count_at a s.lists) c) (sym (other c ne)) (group.counts c lt)
  ];
  known = group.known;
  since = λ x t e opens. elim (cases_eq t.command command) [
    | inl k ↦
        let now : open_since (with_since command since s).commands t.command ≡ since = ap (λ c. open_since (with_since command since s).commands c) k ∙ ap (λ (z : CommandCounts). z.open_since) here in
        omega (arith, now, own x t e k opens)
    | inr ne ↦
        let same : open_since (with_since command since s).commands t.command ≡ open_since s.commands t.command = ap (λ (z : CommandCounts). z.open_since) (other t.command ne) in
        omega (arith, same, group.since x t e opens)
  ];
  times = group.times;
  turns = group.turns;
  needed = group.needed;
}
  where
    here : counts_of (with_since command since s).commands command ≡ record (counts_of s.commands command) { open_since = since }
    here = get_or-set_same s.commands command (record (counts_of s.commands command) { open_since = since }) zero_counts (omega (arith, known, group.commands))

    other : (c : ℕ) → (c ≡ command → ⊥) → counts_of (with_since command since s).commands c ≡ counts_of s.commands c
    other c ne = get_or-set_other s.commands command c (record (counts_of s.commands command) { open_since = since }) zero_counts ne

-- after the walks, the group may say since when tickets of the command wait and run
pub timed_out_since : (a : Slots) (s : GroupSlots) (due : DueRule) (n : ℕ) (b : Slots) (r : GroupSlots) (since : ℕ) → IsTimedOut a s due n b r → due.command < 16
    → ((x : ℕ) (t : Ticket) → ticket_at b r.lists x ≡ Some t → t.command ≡ due.command → is_open t ≡ true → since ≤ t.submitted) → IsTimedOut a s due n b (with_since due.command since r)
timed_out_since a s due n b r since timed known own = record {
  change = record {
    arena = timed.change.arena;
    group = since_set b r due.command since timed.change.group known own;
    frame = timed.change.frame;
    chains = timed.change.chains;
    bounds = timed.change.bounds;
    lists = timed.change.lists;
    room = timed.change.room;
    unmade = timed.change.unmade;
  };
  next = timed.next;
  items = timed.items;
  serials = timed.serials;
  count = timed.count;
}

-- ---- where no walk is taken

-- where all four hold, each holds
pub all_four : (a b c d : Bool) → (a && b && c && d) ≡ true → (a ≡ true) × (b ≡ true) × (c ≡ true) × (d ≡ true)
all_four true true true d e = (refl, refl, refl, e)
all_four true true false d e = absurd cc
all_four true false c d e = absurd cc
all_four false b c d e = absurd cc

all_three : (a b c : Bool) → a ≡ true → b ≡ true → c ≡ true → (a && b && c) ≡ true
all_three a b c p q r = λ i. p i && q i && r i

module _ (a : Slots) (s : GroupSlots) (due : DueRule) (group : IsGroupSlots a s) (never : may_be_due due s ≡ false) where
  -- no ticket of the group is due
  pub none_due : (x : ℕ) (t : Ticket) → ticket_at a s.lists x ≡ Some t → is_due_by due t ≡ false
  none_due x t here = by (is_due_by due t) refl
    where
      by : (d : Bool) → is_due_by due t ≡ d → d ≡ false
      by false e = refl
      by true e =
          let four = all_four (is_of due.command t) due.timeout_on (is_open t) (nat_le due.timeout_ms (due.moment - t.submitted)) e in
          let own : t.command ≡ due.command = eqb-true t.command due.command four.0 in
          let long : due.timeout_ms ≤ due.moment - t.submitted = leb-true due.timeout_ms (due.moment - t.submitted) four.3 in
          let since : open_since s.commands due.command ≤ t.submitted = subst (λ c. open_since s.commands c ≤ t.submitted) own (group.since x t here four.2) in
          let known : due.command < 16 = omega (arith, own, group.known x t here) in
          let longer : due.timeout_ms ≤ due.moment - open_since s.commands due.command = omega (arith, long, since) in
          sym (all_three (nat_lt due.command 16) due.timeout_on (nat_le due.timeout_ms (due.moment - open_since s.commands due.command)) (lt-ltb due.command 16 known) four.1 (le-leb due.timeout_ms (due.moment - open_since s.commands due.command) longer)) ∙ never

  unchanged : (xs : List ℕ) → IsArena a 0 → IsTimedFrom xs a s due 0 a s
  unchanged xs arena = record {
    swept = record { change = change_none a s arena group; next = refl; tickets = λ y. same y (ticket_at a s.lists y) refl (has y xs) };
    count = omega arith;
  }
    where
      same : (y : ℕ) (o : Option Ticket) → ticket_at a s.lists y ≡ o → (d : Bool) → o ≡ (if d then option_map (timed_out_by due) o else o)
      same y None e true = refl
      same y None e false = refl
      same y (Some t) e true = sym (ap (λ d. Some (if d then with_timeout t else t)) (none_due y t e))
      same y (Some t) e false = refl

  -- so all of them have timed out that are due, and none has
  pub timed_out_none : IsArena a 0 → IsTimedOut a s due 0 a s
  timed_out_none arena = timed_out_all a s due 0 0 a s a s group (unchanged (slots_on a 0 s.lists.queued) arena) (unchanged (slots_on a 0 s.lists.running) arena)
