-- The ticket of a name, and whether a group has a ticket of a kind.
use Rattle.std.proofs.Common.{◌≡◌, ℕ, ◌+◌, ◌-◌, ◌≤◌, ◌⊎◌, inl, inr, Bool, true, false, cond, List, [], ◌∷◌, length, drop, filter, Option, Some, None, refl, ◌∙◌, sym, ap, add-one}
use Rattle.std.specs.List.{list_any}
use Rattle.std.specs.Prelude.{◌||◌, ◌&&◌, ◌==◌, IfSome, eqb, nat_le, slice_get, find, is_some, if◌then◌else◌}
use Rattle.std.proofs.lemmas.Bool.{cases_eq, eq-eqb, ne_eqb}
use Rattle.bh_base.specs.declared.ticket.Ticket.{Ticket}
use Rattle.bh_base.specs.declared.ticket.TicketState.{TicketState}
use Rattle.bh_base.specs.declared.ticket.TicketState.TheVariants as ticket
use Rattle.bh_base.specs.Tickets.{is_queued, is_running, is_of}
use Rattle.bh_slot_arena.specs.Slots.{slots_on}
use Rattle.bh_cache.specs.Cache.{IsEarliest}
use Rattle.bh_cache.specs.Slots.{Slots, is_on, is_live, ticket_at, tickets_of, list_for, has_serial_in, has, has_one}
use Rattle.bh_cache.proofs.Listed.{IsIn, from_listed, find_none}
use Rattle.bh_cache.proofs.Walks.{on_queued, on_running, on_settled}
use Rattle.bh_cache.proofs.Members.{drop_at, drop_past, drop_end}
use Rattle.bh_cache.proofs.Earliest.{earliest_first, none_first as no_first}
use Rattle.bh_tickets.specs.declared.group_slots.GroupSlots.{GroupSlots}
use Rattle.bh_tickets.specs.declared.states.DueRule.{DueRule}
use Rattle.bh_tickets.specs.Changes.{is_due_by}
use Rattle.bh_tickets.specs.GroupSlots.{any_at}
use Rattle.bh_tickets.specs.TicketsView.{GroupTickets, group_at, IsFirstAt}
use Rattle.bh_tickets.specs.Whole.{view_of, AreGroupSlots}
use Rattle.bh_tickets.proofs.Finds.{is_in, found_first, other_first, none_first, first_at, none_at, ticket_of}
use Rattle.bh_tickets.proofs.Puts.{held_at, queued_in}
use Rattle.bh_tickets.proofs.Whole.{group_is}

-- whether a ticket in the state runs
abbrev pub running_in : TicketState → Bool
running_in r = elim r [ ticket.Running ↦ true | _ ↦ false ]

-- ---- a walk along a list

module _ (f : ℕ → Bool) (xs : List ℕ) (i x : ℕ) (at : slice_get xs i ≡ Some x) where
  any_dropped : list_any f (drop i xs) ≡ (f x || list_any f (drop (i + 1) xs))
  any_dropped = ap (list_any f) (drop_at xs i x at) ∙ ap (λ n. f x || list_any f (drop n xs)) (sym (add-one i))

  -- where the number at the place passes, one from there on passes
  pub any_here : f x ≡ true → list_any f (drop i xs) ≡ true
  any_here e = any_dropped ∙ ap (λ b. b || list_any f (drop (i + 1) xs)) e

  -- where the number at the place does not pass, whether one from there on does is whether one behind it does
  pub any_next : f x ≡ false → list_any f (drop i xs) ≡ list_any f (drop (i + 1) xs)
  any_next e = any_dropped ∙ ap (λ b. b || list_any f (drop (i + 1) xs)) e

-- from a place on that the list does not have, none passes
pub any_past : (f : ℕ → Bool) (xs : List ℕ) (i : ℕ) → slice_get xs i ≡ None → list_any f (drop i xs) ≡ false
any_past f xs i e = ap (list_any f) (drop_past xs i e)

-- from the end of the list on, none passes
pub any_end : (f : ℕ → Bool) (xs : List ℕ) (i : ℕ) → length xs ≤ i → list_any f (drop i xs) ≡ false
any_end f xs i e = ap (list_any f) (drop_end xs i e)

-- ---- what a list of tickets has

pub any_found : (p : Ticket → Bool) (ts : List Ticket) (t : Ticket) → find p ts ≡ Some t → list_any p ts ≡ true
any_found p [] t e = absurd cc
any_found p (u ∷ us) t e = by (p u) e (any_found p us t)
  where
    by : (b : Bool) → cond b (Some u) (find p us) ≡ Some t → (find p us ≡ Some t → list_any p us ≡ true) → (b || list_any p us) ≡ true
    by true e rest = refl
    by false e rest = rest e

pub any_none : (p : Ticket → Bool) (ts : List Ticket) → find p ts ≡ None → list_any p ts ≡ false
any_none p [] e = refl
any_none p (u ∷ us) e = by (p u) e (any_none p us)
  where
    by : (b : Bool) → cond b (Some u) (find p us) ≡ None → (find p us ≡ None → list_any p us ≡ false) → (b || list_any p us) ≡ false
    by true e rest = absurd cc
    by false e rest = rest e

pub any_filtered : (p q : Ticket → Bool) (ts : List Ticket) → list_any p (filter q ts) ≡ list_any (λ u. p u && q u) ts
any_filtered p q [] = refl
any_filtered p q (u ∷ us) = by (q u) (any_filtered p q us)
  where
    and_true : (b : Bool) → b ≡ (b && true)
    and_true true = refl
    and_true false = refl

    and_false : (b : Bool) → false ≡ (b && false)
    and_false true = refl
    and_false false = refl

    by : (b : Bool) → list_any p (filter q us) ≡ list_any (λ u. p u && q u) us → list_any p (if b then u ∷ filter q us else filter q us) ≡ ((p u && b) || list_any (λ u. p u && q u) us)
    by true rest = λ i. and_true (p u) i || rest i
    by false rest = rest ∙ ap (λ c. c || list_any (λ u. p u && q u) us) (and_false (p u))

any_in : (p : Ticket → Bool) (ts : List Ticket) (t : Ticket) → IsIn t ts → p t ≡ true → list_any p ts ≡ true
any_in p [] t i e = absurd i
any_in p (u ∷ us) t (inl k) e = ap (λ b. b || list_any p us) (ap p k ∙ e)
any_in p (u ∷ us) t (inr k) e = ap (λ b. p u || b) (any_in p us t k e) ∙ or_true (p u)
  where
    or_true : (b : Bool) → (b || true) ≡ true
    or_true true = refl
    or_true false = refl

any_of_none : (p : Ticket → Bool) (ts : List Ticket) → ((t : Ticket) → IsIn t ts → p t ≡ false) → list_any p ts ≡ false
any_of_none p ts none = any_none p ts (find_none p ts none)

-- a slot of a list of slots that has one
pub any_slot : (f : ℕ → Bool) (xs : List ℕ) → list_any f xs ≡ true → (x : ℕ) × (has x xs ≡ true) × (f x ≡ true)
any_slot f [] e = absurd cc
any_slot f (y ∷ ys) e = by (f y) refl e (any_slot f ys)
  where
    by : (b : Bool) → f y ≡ b → (b || list_any f ys) ≡ true → (list_any f ys ≡ true → (x : ℕ) × (has x ys ≡ true) × (f x ≡ true)) → (x : ℕ) × (has x (y ∷ ys) ≡ true) × (f x ≡ true)
    by true is e rest = (y, ap (λ c. c || has y ys) (eq-eqb y y refl), is)
    by false is e rest = let r = rest e in (r.0, ap (λ c. eqb y r.0 || c) r.1 ∙ or_true (eqb y r.0), r.2)
      where
        or_true : (b : Bool) → (b || true) ≡ true
        or_true true = refl
        or_true false = refl

slot_any : (f : ℕ → Bool) (xs : List ℕ) (x : ℕ) → has x xs ≡ true → f x ≡ true → list_any f xs ≡ true
slot_any f [] x h e = absurd cc
slot_any f (y ∷ ys) x h e = elim (cases_eq y x) [
  | inl k ↦ ap (λ b. b || list_any f ys) (ap f k ∙ e)
  | inr ne ↦ ap (λ b. f y || b) (slot_any f ys x (ap (λ b. b || has x ys) (sym (ne_eqb y x ne)) ∙ h) e) ∙ or_true (f y)
]
  where
    or_true : (b : Bool) → (b || true) ≡ true
    or_true true = refl
    or_true false = refl

-- ---- the ticket of a name
module _ (a : Slots) (ss : List GroupSlots) (i : ℕ) (s : GroupSlots) (whole : AreGroupSlots a ss) (is : slice_get ss i ≡ Some s) (p : Ticket → Bool) where
  first_named : (x : ℕ) → IsEarliest p a s.lists x → IsFirstAt p (group_at (view_of a ss) i) x
  first_named x e = first_at a ss i s whole is p x e.ticket e.here (earliest_first p a s.lists (whole.each i s is).arranged.distinct x e)

  -- the slot of the least serial that passes, where one was found, has the first ticket that contracts see pass
  pub name_found : (o : Option ℕ) → IfSome o (λ x. IsEarliest p a s.lists x) → IfSome o (λ x. IsFirstAt p (group_at (view_of a ss) i) x)
  name_found None e = tt
  name_found (Some x) e = first_named x e

  -- where no slot has a ticket that passes, contracts see none that passes
  pub name_none : ((x : ℕ) → has_one p (ticket_at a s.lists x) ≡ false) → find p (group_at (view_of a ss) i).items ≡ None
  name_none none = none_at a ss i s whole is p (no_first p a s.lists none)

-- ---- whether there is one

-- a search that finds the first ticket that passes, or nothing where none does, says whether there is one
pub any_first : (p : Ticket → Bool) (g : GroupTickets) (o : Option ℕ) → IfSome o (λ x. IsFirstAt p g x) → (o ≡ None → find p g.items ≡ None) → is_some o ≡ list_any p g.items
any_first p g None found none = sym (any_none p g.items (none refl))
any_first p g (Some x) found none = sym (any_found p g.items found.ticket found.first)

module _ (a : Slots) (ss : List GroupSlots) (i : ℕ) (s : GroupSlots) (whole : AreGroupSlots a ss) (is : slice_get ss i ≡ Some s) where
  -- whether contracts see a ticket that passes is whether the group has one in the arena
  pub shown_any : (p : Ticket → Bool) → list_any p (group_at (view_of a ss) i).items ≡ list_any p (tickets_of a s.lists)
  shown_any p = ap (λ (z : GroupTickets). list_any p z.items) (group_is a ss i s is)

  module _ (p : Ticket → Bool) where
    on_list : (l x : ℕ) → (is_on a 0 l x ≡ true → is_live a s.lists x ≡ true) → is_on a 0 l x ≡ true → has_one p (slice_get a.payloads x) ≡ true → list_any p (tickets_of a s.lists) ≡ true
    on_list l x live on e = one_at (slice_get a.payloads x) refl e
      where
        one_at : (o : Option Ticket) → slice_get a.payloads x ≡ o → has_one p o ≡ true → list_any p (tickets_of a s.lists) ≡ true
        one_at None read e = absurd cc
        one_at (Some t) read e = any_in p (tickets_of a s.lists) t (is_in a s whole.arena (whole.each i s is) x t (ap (λ c. if c then slice_get a.payloads x else None) (live on) ∙ read)) e

    -- where a ticket on a list of the group passes, contracts see one that passes
    pub one_shown : (l : ℕ) → ((x : ℕ) → is_on a 0 l x ≡ true → is_live a s.lists x ≡ true) → any_at p a.payloads (slots_on a 0 l) ≡ true → true ≡ list_any p (group_at (view_of a ss) i).items
    one_shown l live e =
        let r = any_slot (λ x. has_one p (slice_get a.payloads x)) (slots_on a 0 l) e in
        sym (shown_any p ∙ on_list l r.0 (live r.0) r.1 r.2)

    -- a ticket of the group that passes does so on the list for its state
    on_its_list : (x : ℕ) (u : Ticket) → ticket_at a s.lists x ≡ Some u → p u ≡ true → any_at p a.payloads (slots_on a 0 (list_for s.lists u.state)) ≡ true
    on_its_list x u here e = slot_any (λ y. has_one p (slice_get a.payloads y)) (slots_on a 0 (list_for s.lists u.state)) x ((whole.each i s is).arranged.placed x u here) (ap (has_one p) (held_at a s.lists x u here).1 ∙ e)

    -- where none passes on the list for the state of a ticket that does, contracts see none that passes
    pub none_shown : ((u : Ticket) → p u ≡ true → any_at p a.payloads (slots_on a 0 (list_for s.lists u.state)) ≡ false) → false ≡ list_any p (group_at (view_of a ss) i).items
    none_shown none = sym (shown_any p ∙ any_of_none p (tickets_of a s.lists) (λ u k. by u k (p u) refl))
      where
        never : true ≡ false → ⊥
        never e = cc

        by : (u : Ticket) → IsIn u (tickets_of a s.lists) → (b : Bool) → p u ≡ b → b ≡ false
        by u k false e = refl
        by u k true e =
            let z = from_listed (ticket_at a s.lists) (length a.payloads) u k in
            absurd (never (sym (on_its_list z.0 u z.2 e) ∙ none u e))

    -- where no slot has a ticket that passes, contracts see none that passes
    pub none_at_all : ((x : ℕ) (u : Ticket) → ticket_at a s.lists x ≡ Some u → p u ≡ false) → false ≡ list_any p (group_at (view_of a ss) i).items
    none_at_all none = sym (shown_any p ∙ any_of_none p (tickets_of a s.lists) (λ u k. let z = from_listed (ticket_at a s.lists) (length a.payloads) u k in none z.0 u z.2))

    none_of_three : any_at p a.payloads (slots_on a 0 s.lists.queued) ≡ false → any_at p a.payloads (slots_on a 0 s.lists.running) ≡ false → any_at p a.payloads (slots_on a 0 s.lists.settled) ≡ false → false ≡ list_any p (group_at (view_of a ss) i).items
    none_of_three q r t = none_shown (λ u e. at u.state)
      where
        at : (state : TicketState) → any_at p a.payloads (slots_on a 0 (list_for s.lists state)) ≡ false
        at ticket.Queued = q
        at ticket.Running = r
        at (ticket.NeedsFallback c) = t
        at (ticket.InFallback c) = t
        at (ticket.Answered c) = t

    -- whether one on the queue, one on the list of running ones or one on that of settled ones passes is whether contracts see one that passes
    pub any_of_three : (b c d : Bool) → b ≡ any_at p a.payloads (slots_on a 0 s.lists.queued) → c ≡ any_at p a.payloads (slots_on a 0 s.lists.running) → d ≡ any_at p a.payloads (slots_on a 0 s.lists.settled) → (b || c || d) ≡ list_any p (group_at (view_of a ss) i).items
    any_of_three true c d e f h = one_shown s.lists.queued (on_queued a s.lists) (sym e)
    any_of_three false true d e f h = one_shown s.lists.running (on_running a s.lists) (sym f)
    any_of_three false false true e f h = one_shown s.lists.settled (on_settled a s.lists) (sym h)
    any_of_three false false false e f h = none_of_three (sym e) (sym f) (sym h)

  module _ (due : DueRule) where
    shown_due : (serial : ℕ) → list_any (λ u. u.serial == serial) (filter (is_due_by due) (group_at (view_of a ss) i).items) ≡ list_any (λ u. u.serial == serial && is_due_by due u) (tickets_of a s.lists)
    shown_due serial = ap (λ (z : GroupTickets). list_any (λ u. u.serial == serial) (filter (is_due_by due) z.items)) (group_is a ss i s is) ∙ any_filtered (λ u. u.serial == serial) (is_due_by due) (tickets_of a s.lists)

    -- where no slot has a ticket of the serial, contracts see none of the serial that is due
    pub no_such : (serial : ℕ) → ((x : ℕ) → has_serial_in serial (ticket_at a s.lists x) ≡ false) → false ≡ list_any (λ u. u.serial == serial) (filter (is_due_by due) (group_at (view_of a ss) i).items)
    no_such serial none = sym (shown_due serial ∙ any_none (λ u. u.serial == serial && is_due_by due u) (tickets_of a s.lists) (none_first a s whole.arena (whole.each i s is) serial (is_due_by due) none))

    -- whether the slot's ticket of the serial is due is whether contracts see one of the serial that is due
    pub due_at : (serial x : ℕ) (t : Ticket) → has_serial_in serial (ticket_at a s.lists x) ≡ true → Some t ≡ slice_get a.payloads x → is_due_by due t ≡ list_any (λ u. u.serial == serial) (filter (is_due_by due) (group_at (view_of a ss) i).items)
    due_at serial x t has' read = by (is_due_by due t) refl
      where
        r : (ticket_at a s.lists x ≡ Some t) × (t.serial ≡ serial)
        r = ticket_of a ss i s whole is serial x t has' read

        by : (b : Bool) → is_due_by due t ≡ b → b ≡ list_any (λ u. u.serial == serial) (filter (is_due_by due) (group_at (view_of a ss) i).items)
        by true e = sym (shown_due serial ∙ any_found (λ u. u.serial == serial && is_due_by due u) (tickets_of a s.lists) t (found_first a s whole.arena (whole.each i s is) serial (is_due_by due) x t r.0 r.1 e))
        by false e = sym (shown_due serial ∙ any_none (λ u. u.serial == serial && is_due_by due u) (tickets_of a s.lists) (other_first a s whole.arena (whole.each i s is) serial (is_due_by due) x t r.0 r.1 e))

    -- a ticket that is due is queued or running
    open_list : (u : Ticket) → is_due_by due u ≡ true → (list_for s.lists u.state ≡ s.lists.queued) ⊎ (list_for s.lists u.state ≡ s.lists.running)
    open_list u e = of u.state (and_third (is_of due.command u) due.timeout_on (is_queued u || is_running u) (nat_le due.timeout_ms (due.moment - u.submitted)) e)
      where
        and_third : (a b c d : Bool) → (a && b && c && d) ≡ true → c ≡ true
        and_third true true true d e = refl
        and_third true true false d e = absurd cc
        and_third true false c d e = absurd cc
        and_third false b c d e = absurd cc

        of : (r : TicketState) → (queued_in r || running_in r) ≡ true → (list_for s.lists r ≡ s.lists.queued) ⊎ (list_for s.lists r ≡ s.lists.running)
        of ticket.Queued e = inl refl
        of ticket.Running e = inr refl
        of (ticket.NeedsFallback c) e = absurd cc
        of (ticket.InFallback c) e = absurd cc
        of (ticket.Answered c) e = absurd cc

    -- where a ticket on the queue is due, contracts see one that is due
    pub due_queued : any_at (is_due_by due) a.payloads (slots_on a 0 s.lists.queued) ≡ true → true ≡ list_any (is_due_by due) (group_at (view_of a ss) i).items
    due_queued e = one_shown (is_due_by due) s.lists.queued (on_queued a s.lists) e

    -- where a ticket on the list of running ones is due, contracts see one that is due
    pub due_running : any_at (is_due_by due) a.payloads (slots_on a 0 s.lists.running) ≡ true → true ≡ list_any (is_due_by due) (group_at (view_of a ss) i).items
    due_running e = one_shown (is_due_by due) s.lists.running (on_running a s.lists) e

    -- where no ticket on either list is due, contracts see none that is due
    pub due_nowhere : any_at (is_due_by due) a.payloads (slots_on a 0 s.lists.queued) ≡ false → any_at (is_due_by due) a.payloads (slots_on a 0 s.lists.running) ≡ false → false ≡ list_any (is_due_by due) (group_at (view_of a ss) i).items
    due_nowhere q r = none_shown (is_due_by due) (λ u e. elim (open_list u e) [
      | inl k ↦ ap (λ l. any_at (is_due_by due) a.payloads (slots_on a 0 l)) k ∙ q
      | inr k ↦ ap (λ l. any_at (is_due_by due) a.payloads (slots_on a 0 l)) k ∙ r
    ])

    -- whether one on the queue or one on the list of running ones is due is whether contracts see one that is due
    pub due_either : (b c : Bool) → b ≡ any_at (is_due_by due) a.payloads (slots_on a 0 s.lists.queued) → c ≡ any_at (is_due_by due) a.payloads (slots_on a 0 s.lists.running) → (b || c) ≡ list_any (is_due_by due) (group_at (view_of a ss) i).items
    due_either true c e f = due_queued (sym e)
    due_either false true e f = due_running (sym f)
    due_either false false e f = due_nowhere (sym e) (sym f)
