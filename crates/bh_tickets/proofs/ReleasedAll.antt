-- All of a group's tickets go that nobody needs.
use Rattle.std.proofs.Common.{◌≡◌, ℕ, zero, suc, ◌+◌, ◌<◌, ◌≤◌, ◌⊎◌, inl, inr, Bool, true, false, List, [], ◌∷◌, length, take, Option, Some, None, refl, ◌∙◌, sym, ap, subst, arith, add-one}
use Rattle.std.specs.Prelude.{◌||◌, eqb, slice_get, if◌then◌else◌}
use Rattle.std.proofs.lemmas.Bool.{cases_eq, eq-eqb, ne_eqb}
use Rattle.bh_base.specs.declared.ticket.Ticket.{Ticket}
use Rattle.bh_base.specs.declared.ticket.TicketState.{TicketState}
use Rattle.bh_base.specs.declared.ticket.TicketState.TheVariants as ticket
use Rattle.bh_base.specs.Tickets.{is_kept}
use Rattle.bh_slot_arena.specs.Slots.{slots_on}
use Rattle.bh_cache.specs.declared.lists.GroupLists.{GroupLists}
use Rattle.bh_cache.specs.Listed.{listed}
use Rattle.bh_cache.specs.Slots.{Slots, has, is_live, is_live_list, is_on, list_for, ticket_at, IsArena}
use Rattle.bh_cache.proofs.Listed.{listed_filter, option_filter}
use Rattle.bh_tickets.specs.declared.group_slots.GroupSlots.{GroupSlots}
use Rattle.bh_cache.specs.declared.notes.FewSlots.{FewSlots}
use Rattle.bh_cache.specs.declared.notes.Noted.TheVariants as noted
use Rattle.bh_cache.specs.Notes.{is_noted, nothing}
use Rattle.bh_tickets.specs.GroupSlots.{IsGroupSlots, IsGroupChange, IsReleased, IsReleasedAt, if_kept}
use Rattle.bh_tickets.specs.Sweeps.{IsReleasedFrom, IsSwept}
use Rattle.bh_tickets.proofs.Along.{change_trans, has_one_slot, swept_more}
use Rattle.bh_tickets.proofs.Releases.{change_none}

kept_again : (o : Option Ticket) → if_kept (if_kept o) ≡ if_kept o
kept_again None = refl
kept_again (Some t) = by (is_kept t) refl
  where
    by : (b : Bool) → is_kept t ≡ b → if_kept (if b then Some t else None) ≡ (if b then Some t else None)
    by true e = ap (λ b. if b then Some t else None) e
    by false e = refl

-- what is released at a slot is released from the list of just that slot
pub released_slot : (a : Slots) (s : GroupSlots) (x : ℕ) (b : Slots) (r : GroupSlots) → IsReleasedAt a s x b r → IsReleasedFrom (x ∷ []) a s b r
released_slot a s x b r released = record {
  swept = record {
    change = released.change;
    next = released.next;
    tickets = λ y. released.tickets y ∙ sym (ap (λ d. if d then if_kept (ticket_at a s.lists y) else ticket_at a s.lists y) (has_one_slot x y));
  };
  needless = released.needless;
}

-- where the first i slots of a list are released, and then the next, one slot more of the list is
pub released_more : (xs : List ℕ) (i x : ℕ) (a : Slots) (s : GroupSlots) (b : Slots) (r : GroupSlots) (c : Slots) (u : GroupSlots) → slice_get xs i ≡ Some x → IsReleasedFrom (take i xs) a s b r → IsReleasedAt b r x c u → IsReleasedFrom (take (i + 1) xs) a s c u
released_more xs i x a s b r c u at first second = record {
  swept = swept_more if_kept kept_again xs i x a s b r c u at first.swept (released_slot b r x c u second).swept;
  needless = second.needless ∙ first.needless;
}

-- a ticket that nobody needs is gone after the walk over its list
module _ (a : Slots) (s : GroupSlots) (b : Slots) (r : GroupSlots) (group : IsGroupSlots a s) (l : ℕ) (swept : IsSwept if_kept (slots_on a 0 l) a s b r) where
  stays_or_goes : (y : ℕ) → (ticket_at b s.lists y ≡ ticket_at a s.lists y) ⊎ (ticket_at b s.lists y ≡ if_kept (ticket_at a s.lists y))
  stays_or_goes y = by (is_on a 0 l y) (swept.tickets y)
    where
      by : (d : Bool) → ticket_at b s.lists y ≡ (if d then if_kept (ticket_at a s.lists y) else ticket_at a s.lists y) → (ticket_at b s.lists y ≡ ticket_at a s.lists y) ⊎ (ticket_at b s.lists y ≡ if_kept (ticket_at a s.lists y))
      by true e = inr e
      by false e = inl e

  -- the tickets that somebody needs are those from before
  pub same_kept : (y : ℕ) → if_kept (ticket_at b s.lists y) ≡ if_kept (ticket_at a s.lists y)
  same_kept y = elim (stays_or_goes y) [ inl e ↦ ap if_kept e | inr e ↦ ap if_kept e ∙ kept_again (ticket_at a s.lists y) ]

  -- what is there was there
  pub was_there : (y : ℕ) (t : Ticket) → ticket_at b s.lists y ≡ Some t → ticket_at a s.lists y ≡ Some t
  was_there y t e = elim (stays_or_goes y) [ inl f ↦ sym f ∙ e | inr f ↦ kept (ticket_at a s.lists y) (sym f ∙ e) ]
    where
      kept : (o : Option Ticket) → if_kept o ≡ Some t → o ≡ Some t
      kept None f = f
      kept (Some u) f = at (is_kept u) f
        where
          at : (d : Bool) → (if d then Some u else None) ≡ Some t → Some u ≡ Some t
          at true f = f
          at false f = absurd cc

  -- a ticket that is left though nobody needs it has a state with another list than the one walked
  pub off_list : (y : ℕ) (t : Ticket) → ticket_at b s.lists y ≡ Some t → is_kept t ≡ false → list_for s.lists t.state ≡ l → ⊥
  off_list y t e drops q = by (is_on a 0 l y) refl (swept.tickets y)
    where
      kept : (o : Option Ticket) → Some t ≡ if_kept o → is_kept t ≡ true
      kept None f = absurd cc
      kept (Some u) f = at (is_kept u) refl f
        where
          at : (d : Bool) → is_kept u ≡ d → Some t ≡ (if d then Some u else None) → is_kept t ≡ true
          at true g f = let k : t ≡ u = cc in ap is_kept k ∙ g
          at false g f = absurd cc

      by : (d : Bool) → is_on a 0 l y ≡ d → ticket_at b s.lists y ≡ (if d then if_kept (ticket_at a s.lists y) else ticket_at a s.lists y) → ⊥
      by true on f = let z : true ≡ false = sym (kept (ticket_at a s.lists y) (sym e ∙ f)) ∙ drops in cc
      by false on f =
          let was : ticket_at a s.lists y ≡ Some t = sym f ∙ e in
          let there : is_on a 0 l y ≡ true = ap (λ k. is_on a 0 k y) (sym q) ∙ group.arranged.placed y t was in
          let z : true ≡ false = sym there ∙ on in cc

as_filter : (o : Option Ticket) → if_kept o ≡ option_filter is_kept o
as_filter None = refl
as_filter (Some t) = refl

-- where each ticket that is left is needed, nothing is noted any more
module _ (a : Slots) (s : GroupSlots) (b : Slots) (r : GroupSlots) (group : IsGroupSlots a s) (change : IsGroupChange a s b r) (next : r.next ≡ s.next) (kept : (y : ℕ) → ticket_at b s.lists y ≡ if_kept (ticket_at a s.lists y)) where
  needed_all : (y : ℕ) (t : Ticket) → ticket_at b s.lists y ≡ Some t → is_kept t ≡ true
  needed_all y t e = by (ticket_at a s.lists y) (sym (kept y) ∙ e)
    where
      by : (o : Option Ticket) → if_kept o ≡ Some t → is_kept t ≡ true
      by None f = absurd cc
      by (Some u) f = at (is_kept u) refl f
        where
          at : (d : Bool) → is_kept u ≡ d → (if d then Some u else None) ≡ Some t → is_kept t ≡ true
          at true g f = let k : u ≡ t = cc in ap is_kept (sym k) ∙ g
          at false g f = absurd cc

  -- where just the tickets that somebody needs are left, the group is released, with nothing noted
  pub released_is : IsReleased a s b (record r { needless = nothing })
  released_is = record {
    change = record {
      arena = change.arena;
      group = (let g = change.group in record {
        numbered = g.numbered;
        there = g.there;
        arranged = g.arranged;
        chained = g.chained;
        slots = g.slots;
        few = g.few;
        taken = g.taken;
        queued = g.queued;
        commands = g.commands;
        counts = g.counts;
        known = g.known;
        since = g.since;
        times = g.times;
        turns = g.turns;
        needed = λ x t e k. absurd (not_both x t (ap (λ (l : GroupLists). ticket_at b l x) (sym change.lists) ∙ e) k);
      });
      frame = change.frame;
      chains = change.chains;
      bounds = change.bounds;
      lists = change.lists;
      room = change.room;
      unmade = change.unmade;
    };
    next = next;
    items = ap (listed (ticket_at b s.lists)) change.frame.slots ∙ listed_filter is_kept (ticket_at a s.lists) (ticket_at b s.lists) (length a.payloads) group.arranged.distinct (λ x lt. kept x ∙ as_filter (ticket_at a s.lists x));
  }
    where
      not_both : (x : ℕ) (t : Ticket) → ticket_at b s.lists x ≡ Some t → is_kept t ≡ false → ⊥
      not_both x t e k = let z : true ≡ false = sym (needed_all x t e) ∙ k in cc

-- a ticket that is needed is the same where it is needed
kept_same : (o : Option Ticket) → ((t : Ticket) → o ≡ Some t → is_kept t ≡ true) → o ≡ if_kept o
kept_same None keeps = refl
kept_same (Some t) keeps = sym (ap (λ d. if d then Some t else None) (keeps t refl))

keeps_unless : (p : Bool) → (p ≡ false → ⊥) → p ≡ true
keeps_unless true no' = refl
keeps_unless false no' = absurd (no' refl)

-- the tickets in the slots that were noted
pub released_few : (a : Slots) (s : GroupSlots) (few : FewSlots) (b : Slots) (r : GroupSlots) → IsGroupSlots a s → s.needless ≡ noted.Few few → IsReleasedFrom (take few.count few.slots) a (record s { needless = noted.Many }) b r → IsReleased a s b (record r { needless = nothing })
released_few a s few b r group is released = released_is a s b r group change released.swept.next (λ y. released.swept.tickets y ∙ at y (has y (take few.count few.slots)) refl)
  where
    change : IsGroupChange a s b r
    change = let k = released.swept.change in record { arena = k.arena; group = k.group; frame = k.frame; chains = k.chains; bounds = k.bounds; lists = k.lists; room = k.room; unmade = k.unmade }

    other : (y : ℕ) (t : Ticket) → has y (take few.count few.slots) ≡ false → ticket_at a s.lists y ≡ Some t → is_kept t ≡ true
    other y t out e = keeps_unless (is_kept t) (λ k.
        let z : true ≡ false = sym (sym (ap (λ n. is_noted n y) is) ∙ group.needed y t e k) ∙ out in
        cc)

    at : (y : ℕ) (d : Bool) → has y (take few.count few.slots) ≡ d → (if d then if_kept (ticket_at a s.lists y) else ticket_at a s.lists y) ≡ if_kept (ticket_at a s.lists y)
    at y true e = refl
    at y false e = kept_same (ticket_at a s.lists y) (λ t f. other y t e f)

-- where no slot is noted, each ticket is needed
pub released_empty : (a : Slots) (s : GroupSlots) → IsArena a 0 → IsGroupSlots a s → ((x : ℕ) → is_noted s.needless x ≡ false) → IsReleased a s a s
released_empty a s arena group empty = record {
  change = change_none a s arena group;
  next = refl;
  items = listed_filter is_kept (ticket_at a s.lists) (ticket_at a s.lists) (length a.payloads) group.arranged.distinct (λ x lt. kept x ∙ as_filter (ticket_at a s.lists x));
}
  where
    kept : (x : ℕ) → ticket_at a s.lists x ≡ if_kept (ticket_at a s.lists x)
    kept x = kept_same (ticket_at a s.lists x) (λ t e. keeps_unless (is_kept t) (λ k. let z : true ≡ false = sym (group.needed x t e k) ∙ empty x in cc))

-- no slot is released
pub released_nothing : (a : Slots) (s : GroupSlots) → IsArena a 0 → IsGroupSlots a s → IsReleasedFrom [] a s a s
released_nothing a s arena group = record {
  swept = record { change = change_none a s arena group; next = refl; tickets = λ y. refl };
  needless = refl;
}

-- where the first i slots are released, and then the next, one slot more is
pub released_next : (xs : List ℕ) (i x : ℕ) (a : Slots) (s : GroupSlots) (b : Slots) (r : GroupSlots) (c : Slots) (u : GroupSlots) → slice_get xs i ≡ Some x → IsReleasedFrom (take i xs) a s b r → IsReleasedFrom (x ∷ []) b r c u → IsReleasedFrom (take (i + 1) xs) a s c u
released_next xs i x a s b r c u at first second = record {
  swept = swept_more if_kept kept_again xs i x a s b r c u at first.swept second.swept;
  needless = second.needless ∙ first.needless;
}

-- from a place on that has no slot, there is none
pub released_past : (xs : List ℕ) (i : ℕ) (a : Slots) (s : GroupSlots) (b : Slots) (r : GroupSlots) → slice_get xs i ≡ None → IsReleasedFrom (take i xs) a s b r → IsReleasedFrom (take (i + 1) xs) a s b r
released_past xs i a s b r out released = subst (λ (ys : List ℕ). IsReleasedFrom ys a s b r) (sym (ap (λ k. take k xs) (add-one i) ∙ same xs i out)) released
  where
    same : (ys : List ℕ) (k : ℕ) → slice_get ys k ≡ None → take (suc k) ys ≡ take k ys
    same [] zero e = refl
    same [] (suc k) e = refl
    same (y ∷ ys) zero e = absurd cc
    same (y ∷ ys) (suc k) e = ap (λ zs. y ∷ zs) (same ys k e)

-- a slot that is on no list with tickets of the group has none to release
module _ (a : Slots) (s : GroupSlots) (x : ℕ) (arena : IsArena a 0) (group : IsGroupSlots a s) where
  not_there : is_live a s.lists x ≡ false → IsReleasedFrom (x ∷ []) a s a s
  not_there off = record {
    swept = record {
      change = change_none a s arena group;
      next = refl;
      tickets = λ y. at y (eqb y x) refl ∙ sym (ap (λ d. if d then if_kept (ticket_at a s.lists y) else ticket_at a s.lists y) (has_one_slot x y));
    };
    needless = refl;
  }
    where
      none : ticket_at a s.lists x ≡ None
      none = ap (λ d. if d then slice_get a.payloads x else None) off

      at : (y : ℕ) (d : Bool) → eqb y x ≡ d → ticket_at a s.lists y ≡ (if d then if_kept (ticket_at a s.lists y) else ticket_at a s.lists y)
      at y false e = refl
      at y true e = elim (cases_eq y x) [
        | inl q ↦ let here : ticket_at a s.lists y ≡ None = ap (ticket_at a s.lists) q ∙ none in here ∙ sym (ap if_kept here)
        | inr ne ↦ let z : false ≡ true = sym (ne_eqb y x ne) ∙ e in absurd cc
      ]

  on_one : (list : ℕ) → is_on a 0 list x ≡ true → is_live_list s.lists list ≡ false → is_live a s.lists x ≡ false
  on_one list on off = by (is_on a 0 s.lists.queued x) (is_on a 0 s.lists.running x) (is_on a 0 s.lists.settled x) refl refl refl
    where
      or_true : (b : Bool) → (b || true) ≡ true
      or_true true = refl
      or_true false = refl

      no : is_live_list s.lists list ≡ true → ⊥
      no e = let z : true ≡ false = sym e ∙ off in cc

      by : (p q r : Bool) → is_on a 0 s.lists.queued x ≡ p → is_on a 0 s.lists.running x ≡ q → is_on a 0 s.lists.settled x ≡ r → (p || (q || r)) ≡ false
      by true q r e f k = absurd (no (ap (λ b. b || (eqb s.lists.running list || eqb s.lists.settled list)) (eq-eqb s.lists.queued list (arena.apart s.lists.queued list x e on))))
      by false true r e f k = absurd (no (ap (λ b. eqb s.lists.queued list || (b || eqb s.lists.settled list)) (eq-eqb s.lists.running list (arena.apart s.lists.running list x f on)) ∙ or_true (eqb s.lists.queued list)))
      by false false true e f k =
          absurd (no (ap (λ b. eqb s.lists.queued list || (eqb s.lists.running list || b)) (eq-eqb s.lists.settled list (arena.apart s.lists.settled list x k on)) ∙ ap (λ b. eqb s.lists.queued list || b) (or_true (eqb s.lists.running list)) ∙ or_true (eqb s.lists.queued list)))
      by false false false e f k = refl

  pub released_off : (list : ℕ) → is_on a 0 list x ≡ true → is_live_list s.lists list ≡ false → IsReleasedFrom (x ∷ []) a s a s
  released_off list on off = not_there (on_one list on off)

  -- nor has a slot that is not there
  pub released_out : length a.payloads ≤ x → IsReleasedFrom (x ∷ []) a s a s
  released_out out = not_there (by (is_on a 0 s.lists.queued x) (is_on a 0 s.lists.running x) (is_on a 0 s.lists.settled x) refl refl refl)
    where
      never : (l : ℕ) → is_on a 0 l x ≡ true → ⊥
      never l on = let lt : x < length a.payloads = arena.within l x on in absurd (omega (arith, lt, out))

      by : (p q r : Bool) → is_on a 0 s.lists.queued x ≡ p → is_on a 0 s.lists.running x ≡ q → is_on a 0 s.lists.settled x ≡ r → (p || (q || r)) ≡ false
      by true q r e f k = absurd (never s.lists.queued e)
      by false true r e f k = absurd (never s.lists.running f)
      by false false true e f k = absurd (never s.lists.settled k)
      by false false false e f k = refl

-- all three lists on which the group has tickets
module _ (a : Slots) (s : GroupSlots) (b : Slots) (r : GroupSlots) (c : Slots) (u : GroupSlots) (d : Slots) (w : GroupSlots) (group : IsGroupSlots a s)
    (first : IsReleasedFrom (slots_on a 0 s.lists.queued) a s b r) (second : IsReleasedFrom (slots_on b 0 s.lists.running) b r c u) (third : IsReleasedFrom (slots_on c 0 s.lists.settled) c u d w) where
  lists_r : r.lists ≡ s.lists
  lists_r = first.swept.change.lists

  lists_u : u.lists ≡ s.lists
  lists_u = second.swept.change.lists ∙ lists_r

  not_needless : (y : ℕ) (t : Ticket) → ticket_at d s.lists y ≡ Some t → is_kept t ≡ false → ⊥
  not_needless y t e drops = by t.state refl
    where
      in_d : ticket_at d u.lists y ≡ Some t
      in_d = ap (λ (g : GroupLists). ticket_at d g y) lists_u ∙ e

      in_c : ticket_at c r.lists y ≡ Some t
      in_c = ap (λ (g : GroupLists). ticket_at c g y) (sym second.swept.change.lists) ∙ was_there c u d w second.swept.change.group s.lists.settled third.swept y t in_d

      in_b : ticket_at b s.lists y ≡ Some t
      in_b = ap (λ (g : GroupLists). ticket_at b g y) (sym lists_r) ∙ was_there b r c u first.swept.change.group s.lists.running second.swept y t in_c

      by : (st : TicketState) → t.state ≡ st → ⊥
      by ticket.Queued q = off_list a s b r group s.lists.queued first.swept y t in_b drops (ap (list_for s.lists) q)
      by ticket.Running q = off_list b r c u first.swept.change.group s.lists.running second.swept y t in_c drops (ap (list_for r.lists) q ∙ ap (λ (g : GroupLists). g.running) lists_r)
      by (ticket.NeedsFallback z) q = off_list c u d w second.swept.change.group s.lists.settled third.swept y t in_d drops (ap (list_for u.lists) q ∙ ap (λ (g : GroupLists). g.settled) lists_u)
      by (ticket.InFallback z) q = off_list c u d w second.swept.change.group s.lists.settled third.swept y t in_d drops (ap (list_for u.lists) q ∙ ap (λ (g : GroupLists). g.settled) lists_u)
      by (ticket.Answered z) q = off_list c u d w second.swept.change.group s.lists.settled third.swept y t in_d drops (ap (list_for u.lists) q ∙ ap (λ (g : GroupLists). g.settled) lists_u)

  kept_all : (y : ℕ) → ticket_at d s.lists y ≡ if_kept (ticket_at a s.lists y)
  kept_all y = itself (ticket_at d s.lists y) refl ∙ from_d ∙ from_c ∙ same_kept a s b r group s.lists.queued first.swept y
    where
      itself : (o : Option Ticket) → ticket_at d s.lists y ≡ o → o ≡ if_kept o
      itself None e = refl
      itself (Some t) e = at (is_kept t) refl
        where
          at : (z : Bool) → is_kept t ≡ z → Some t ≡ (if z then Some t else None)
          at true k = refl
          at false k = absurd (not_needless y t e k)

      from_d : if_kept (ticket_at d s.lists y) ≡ if_kept (ticket_at c s.lists y)
      from_d = subst (λ (g : GroupLists). if_kept (ticket_at d g y) ≡ if_kept (ticket_at c g y)) lists_u (same_kept c u d w second.swept.change.group s.lists.settled third.swept y)

      from_c : if_kept (ticket_at c s.lists y) ≡ if_kept (ticket_at b s.lists y)
      from_c = subst (λ (g : GroupLists). if_kept (ticket_at c g y) ≡ if_kept (ticket_at b g y)) lists_r (same_kept b r c u first.swept.change.group s.lists.running second.swept y)

  change_all : IsGroupChange a s d w
  change_all = change_trans a s b r d w first.swept.change (change_trans b r c u d w second.swept.change third.swept.change)

  -- after the walks over all three lists, no ticket is left that nobody needs, and nothing is noted
  pub released_all : IsReleased a s d (record w { needless = nothing })
  released_all = released_is a s d w group change_all (third.swept.next ∙ second.swept.next ∙ first.swept.next) kept_all
