use Rattle.std.proofs.Common.{◌≡◌, ℕ, inl, inr, ◌<◌, [], ◌∷◌, length, true, false, Bool, Option, None, Some, slice_get, refl, sym, ap, subst, ◌∙◌, arith, length-set}
use Rattle.std.specs.Prelude.{◌||◌, eqb, if◌then◌else◌}
use Rattle.std.proofs.lemmas.Bool.{cases_eq, eq-eqb, ne_eqb}
use Rattle.bh_base.specs.declared.ticket.Ticket.{Ticket}
use Rattle.bh_base.specs.Tickets.{is_cached_in}
use Rattle.bh_index_lists.specs.Lists.{without}
use Rattle.bh_slot_arena.specs.Slots.{slots_on, with_payload}
use Rattle.bh_cache.specs.declared.lists.GroupLists.{GroupLists}
use Rattle.bh_cache.specs.Cache.{IsDroppedFrom, uncached_in}
use Rattle.bh_cache.specs.Chains.{IsChained, list_by_context, unchained, with_placed}
use Rattle.bh_cache.specs.Slots.{Slots, IsArena, has_one, is_live, is_on, one, ticket_at}
use Rattle.bh_cache.proofs.Dropped.{uncached_same, dropped_at}
use Rattle.bh_cache.proofs.Placed.{IsUnplaced, context_left, frame_refl, chained_placed, families_placed, first_placed, frame_placed}
use Rattle.bh_cache.proofs.Members.{get_set}
use Rattle.bh_cache.proofs.Walks.{arena_is}
use Rattle.bh_cache.specs.Drops.{without_if}
use Rattle.bh_cache.proofs.Noting.{noted_not, noted_one}
use Rattle.bh_cache.proofs.dropping.drop_at.Goals as goal

module _ (context : ℕ) (a : Slots) (g : GroupLists) (slot : ℕ) (t : Ticket) (within : slot < length a.payloads) (is : Some t ≡ slice_get a.payloads slot) (chained : IsChained a g) where
  -- a ticket that is not cached in the context stays as it is
  stays : is_cached_in context t ≡ false → IsDroppedFrom context g (slot ∷ []) a a 0
  stays not_cached =
      dropped_at context a a g slot t 0 within (sym is) refl refl refl chained (frame_refl g a) refl
      (λ y. elim (cases_eq y slot) [
        | inl e ↦
            ap (slice_get a.payloads) e ∙ sym is ∙ ap Some (sym (uncached_same context t not_cached))
            ∙ sym (ap (λ d. if d then Some (uncached_in context t) else slice_get a.payloads y) (eq-eqb y slot e))
        | inr ne ↦ sym (ap (λ d. if d then Some (uncached_in context t) else slice_get a.payloads y) (ne_eqb y slot ne))
      ])
      (sym (ap one not_cached))

  -- a slot that is placed for a ticket that is not cached leaves its chain by context
  leaves : 2 < length a.families → (l : ℕ) → (l ≡ unchained → ⊥) → slots_on (with_placed g slot (slice_get (with_payload slot (record t { cached = false }) a).payloads slot) (with_payload slot (record t { cached = false }) a)) 2 l ≡ without slot (slots_on a 2 l)
  leaves wide l ne =
      let v : Ticket = record t { cached = false } in
      let m : Slots = with_payload slot v a in
      let o : Option Ticket = slice_get m.payloads slot in
      let put : o ≡ Some v = get_set a.payloads slot slot v within ∙ ap (λ d. if d then Some v else slice_get a.payloads slot) (eq-eqb slot slot refl) in
      let to : list_by_context g o ≡ unchained = ap (list_by_context g) put in
      context_left m g slot o wide l (λ e. ne (e ∙ to))

  module _ (cached : is_cached_in context t ≡ true) (live : is_live a g slot ≡ true) (by_name : IsArena a 1) (by_context : IsArena a 2) where
    abbrev v : Ticket
    v = record t { cached = false }

    abbrev m : Slots
    m = with_payload slot v a

    now : (y : ℕ) → slice_get m.payloads y ≡ (if eqb y slot then Some v else slice_get a.payloads y)
    now y = get_set a.payloads slot y v within

    unplaced : IsUnplaced g slot a m
    unplaced = record {
      wide = refl;
      names = refl;
      contexts = refl;
      owned = λ y. refl;
      others = λ y ne. ap (λ (o : Option Ticket). if is_live a g y then o else None) (now y ∙ ap (λ d. if d then Some v else slice_get a.payloads y) (ne_eqb y slot ne));
      here = ap (λ d. is_on a 0 g.free slot || d) live ∙ or_true (is_on a 0 g.free slot);
    }
      where
        or_true : (b : Bool) → (b || true) ≡ true
        or_true true = refl
        or_true false = refl

    -- a ticket that is cached in it is cached no more, and its slot is placed
    dropped : IsDroppedFrom context g (slot ∷ []) a (with_placed g slot (slice_get m.payloads slot) m) 1
    dropped =
        let o : Option Ticket = slice_get m.payloads slot in
        let here : o ≡ ticket_at m g slot = sym (ap (λ d. if d then o else None) live) in
        let changed : v ≡ uncached_in context t = sym (ap (λ d. if d then v else t) cached) in
        dropped_at context a (with_placed g slot o m) g slot t 1 within (sym is) refl (first_placed m g slot o) (families_placed m g slot o)
        (chained_placed a m g slot o chained by_name by_context unplaced here) (frame_placed a m g slot o chained by_name by_context unplaced) (length-set a.payloads slot v)
        (λ y. now y ∙ ap (λ (w : Ticket). if eqb y slot then Some w else slice_get a.payloads y) changed)
        (sym (ap one cached))

pub returns-then-not-has_context-clause-dropped : goal.returns-then-not-has_context-clause-dropped
returns-then-not-has_context-clause-dropped c =
    stays c.args.context c.args.arena.now c.args.lists.now c.args.slot c.get.result.now c.requires.slot c.get.ensures c.requires.chained (sym c.has_context.ensures ∙ c.if-not-has_context.true)

pub returns-then-not-has_context-clause-walk : goal.returns-then-not-has_context-clause-walk
returns-then-not-has_context-clause-walk c = λ l ne.
    let off : has_one (is_cached_in c.args.context) (slice_get c.args.arena.now.payloads c.args.slot) ≡ false = ap (has_one (is_cached_in c.args.context)) (sym c.get.ensures) ∙ sym c.has_context.ensures ∙ c.if-not-has_context.true in
    sym (ap (λ b. without_if b c.args.slot (slots_on c.args.arena.now 2 l)) off)

pub returns-clause-dropped : goal.returns-clause-dropped
returns-clause-dropped c = let a = c.args.arena.now in
    let g = c.args.lists.now in
    let same : Some c.get_mut.result.now ≡ Some c.get.result.now = c.get_mut.ensures.value ∙ sym c.get.ensures in
    let cached : is_cached_in c.args.context c.get_mut.result.now ≡ true = ap (has_one (is_cached_in c.args.context)) same ∙ sym c.has_context.ensures ∙ c.if-not-has_context.false in
    let by_name : IsArena a 1 = arena_is a 1 (omega (arith, c.partition.ensures.families)) c.partition.ensures.lists in
    let by_context : IsArena a 2 = arena_is a 2 (omega (arith, c.partition.ensures.families)) c.partition-2.ensures.lists in
    subst (λ (b : Slots). IsDroppedFrom c.args.context g (c.args.slot ∷ []) a b 1) (sym c.place.ensures)
    (dropped c.args.context a g c.args.slot c.get_mut.result.now c.requires.slot c.get_mut.ensures.value c.requires.chained cached c.requires.live by_name by_context)

pub returns-clause-walk : goal.returns-clause-walk
returns-clause-walk c = λ l ne.
    let a = c.args.arena.now in
    let g = c.args.lists.now in
    let same : Some c.get_mut.result.now ≡ Some c.get.result.now = c.get_mut.ensures.value ∙ sym c.get.ensures in
    let cached : is_cached_in c.args.context c.get_mut.result.now ≡ true = ap (has_one (is_cached_in c.args.context)) same ∙ sym c.has_context.ensures ∙ c.if-not-has_context.false in
    let on : has_one (is_cached_in c.args.context) (slice_get a.payloads c.args.slot) ≡ true = ap (has_one (is_cached_in c.args.context)) (sym c.get_mut.ensures.value) ∙ cached in
    ap (λ (b : Slots). slots_on b 2 l) c.place.ensures
    ∙ leaves c.args.context a g c.args.slot c.get_mut.result.now c.requires.slot c.get_mut.ensures.value c.requires.chained (omega (arith, c.partition.ensures.families)) l ne
    ∙ sym (ap (λ b. without_if b c.args.slot (slots_on a 2 l)) on)

pub returns-then-not-has_context-clause-noted : goal.returns-then-not-has_context-clause-noted
returns-then-not-has_context-clause-noted c =
    let off : has_one (is_cached_in c.args.context) (slice_get c.args.arena.now.payloads c.args.slot) ≡ false = ap (has_one (is_cached_in c.args.context)) (sym c.get.ensures) ∙ sym c.has_context.ensures ∙ c.if-not-has_context.true in
    noted_not c.args.context c.args.arena.now c.args.slot c.args.notes.now off

pub returns-clause-noted : goal.returns-clause-noted
returns-clause-noted c = noted_one c.args.context c.args.arena.now c.args.slot c.args.notes.now c.with_slot.result c.with_slot.ensures
