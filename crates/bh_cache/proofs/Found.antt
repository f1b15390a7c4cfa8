-- What is found along a chain is what is found among all of the group's tickets.
use Rattle.std.proofs.Common.{◌≡◌, ℕ, ◌<◌, ◌≤◌, inl, inr, Bool, true, false, List, [], ◌∷◌, Option, Some, None, refl, ◌∙◌, sym, ap, ap₂, subst, arith}
use Rattle.std.specs.Prelude.{◌||◌, ◌&&◌, ◌==◌, nat_eq, slice_get, if◌then◌else◌}
use Rattle.std.specs.Cmp.Lexicographic.{pointwise}
use Rattle.std.proofs.lemmas.Bool.{cases_eq, eq-eqb, ne_eqb}
use Rattle.bh_base.specs.declared.ticket.Ticket.{Ticket}
use Rattle.bh_base.specs.Tickets.{is_cached_as, is_cached_in}
use Rattle.bh_slot_arena.specs.Slots.{slots_on}
use Rattle.bh_cache.specs.declared.lists.GroupLists.{GroupLists}
use Rattle.bh_cache.specs.Cache.{earliest}
use Rattle.bh_cache.specs.Chains.{AreOn, IsChained, context_chain, list_by_context, list_by_name, list_of_context, list_of_name, name_chain, unchained}
use Rattle.bh_cache.specs.Slots.{Slots, IsArena, has, has_one, is_on, is_live, ticket_at}
use Rattle.bh_cache.proofs.Earliest.{IsBest, best_among, earliest_best}
use Rattle.bh_cache.proofs.Placed.{context_chain_before_end, name_chain_before_end}

module _ (a : Slots) (g : GroupLists) (f first end : ℕ) (to : Option Ticket → ℕ) (are : AreOn f first end to a g) where
  -- a slot of the group that lies on a chain has a ticket
  pub live_on : IsArena a f → (l x : ℕ) → first ≤ l → l < end → (l ≡ to None → ⊥) → is_on a f l x ≡ true → is_live a g x ≡ true
  live_on arena l x from til ne on = by (is_live a g x) refl
    where
      by : (b : Bool) → is_live a g x ≡ b → b ≡ true
      by true e = refl
      by false e =
          let none : ticket_at a g x ≡ None = ap (λ d. if d then slice_get a.payloads x else None) e in
          absurd (ne (arena.apart l (to None) x on (sym (ap (λ o. is_on a f (to o) x) none) ∙ are.placed x (are.owned l x from til on))))

  -- a slot with a ticket lies on the list for it
  pub on_live : (x : ℕ) (t : Ticket) → is_live a g x ≡ true → slice_get a.payloads x ≡ Some t → is_on a f (to (Some t)) x ≡ true
  on_live x t live is =
      let here : ticket_at a g x ≡ Some t = ap (λ d. if d then slice_get a.payloads x else None) live ∙ is in
      sym (ap (λ o. is_on a f (to o) x) here) ∙ are.placed x (ap (λ b. is_on a 0 g.free x || b) live ∙ or_true (is_on a 0 g.free x))
    where
      or_true : (b : Bool) → (b || true) ≡ true
      or_true true = refl
      or_true false = refl

-- ---- by cache name

same_text : (xs ys : List ℕ) → pointwise nat_eq xs ys ≡ true → xs ≡ ys
same_text [] [] e = refl
same_text [] (y ∷ ys) e = absurd cc
same_text (x ∷ xs) [] e = absurd cc
same_text (x ∷ xs) (y ∷ ys) e = elim (cases_eq x y) [
  | inl q ↦ ap₂ (λ z zs. z ∷ zs) q (same_text xs ys (ap (λ b. b && pointwise nat_eq xs ys) (sym (eq-eqb x y q)) ∙ e))
  | inr ne ↦ let k : false ≡ true = ap (λ b. b && pointwise nat_eq xs ys) (sym (ne_eqb x y ne)) ∙ e in absurd cc
]

-- two names are the same whose parts are
pub same_name : (name given : ℕ × List ℕ) → ((given.0 == name.0) && pointwise nat_eq given.1 name.1) ≡ true → given ≡ name
same_name name given e = elim (cases_eq given.0 name.0) [
  | inl q ↦
      let k : given.1 ≡ name.1 = same_text given.1 name.1 (ap (λ b. b && pointwise nat_eq given.1 name.1) (sym (eq-eqb given.0 name.0 q)) ∙ e) in
      λ i. (q i, k i)
  | inr ne ↦ let k : false ≡ true = ap (λ b. b && pointwise nat_eq given.1 name.1) (sym (ne_eqb given.0 name.0 ne)) ∙ e in absurd cc
]

module _ (g : GroupLists) (name : ℕ × List ℕ) where
  -- a ticket that is cached under a name, of whichever command, belongs on the chain of the name
  on_name : (command : ℕ) (t : Ticket) → is_cached_as command name t ≡ true → list_by_name g (Some t) ≡ name_chain g name
  on_name command t e = of (t.command == command) e
    where
      by : (b : Bool) (o : Option (ℕ × List ℕ)) → (b && elim o [ None ↦ false | Some given ↦ (given.0 == name.0) && pointwise nat_eq given.1 name.1 ]) ≡ true → (if b then list_of_name g o else unchained) ≡ name_chain g name
      by false o e = absurd cc
      by true None e = absurd cc
      by true (Some given) e = ap (name_chain g) (same_name name given e)

      of : (b : Bool) → (b && t.cached && elim t.cache [ None ↦ false | Some given ↦ (given.0 == name.0) && pointwise nat_eq given.1 name.1 ]) ≡ true → list_by_name g (Some t) ≡ name_chain g name
      of false e = absurd cc
      of true e = by t.cached t.cache e

-- the best along the chain of a name is the best of all slots of the group that have a ticket
pub name_best : (a : Slots) (g : GroupLists) (command : ℕ) (name : ℕ × List ℕ) → IsChained a g → IsArena a 1 → (r : Option ℕ) → r ≡ earliest (is_cached_as command name) a.payloads None (slots_on a 1 (name_chain g name))
    → IsBest (is_cached_as command name) a.payloads (is_live a g) r
name_best a g command name chained arena r is =
    let p : Ticket → Bool = is_cached_as command name in
    let k = name_chain_before_end a g chained.lists name in
    let nothing : IsBest p a.payloads (λ y. false) None = λ y e. absurd cc in
    let along : IsBest p a.payloads (λ y. is_on a 1 (name_chain g name) y) r = subst (IsBest p a.payloads (λ y. is_on a 1 (name_chain g name) y)) (sym is) (earliest_best p a.payloads (slots_on a 1 (name_chain g name)) (λ y. false) None nothing) in
    best_among p a.payloads (λ y. is_on a 1 (name_chain g name) y) (is_live a g)
    (λ x on. live_on a g 1 g.names g.names_end (list_by_name g) chained.names arena (name_chain g name) x (omega arith) k (λ q. absurd (omega (arith, q, chained.lists.names_behind))) on)
    (λ x live q. back x (slice_get a.payloads x) live refl q)
    r along
  where
    back : (x : ℕ) (o : Option Ticket) → is_live a g x ≡ true → slice_get a.payloads x ≡ o → has_one (is_cached_as command name) o ≡ true → is_on a 1 (name_chain g name) x ≡ true
    back x None live is e = absurd cc
    back x (Some t) live is e = ap (λ l. is_on a 1 l x) (sym (on_name g name command t e)) ∙ on_live a g 1 g.names g.names_end (list_by_name g) chained.names x t live is

-- ---- by request context

-- the slots have tickets, and each slot is among them whose ticket is cached in the context
pub record HaveAllCached (context : ℕ) (a : Slots) (g : GroupLists) (xs : List ℕ) : Type 0 where
  pub live : (x : ℕ) → has x xs ≡ true → is_live a g x ≡ true
  pub all : (x : ℕ) → is_live a g x ≡ true → has_one (is_cached_in context) (slice_get a.payloads x) ≡ true → has x xs ≡ true

-- a ticket that is cached in a context belongs on the chain of the context
on_context : (g : GroupLists) (context : ℕ) (t : Ticket) → is_cached_in context t ≡ true → list_by_context g (Some t) ≡ context_chain g context
on_context g context t e = by t.cached t.cache e
  where
    of : (name : ℕ × List ℕ) → (name.0 == context) ≡ true → name.0 ≡ context
    of name e = elim (cases_eq name.0 context) [
      | inl q ↦ q
      | inr ne ↦ let k : false ≡ true = sym (ne_eqb name.0 context ne) ∙ e in absurd cc
    ]

    by : (b : Bool) (o : Option (ℕ × List ℕ)) → (b && elim o [ None ↦ false | Some given ↦ given.0 == context ]) ≡ true → (if b then list_of_context g o else unchained) ≡ context_chain g context
    by false o e = absurd cc
    by true None e = absurd cc
    by true (Some name) e = ap (context_chain g) (of name e)

module _ (a : Slots) (g : GroupLists) (chained : IsChained a g) (arena : IsArena a 2) where
  -- a slot on a chain by context has a ticket
  pub live_on_chain : (l x : ℕ) → g.contexts ≤ l → l < g.contexts_end → is_on a 2 l x ≡ true → is_live a g x ≡ true
  live_on_chain l x from to on = live_on a g 2 g.contexts g.contexts_end (list_by_context g) chained.contexts arena l x from to (λ q. absurd (omega (arith, from, q, chained.lists.contexts_behind))) on

  -- the chain of a context has each slot whose ticket is cached in it
  pub chain_has_all : (context : ℕ) → HaveAllCached context a g (slots_on a 2 (context_chain g context))
  chain_has_all context = record {
    live = λ x on. live_on_chain (context_chain g context) x (omega arith) (context_chain_before_end a g chained.lists context) on;
    all = λ x live cached. by x (slice_get a.payloads x) live refl cached;
  }
    where
      by : (x : ℕ) (o : Option Ticket) → is_live a g x ≡ true → slice_get a.payloads x ≡ o → has_one (is_cached_in context) o ≡ true → is_on a 2 (context_chain g context) x ≡ true
      by x None live is e = absurd cc
      by x (Some t) live is e = ap (λ l. is_on a 2 l x) (sym (on_context g context t e)) ∙ on_live a g 2 g.contexts g.contexts_end (list_by_context g) chained.contexts x t live is
