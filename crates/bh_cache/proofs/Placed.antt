-- The chains of a group: where its slots lie, and what stays as one of them is placed.
use Rattle.std.proofs.lemmas.Nat.{and_le_r}
use Rattle.std.proofs.Common.{◌≡◌, ℕ, ◌-◌, ◌<◌, ◌≤◌, ◌⊎◌, inl, inr, Bool, true, false, List, [], length, get_or, Option, Some, None, refl, ◌∙◌, sym, ap, subst, arith}
use Rattle.std.specs.Prelude.{◌||◌, ◌&&◌, eqb, is_some, slice_get, if◌then◌else◌}
use Rattle.std.proofs.lemmas.Bool.{cases_eq, eq-eqb, ne_eqb}
use Rattle.bh_base.specs.declared.ticket.Ticket.{Ticket}
use Rattle.bh_index_lists.specs.Lists.{without}
use Rattle.bh_slot_arena.specs.Slots.{lists_in, slots_on, with_moved}
use Rattle.bh_cache.specs.declared.lists.GroupLists.{GroupLists}
use Rattle.bh_cache.specs.Chains.{AreOn, HasChains, IsChained, IsChainFrame, KeepsLists, context_chain, is_named, list_by_context, list_by_name, list_of_context, list_of_name, name_chain, unchained, with_placed, with_placed_where}
use Rattle.bh_cache.specs.Names.{place_of_name}
use Rattle.bh_cache.specs.Places.{home_of, place_among, place_of_context}
use Rattle.bh_cache.specs.Slots.{Slots, IsArena, has, is_on, is_live, is_owned, ticket_at}
use Rattle.bh_cache.proofs.Moves.{families_count, family_stays, list_not_to, lists_count, on_moved, without_absent}

-- ---- the places of names and of contexts

-- a place among so many chains is one of them
pub place_within : (n : ℕ) (name : ℕ × List ℕ) → 0 < n → place_among n name < n
unfolding place_among
place_within n name some = let k = and_le_r (place_of_name name) (n - 1) in omega (arith, k, some)

pub home_within : (n context : ℕ) → 0 < n → place_of_context n context < n
unfolding place_of_context
home_within n context some = let k = and_le_r (home_of context) (n - 1) in omega (arith, k, some)

-- ---- the lists on which slots are placed

-- the list is the shared one, or one of the chains
abbrev pub IsListOf : ℕ → ℕ → ℕ → Type 0
IsListOf first end l = (l ≡ unchained) ⊎ ((first ≤ l) × (l < end))

-- it is there where the chains are, behind the shared one
pub list_there : (first end l count : ℕ) → IsListOf first end l → unchained < first → first < end → end ≤ count → l < count
list_there first end l count (inl e) behind some there = omega (arith, e, behind, some, there)
list_there first end l count (inr k) behind some there = omega (arith, k.1, there)

-- where a list is one of the group's, so is that or the shared one
either_within : (first end l : ℕ) (b : Bool) → IsListOf first end l → IsListOf first end (if b then l else unchained)
either_within first end l true k = k
either_within first end l false k = inl refl

module _ (a : Slots) (g : GroupLists) (chains : HasChains a g) where
  pub name_chain_before_end : (name : ℕ × List ℕ) → name_chain g name < g.names_end
  name_chain_before_end name = let k = place_within (g.names_end - g.names) name (omega (arith, chains.names_some)) in omega (arith, k, chains.names_some)

  pub context_chain_before_end : (context : ℕ) → context_chain g context < g.contexts_end
  context_chain_before_end context = let k = home_within (g.contexts_end - g.contexts) context (omega (arith, chains.contexts_some)) in omega (arith, k, chains.contexts_some)

  of_name_within : (o : Option (ℕ × List ℕ)) → IsListOf g.names g.names_end (list_of_name g o)
  of_name_within None = inl refl
  of_name_within (Some name) = let k = name_chain_before_end name in inr (omega arith, omega (arith, k))

  of_context_within : (o : Option (ℕ × List ℕ)) → IsListOf g.contexts g.contexts_end (list_of_context g o)
  of_context_within None = inl refl
  of_context_within (Some name) = let k = context_chain_before_end name.0 in inr (omega arith, omega (arith, k))

  -- a slot is placed on the shared list of the second family or on one of the group's chains
  pub name_list_within : (o : Option Ticket) → IsListOf g.names g.names_end (list_by_name g o)
  name_list_within None = inl refl
  name_list_within (Some t) = either_within g.names g.names_end (list_of_name g t.cache) t.cached (of_name_within t.cache)

  -- and so in the third
  pub context_list_within : (o : Option Ticket) → IsListOf g.contexts g.contexts_end (list_by_context g o)
  context_list_within None = inl refl
  context_list_within (Some t) = either_within g.contexts g.contexts_end (list_of_context g t.cache) t.cached (of_context_within t.cache)

  -- that list is there
  pub name_list_there : (o : Option Ticket) → list_by_name g o < length (lists_in a 1)
  name_list_there o = list_there g.names g.names_end (list_by_name g o) (length (lists_in a 1)) (name_list_within o) chains.names_behind chains.names_some chains.names_there

  pub context_list_there : (o : Option Ticket) → list_by_context g o < length (lists_in a 2)
  context_list_there o = list_there g.contexts g.contexts_end (list_by_context g o) (length (lists_in a 2)) (context_list_within o) chains.contexts_behind chains.contexts_some chains.contexts_there

-- slots that have these tickets, or none, are placed on the same lists
abbrev pub LieAlike : GroupLists → Option Ticket → Option Ticket → Type 0
LieAlike g o q = (list_by_name g o ≡ list_by_name g q) × (list_by_context g o ≡ list_by_context g q)

pub alike_same : (g : GroupLists) (o q : Option Ticket) → o ≡ q → LieAlike g o q
alike_same g o q e = (ap (list_by_name g) e, ap (list_by_context g) e)

pub alike_sym : (g : GroupLists) (o q : Option Ticket) → LieAlike g o q → LieAlike g q o
alike_sym g o q e = (sym e.0, sym e.1)

pub alike_trans : (g : GroupLists) (o q r : Option Ticket) → LieAlike g o q → LieAlike g q r → LieAlike g o r
alike_trans g o q r e f = (e.0 ∙ f.0, e.1 ∙ f.1)

-- a slot without a ticket that is cached under a name lies where one without a ticket does
pub unnamed_alike : (g : GroupLists) (o : Option Ticket) → is_named o ≡ false → LieAlike g o None
unnamed_alike g None e = (refl, refl)
unnamed_alike g (Some t) e = by t.cached t.cache e
  where
    by : (b : Bool) (o : Option (ℕ × List ℕ)) → (b && is_some o) ≡ false → ((if b then list_of_name g o else unchained) ≡ unchained) × ((if b then list_of_context g o else unchained) ≡ unchained)
    by false o f = (refl, refl)
    by true None f = (refl, refl)
    by true (Some name) f = absurd cc

-- ---- where the first family stays

module _ (a b : Slots) (g : GroupLists) (same : lists_in b 0 ≡ lists_in a 0) where
  -- the slots of the group are the same
  pub owned_same : (x : ℕ) → is_owned b g x ≡ is_owned a g x
  owned_same x = ap (λ (ls : List (List ℕ)). has x (get_or ls g.free []) || (has x (get_or ls g.queued []) || (has x (get_or ls g.running []) || has x (get_or ls g.settled [])))) same

  -- and those that have tickets
  pub live_same : (x : ℕ) → is_live b g x ≡ is_live a g x
  live_same x = ap (λ (ls : List (List ℕ)). has x (get_or ls g.queued []) || (has x (get_or ls g.running []) || has x (get_or ls g.settled []))) same

  -- and the ticket of a slot, where its payload is the same
  pub ticket_same : (x : ℕ) → slice_get b.payloads x ≡ slice_get a.payloads x → ticket_at b g x ≡ ticket_at a g x
  ticket_same x e = ap (λ d. if d then slice_get b.payloads x else None) (live_same x) ∙ ap (λ o. if is_live a g x then o else None) e

-- ---- one family

module _ (f first end : ℕ) (to : Option Ticket → ℕ) (a b : Slots) (g : GroupLists) (was : AreOn f first end to a g)
    (owned : (y : ℕ) → is_owned b g y ≡ is_owned a g y) where
  module _ (x : ℕ) (here : is_owned a g x ≡ true) (others : (y : ℕ) → (y ≡ x → ⊥) → ticket_at b g y ≡ ticket_at a g y)
      (on : (l y : ℕ) → is_on b f l y ≡ (if eqb y x then eqb l (to (ticket_at b g x)) else is_on a f l y)) where
    there : is_on b f (to (ticket_at b g x)) x ≡ true
    there = let l = to (ticket_at b g x) in on l x ∙ ap (λ c. if c then eqb l l else is_on a f l x) (eq-eqb x x refl) ∙ eq-eqb l l refl

    stay : (l y : ℕ) → (y ≡ x → ⊥) → is_on b f l y ≡ is_on a f l y
    stay l y ne = on l y ∙ ap (λ c. if c then eqb l (to (ticket_at b g x)) else is_on a f l y) (ne_eqb y x ne)

    -- where one slot of the group is put on the list for what it has, and all others stay, each lies on the list for what it has
    pub rechained : AreOn f first end to b g
    rechained = record {
      placed = λ y own. elim (cases_eq y x) [
        | inl e ↦ subst (λ z. is_on b f (to (ticket_at b g z)) z ≡ true) (sym e) there
        | inr ne ↦ ap (λ o. is_on b f (to o) y) (others y ne) ∙ stay (to (ticket_at a g y)) y ne ∙ was.placed y (sym (owned y) ∙ own)
      ];
      owned = λ l y from til lies. elim (cases_eq y x) [
        | inl e ↦ owned y ∙ ap (is_owned a g) e ∙ here
        | inr ne ↦ owned y ∙ was.owned l y from til (sym (stay l y ne) ∙ lies)
      ];
    }

  -- where the lists of the family are the same, and for each slot the list for what it has, each lies on it
  pub chained_still : lists_in b f ≡ lists_in a f → ((y : ℕ) → to (ticket_at b g y) ≡ to (ticket_at a g y)) → AreOn f first end to b g
  chained_still same lists = record {
    placed = λ y own. ap (λ (ls : List (List ℕ)). has y (get_or ls (to (ticket_at b g y)) [])) same ∙ ap (λ l. is_on a f l y) (lists y) ∙ was.placed y (sym (owned y) ∙ own);
    owned = λ l y from til on. owned y ∙ was.owned l y from til (sym (ap (λ (ls : List (List ℕ)). has y (get_or ls l [])) same) ∙ on);
  }

-- a move of a slot of the group among the shared list and the group's chains leaves the others
pub keeps_moved : (f first end : ℕ) (to : Option Ticket → ℕ) (a b : Slots) (g : GroupLists) (x l : ℕ) → AreOn f first end to a g → IsArena a f → f < length b.families → lists_in b f ≡ lists_in a f
    → ((o : Option Ticket) → IsListOf first end (to o)) → is_owned a g x ≡ true → IsListOf first end l → l < length (lists_in b f) → KeepsLists f first end g a (with_moved f x l b)
keeps_moved f first end to a b g x l was arena wide same within here list there = record {
  count = lists_count b f x l wide ∙ ap (λ (ls : List (List ℕ)). length ls) same;
  lists = λ m ne out.
      list_not_to b f x l wide m (λ e. neither m ne out l list e)
      ∙ ap (λ (ls : List (List ℕ)). without x (get_or ls m [])) same
      ∙ without_absent x (slots_on a f m) (away m ne out (is_on a f m x) refl);
  others = λ y out.
      on_moved b f x l wide there unchained y
      ∙ ap (λ c. if c then eqb unchained l else is_on b f unchained y) (ne_eqb y x (other y out))
      ∙ ap (λ (ls : List (List ℕ)). has y (get_or ls unchained [])) same;
}
  where
    neither : (m : ℕ) → (m ≡ unchained → ⊥) → ((first ≤ m) × (m < end) → ⊥) → (k : ℕ) → IsListOf first end k → m ≡ k → ⊥
    neither m ne out k (inl q) e = ne (e ∙ q)
    neither m ne out k (inr w) e = out (omega (arith, e, w.0), omega (arith, e, w.1))

    away : (m : ℕ) → (m ≡ unchained → ⊥) → ((first ≤ m) × (m < end) → ⊥) → (c : Bool) → is_on a f m x ≡ c → c ≡ false
    away m ne out false e = refl
    away m ne out true e =
        let k : m ≡ to (ticket_at a g x) = arena.apart m (to (ticket_at a g x)) x e (was.placed x here) in
        absurd (neither m ne out (to (ticket_at a g x)) (within (ticket_at a g x)) k)

    other : (y : ℕ) → is_owned a g y ≡ false → y ≡ x → ⊥
    other y out e = let k : true ≡ false = sym here ∙ ap (is_owned a g) (sym e) ∙ out in absurd cc

keeps_same : (f first end : ℕ) (g : GroupLists) (a b : Slots) → lists_in b f ≡ lists_in a f → KeepsLists f first end g a b
keeps_same f first end g a b same = record {
  count = ap (λ (ls : List (List ℕ)). length ls) same;
  lists = λ l ne out. ap (λ (ls : List (List ℕ)). get_or ls l []) same;
  others = λ x out. ap (λ (ls : List (List ℕ)). has x (get_or ls unchained [])) same;
}

keeps_both : (f first end : ℕ) (g : GroupLists) (a b c : Slots) → ((x : ℕ) → is_owned b g x ≡ is_owned a g x) → KeepsLists f first end g a b → KeepsLists f first end g b c → KeepsLists f first end g a c
keeps_both f first end g a b c owned p q = record {
  count = q.count ∙ p.count;
  lists = λ l ne out. q.lists l ne out ∙ p.lists l ne out;
  others = λ x out. q.others x (owned x ∙ out) ∙ p.others x out;
}

-- ---- chains that stay

-- the lists of the chains are there, where there are as many lists as before
still_there : (a b : Slots) (g : GroupLists) → HasChains a g → length (lists_in b 1) ≡ length (lists_in a 1) → length (lists_in b 2) ≡ length (lists_in a 2) → HasChains b g
still_there a b g there names contexts = record {
  names_behind = there.names_behind;
  names_some = there.names_some;
  names_there = omega (arith, there.names_there, names);
  contexts_behind = there.contexts_behind;
  contexts_some = there.contexts_some;
  contexts_there = omega (arith, there.contexts_there, contexts);
}

-- where the group's slots are the same, and the second and the third family stay, so do the chains of other groups
pub frame_same : (g : GroupLists) (a b : Slots) → ((y : ℕ) → is_owned b g y ≡ is_owned a g y) → lists_in b 1 ≡ lists_in a 1 → lists_in b 2 ≡ lists_in a 2 → IsChainFrame g a b
frame_same g a b owned names contexts = record {
  owned = owned;
  names = keeps_same 1 g.names g.names_end g a b names;
  contexts = keeps_same 2 g.contexts g.contexts_end g a b contexts;
}

pub frame_refl : (g : GroupLists) (a : Slots) → IsChainFrame g a a
frame_refl g a = frame_same g a a (λ y. refl) refl refl

-- what stays twice stays
pub frame_trans : (g : GroupLists) (a b c : Slots) → IsChainFrame g a b → IsChainFrame g b c → IsChainFrame g a c
frame_trans g a b c p q = record {
  owned = λ x. q.owned x ∙ p.owned x;
  names = keeps_both 1 g.names g.names_end g a b c p.owned p.names q.names;
  contexts = keeps_both 2 g.contexts g.contexts_end g a b c p.owned p.contexts q.contexts;
}

-- where no slot's lists change, each slot still lies where it is placed
pub chained_same : (a b : Slots) (g : GroupLists) → IsChained a g → lists_in b 1 ≡ lists_in a 1 → lists_in b 2 ≡ lists_in a 2 → ((y : ℕ) → is_owned b g y ≡ is_owned a g y)
    → ((y : ℕ) → LieAlike g (ticket_at b g y) (ticket_at a g y)) → IsChained b g
chained_same a b g was names contexts owned alike = let frame = frame_same g a b owned names contexts in record {
  lists = still_there a b g was.lists frame.names.count frame.contexts.count;
  names = chained_still 1 g.names g.names_end (list_by_name g) a b g was.names owned names (λ y. (alike y).0);
  contexts = chained_still 2 g.contexts g.contexts_end (list_by_context g) a b g was.contexts owned contexts (λ y. (alike y).1);
}

-- ---- a slot is placed

-- the group's slots are the same, and the tickets of all but one; that one has still to be placed for what it has now
pub record IsUnplaced (g : GroupLists) (x : ℕ) (a b : Slots) : Type 0 where
  pub wide : length b.families ≡ length a.families
  pub names : lists_in b 1 ≡ lists_in a 1
  pub contexts : lists_in b 2 ≡ lists_in a 2
  pub owned : (y : ℕ) → is_owned b g y ≡ is_owned a g y
  pub others : (y : ℕ) → (y ≡ x → ⊥) → ticket_at b g y ≡ ticket_at a g y
  pub here : is_owned a g x ≡ true

module _ (a : Slots) (g : GroupLists) (x : ℕ) (o : Option Ticket) where
  -- the slot moved in the second family alone
  abbrev named : Slots
  named = with_moved 1 x (list_by_name g o) a

  names_placed : lists_in (with_placed g x o a) 1 ≡ lists_in named 1
  names_placed = family_stays named 2 1 x (list_by_context g o) (λ e. absurd (omega (arith, e)))

  -- the third family is as it was before the slot moves in it
  pub contexts_before : lists_in named 2 ≡ lists_in a 2
  contexts_before = family_stays a 1 2 x (list_by_name g o) (λ e. absurd (omega (arith, e)))

  -- the first family stays
  pub first_placed : lists_in (with_placed g x o a) 0 ≡ lists_in a 0
  first_placed = family_stays named 2 0 x (list_by_context g o) (λ e. absurd (omega (arith, e))) ∙ family_stays a 1 0 x (list_by_name g o) (λ e. absurd (omega (arith, e)))

  families_named : length named.families ≡ length a.families
  families_named = families_count a 1 x (list_by_name g o)

  -- there are as many families as before
  pub families_placed : length (with_placed g x o a).families ≡ length a.families
  families_placed = families_count named 2 x (list_by_context g o) ∙ families_named

  module _ (wide : 2 < length a.families) where
    -- each list of the third family but the one to which the slot goes is as it was, without the slot
    pub context_left : (l : ℕ) → (l ≡ list_by_context g o → ⊥) → slots_on (with_placed g x o a) 2 l ≡ without x (slots_on a 2 l)
    context_left l ne = list_not_to named 2 x (list_by_context g o) (omega (arith, wide, families_named)) l ne ∙ ap (λ (ls : List (List ℕ)). without x (get_or ls l [])) contexts_before

    module _ (chains : HasChains a g) where
      -- in the second family the slot lies on its list and on no other, and all others lie as they did
      pub on_names : (l y : ℕ) → is_on (with_placed g x o a) 1 l y ≡ (if eqb y x then eqb l (list_by_name g o) else is_on a 1 l y)
      on_names l y =
          ap (λ (ls : List (List ℕ)). has y (get_or ls l [])) names_placed
          ∙ on_moved a 1 x (list_by_name g o) (omega (arith, wide)) (name_list_there a g chains o) l y

      -- and so in the third
      pub on_contexts : (l y : ℕ) → is_on (with_placed g x o a) 2 l y ≡ (if eqb y x then eqb l (list_by_context g o) else is_on a 2 l y)
      on_contexts l y =
          let k = context_list_there a g chains o in
          let count = ap (λ (ls : List (List ℕ)). length ls) contexts_before in
          on_moved named 2 x (list_by_context g o) (omega (arith, wide, families_named)) (omega (arith, k, count)) l y
          ∙ ap (λ (ls : List (List ℕ)). if eqb y x then eqb l (list_by_context g o) else has y (get_or ls l [])) contexts_before

module _ (a b : Slots) (g : GroupLists) (x : ℕ) (o : Option Ticket) (was : IsChained a g) (names : IsArena a 1) (contexts : IsArena a 2) (unplaced : IsUnplaced g x a b) where
  abbrev after : Slots
  after = with_placed g x o b

  wide : 2 < length b.families
  wide = omega (arith, contexts.wide, unplaced.wide)

  chains : HasChains b g
  chains = let same = frame_same g a b unplaced.owned unplaced.names unplaced.contexts in still_there a b g was.lists same.names.count same.contexts.count

  -- the slots of the group are those before it was placed
  owned_placed : (y : ℕ) → is_owned after g y ≡ is_owned a g y
  owned_placed y = owned_same b after g (first_placed b g x o) y ∙ unplaced.owned y

  -- the chains of other groups are as before
  pub frame_placed : IsChainFrame g a after
  frame_placed =
      let middle : Slots = with_moved 1 x (list_by_name g o) b in
      let there : list_by_context g o < length (lists_in middle 2) = subst (λ (ls : List (List ℕ)). list_by_context g o < length ls) (sym (contexts_before b g x o)) (context_list_there b g chains o) in
      let by_name = keeps_moved 1 g.names g.names_end (list_by_name g) a b g x (list_by_name g o) was.names names (omega (arith, wide)) unplaced.names (name_list_within a g was.lists) unplaced.here (name_list_within a g was.lists o) (name_list_there b g chains o) in
      let other : KeepsLists 1 g.names g.names_end g middle after = keeps_same 1 g.names g.names_end g middle after (names_placed b g x o) in
      let owned_middle : (y : ℕ) → is_owned middle g y ≡ is_owned a g y = λ y. owned_same b middle g (family_stays b 1 0 x (list_by_name g o) (λ e. absurd (omega (arith, e)))) y ∙ unplaced.owned y in
      record {
        owned = owned_placed;
        names = keeps_both 1 g.names g.names_end g a middle after owned_middle by_name other;
        contexts =
            keeps_moved 2 g.contexts g.contexts_end (list_by_context g) a middle g x (list_by_context g o) was.contexts contexts (omega (arith, wide, families_named b g x o))
            (contexts_before b g x o ∙ unplaced.contexts) (context_list_within a g was.lists) unplaced.here (context_list_within a g was.lists o) there;
      }

  ticket_placed : (y : ℕ) → ticket_at after g y ≡ ticket_at b g y
  ticket_placed y = ticket_same b after g (first_placed b g x o) y refl

  -- where the slot is placed for what it has, each slot of the group lies where it is placed
  pub chained_placed : o ≡ ticket_at b g x → IsChained after g
  chained_placed is = record {
    lists = still_there a after g was.lists frame_placed.names.count frame_placed.contexts.count;
    names = rechained 1 g.names g.names_end (list_by_name g) a after g was.names owned_placed x unplaced.here others (λ l y. on_names b g x o wide chains l y ∙ both 1 (list_by_name g) l y unplaced.names);
    contexts = rechained 2 g.contexts g.contexts_end (list_by_context g) a after g was.contexts owned_placed x unplaced.here others (λ l y. on_contexts b g x o wide chains l y ∙ both 2 (list_by_context g) l y unplaced.contexts);
  }
    where
      others : (y : ℕ) → (y ≡ x → ⊥) → ticket_at after g y ≡ ticket_at a g y
      others y ne = ticket_placed y ∙ unplaced.others y ne

      both : (f : ℕ) (to : Option Ticket → ℕ) (l y : ℕ) → lists_in b f ≡ lists_in a f → (if eqb y x then eqb l (to o) else is_on b f l y) ≡ (if eqb y x then eqb l (to (ticket_at after g x)) else is_on a f l y)
      both f to l y same =
          ap (λ q. if eqb y x then eqb l (to q) else is_on b f l y) (is ∙ sym (ticket_placed x))
          ∙ ap (λ (ls : List (List ℕ)). if eqb y x then eqb l (to (ticket_at after g x)) else has y (get_or ls l [])) same

-- ---- a slot is placed only where that is told

module _ (named : Bool) (a : Slots) (g : GroupLists) (x : ℕ) (o : Option Ticket) where
  -- the first family stays
  pub first_where : lists_in (with_placed_where named g x o a) 0 ≡ lists_in a 0
  first_where = by named
    where
      by : (n : Bool) → lists_in (with_placed_where n g x o a) 0 ≡ lists_in a 0
      by true = first_placed a g x o
      by false = refl

  -- there are as many families as before
  pub families_where : length (with_placed_where named g x o a).families ≡ length a.families
  families_where = by named
    where
      by : (n : Bool) → length (with_placed_where n g x o a).families ≡ length a.families
      by true = families_placed a g x o
      by false = refl

module _ (a b : Slots) (g : GroupLists) (x : ℕ) (o : Option Ticket) (was : IsChained a g) (names : IsArena a 1) (contexts : IsArena a 2) (unplaced : IsUnplaced g x a b) where
  same_lists : LieAlike g o (ticket_at a g x) → o ≡ ticket_at b g x → (y : ℕ) → LieAlike g (ticket_at b g y) (ticket_at a g y)
  same_lists lies is y = elim (cases_eq y x) [
    | inl e ↦ subst (λ z. LieAlike g (ticket_at b g z) (ticket_at a g z)) (sym e) (subst (λ q. LieAlike g q (ticket_at a g x)) is lies)
    | inr ne ↦ alike_same g (ticket_at b g y) (ticket_at a g y) (unplaced.others y ne)
  ]

  -- the chains of other groups are as before
  pub frame_where : (named : Bool) → IsChainFrame g a (with_placed_where named g x o b)
  frame_where true = frame_placed a b g x o was names contexts unplaced
  frame_where false = frame_same g a b unplaced.owned unplaced.names unplaced.contexts

  -- where the slot is placed for what it has, and stays on its lists only where it belongs there as before, each slot of the group lies where it is placed
  pub chained_where : (named : Bool) → (named ≡ false → LieAlike g o (ticket_at a g x)) → o ≡ ticket_at b g x → IsChained (with_placed_where named g x o b) g
  chained_where true lies is = chained_placed a b g x o was names contexts unplaced is
  chained_where false lies is = chained_same a b g was unplaced.names unplaced.contexts unplaced.owned (same_lists (lies refl) is)
