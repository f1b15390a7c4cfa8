-- A place gets other chains.
use Rattle.std.proofs.Common.{◌≡◌, ℕ, suc, ◌+◌, ◌<◌, ◌≤◌, inl, inr, Bool, true, false, List, [], ◌∷◌, ◌++◌, length, set, Some, None, refl, ◌∙◌, sym, ap, subst, arith}
use Rattle.std.specs.Prelude.{slice_get}
use Rattle.std.specs.Option.{option_map}
use Rattle.std.proofs.lemmas.Bool.{cases_eq}
use Rattle.std.proofs.lemmas.List.{nil_from_length}
use Rattle.std.proofs.lemmas.Option.{slice_get-map}
use Rattle.bh_slot_arena.specs.Slots.{lists_in, slots_on}
use Rattle.bh_cache.specs.declared.lists.GroupLists.{GroupLists}
use Rattle.bh_cache.specs.Chains.{HasChains, unchained}
use Rattle.bh_cache.specs.Slots.{Slots, has, is_on, IsApart}
use Rattle.bh_tickets.specs.declared.group_slots.GroupSlots.{GroupSlots}
use Rattle.bh_tickets.specs.declared.names.NameLists.{NameLists}
use Rattle.bh_tickets.specs.GroupSlots.{IsGroupSlots, no_slot_taken}
use Rattle.bh_tickets.specs.Growth.{HasMoreLists, HasNewLists}
use Rattle.bh_tickets.specs.Names.{AreBeside, AreEmpty, AreEmptyOn, AreLeft, AreMany, HasNames, IsExchanged, names_of, with_names}
use Rattle.bh_tickets.specs.Spare.{AreFreeOn, GetsNames, GetsPlace, IsLeft, IsVacant, free_slots}
use Rattle.bh_tickets.specs.TicketsView.{GroupTickets, TicketsView}
use Rattle.bh_tickets.specs.Whole.{AreGroupSlots, IsWhole, group_of, rooms}
use Rattle.bh_tickets.proofs.AddedGroup.{view_more}
use Rattle.bh_tickets.proofs.AddedLists.{count_more}
use Rattle.bh_tickets.proofs.Beside.{IsMade, apart_back, apart_beside, beside_back}
use Rattle.bh_tickets.proofs.NamesLeft.{left_made, names_at_end, names_lt, names_other, names_same}
use Rattle.bh_tickets.proofs.Ready.{more_whole}
use Rattle.bh_tickets.proofs.Rebuilt.{entry_taken, entry_vacant, whole_group}
use Rattle.bh_tickets.proofs.Vacant.{max_is, none_free, none_on, not_true, vacant_group}
use Rattle.bh_tickets.proofs.Whole.{get_lt, group_is, groups_in, rooms_set, set_other, set_same, unmades_set}

-- ---- chains that no group has

-- some that are there
pub found_names : (chains number : ℕ) (a : Slots) (ns : List NameLists) → HasNames chains number ns → GetsNames chains number a ns a ns
found_names chains number a ns there = record { there = there; whole = λ p ss w. w; view = λ p ss w. refl }

-- new ones, behind the others
pub made_names : (c : ℕ) → 0 < c → (a b : Slots) (ns : List NameLists) (x : NameLists) → HasNewLists 0 c c a b
    → x.names ≡ length (lists_in a 1) → x.contexts ≡ length (lists_in a 2) → AreMany c x → GetsNames c (length ns) a ns b (ns ++ x ∷ [])
made_names c some a b ns x more names contexts many = record {
  there = record { entry = x; here = names_at_end ns x; many = many };
  whole = λ p ss w.
      let still = more_whole a b (Some p) ss ns grown w in
      record {
        all = still.all;
        slots = still.slots;
        reserved = still.reserved;
        free = still.free;
        first = still.first;
        names = left_made a b (p ∷ ss) ns c x some more (made (w.all.each 0 p refl).chained.lists) (λ j s e. (w.all.each j s e).chained.lists) w.names;
      };
  view = λ p ss w. view_more a b ss (groups_in w) grown;
}
  where
    grown : HasMoreLists a b
    grown = record { first = 0; second = c; third = c; lists = more }

    made : {h : GroupLists} → HasChains a h → IsMade c a b x
    made there = record {
      names_behind = omega (arith, names, there.names_behind, there.names_some, there.names_there);
      names = omega (arith, names);
      names_there = omega (arith, names, many.names, count_more 1 c a b more.second);
      contexts_behind = omega (arith, contexts, there.contexts_behind, there.contexts_some, there.contexts_there);
      contexts = omega (arith, contexts);
      contexts_there = omega (arith, contexts, many.contexts, count_more 2 c a b more.third);
      many = many;
    }

-- ---- an exchange

some_same : (s t : GroupSlots) → Some s ≡ Some t → s ≡ t
some_same s t e = cc

same_names : (n m : NameLists) → Some n ≡ Some m → n ≡ m
same_names n m e = cc

module _ (b : Slots) (p : GroupSlots) (ss : List GroupSlots) (ms : List NameLists) (place number : ℕ) (s : GroupSlots) (n : NameLists) (w : IsWhole b (Some p) ss ms) (is : slice_get ss place ≡ Some s) (empty : s.slots.max ≡ 0) (found : slice_get ms number ≡ Some n) where
  abbrev g : GroupLists
  g = s.lists

  abbrev h : GroupLists
  h = with_names n s.lists

  abbrev r : GroupSlots
  r = no_slot_taken h 0 0

  abbrev qs : List GroupSlots
  qs = p ∷ ss

  abbrev i : ℕ
  i = suc place

  was : IsVacant b g
  was = entry_vacant b p ss ms w place s is empty

  none : free_slots b g ≡ 0
  none = omega (arith, max_is b s w.all.arena (whole_group b p ss ms w place s is) (entry_taken b p ss ms w place s is empty), empty)

  all_made : s.unmade ≡ 0
  all_made = omega (arith, max_is b s w.all.arena (whole_group b p ss ms w place s is) (entry_taken b p ss ms w place s is empty), empty)

  no_free : slots_on b 0 g.free ≡ []
  no_free = nil_from_length (slots_on b 0 g.free) none

  not_free : (x : ℕ) → is_on b 0 g.free x ≡ true → ⊥
  not_free x on = not_true (ap (has x) no_free) on

  lists : AreEmpty b n
  lists = w.names.each number n found

  -- with the other chains the group has no ticket
  now : IsVacant b h
  now = record {
    numbered = record { queued = was.numbered.queued; running = was.numbered.running; settled = was.numbered.settled };
    there = was.there;
    chains = record {
      names_behind = lists.names.behind;
      names_some = lists.names.some;
      names_there = lists.names.there;
      contexts_behind = lists.contexts.behind;
      contexts_some = lists.contexts.some;
      contexts_there = lists.contexts.there;
    };
    live = was.live;
    names = none_free 1 n.names n.names_end b h no_free lists.names.empty;
    contexts = none_free 2 n.contexts n.contexts_end b h no_free lists.contexts.empty;
  }

  group : IsGroupSlots b r
  group = let nothing : free_slots b g + 0 ≡ 0 = omega (arith, none) in subst (λ k. IsGroupSlots b (no_slot_taken h k 0)) nothing (vacant_group b h now 0 w.all.arena (omega (arith, none)))

  here : slice_get (set qs i r) i ≡ Some r
  here = set_same qs i r (get_lt qs i s is)

  now_r : (j : ℕ) (k : GroupSlots) → j ≡ i → slice_get (set qs i r) j ≡ Some k → k ≡ r
  now_r j k q e = some_same k r (sym (ap (slice_get (set qs i r)) (sym q) ∙ e) ∙ here)

  old : (j : ℕ) (k : GroupSlots) → (j ≡ i → ⊥) → slice_get (set qs i r) j ≡ Some k → slice_get qs j ≡ Some k
  old j k ne e = sym (set_other qs i j r ne) ∙ e

  own_apart : (j : ℕ) (k : GroupSlots) → (j ≡ i → ⊥) → slice_get qs j ≡ Some k → IsApart h k.lists
  own_apart j k ne e =
      let apart = w.all.apart i j s k is e (λ q. ne (sym q)) in
      let beside = beside_back (names_of k.lists) n (w.names.beside number j n k found e) in
      record {
        apart = λ l own other. apart.apart l (record { from = own.from; to = own.to }) other;
        names = beside.names;
        contexts = beside.contexts;
      }

  all : AreGroupSlots b (set qs i r)
  all = record {
    arena = w.all.arena;
    each = λ j k e. elim (cases_eq j i) [
      | inl q ↦ subst (IsGroupSlots b) (sym (now_r j k q e)) group
      | inr ne ↦ w.all.each j k (old j k ne e)
    ];
    apart = λ j l k m e f ne. elim (cases_eq j i) [
      | inl q ↦
          let nl : l ≡ i → ⊥ = λ z. ne (q ∙ sym z) in
          subst (λ (z : GroupSlots). IsApart z.lists m.lists) (sym (now_r j k q e)) (own_apart l m nl (old l m nl f))
      | inr nj ↦ elim (cases_eq l i) [
        | inl q ↦ subst (λ (z : GroupSlots). IsApart k.lists z.lists) (sym (now_r l m q f)) (apart_back h k.lists (own_apart j k nj (old j k nj e)))
        | inr nl ↦ w.all.apart j l k m (old j k nj e) (old l m nl f) ne
      ]
    ];
  }

  -- ---- the chains that the group had

  given_on : (f first end : ℕ) → unchained < first → first < end → end ≤ length (lists_in b f) → AreFreeOn f first end b g → AreEmptyOn f first end b
  given_on f first end behind some there are = record {
    behind = behind;
    some = some;
    there = there;
    empty = λ l low high. none_on (slots_on b f l) (λ x. off l x low high (is_on b f l x) refl);
  }
    where
      off : (l x : ℕ) → first ≤ l → l < end → (c : Bool) → is_on b f l x ≡ c → c ≡ false
      off l x low high false e = refl
      off l x low high true e = absurd (not_free x (are.owned l x low high e))

  given : AreEmpty b (names_of g)
  given = record {
    names = given_on 1 g.names g.names_end was.chains.names_behind was.chains.names_some was.chains.names_there was.names;
    contexts = given_on 2 g.contexts g.contexts_end was.chains.contexts_behind was.chains.contexts_some was.chains.contexts_there was.contexts;
  }

  there : slice_get (set ms number (names_of g)) number ≡ Some (names_of g)
  there = names_same ms number (names_of g) (names_lt ms number n found)

  now_given : (j : ℕ) (k : NameLists) → j ≡ number → slice_get (set ms number (names_of g)) j ≡ Some k → k ≡ names_of g
  now_given j k q e = same_names k (names_of g) (sym (ap (slice_get (set ms number (names_of g))) (sym q) ∙ e) ∙ there)

  left : (j : ℕ) (k : NameLists) → (j ≡ number → ⊥) → slice_get (set ms number (names_of g)) j ≡ Some k → slice_get ms j ≡ Some k
  left j k ne e = sym (names_other ms number j (names_of g) ne) ∙ e

  -- they are those of no group now
  names : AreLeft b (set qs i r) (set ms number (names_of g))
  names = record {
    each = λ j k e. elim (cases_eq j number) [
      | inl q ↦ subst (AreEmpty b) (sym (now_given j k q e)) given
      | inr ne ↦ w.names.each j k (left j k ne e)
    ];
    beside = λ j l k t e f. elim (cases_eq j number) [
      | inl q ↦ subst (AreBeside (names_of t.lists)) (sym (now_given j k q e)) (elim (cases_eq l i) [
        | inl z ↦ subst (λ (y : GroupSlots). AreBeside (names_of y.lists) (names_of g)) (sym (now_r l t z f)) (beside_back (names_of g) n (w.names.beside number i n s found is))
        | inr nl ↦ apart_beside t.lists g (w.all.apart l i t s (old l t nl f) is nl)
      ])
      | inr ne ↦ elim (cases_eq l i) [
        | inl z ↦ subst (λ (y : GroupSlots). AreBeside (names_of y.lists) k) (sym (now_r l t z f)) (w.names.apart number j n k found (left j k ne e) (λ y. ne (sym y)))
        | inr nl ↦ w.names.beside j l k t (left j k ne e) (old l t nl f)
      ]
    ];
    apart = λ j l k m e f ne. elim (cases_eq j number) [
      | inl q ↦
          let nl : l ≡ number → ⊥ = λ z. ne (q ∙ sym z) in
          subst (λ (z : NameLists). AreBeside z m) (sym (now_given j k q e)) (w.names.beside l i m s (left l m nl f) is)
      | inr nj ↦ elim (cases_eq l number) [
        | inl q ↦ subst (AreBeside k) (sym (now_given l m q f)) (beside_back (names_of g) k (w.names.beside j i k s (left j k nj e) is))
        | inr nl ↦ w.names.apart j l k m (left j k nj e) (left l m nl f) ne
      ]
    ];
  }

  pub exchanged_rooms : rooms (set ss place r) ≡ rooms ss
  exchanged_rooms = rooms_set ss place s r is (sym empty)

  -- the spare slots and all groups are as they should be
  pub exchanged_whole : IsWhole b (Some p) (set ss place r) (set ms number (names_of g))
  exchanged_whole = record {
    all = all;
    slots = w.slots ∙ sym (rooms_set qs i s r is (sym empty));
    reserved = w.reserved ∙ sym (unmades_set qs i s r is (sym all_made));
    free = w.free;
    first = λ e. absurd (some_there e);
    names = names;
  }
    where
      some_there : Some p ≡ None → ⊥
      some_there e = cc

-- the place gets chains that no group has in the place of its own
pub exchanged_gets : (chains place number : ℕ) (a b : Slots) (ss rs : List GroupSlots) (ns ms ks : List NameLists) → IsLeft place ss → GetsNames chains number a ns b ms → IsExchanged place number ss ms rs ks → GetsPlace chains place a ss ns b rs ks
exchanged_gets chains place number a b ss rs ns ms ks left got exchanged =
    subst (λ (us : List GroupSlots). GetsPlace chains place a ss ns b us ks) (sym exchanged.groups) (subst (λ (vs : List NameLists). GetsPlace chains place a ss ns b (set ss place r) vs) (sym exchanged.names) (record {
      gets = λ p w.
          let now = got.whole p ss w in
          record {
            entry = r;
            here = set_same ss place r (get_lt ss place s exchanged.here);
            empty = refl;
            many = many;
            whole = exchanged_whole b p ss ms place number s n now exchanged.here empty exchanged.there;
            vacant = ap (λ (z : GroupTickets). z.room) (group_is a ss place s exchanged.here) ∙ empty;
            others = λ j ne. slice_get-map (group_of b) (set ss place r) j ∙ ap (option_map (group_of b)) (set_other ss place j r ne) ∙ sym (slice_get-map (group_of b) ss j) ∙ ap (λ (v : TicketsView). slice_get v.groups j) (got.view p ss w);
            room = rooms_set ss place s r exchanged.here (sym empty);
            limit = ap (λ (v : TicketsView). v.limit) (got.view p ss w);
          };
    }))
  where
    s : GroupSlots
    s = exchanged.was

    n : NameLists
    n = exchanged.entry

    r : GroupSlots
    r = no_slot_taken (with_names exchanged.entry exchanged.was.lists) 0 0

    empty : s.slots.max ≡ 0
    empty = ap (λ (z : GroupSlots). z.slots.max) (some_same s left.entry (sym exchanged.here ∙ left.here)) ∙ left.empty

    many : AreMany chains n
    many = subst (AreMany chains) (sym (same_names n got.there.entry (sym exchanged.there ∙ got.there.here))) got.there.many
