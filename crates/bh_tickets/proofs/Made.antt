-- A slot of a group is made: it is free, and all else is as it was.
use Rattle.std.proofs.Common.{◌≡◌, ℕ, zero, suc, ◌+◌, ◌-◌, ◌<◌, ◌≤◌, ◌⊎◌, inl, inr, true, false, List, [], ◌∷◌, ◌++◌, length, get_or, set, Option, Some, None, refl, ◌∙◌, sym, ap, subst, arith, length-append, length-set, get_or-set_same, get_or-set_other}
use Rattle.std.specs.Prelude.{◌≢◌, ◌||◌, eqb, slice_get}
use Rattle.std.specs.Option.{option_map}
use Rattle.std.proofs.lemmas.Bool.{cases_eq, eq-eqb, ne_eqb}
use Rattle.std.proofs.lemmas.Option.{slice_get-map}
use Rattle.bh_base.specs.declared.ticket.Ticket.{Ticket}
use Rattle.bh_slot_arena.specs.Lists.{list_at, put_last}
use Rattle.bh_slot_arena.specs.Slots.{lists_in, slots_on}
use Rattle.bh_cache.specs.declared.lists.GroupLists.{GroupLists}
use Rattle.bh_cache.specs.Chains.{AreOn, HasChains, IsChained, list_by_context, list_by_name, unchained}
use Rattle.bh_cache.specs.Slots.{Slots, count_below, has, is_live, is_on, is_owned, one, ticket_at, IsApart, IsArena, IsOwn}
use Rattle.bh_cache.proofs.Members.{has_append}
use Rattle.bh_tickets.specs.declared.group_slots.GroupSlots.{GroupSlots}
use Rattle.bh_tickets.specs.declared.names.NameLists.{NameLists}
use Rattle.bh_tickets.specs.GroupSlots.{IsGroupSlots}
use Rattle.bh_tickets.specs.Growth.{IsGrown, IsReadyFor}
use Rattle.bh_tickets.specs.Names.{names_of}
use Rattle.bh_tickets.specs.Same.{IsSame, KeepsNames, KeepsOwn}
use Rattle.bh_tickets.specs.Spare.{HasSlotFree, IsAmong}
use Rattle.bh_tickets.specs.Whole.{IsWhole, group_of, groups_of, unmades, view_of}
use Rattle.bh_tickets.proofs.AddedGroup.{append_before}
use Rattle.bh_tickets.proofs.AddedLists.{family_there, put_first, put_second, put_third}
use Rattle.bh_tickets.proofs.Others.{KeepsLive, at_same, live_kept, live_same, live_shown, none_past, slots_same}
use Rattle.bh_tickets.proofs.Rebuilt.{spare_apart, two_changed, two_groups, two_left, unmades_first, unmades_now}
use Rattle.bh_tickets.proofs.Shifted.{own_free}
use Rattle.bh_tickets.proofs.Vacant.{or_false, or_true, taken_few}
use Rattle.bh_tickets.proofs.Whole.{groups_in, rooms_set}

-- what is put where it was leaves the list as it was
set_kept : {A : Type 0} (xs : List A) (i : ℕ) (v : A) → slice_get xs i ≡ Some v → set xs i v ≡ xs
set_kept [] i v e = refl
set_kept (y ∷ ys) zero v e = let k : y ≡ v = cc in ap (λ z. z ∷ ys) (sym k)
set_kept (y ∷ ys) (suc i) v e = ap (λ zs. y ∷ zs) (set_kept ys i v e)

-- without a group there is none at any number
no_group : (ss : List GroupSlots) (i : ℕ) (s : GroupSlots) → ss ≡ [] → slice_get ss i ≡ Some s → ⊥
no_group [] i s none e = cc
no_group (y ∷ ys) i s none e = cc

-- what is not made yet of one group is among that of all
among_all : (ss : List GroupSlots) (i : ℕ) (s : GroupSlots) → slice_get ss i ≡ Some s → s.unmade ≤ unmades ss
among_all ss i s is = omega (arith, unmades_now ss i s (record s { unmade = 0 }) is)

module _ (a b : Slots) (s : GroupSlots) (grown : IsGrown s.lists a b) (arena : IsArena a 0) (group : IsGroupSlots a s) where
  abbrev g : GroupLists
  g = s.lists

  abbrev x : ℕ
  x = length a.payloads

  abbrev come : List ℕ
  come = x ∷ []

  chains : HasChains a g
  chains = group.chained.lists

  second_there : unchained < length (lists_in a 1)
  second_there = omega (arith, chains.names_behind, chains.names_some, chains.names_there)

  third_there : unchained < length (lists_in a 2)
  third_there = omega (arith, chains.contexts_behind, chains.contexts_some, chains.contexts_there)

  free_there : g.free < length (lists_in a 0)
  free_there = omega (arith, group.there, group.numbered.settled)

  wide : 2 < length a.families
  wide = family_there a.families 2 (omega (arith, third_there))

  -- ---- its lists

  first : lists_in b 0 ≡ put_last come g.free (lists_in a 0)
  first = ap (λ (z : Slots). lists_in z 0) grown.is ∙ put_first g.free unchained unchained come a.families wide

  second : lists_in b 1 ≡ put_last come unchained (lists_in a 1)
  second = ap (λ (z : Slots). lists_in z 1) grown.is ∙ put_second g.free unchained unchained come a.families wide

  third : lists_in b 2 ≡ put_last come unchained (lists_in a 2)
  third = ap (λ (z : Slots). lists_in z 2) grown.is ∙ put_third g.free unchained unchained come a.families wide

  put_count : (f to : ℕ) → lists_in b f ≡ put_last come to (lists_in a f) → length (lists_in b f) ≡ length (lists_in a f)
  put_count f to is = ap (λ (ls : List (List ℕ)). length ls) is ∙ length-set (lists_in a f) to (list_at (lists_in a f) to ++ come)

  put_other : (f to l : ℕ) → lists_in b f ≡ put_last come to (lists_in a f) → l ≢ to → slots_on b f l ≡ slots_on a f l
  put_other f to l is ne = ap (λ (ls : List (List ℕ)). get_or ls l []) is ∙ get_or-set_other (lists_in a f) to l (list_at (lists_in a f) to ++ come) [] ne

  put_on : (f to : ℕ) → lists_in b f ≡ put_last come to (lists_in a f) → to < length (lists_in a f) → (y : ℕ) → is_on b f to y ≡ (is_on a f to y || (eqb x y || false))
  put_on f to is lt y = ap (has y) (ap (λ (ls : List (List ℕ)). get_or ls to []) is ∙ get_or-set_same (lists_in a f) to (list_at (lists_in a f) to ++ come) [] lt) ∙ has_append y (slots_on a f to) come

  -- each slot that was there lies on the list just where it did
  put_still : (f to : ℕ) → lists_in b f ≡ put_last come to (lists_in a f) → to < length (lists_in a f) → (y : ℕ) → y ≢ x → is_on b f to y ≡ is_on a f to y
  put_still f to is lt y ne = put_on f to is lt y ∙ ap (λ c. is_on a f to y || (c || false)) (ne_eqb x y (λ e. ne (sym e))) ∙ or_false (is_on a f to y)

  -- and the new one lies there
  put_new : (f to : ℕ) → lists_in b f ≡ put_last come to (lists_in a f) → to < length (lists_in a f) → is_on b f to x ≡ true
  put_new f to is lt = put_on f to is lt x ∙ ap (λ c. is_on a f to x || (c || false)) (eq-eqb x x refl) ∙ or_true (is_on a f to x)

  -- ---- all else

  made_size : length b.payloads ≡ x + 1
  made_size = ap (λ (z : Slots). length z.payloads) grown.is ∙ length-append a.payloads (grown.blank ∷ [])

  made_limit : b.limit ≡ a.limit
  made_limit = ap (λ (z : Slots). z.limit) grown.is

  made_reserved : b.reserved ≡ a.reserved - 1
  made_reserved = ap (λ (z : Slots). z.reserved) grown.is

  before : (y : ℕ) → y < x → slice_get b.payloads y ≡ slice_get a.payloads y
  before y lt = ap (λ (z : Slots). slice_get z.payloads y) grown.is ∙ append_before a.payloads (grown.blank ∷ []) y lt

  within : (l y : ℕ) → is_on a 0 l y ≡ true → y ≢ x
  within l y on e = let lt : y < x = arena.within l y on in absurd (omega (arith, lt, e))

  put_apart : (f low high : ℕ) → lists_in b f ≡ put_last come unchained (lists_in a f) → KeepsOwn f low high a b
  put_apart f low high is = record { count = omega (arith, put_count f unchained is); lists = λ l ne p q. put_other f unchained l is ne }

  -- what lies on chains lies there still
  made_names : (n : NameLists) → KeepsNames n a b
  made_names n = record { names = put_apart 1 n.names n.names_end second; contexts = put_apart 2 n.contexts n.contexts_end third }

  -- and what lies on the lists of other groups
  made_same : (h : GroupLists) → IsApart g h → IsSame h a b
  made_same h apart = record {
    slots = omega (arith, made_size);
    count = omega (arith, put_count 0 g.free first);
    lists = λ l own. put_other 0 g.free l first (λ e. apart.apart l (subst (IsOwn g) (sym e) (own_free g group.numbered)) own);
    payloads = λ l y own on. before y (arena.within l y on);
    chains = made_names (names_of h);
    by_name = λ l y own on. put_still 1 unchained second second_there y (within l y on);
    by_context = λ l y own on. put_still 2 unchained third third_there y (within l y on);
  }

  -- and on those of the group that have tickets
  made_live : KeepsLive g a b
  made_live = record {
    slots = omega (arith, made_size);
    count = omega (arith, put_count 0 g.free first);
    lists = λ l own ne. put_other 0 g.free l first ne;
    payloads = λ l y own on. before y (arena.within l y on);
  }

  -- ---- the group

  owned_still : (y : ℕ) → y ≢ x → is_owned b g y ≡ is_owned a g y
  owned_still y ne = λ i. put_still 0 g.free first free_there y ne i || live_same a b s made_live arena group y i

  owned_new : is_owned b g x ≡ true
  owned_new = ap (λ c. c || is_live b g x) (put_new 0 g.free first free_there)

  on_now : (f low high : ℕ) (to : Option Ticket → ℕ) → lists_in b f ≡ put_last come unchained (lists_in a f) → unchained < length (lists_in a f) → unchained < low → to None ≡ unchained → AreOn f low high to a g → AreOn f low high to b g
  on_now f low high to is lt behind none are = record {
    placed = λ y own. elim (cases_eq y x) [
      | inl e ↦ subst (λ z. is_on b f (to (ticket_at b g z)) z ≡ true) (sym e)
          (subst (λ o. is_on b f (to o) x ≡ true) (sym (at_same a b s made_live arena group x ∙ none_past a b s made_live arena group x (omega arith)))
          (subst (λ l. is_on b f l x ≡ true) (sym none) (put_new f unchained is lt)))
      | inr ne ↦ ap (λ o. is_on b f (to o) y) (at_same a b s made_live arena group y) ∙ still y ne (to (ticket_at a g y)) ∙ are.placed y (sym (owned_still y ne) ∙ own)
    ];
    owned = λ l y from til on.
        let was : is_on a f l y ≡ true = sym (ap (has y) (put_other f unchained l is (λ e. absurd (omega (arith, e, behind, from))))) ∙ on in
        elim (cases_eq y x) [
          | inl e ↦ subst (λ z. is_owned b g z ≡ true) (sym e) owned_new
          | inr ne ↦ owned_still y ne ∙ are.owned l y from til was
        ];
  }
    where
      still : (y : ℕ) → y ≢ x → (l : ℕ) → is_on b f l y ≡ is_on a f l y
      still y ne l = elim (cases_eq l unchained) [
        | inl e ↦ subst (λ z. is_on b f z y ≡ is_on a f z y) (sym e) (put_still f unchained is lt y ne)
        | inr nl ↦ ap (has y) (put_other f unchained l is nl)
      ]

  chained_now : IsChained b g
  chained_now = record {
    lists = record {
      names_behind = chains.names_behind;
      names_some = chains.names_some;
      names_there = omega (arith, chains.names_there, put_count 1 unchained second);
      contexts_behind = chains.contexts_behind;
      contexts_some = chains.contexts_some;
      contexts_there = omega (arith, chains.contexts_there, put_count 2 unchained third);
    };
    names = on_now 1 g.names g.names_end (list_by_name g) second second_there chains.names_behind refl group.chained.names;
    contexts = on_now 2 g.contexts g.contexts_end (list_by_context g) third third_there chains.contexts_behind refl group.chained.contexts;
  }

  count_now : (n : ℕ) → n ≤ x → count_below n (is_owned b g) ≡ count_below n (is_owned a g)
  count_now zero le = refl
  count_now (suc n) le =
      let k : one (is_owned b g n) ≡ one (is_owned a g n) = ap one (owned_still n (λ e. absurd (omega (arith, e, le)))) in
      omega (arith, k, count_now n (omega (arith, le)))

  -- one slot more is the group's
  owned_more : count_below (length b.payloads) (is_owned b g) ≡ count_below x (is_owned a g) + 1
  owned_more =
      let k : one (is_owned b g x) ≡ 1 = ap one owned_new in
      let m : length b.payloads ≡ suc x = omega (arith, made_size) in
      ap (λ n. count_below n (is_owned b g)) m ∙ omega (arith, k, count_now x (omega arith))

  module _ (some : 0 < s.unmade) where
    abbrev r : GroupSlots
    r = record s { unmade = s.unmade - 1 }

    -- what the group keeps fits its tickets, with one slot fewer that is not made yet
    made_group : IsGroupSlots b r
    made_group = live_kept a b s made_live arena group (s.unmade - 1) chained_now (omega (arith, owned_more, group.slots, some))

    made_room : s.slots.taken < s.slots.max → s.slots.taken + (s.unmade - 1) < s.slots.max
    made_room room = omega (arith, room, some, taken_few a s group)

    module _ (p : GroupSlots) (ss : List GroupSlots) (ns : List NameLists) (i : ℕ) (whole : IsWhole a (Some p) ss ns) (is : slice_get ss i ≡ Some s) where
      apart : IsApart p.lists g
      apart = spare_apart a p ss ns whole i s is

      spare_now : IsGroupSlots b p
      spare_now = slots_same a b p (made_same p.lists (record { apart = λ l own other. apart.apart l other own; names = λ l own other. apart.names l other own; contexts = λ l own other. apart.contexts l other own })) arena (whole.all.each 0 p refl)

      same : (h : GroupLists) → IsApart p.lists h → IsApart g h → IsSame h a b
      same h one_ two = made_same h two

      -- wherever the group is, the spare slots and all groups are as they should be
      made_whole : IsWhole b (Some p) (set ss i r) ns
      made_whole = record {
        all = two_changed a b p p ss i s r whole.all is grown.arena spare_now refl made_group refl same;
        slots = omega (arith, made_size, made_reserved, whole.slots, whole.reserved, unmades_first p ss, among_all ss i s is, some, rooms_set (p ∷ ss) (suc i) s r is refl);
        reserved = omega (arith, made_reserved, whole.reserved, unmades_first p ss, unmades_first p (set ss i r), unmades_now ss i s r is, some);
        free = whole.free;
        first = λ e. absurd (some_there e);
        names = two_left a b p p ss i s r whole.all is grown.arena spare_now refl made_group refl same ns whole.names;
      }
        where
          some_there : Some p ≡ None → ⊥
          some_there e = cc

      -- and contracts see of them what they saw
      made_view : view_of b (set ss i r) ≡ view_of a ss
      made_view = λ j. record {
        limit = made_limit j;
        groups = (two_groups a b p p ss i s r whole.all is grown.arena spare_now refl made_group refl same (group_of a s) (live_shown a b s made_live arena group (s.unmade - 1))
            ∙ set_kept (groups_of a ss) i (group_of a s) (slice_get-map (group_of a) ss i ∙ ap (option_map (group_of a)) is)) j;
      }

-- ---- as the code reads it

module _ (a : Slots) (s : GroupSlots) (among : IsAmong a s) where
  -- the group is as it should be
  among_group : IsGroupSlots a s
  among_group = (groups_in among.whole).each among.number s among.here

  among_some : (q : Option GroupSlots) → IsWhole a q among.groups among.names → (p : GroupSlots) × (q ≡ Some p)
  among_some None w = absurd (no_group among.groups among.number s (w.first refl) among.here)
  among_some (Some p) w = (p, refl)

  -- a slot is reserved for it
  pub among_ready : 0 < s.unmade → IsReadyFor s.lists a
  among_ready some =
      let group = among_group in
      let p = among_some among.spare among.whole in
      let w = subst (λ q. IsWhole a q among.groups among.names) p.1 among.whole in
      record {
        first = omega (arith, group.there, group.numbered.settled);
        second = omega (arith, group.chained.lists.names_behind, group.chained.lists.names_some, group.chained.lists.names_there);
        third = omega (arith, group.chained.lists.contexts_behind, group.chained.lists.contexts_some, group.chained.lists.contexts_there);
        reserved = omega (arith, w.reserved, unmades_first p.0 among.groups, among_all among.groups among.number s among.here, some);
      }

  -- a slot that is made is free
  pub slot_there : ((s.unmade ≡ 0) ⊎ (s.unmade < s.slots.max - s.slots.taken)) → HasSlotFree a s a s
  slot_there there = record {
    room = λ room. elim there [
      | inl none ↦ omega (arith, none, room)
      | inr some ↦ omega (arith, some)
    ];
    else = refl;
    whole = λ spare ss ns i w is. subst (λ rs. IsWhole a spare rs ns) (sym (set_kept ss i s is)) w;
    view = λ spare ss ns i w is. ap (view_of a) (set_kept ss i s is);
  }

  -- or one is made
  pub slot_made : (b : Slots) (r : GroupSlots) → 0 < s.unmade → IsGrown s.lists a b → r ≡ record s { unmade = s.unmade - 1 } → HasSlotFree a s b r
  slot_made b r some grown is = subst (HasSlotFree a s b) (sym is) (record {
    room = made_room a b s grown (arena among) among_group some;
    else = refl;
    whole = whole;
    view = view;
  })
    where
      arena : IsAmong a s → IsArena a 0
      arena k = k.whole.all.arena

      whole : (spare : Option GroupSlots) (ss : List GroupSlots) (ns : List NameLists) (i : ℕ) → IsWhole a spare ss ns → slice_get ss i ≡ Some s → IsWhole b spare (set ss i (record s { unmade = s.unmade - 1 })) ns
      whole None ss ns i w at = absurd (no_group ss i s (w.first refl) at)
      whole (Some p) ss ns i w at = made_whole a b s grown w.all.arena ((groups_in w).each i s at) some p ss ns i w at

      view : (spare : Option GroupSlots) (ss : List GroupSlots) (ns : List NameLists) (i : ℕ) → IsWhole a spare ss ns → slice_get ss i ≡ Some s → view_of b (set ss i (record s { unmade = s.unmade - 1 })) ≡ view_of a ss
      view None ss ns i w at = absurd (no_group ss i s (w.first refl) at)
      view (Some p) ss ns i w at = made_view a b s grown w.all.arena ((groups_in w).each i s at) some p ss ns i w at
