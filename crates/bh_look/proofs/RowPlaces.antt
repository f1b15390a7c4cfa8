-- The rows that are told of, with one more or with more in one.
use Rattle.std.proofs.Common.{◌≡◌, ℕ, zero, suc, ◌+◌, ◌<◌, Bool, true, false, List, [], ◌∷◌, ◌++◌, length, map, set, get_or, Option, Some, None, refl, sym, ap, subst, ◌∙◌, arith, add-one}
use Rattle.std.proofs.lemmas.List.{get_or-map, length-map, map-append, map-set}
use Rattle.std.specs.Prelude.{◌&&◌, Decides, option_map, if◌then◌else◌}
use Rattle.std.specs.Option.{option_or}
use Rattle.std.specs.Cmp.Lexicographic.{bytes_decides}
use Rattle.std.specs.HashMap.{HashMap, Updates, get}
use Rattle.std.specs.Str.{bytes_eq}
use Rattle.bh_look.specs.Rows.{ArePlaces, RowSaid, is_row_of, new_row, place_of, row_said, same_names, with_row, with_tally}
use Rattle.bh_look.specs.declared.rows.Row.{Row}
use Rattle.bh_look.specs.declared.tally.Tally.{Tally}
use Rattle.bh_look.proofs.Naming.{both}

-- ---- whether two names are the same

swapped : (a b : List ℕ) → bytes_eq a b ≡ bytes_eq b a
swapped a b = cases (bytes_eq a b) (bytes_eq b a) (bytes_decides a b) (bytes_decides b a)
  where
    cases : (r s : Bool) → Decides r (a ≡ b) → Decides s (b ≡ a) → r ≡ s
    cases true true d e = refl
    cases false false d e = refl
    cases true false d e = sym (e.1 (sym (d.0 refl)))
    cases false true d e = d.1 (sym (e.0 refl))

same : (a b : List ℕ × List ℕ) → same_names a b ≡ true → (a.0 ≡ b.0) × (a.1 ≡ b.1)
same a b is =
    let (first, second) = both (bytes_eq a.0 b.0) (bytes_eq a.1 b.1) is in
    ((bytes_decides a.0 b.0).0 first, (bytes_decides a.1 b.1).0 second)

-- ---- the row of two names

module _ (group command : List ℕ) where
  pub place_within : (rows : List RowSaid) (i : ℕ) → place_of group command rows ≡ Some i → i < length rows
  place_within [] i is = absurd cc
  place_within (row ∷ rows) i is = cases (is_row_of group command row) (place_of group command rows) (λ j e. place_within rows j e) is
    where
      cases : (b : Bool) (o : Option ℕ) → ((j : ℕ) → o ≡ Some j → j < length rows) → (if b then Some 0 else option_map (λ place. place + 1) o) ≡ Some i → i < suc (length rows)
      cases true o later is = let first : 0 ≡ i = cc in omega (arith, first)
      cases false None later is = absurd cc
      cases false (Some j) later is = let next : j + 1 ≡ i = cc in omega (arith, later j refl, next)

  -- what comes to a row that is there
  pub with_row_there : (tally : Tally) (d : RowSaid) (rows : List RowSaid) (i : ℕ) → place_of group command rows ≡ Some i
      → with_row group command tally rows ≡ set rows i (with_tally tally (get_or rows i d))
  with_row_there tally d [] i is = absurd cc
  with_row_there tally d (row ∷ rows) i is = cases (is_row_of group command row) (place_of group command rows) (λ j e. with_row_there tally d rows j e) is
    where
      cases : (b : Bool) (o : Option ℕ) → ((j : ℕ) → o ≡ Some j → with_row group command tally rows ≡ set rows j (with_tally tally (get_or rows j d)))
          → (if b then Some 0 else option_map (λ place. place + 1) o) ≡ Some i
          → (if b then with_tally tally row ∷ rows else row ∷ with_row group command tally rows) ≡ set (row ∷ rows) i (with_tally tally (get_or (row ∷ rows) i d))
      cases true o later is = let first : 0 ≡ i = cc in subst (λ n. with_tally tally row ∷ rows ≡ set (row ∷ rows) n (with_tally tally (get_or (row ∷ rows) n d))) first refl
      cases false None later is = absurd cc
      cases false (Some j) later is =
          let found : j + 1 ≡ i = cc in
          let next : suc j ≡ i = sym (add-one j) ∙ found in
          subst (λ n. row ∷ with_row group command tally rows ≡ set (row ∷ rows) n (with_tally tally (get_or (row ∷ rows) n d))) next (ap (λ rs. row ∷ rs) (later j refl))

  -- what comes to a row that is not
  pub with_row_new : (tally : Tally) (rows : List RowSaid) → place_of group command rows ≡ None → with_row group command tally rows ≡ rows ++ with_tally tally (new_row group command) ∷ []
  with_row_new tally [] is = refl
  with_row_new tally (row ∷ rows) is = cases (is_row_of group command row) (place_of group command rows) (λ e. with_row_new tally rows e) is
    where
      cases : (b : Bool) (o : Option ℕ) → (o ≡ None → with_row group command tally rows ≡ rows ++ with_tally tally (new_row group command) ∷ [])
          → (if b then Some 0 else option_map (λ place. place + 1) o) ≡ None
          → (if b then with_tally tally row ∷ rows else row ∷ with_row group command tally rows) ≡ row ∷ (rows ++ with_tally tally (new_row group command) ∷ [])
      cases true o later is = absurd cc
      cases false None later is = ap (λ rs. row ∷ rs) (later refl)
      cases false (Some j) later is = absurd cc

  -- another row of the same names stands in its place
  place_set : (rows : List RowSaid) (i : ℕ) (d next : RowSaid) → next.group ≡ (get_or rows i d).group → next.command ≡ (get_or rows i d).command → place_of group command (set rows i next) ≡ place_of group command rows
  place_set [] i d next first second = refl
  place_set (row ∷ rows) zero d next first second =
      λ k. if (bytes_eq group (first k)) && (bytes_eq command (second k)) then Some 0 else option_map (λ place. place + 1) (place_of group command rows)
  place_set (row ∷ rows) (suc i) d next first second =
      ap (λ o. if is_row_of group command row then Some 0 else option_map (λ place. place + 1) o) (place_set rows i d next first second)

  -- a row more
  place_more : (rows : List RowSaid) (row : RowSaid) → place_of group command (rows ++ row ∷ []) ≡ option_or (place_of group command rows) (if is_row_of group command row then Some (length rows) else None)
  place_more [] row = refl
  place_more (x ∷ rows) row =
      ap (λ o. if is_row_of group command x then Some 0 else option_map (λ place. place + 1) o) (place_more rows row) ∙ cases (is_row_of group command x) (is_row_of group command row) (place_of group command rows)
    where
      cases : (b t : Bool) (o : Option ℕ) → (if b then Some 0 else option_map (λ place. place + 1) (option_or o (if t then Some (length rows) else None)))
          ≡ option_or (if b then Some 0 else option_map (λ place. place + 1) o) (if t then Some (suc (length rows)) else None)
      cases true t o = refl
      cases false t (Some j) = refl
      cases false true None = ap Some (add-one (length rows))
      cases false false None = refl

-- ---- the places of the rows

pub places_set : {S : Type 0} (rows : List RowSaid) (places : HashMap (List ℕ × List ℕ) ℕ S) (i : ℕ) (d next : RowSaid) → next.group ≡ (get_or rows i d).group → next.command ≡ (get_or rows i d).command
    → ArePlaces rows places → ArePlaces (set rows i next) places
places_set rows places i d next first second are = record { each = λ group command. are.each group command ∙ sym (place_set group command rows i d next first second) }

pub places_more : {S : Type 0} (rows : List RowSaid) (places more : HashMap (List ℕ × List ℕ) ℕ S) (row : RowSaid) (n : ℕ) → n ≡ length rows → ArePlaces rows places
    → get same_names places (row.group, row.command) ≡ None → Updates same_names places more (row.group, row.command) (Some n) → ArePlaces (rows ++ row ∷ []) more
places_more rows places more row n many are none updates = record {
  each = λ group command.
      updates.0 (group, command)
      ∙ cases group command (same_names (row.group, row.command) (group, command)) refl
      ∙ ap (λ t. option_or (place_of group command rows) (if t then Some (length rows) else None)) (λ k. (swapped row.group group k) && (swapped row.command command k))
      ∙ sym (place_more group command rows row);
}
  where
    without : (o : Option ℕ) → o ≡ option_or o None
    without None = refl
    without (Some i) = refl

    cases : (group command : List ℕ) (t : Bool) → same_names (row.group, row.command) (group, command) ≡ t
        → (if t then Some n else get same_names places (group, command)) ≡ option_or (place_of group command rows) (if t then Some (length rows) else None)
    cases group command true is =
        let (first, second) = same (row.group, row.command) (group, command) is in
        let absent : place_of group command rows ≡ None = sym (are.each group command) ∙ sym (λ k. get same_names places (first k, second k)) ∙ none in
        ap Some many ∙ sym (ap (λ o. option_or o (Some (length rows))) absent)
    cases group command false is = are.each group command ∙ without (place_of group command rows)

-- ---- what comes to a row

module _ {S : Type 0} (items : List Row) (places : HashMap (List ℕ × List ℕ) ℕ S) (group command : List ℕ) (tally : Tally) (are : ArePlaces (map row_said items) places) where
  module _ (i : ℕ) (old next : Row) (at : Some i ≡ get same_names places (group, command)) (is : old ≡ get_or items i old) (added : row_said next ≡ with_tally tally (row_said old)) where
    there : place_of group command (map row_said items) ≡ Some i
    there = sym (are.each group command) ∙ sym at

    pub row_within : i < length items
    row_within = omega (arith, place_within group command (map row_said items) i there, length-map items row_said)

    here : get_or (map row_said items) i (row_said old) ≡ row_said old
    here = get_or-map row_said items i old (row_said old) row_within ∙ sym (ap row_said is)

    pub added_there : map row_said (set items i next) ≡ with_row group command tally (map row_said items)
    added_there = map-set row_said items i next ∙ ap (set (map row_said items) i) (added ∙ sym (ap (with_tally tally) here)) ∙ sym (with_row_there group command tally (row_said old) (map row_said items) i there)

    pub places_there : ArePlaces (map row_said (set items i next)) places
    places_there =
        subst (λ rows. ArePlaces rows places) (sym (map-set row_said items i next))
        (places_set (map row_said items) places i (row_said old) (row_said next)
        (ap (λ (row : RowSaid). row.group) added ∙ sym (ap (λ (row : RowSaid). row.group) here))
        (ap (λ (row : RowSaid). row.command) added ∙ sym (ap (λ (row : RowSaid). row.command) here)) are)

  module _ (made next : Row) (none : get same_names places (group, command) ≡ None) (new : row_said made ≡ new_row group command) (added : row_said next ≡ with_tally tally (row_said made)) where
    all : row_said next ≡ with_tally tally (new_row group command)
    all = added ∙ ap (with_tally tally) new

    pub added_new : map row_said (items ++ next ∷ []) ≡ with_row group command tally (map row_said items)
    added_new =
        map-append row_said items (next ∷ []) ∙ ap (λ row. map row_said items ++ row ∷ []) all
        ∙ sym (with_row_new group command tally (map row_said items) (sym (are.each group command) ∙ none))

    pub places_new : (more : HashMap (List ℕ × List ℕ) ℕ S) (n : ℕ) → n ≡ length items → Updates same_names places more (group, command) (Some n) → ArePlaces (map row_said (items ++ next ∷ [])) more
    places_new more n many updates =
        subst (λ rows. ArePlaces rows more) (sym (map-append row_said items (next ∷ []) ∙ ap (λ row. map row_said items ++ row ∷ []) all))
        (places_more (map row_said items) places more (with_tally tally (new_row group command)) n (many ∙ sym (length-map items row_said)) are none updates)
