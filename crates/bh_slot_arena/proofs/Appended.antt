-- The slots of a list that go to the end of another, one after another.
use Rattle.std.proofs.Common.{◌≡◌, ℕ, suc, ◌<◌, inl, inr, List, [], ◌∷◌, ◌++◌, length, map, Some, slice_get, refl, sym, ap, ap₂, ◌∙◌, arith, append_assoc, append-nil, length-set, get_or-set_same, get_or-set_other}
use Rattle.std.specs.Prelude.{◌≢◌}
use Rattle.std.proofs.Math.ListN.{get_or-map as get_or-map_default}
use Rattle.std.proofs.lemmas.Bool.{cases_eq}
use Rattle.std.proofs.lemmas.List.{same_lists, get_or_default, length-map}
use Rattle.bh_index_lists.specs.Lists.{without}
use Rattle.bh_index_lists.proofs.Members.{IsIn, without-in, without-out}
use Rattle.bh_slot_arena.specs.Lists.{IsPartition, appended, list_at, moved, put_last}
use Rattle.bh_slot_arena.proofs.Parted.{place_of}

-- as many lists with the same slots each are the same
alike : (xs ys : List (List ℕ)) → length xs ≡ length ys → ((l : ℕ) → list_at xs l ≡ list_at ys l) → xs ≡ ys
alike xs ys size same = same_lists xs ys size (λ l d lt. get_or_default xs l d [] lt ∙ same l ∙ get_or_default ys l [] d (omega (arith, lt, size)))

-- the lists once one was appended to another
module _ (ls : List (List ℕ)) (from to : ℕ) (from_in : from < length ls) (to_in : to < length ls) (differ : from ≢ to) where
  size : length (appended from to ls) ≡ length ls
  size = length-set (put_last (list_at ls from) to ls) from [] ∙ length-set ls to (list_at ls to ++ list_at ls from)

  at_from : list_at (appended from to ls) from ≡ []
  at_from = get_or-set_same (put_last (list_at ls from) to ls) from [] [] (omega (arith, from_in, length-set ls to (list_at ls to ++ list_at ls from)))

  at_to : list_at (appended from to ls) to ≡ list_at ls to ++ list_at ls from
  at_to = get_or-set_other (put_last (list_at ls from) to ls) from to [] [] (λ e. differ (sym e)) ∙ get_or-set_same ls to (list_at ls to ++ list_at ls from) [] to_in

  at_other : (l : ℕ) → l ≢ from → l ≢ to → list_at (appended from to ls) l ≡ list_at ls l
  at_other l a b = get_or-set_other (put_last (list_at ls from) to ls) from l [] [] a ∙ get_or-set_other ls to l (list_at ls to ++ list_at ls from) [] b

-- to append an empty list changes nothing
pub appended-empty : (ls : List (List ℕ)) (from to : ℕ) → from < length ls → to < length ls → from ≢ to → list_at ls from ≡ [] → appended from to ls ≡ ls
appended-empty ls from to from_in to_in differ none = alike (appended from to ls) ls (size ls from to from_in to_in differ) same
  where
    same : (l : ℕ) → list_at (appended from to ls) l ≡ list_at ls l
    same l = elim (cases_eq l from) [
      | inl e ↦ ap (list_at (appended from to ls)) e ∙ at_from ls from to from_in to_in differ ∙ sym (ap (list_at ls) e ∙ none)
      | inr a ↦ elim (cases_eq l to) [
        | inl e ↦ ap (list_at (appended from to ls)) e ∙ at_to ls from to from_in to_in differ ∙ ap (λ (xs : List ℕ). list_at ls to ++ xs) none ∙ append-nil (list_at ls to) ∙ sym (ap (list_at ls) e)
        | inr b ↦ at_other ls from to from_in to_in differ l a b
      ]
    ]

-- the first slot of a list was put at the end of another
module _ (n : ℕ) (ls : List (List ℕ)) (from to x : ℕ) (rest : List ℕ) (parted : IsPartition n ls) (from_in : from < length ls) (to_in : to < length ls) (differ : from ≢ to) (first : list_at ls from ≡ x ∷ rest) where
  at_front : slice_get (list_at ls from) 0 ≡ Some x
  at_front = ap (λ (xs : List ℕ). slice_get xs 0) first

  -- it is on its own list alone, and there once
  elsewhere : (l : ℕ) → l ≢ from → IsIn x (list_at ls l) → ⊥
  elsewhere l other there = (let p = place_of x (list_at ls l) there in other (parted.once l from p.0 0 x p.1 at_front).0)

  once : IsIn x rest → ⊥
  once there =
      let p = place_of x rest there in
      let again : slice_get (list_at ls from) (suc p.0) ≡ Some x = ap (λ (xs : List ℕ). slice_get xs (suc p.0)) first ∙ p.1 in
      absurd (omega (arith, (parted.once from from (suc p.0) 0 x again at_front).1))

  abbrev next : List (List ℕ)
  next = moved x to ls

  pub next_size : length next ≡ length ls
  next_size = length-set (map (without x) ls) to (list_at (map (without x) ls) to ++ x ∷ []) ∙ length-map ls (without x)

  kept : (l : ℕ) → l ≢ to → list_at next l ≡ without x (list_at ls l)
  kept l other = get_or-set_other (map (without x) ls) to l (list_at (map (without x) ls) to ++ x ∷ []) [] other ∙ get_or-map_default (without x) ls l []

  pub front_gone : list_at next from ≡ rest
  front_gone = kept from differ ∙ ap (without x) first ∙ without-in x [] rest (λ h. h) once

  put : list_at next to ≡ list_at ls to ++ x ∷ []
  put =
      get_or-set_same (map (without x) ls) to (list_at (map (without x) ls) to ++ x ∷ []) [] (omega (arith, to_in, length-map ls (without x)))
      ∙ ap (λ (xs : List ℕ). xs ++ x ∷ []) (get_or-map_default (without x) ls to [] ∙ without-out x (list_at ls to) (elsewhere to (λ e. differ (sym e))))

  stays : (l : ℕ) → l ≢ from → l ≢ to → list_at next l ≡ list_at ls l
  stays l a b = kept l b ∙ without-out x (list_at ls l) (elsewhere l a)

  -- what is left of the list, appended then, gives what the whole list gives
  pub appended-next : appended from to next ≡ appended from to ls
  appended-next = alike (appended from to next) (appended from to ls) (size next from to from_next to_next differ ∙ next_size ∙ sym (size ls from to from_in to_in differ)) same
    where
      from_next : from < length next
      from_next = omega (arith, from_in, next_size)

      to_next : to < length next
      to_next = omega (arith, to_in, next_size)

      same : (l : ℕ) → list_at (appended from to next) l ≡ list_at (appended from to ls) l
      same l = elim (cases_eq l from) [
        | inl e ↦ ap (list_at (appended from to next)) e ∙ at_from next from to from_next to_next differ ∙ sym (ap (list_at (appended from to ls)) e ∙ at_from ls from to from_in to_in differ)
        | inr a ↦ elim (cases_eq l to) [
          | inl e ↦
              ap (list_at (appended from to next)) e ∙ at_to next from to from_next to_next differ
              ∙ ap₂ (λ (ys xs : List ℕ). ys ++ xs) put front_gone ∙ append_assoc (list_at ls to) (x ∷ []) rest
              ∙ sym (ap (list_at (appended from to ls)) e ∙ at_to ls from to from_in to_in differ ∙ ap (λ (xs : List ℕ). list_at ls to ++ xs) first)
          | inr b ↦ at_other next from to from_next to_next differ l a b ∙ stays l a b ∙ sym (at_other ls from to from_in to_in differ l a b)
        ]
      ]

-- a list that is not empty has a first slot
pub cut_first : (xs : List ℕ) → 0 < length xs → (x : ℕ) × (rest : List ℕ) × (xs ≡ x ∷ rest)
cut_first [] some = absurd (omega (arith, some))
cut_first (x ∷ rest) some = (x, rest, refl)
