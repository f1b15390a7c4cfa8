-- A slot that moves to the end of a list of a family.
use Rattle.std.proofs.Common.{◌≡◌, ℕ, zero, suc, ◌<◌, inl, inr, Bool, true, false, not, cond, List, [], ◌∷◌, ◌++◌, map, length, get_or, refl, ◌∙◌, sym, ap, arith, length-set, get_or-set_same, get_or-set_other}
use Rattle.std.specs.Prelude.{◌||◌, eqb, if◌then◌else◌}
use Rattle.std.proofs.lemmas.Bool.{cases_eq, eq-eqb, ne_eqb}
use Rattle.std.proofs.lemmas.Bool.Decides.{nat_tests}
use Rattle.std.proofs.lemmas.List.{length-map}
use Rattle.bh_index_lists.specs.Lists.{without}
use Rattle.bh_slot_arena.specs.Lists.{moved}
use Rattle.bh_slot_arena.specs.Slots.{lists_in, slots_on, with_moved}
use Rattle.bh_cache.proofs.Members.{has_append}
use Rattle.bh_cache.specs.Slots.{Slots, has, is_on}

-- a list without a slot has each other slot that it had, and not this one
pub has_without : (x s : ℕ) (xs : List ℕ) → has x (without s xs) ≡ (if eqb x s then false else has x xs)
has_without x s [] = by (eqb x s)
  where
    by : (b : Bool) → false ≡ (if b then false else false)
    by true = refl
    by false = refl
has_without x s (y ∷ ys) = elim (cases_eq y s) [
  | inl e ↦ ap (λ b. has x (cond (not b) (y ∷ without s ys) (without s ys))) (eq-eqb y s e) ∙ has_without x s ys ∙ here e
  | inr ne ↦ ap (λ b. has x (cond (not b) (y ∷ without s ys) (without s ys))) (ne_eqb y s ne) ∙ ap (λ b. eqb y x || b) (has_without x s ys) ∙ there ne
]
  where
    here : y ≡ s → (if eqb x s then false else has x ys) ≡ (if eqb x s then false else (eqb y x || has x ys))
    here e = grind (arith, nat_tests)

    there : (y ≡ s → ⊥) → (eqb y x || (if eqb x s then false else has x ys)) ≡ (if eqb x s then false else (eqb y x || has x ys))
    there ne = grind (arith, nat_tests)

-- a list without a slot that it does not have is as it was
pub without_absent : (x : ℕ) (xs : List ℕ) → has x xs ≡ false → without x xs ≡ xs
without_absent x [] out = refl
without_absent x (y ∷ ys) out = elim (cases_eq y x) [
  | inl e ↦ absurd (no (ap (λ b. b || has x ys) (sym (eq-eqb y x e)) ∙ out))
  | inr ne ↦ ap (λ b. cond (not b) (y ∷ without x ys) (without x ys)) (ne_eqb y x ne) ∙ ap (λ zs. y ∷ zs) (without_absent x ys (ap (λ b. b || has x ys) (sym (ne_eqb y x ne)) ∙ out))
]
  where
    no : true ≡ false → ⊥
    no e = cc

at_map : (x l : ℕ) (ls : List (List ℕ)) → get_or (map (without x) ls) l [] ≡ without x (get_or ls l [])
at_map x l [] = refl
at_map x zero (xs ∷ ls) = refl
at_map x (suc l) (xs ∷ ls) = at_map x l ls

-- the lists of another family stay
pub family_stays : (a : Slots) (f h x to : ℕ) → (h ≡ f → ⊥) → lists_in (with_moved f x to a) h ≡ lists_in a h
family_stays a f h x to ne = get_or-set_other a.families f h (moved x to (lists_in a f)) [] ne

-- there are as many families as before
pub families_count : (a : Slots) (f x to : ℕ) → length (with_moved f x to a).families ≡ length a.families
families_count a f x to = length-set a.families f (moved x to (lists_in a f))

module _ (a : Slots) (f x to : ℕ) (wide : f < length a.families) where
  -- the lists of the family are as they were but for the slot that moved
  pub lists_moved : lists_in (with_moved f x to a) f ≡ moved x to (lists_in a f)
  lists_moved = get_or-set_same a.families f (moved x to (lists_in a f)) [] wide

  -- there are as many lists after a move as before
  pub lists_count : length (lists_in (with_moved f x to a) f) ≡ length (lists_in a f)
  lists_count = ap (λ (ls : List (List ℕ)). length ls) lists_moved ∙ length-set (map (without x) (lists_in a f)) to _ ∙ length-map (lists_in a f) (without x)

  -- each list but the one to which the slot is moved is as it was, without the slot
  pub list_not_to : (l : ℕ) → (l ≡ to → ⊥) → slots_on (with_moved f x to a) f l ≡ without x (slots_on a f l)
  list_not_to l ne =
      ap (λ (ls : List (List ℕ)). get_or ls l []) lists_moved
      ∙ get_or-set_other (map (without x) (lists_in a f)) to l _ [] ne
      ∙ at_map x l (lists_in a f)

  module _ (there : to < length (lists_in a f)) where
    -- the list to which a slot is moved has it last, and before it its other slots
    pub list_to : slots_on (with_moved f x to a) f to ≡ without x (slots_on a f to) ++ x ∷ []
    list_to =
        ap (λ (ls : List (List ℕ)). get_or ls to []) lists_moved
        ∙ get_or-set_same (map (without x) (lists_in a f)) to _ [] (omega (arith, there, length-map (lists_in a f) (without x)))
        ∙ ap (λ (xs : List ℕ). xs ++ x ∷ []) (at_map x to (lists_in a f))

    -- after a move the slot is on the list to which it went and on no other, and each other slot is where it was
    pub on_moved : (l y : ℕ) → is_on (with_moved f x to a) f l y ≡ (if eqb y x then eqb l to else is_on a f l y)
    on_moved l y = elim (cases_eq l to) [
      | inl e ↦
          ap (λ k. is_on (with_moved f x to a) f k y) e ∙ ap (has y) list_to ∙ has_append y (without x (slots_on a f to)) (x ∷ [])
          ∙ ap (λ b. b || (eqb x y || false)) (has_without y x (slots_on a f to)) ∙ same (is_on a f to y) (is_on a f l y) (ap (λ k. is_on a f k y) (sym e)) (eqb l to) (eq-eqb l to e)
      | inr ne ↦ ap (has y) (list_not_to l ne) ∙ has_without y x (slots_on a f l) ∙ ap (λ b. if eqb y x then b else is_on a f l y) (sym (ne_eqb l to ne))
    ]
      where
        same : (p q : Bool) → p ≡ q → (r : Bool) → r ≡ true → ((if eqb y x then false else p) || (eqb x y || false)) ≡ (if eqb y x then r else q)
        same p q e r f = grind (arith, nat_tests)
