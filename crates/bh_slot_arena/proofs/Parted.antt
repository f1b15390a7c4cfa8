-- The lists of a sound family part the slots among them.
use Rattle.std.proofs.Common.{◌≡◌, ℕ, zero, suc, ◌<◌, inl, inr, None, Some, List, [], ◌∷◌, length, map, get_or, slice_get, arith, sym, subst, ap, ◌∙◌}
use Rattle.std.proofs.lemmas.Bool.{cases_lt}
use Rattle.std.proofs.lemmas.List.{get_or-map, get_or_past, length-map}
use Rattle.bh_index_lists.specs.declared.lists.Link.{Link}
use Rattle.bh_index_lists.specs.declared.lists.ListHead.{ListHead}
use Rattle.bh_index_lists.specs.Lists.{list_of, no_list}
use Rattle.bh_index_lists.proofs.Members.{IsIn, IsIn-from_Contains, Contains-from_IsIn, NoRepeat}
use Rattle.bh_index_lists.proofs.Segments.{NoRepeat-linked, linked-below}
use Rattle.bh_slot_arena.specs.Lists.{IsPartition}
use Rattle.bh_slot_arena.specs.Linked.{IsLinked, head_at}

-- what stands at a place of a list is one of it
pub IsIn-at : (xs : List ℕ) (k x : ℕ) → slice_get xs k ≡ Some x → IsIn x xs
IsIn-at [] k x e = let none : None ≡ Some x = e in cc
IsIn-at (y ∷ ys) zero x e = let same : y ≡ x = cc in inl same
IsIn-at (y ∷ ys) (suc k) x e = inr (IsIn-at ys k x e)

-- and what is one of a list stands at a place of it
pub place_of : (x : ℕ) (xs : List ℕ) → IsIn x xs → (k : ℕ) × (slice_get xs k ≡ Some x)
place_of x [] h = absurd h
place_of x (y ∷ ys) (inl e) = (0, ap Some e)
place_of x (y ∷ ys) (inr h) = let r = place_of x ys h in (suc r.0, r.1)

one_place : (xs : List ℕ) (k j x : ℕ) → NoRepeat xs → slice_get xs k ≡ Some x → slice_get xs j ≡ Some x → k ≡ j
one_place [] k j x once e f = let none : None ≡ Some x = e in cc
one_place (y ∷ ys) zero zero x once e f = omega arith
one_place (y ∷ ys) zero (suc j) x once e f = let same : y ≡ x = cc in absurd (once.0 (subst (λ z. IsIn z ys) (sym same) (IsIn-at ys j x f)))
one_place (y ∷ ys) (suc k) zero x once e f = let same : y ≡ x = cc in absurd (once.0 (subst (λ z. IsIn z ys) (sym same) (IsIn-at ys k x e)))
one_place (y ∷ ys) (suc k) (suc j) x once e f = ap suc (one_place ys k j x once.1 e f)

module _ (L : List Link) (heads : List ListHead) (on_list : List ℕ) (sound : IsLinked L heads on_list) where
  -- a slot at a place of a list is on the list of a head
  at_head : (l k x : ℕ) → slice_get (get_or (map (list_of L) heads) l []) k ≡ Some x → (l < length heads) × (slice_get (list_of L (head_at heads l)) k ≡ Some x)
  at_head l k x e = elim (cases_lt l (length heads)) [
    | inl lt ↦ (lt, subst (λ xs. slice_get xs k ≡ Some x) (get_or-map (list_of L) heads l no_list [] lt) e)
    | inr past ↦
        let none : None ≡ Some x = ap (λ (xs : List ℕ). slice_get xs k) (sym (get_or_past (map (list_of L) heads) l [] (omega (arith, length-map heads (list_of L))))) ∙ e in cc
  ]

  number : (l k x : ℕ) → slice_get (get_or (map (list_of L) heads) l []) k ≡ Some x → get_or on_list x 0 ≡ l
  number l k x e = let h = at_head l k x e in sound.on l x h.0 (Contains-from_IsIn x (list_of L (head_at heads l)) (IsIn-at (list_of L (head_at heads l)) k x h.1))

  -- each slot is at exactly one place of exactly one list, and nothing else is on the lists
  pub IsPartition-sound : IsPartition (length L) (map (list_of L) heads)
  IsPartition-sound = record {
    within = λ l k x e. let h = at_head l k x e in linked-below L None None (list_of L (head_at heads l)) x (sound.listed l h.0).linked (IsIn-at (list_of L (head_at heads l)) k x h.1);
    there = λ x lt.
        let at = sound.there x lt in
        let place = place_of x (list_of L (head_at heads (get_or on_list x 0))) (IsIn-from_Contains x _ at.1) in
        (get_or on_list x 0, place.0, subst (λ xs. slice_get xs place.0 ≡ Some x) (sym (get_or-map (list_of L) heads (get_or on_list x 0) no_list [] at.0)) place.1);
    once = λ l m k j x e f.
        let same : l ≡ m = sym (number l k x e) ∙ number m j x f in
        let h = at_head l k x e in
        (same, one_place (list_of L (head_at heads l)) k j x (NoRepeat-linked L None (list_of L (head_at heads l)) (sound.listed l h.0).linked) h.1 (at_head l j x (subst (λ q. slice_get (get_or (map (list_of L) heads) q []) j ≡ Some x) (sym same) f)).1);
  }
