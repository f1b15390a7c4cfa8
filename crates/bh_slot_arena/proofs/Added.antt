-- A new slot put at the end of a list.
use Rattle.std.proofs.Common.{◌≡◌, ℕ, ◌+◌, ◌<◌, ◌^◌, inl, inr, List, [], ◌∷◌, ◌++◌, length, get_or, set, map, Option, Some, None, refl, sym, ap, ap₂, subst, ◌∙◌, arith, length-append, length-set, get_or-set_same, get_or-set_other}
use Rattle.std.specs.List.{Contains}
use Rattle.std.proofs.lemmas.List.{same_lists, get_or-map, length-map, get_or_append_left, get_or_push}
use Rattle.std.proofs.lemmas.Bool.{cases_eq}
use Rattle.bh_index_lists.specs.declared.lists.Link.{Link}
use Rattle.bh_index_lists.specs.declared.lists.ListHead.{ListHead}
use Rattle.bh_index_lists.specs.Lists.{link_at, no_list, Linked, IsListed, IsList, list_of}
use Rattle.bh_index_lists.proofs.Members.{IsIn, IsIn-append_left, IsIn-append_right, IsIn-append_cases, IsIn-from_Contains, Contains-from_IsIn}
use Rattle.bh_index_lists.proofs.Segments.{listed, listed-same, linked-below, IsList-from}
use Rattle.bh_slot_arena.specs.Lists.{put_last}
use Rattle.bh_slot_arena.specs.Linked.{head_at, IsLinked}

Linked-grown : (L : List Link) (y : Link) (p q : Option ℕ) (xs : List ℕ) → Linked L p xs q → Linked (L ++ y ∷ []) p xs q
Linked-grown L y p q [] h = tt
Linked-grown L y p q (x ∷ xs) h = (omega (arith, h.0, length-append L (y ∷ [])), get_or_append_left L (y ∷ []) _ x h.0 ∙ h.1, Linked-grown L y (Some x) q xs h.2)

module _ (L : List Link) (heads : List ListHead) (on_list : List ℕ) (y : Link) (sound : IsLinked L heads on_list) where
  -- the lists as they were, in the longer slice
  pub grown-listed : (l : ℕ) → l < length heads → IsListed (L ++ y ∷ []) (head_at heads l) (list_of L (head_at heads l))
  grown-listed l lt = let h = sound.listed l lt in record { linked = Linked-grown L y None None (list_of L (head_at heads l)) h.linked; first = h.first; last = h.last; len = h.len }

  old_below : (l x : ℕ) → l < length heads → IsIn x (list_of L (head_at heads l)) → x < length L
  old_below l x lt i = linked-below L None None (list_of L (head_at heads l)) x (sound.listed l lt).linked i

  -- the place behind the last link is on none of the lists
  pub not_there : (l : ℕ) → l < length heads → IsIn (length L) (list_of L (head_at heads l)) → ⊥
  not_there l lt i = omega (arith, old_below l (length L) lt i)

  only_on : (l x : ℕ) → l < length heads → IsIn x (list_of L (head_at heads l)) → get_or on_list x 0 ≡ l
  only_on l x lt i = sound.on l x lt (Contains-from_IsIn x (list_of L (head_at heads l)) i)

  module _ (N : List Link) (to : ℕ) (k f : ListHead) (few : length L + 1 < 2 ^ 32) (to_within : to < length heads) (was_to : k ≡ head_at heads to) (same' : length N ≡ length (L ++ y ∷ []))
      (isList' : IsList N f) (put : list_of N f ≡ list_of (L ++ y ∷ []) k ++ length L ∷ [])
      (outside' : (x : ℕ) → ¬ (Contains (list_of N f) x) → link_at N x ≡ link_at (L ++ y ∷ []) x) where
    put_is : list_of N f ≡ list_of L (head_at heads to) ++ length L ∷ []
    put_is = put ∙ ap (λ (xs : List ℕ). xs ++ length L ∷ []) (ap (list_of (L ++ y ∷ [])) was_to ∙ listed (L ++ y ∷ []) (head_at heads to) _ (grown-listed to to_within))

    added-to : IsListed N (head_at (set heads to f) to) (list_of L (head_at heads to) ++ length L ∷ [])
    added-to = subst (λ (z : ListHead). IsListed N z (list_of L (head_at heads to) ++ length L ∷ [])) (sym (get_or-set_same heads to f no_list to_within)) (subst (IsListed N f) put_is isList')

    added-other : (l : ℕ) → l < length heads → (l ≡ to → ⊥) → IsListed N (head_at (set heads to f) l) (list_of L (head_at heads l))
    added-other l lt ne =
        let away : (x : ℕ) → IsIn x (list_of L (head_at heads l)) → ¬ (Contains (list_of N f) x)
        = λ x i m. elim (IsIn-append_cases x (list_of L (head_at heads to)) (length L ∷ []) (subst (IsIn x) put_is (IsIn-from_Contains x (list_of N f) m))) [
          | inl a ↦ ne (sym (only_on l x lt i) ∙ only_on to x to_within a)
          | inr b ↦ elim b [ inl e ↦ not_there l lt (subst (λ z. IsIn z (list_of L (head_at heads l))) (sym e) i) | inr z ↦ z ]
        ] in
        subst (λ (z : ListHead). IsListed N z (list_of L (head_at heads l))) (sym (get_or-set_other heads to l f no_list ne))
        (listed-same (L ++ y ∷ []) N (head_at heads l) (list_of L (head_at heads l)) same' (λ x i. outside' x (away x i)) (grown-listed l lt))

    more : length N ≡ length L + 1
    more = omega (arith, same', length-append L (y ∷ []))

    length_end : length (set heads to f) ≡ length heads
    length_end = length-set heads to f

    old_number : (x : ℕ) → x < length L → get_or (on_list ++ to ∷ []) x 0 ≡ get_or on_list x 0
    old_number x lt = get_or_append_left on_list (to ∷ []) 0 x (omega (arith, lt, sound.sizes))

    new_number : (x : ℕ) → x ≡ length L → get_or (on_list ++ to ∷ []) x 0 ≡ to
    new_number x e = get_or_push on_list to 0 x (sound.sizes ∙ sym e)

    -- with the new slot last on its list, each slot is on the list whose number it has, and on no other
    pub added-sound : IsLinked N (set heads to f) (on_list ++ to ∷ [])
    added-sound = record {
      sizes = omega (arith, length-append on_list (to ∷ []), sound.sizes, more);
      few = omega (arith, few, more);
      listed = λ l lt. elim (cases_eq l to) [
        | inl e ↦ subst (λ z. IsList N (head_at (set heads to f) z)) (sym e) (IsList-from N (head_at (set heads to f) to) _ added-to)
        | inr ne ↦ IsList-from N (head_at (set heads to f) l) _ (added-other l (omega (arith, lt, length_end)) ne)
      ];
      on = λ l x lt m. elim (cases_eq l to) [
        | inl e ↦
            let i : IsIn x (list_of L (head_at heads to) ++ length L ∷ []) = subst (IsIn x) (listed N (head_at (set heads to f) to) _ added-to) (subst (λ z. IsIn x (list_of N (head_at (set heads to f) z))) e (IsIn-from_Contains x _ m)) in
            elim (IsIn-append_cases x (list_of L (head_at heads to)) (length L ∷ []) i) [
              | inl a ↦ old_number x (old_below to x to_within a) ∙ only_on to x to_within a ∙ sym e
              | inr b ↦ elim b [ inl z ↦ new_number x (sym z) ∙ sym e | inr z ↦ absurd z ]
            ]
        | inr ne ↦
            let lt' : l < length heads = omega (arith, lt, length_end) in
            let i : IsIn x (list_of L (head_at heads l)) = subst (IsIn x) (listed N (head_at (set heads to f) l) _ (added-other l lt' ne)) (IsIn-from_Contains x _ m) in
            old_number x (old_below l x lt' i) ∙ only_on l x lt' i
      ];
      there = λ x lt. elim (cases_eq x (length L)) [
        | inl e ↦
            let o = new_number x e in
            (omega (arith, o, to_within, length_end), Contains-from_IsIn x _ (subst (λ z. IsIn x (list_of N (head_at (set heads to f) z))) (sym o) (subst (IsIn x) (sym (listed N (head_at (set heads to f) to) _ added-to)) (IsIn-append_right x (list_of L (head_at heads to)) (length L ∷ []) (inl (sym e))))))
        | inr ne ↦
            let low : x < length L = omega (arith, lt, more) in
            let o = old_number x low in
            let at = sound.there x low in
            let kept = IsIn-from_Contains x _ at.1 in
            let placed : IsIn x (list_of N (head_at (set heads to f) (get_or on_list x 0))) = elim (cases_eq (get_or on_list x 0) to) [
              | inl e ↦ subst (λ z. IsIn x (list_of N (head_at (set heads to f) z))) (sym e) (subst (IsIn x) (sym (listed N (head_at (set heads to f) to) _ added-to)) (IsIn-append_left x (list_of L (head_at heads to)) (length L ∷ []) (subst (λ z. IsIn x (list_of L (head_at heads z))) e kept)))
              | inr nt ↦ subst (IsIn x) (sym (listed N (head_at (set heads to f) (get_or on_list x 0)) _ (added-other (get_or on_list x 0) at.0 nt))) kept
            ] in
            (omega (arith, o, at.0, length_end), Contains-from_IsIn x _ (subst (λ z. IsIn x (list_of N (head_at (set heads to f) z))) (sym o) placed))
      ];
    }

    -- the lists are what they were, with the new slot put at the end of one
    pub added-view : map (list_of N) (set heads to f) ≡ put_last (length L ∷ []) to (map (list_of L) heads)
    added-view =
        let before : List (List ℕ) = map (list_of L) heads in
        let length_before : length before ≡ length heads = length-map heads (list_of L) in
        let at_before : (l : ℕ) (e : List ℕ) → l < length heads → get_or before l e ≡ list_of L (head_at heads l) = λ l e lt. get_or-map (list_of L) heads l no_list e lt in
        let size : length (map (list_of N) (set heads to f)) ≡ length heads = length-map (set heads to f) (list_of N) ∙ length_end in
        same_lists _ _ (size ∙ sym (length-set before to (get_or before to [] ++ length L ∷ []) ∙ length_before)) (λ l e h.
        let lt : l < length heads = omega (arith, h, size) in
        get_or-map (list_of N) (set heads to f) l no_list e (omega (arith, lt, length_end))
        ∙ elim (cases_eq l to) [
          | inl q ↦ ap (λ z. list_of N (head_at (set heads to f) z)) q ∙ listed N (head_at (set heads to f) to) _ added-to ∙ sym (ap (λ z. get_or (set before to (get_or before to [] ++ length L ∷ [])) z e) q ∙ get_or-set_same before to _ e (omega (arith, to_within, length_before)) ∙ ap (λ (xs : List ℕ). xs ++ length L ∷ []) (at_before to [] to_within))
          | inr ne ↦ listed N (head_at (set heads to f) l) _ (added-other l lt ne) ∙ sym (get_or-set_other before to l _ e ne ∙ at_before l e lt)
        ])

-- the same, where the longer slice and the new slot go by other names
module _ (L M : List Link) (heads : List ListHead) (on_list : List ℕ) (y : Link) (s to : ℕ) (sound : IsLinked L heads on_list) (longer : M ≡ L ++ y ∷ []) (is : length L ≡ s) (few : s + 1 < 2 ^ 32) (to_within : to < length heads) where
  -- in the longer slice the list that the slot goes to holds the places that it held
  pub before-listed : IsListed M (head_at heads to) (list_of L (head_at heads to))
  before-listed = subst (λ (ls : List Link). IsListed ls (head_at heads to) (list_of L (head_at heads to))) (sym longer) (grown-listed L heads on_list y sound to to_within)

  -- the head of that list holds a list in the longer slice
  pub before-list : IsList M (head_at heads to)
  before-list = IsList-from M (head_at heads to) (list_of L (head_at heads to)) before-listed

  -- the new slot is not on that list yet
  pub before-apart : ¬ (Contains (list_of M (head_at heads to)) s)
  before-apart m = not_there L heads on_list y sound to to_within (subst (λ z. IsIn z (list_of L (head_at heads to))) (sym is) (subst (IsIn s) (listed M (head_at heads to) (list_of L (head_at heads to)) before-listed) (IsIn-from_Contains s (list_of M (head_at heads to)) m)))

  module _ (N : List Link) (f : ListHead) (same : length N ≡ length M) (isList : IsList N f) (put : list_of N f ≡ list_of M (head_at heads to) ++ s ∷ []) (outside : (x : ℕ) → ¬ (Contains (list_of N f) x) → link_at N x ≡ link_at M x) where
    same_put : list_of N f ≡ list_of (L ++ y ∷ []) (head_at heads to) ++ length L ∷ []
    same_put = put ∙ ap₂ (λ (ls : List Link) (z : ℕ). list_of ls (head_at heads to) ++ z ∷ []) longer (sym is)

    few' : length L + 1 < 2 ^ 32
    few' = omega (arith, is, few)

    -- once the slot is put there, each slot is on the list whose number it has, and on no other
    pub put-sound : IsLinked N (set heads to f) (on_list ++ to ∷ [])
    put-sound = added-sound L heads on_list y sound N to (head_at heads to) f few' to_within refl (same ∙ ap (λ (ls : List Link). length ls) longer) isList same_put (λ x out. outside x out ∙ ap (λ (ls : List Link). link_at ls x) longer)

    -- the lists are what they were, with the slot put at the end of that one
    pub put-view : map (list_of N) (set heads to f) ≡ put_last (s ∷ []) to (map (list_of L) heads)
    put-view =
        added-view L heads on_list y sound N to (head_at heads to) f few' to_within refl (same ∙ ap (λ (ls : List Link). length ls) longer) isList same_put (λ x out. outside x out ∙ ap (λ (ls : List Link). link_at ls x) longer)
        ∙ ap (λ (z : ℕ). put_last (z ∷ []) to (map (list_of L) heads)) is
