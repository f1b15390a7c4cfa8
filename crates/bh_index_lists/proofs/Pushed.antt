-- A place put at the end of a list.
use Rattle.std.proofs.Common.{◌≡◌, ℕ, ◌+◌, ◌<◌, ◌≤◌, inl, inr, List, [], ◌∷◌, ◌++◌, length, set, Option, Some, None, refl, sym, ap, subst, ◌∙◌, arith, length-set, length-append}
use Rattle.std.specs.List.{Contains}
use Rattle.bh_index_lists.specs.declared.lists.Link.{Link}
use Rattle.bh_index_lists.specs.declared.lists.ListHead.{ListHead}
use Rattle.bh_index_lists.specs.Lists.{link_at, front, back, IsListed, list_of, IsList}
use Rattle.bh_index_lists.specs.Ties.{with_next, tied, tied_ends, IsWithin}
use Rattle.bh_index_lists.proofs.Members.{IsIn, Contains-from_IsIn, IsIn-append_left, IsIn-append_right}
use Rattle.bh_index_lists.proofs.Segments.{Linked-join, Linked-set, NoRepeat-linked, back-append, len_below, link_at-set_same, link_at-set_other}
use Rattle.bh_index_lists.proofs.Ties.{back-cons, linked-with_next, tied-outside, length-with_next, within-back}

-- ---- behind the list xs
module _ (L : List Link) (d : ListHead) (xs : List ℕ) (i : ℕ) (h : IsListed L d xs) (lt : i < length L) (new : IsIn i xs → ⊥) where
  put-listed : IsListed (tied (Some i) None (tied d.last (Some i) L)) (record (tied_ends (Some i) None (tied_ends d.last (Some i) d)) { len = d.len + 1 }) (xs ++ i ∷ [])
  put-listed = subst (λ (l : Option ℕ). IsListed (tied (Some i) None (tied l (Some i) L)) (record (tied_ends (Some i) None (tied_ends l (Some i) d)) { len = d.len + 1 }) (xs ++ i ∷ [])) (sym h.last) (record {
    linked = Linked-join _ None None xs (i ∷ []) (Linked-set _ None (Some i) xs i _ new (Linked-set _ None (Some i) xs i _ new (linked-with_next L xs None (Some i) h.linked (NoRepeat-linked L None xs h.linked)))) (within, here, tt);
    first = first xs h.first;
    last = sym (back-append None xs (i ∷ []));
    len = omega (arith, h.len, length-append xs (i ∷ []));
  })
    where
      M : List Link
      M = with_next (back None xs) (Some i) L

      V : Link
      V = record { prev = back None xs; next = (link_at M i).next }

      put_here : List Link
      put_here = set (set M i V) i (record { prev = (link_at (set M i V) i).prev; next = None })

      within : i < length put_here
      within = omega (arith, length-set M i V, length-with_next L (back None xs) (Some i), length-set (set M i V) i (record { prev = (link_at (set M i V) i).prev; next = None }))

      here : link_at put_here i ≡ record { prev = back None xs; next = None }
      here =
          let lt' : i < length M = omega (arith, length-with_next L (back None xs) (Some i)) in
          link_at-set_same (set M i V) i _ (omega (arith, length-set M i V)) ∙ ap (λ (l : Link). record { prev = l.prev; next = None }) (link_at-set_same M i V lt')

      first : (xs : List ℕ) → d.first ≡ front xs None → (tied_ends (Some i) None (tied_ends (back None xs) (Some i) d)).first ≡ front (xs ++ i ∷ []) None
      first [] e = refl
      first (x ∷ xs) e = ap (λ o. (tied_ends (Some i) None (tied_ends o (Some i) d)).first) (back-cons x xs) ∙ e

-- ---- behind a list that is walked
module _ (L : List Link) (d : ListHead) (i : ℕ) (h : IsList L d) (lt : i < length L) (new : ¬ (Contains (list_of L d) i)) where
  -- the last place is one of the slice
  pub pushed-last : IsWithin L d.last
  pushed-last = subst (IsWithin L) (sym h.last) (within-back L None None (list_of L d) tt h.linked)

  -- the list with one more place is no longer than the slice
  pub pushed-len : d.len + 1 ≤ length L
  pushed-len = len_below L d (list_of L d) i h lt (λ m. new (Contains-from_IsIn i (list_of L d) m))

  -- the list has the new place at its end
  pub pushed-listed : IsListed (tied (Some i) None (tied d.last (Some i) L)) (record (tied_ends (Some i) None (tied_ends d.last (Some i) d)) { len = d.len + 1 }) (list_of L d ++ i ∷ [])
  pushed-listed = put-listed L d (list_of L d) i h lt (λ m. new (Contains-from_IsIn i (list_of L d) m))

  -- what is not on the list keeps its link
  pub pushed-outside : (x : ℕ) → ¬ (Contains (list_of L d ++ i ∷ []) x) → link_at (tied (Some i) None (tied d.last (Some i) L)) x ≡ link_at L x
  pushed-outside x out =
      let apart : x ≡ i → ⊥ = λ e. out (Contains-from_IsIn x (list_of L d ++ i ∷ []) (IsIn-append_right x (list_of L d) (i ∷ []) (inl (sym e)))) in
      let out' : IsIn x (list_of L d) → ⊥ = λ m. out (Contains-from_IsIn x (list_of L d ++ i ∷ []) (IsIn-append_left x (list_of L d) (i ∷ []) m)) in
      link_at-set_other (tied d.last (Some i) L) i x _ apart ∙ ap (λ (l : Option ℕ). link_at (tied l (Some i) L) x) h.last ∙ tied-outside L (list_of L d) (i ∷ []) x out' (λ m. elim m [ inl e ↦ apart (sym e) | inr k ↦ k ])
