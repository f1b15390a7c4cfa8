-- A place taken off a list.
use Rattle.std.proofs.Common.{drop, ◌≡◌, ℕ, ◌-◌, ◌<◌, inl, inr, List, [], ◌∷◌, ◌++◌, set, length, Some, None, refl, sym, ap, subst, ◌∙◌, arith, length-append}
use Rattle.std.specs.List.{Contains}
use Rattle.bh_index_lists.specs.declared.lists.Link.{Link}
use Rattle.bh_index_lists.specs.declared.lists.ListHead.{ListHead}
use Rattle.bh_index_lists.specs.Lists.{link_at, no_link, front, back, Linked, IsListed, list_of, without, IsList}
use Rattle.bh_index_lists.specs.Ties.{tied, tied_ends, IsWithin}
use Rattle.bh_index_lists.proofs.Members.{IsIn, IsIn-from_Contains, Contains-from_IsIn, IsIn-split, IsIn-append_left, IsIn-append_right, IsIn-append_cases, NoRepeat, NoRepeat-parts, without-in}
use Rattle.bh_index_lists.proofs.Segments.{first_once, Linked-split, Linked-set, NoRepeat-linked, back-append, front-append, link_at-set_other}
use Rattle.bh_index_lists.proofs.Ties.{linked-tied, tied-outside, tied_ends-is, within-back, within-front}

-- ---- of the list ls ++ i ∷ rs
module _ (L : List Link) (d : ListHead) (ls rs : List ℕ) (i : ℕ) (h : IsListed L d (ls ++ i ∷ rs)) where
  parts : Linked L None ls (Some i) × Linked L (back None ls) (i ∷ rs) None
  parts = Linked-split L None None ls (i ∷ rs) h.linked

  once : NoRepeat ls × NoRepeat (i ∷ rs) × ((x : ℕ) → IsIn x ls → IsIn x (i ∷ rs) → ⊥)
  once = NoRepeat-parts ls (i ∷ rs) (NoRepeat-linked L None (ls ++ i ∷ rs) h.linked)

  gone : IsIn i (ls ++ rs) → ⊥
  gone k = elim (IsIn-append_cases i ls rs k) [ inl a ↦ once.2 i a (inl refl) | inr b ↦ once.1.0 b ]

  taken-within : i < length L
  taken-within = parts.1.0

  taken-link : link_at L i ≡ record { prev = back None ls; next = front rs None }
  taken-link = parts.1.1

  taken-listed : IsListed (set (tied (back None ls) (front rs None) L) i no_link) (record (tied_ends (back None ls) (front rs None) d) { len = d.len - 1 }) (ls ++ rs)
  taken-listed =
      let ends = tied_ends-is d ls rs (Some i) (Some i) (h.first ∙ front-append ls (i ∷ rs) None) (h.last ∙ back-append None ls (i ∷ rs)) in
      record {
        linked = Linked-set (tied (back None ls) (front rs None) L) None None (ls ++ rs) i no_link gone (linked-tied L ls rs (Some i) (Some i) parts.0 parts.1.2 once.0 once.1.1 (λ x a b. once.2 x a (inr b)));
        first = ends.0;
        last = ends.1;
        len = omega (arith, h.len, length-append ls (i ∷ rs), length-append ls rs);
      }

  taken-without : without i (ls ++ i ∷ rs) ≡ ls ++ rs
  taken-without = without-in i ls rs (λ a. once.2 i a (inl refl)) once.1.0

  taken-outside : (x : ℕ) → (IsIn x (ls ++ i ∷ rs) → ⊥) → link_at (set (tied (back None ls) (front rs None) L) i no_link) x ≡ link_at L x
  taken-outside x out =
      link_at-set_other (tied (back None ls) (front rs None) L) i x no_link (λ e. out (IsIn-append_right x ls (i ∷ rs) (inl (sym e))))
      ∙ tied-outside L ls rs x (λ a. out (IsIn-append_left x ls (i ∷ rs) a)) (λ b. out (IsIn-append_right x ls (i ∷ rs) (inr b)))

-- ---- of a list that is walked
module _ (L : List Link) (d : ListHead) (i : ℕ) (h : IsList L d) (there : Contains (list_of L d) i) where
  cut : (ls : List ℕ) × (rs : List ℕ) × (list_of L d ≡ ls ++ i ∷ rs)
  cut = IsIn-split i (list_of L d) (IsIn-from_Contains i (list_of L d) there)

  at : IsListed L d (cut.0 ++ i ∷ cut.1)
  at = subst (IsListed L d) cut.2 h

  is : link_at L i ≡ record { prev = back None cut.0; next = front cut.1 None }
  is = taken-link L d cut.0 cut.1 i at

  -- the place is one of the slice
  pub unlinked-within : i < length L
  unlinked-within = taken-within L d cut.0 cut.1 i at

  -- the list has a place to lose
  pub unlinked-len : 0 < d.len
  unlinked-len = omega (arith, at.len, length-append cut.0 (i ∷ cut.1))

  -- the place before it is one of the slice
  pub unlinked-prev : IsWithin L (link_at L i).prev
  unlinked-prev = subst (λ (l : Link). IsWithin L l.prev) (sym is) (within-back L None (Some i) cut.0 tt (Linked-split L None None cut.0 (i ∷ cut.1) at.linked).0)

  -- and so is the one behind it
  pub unlinked-next : IsWithin L (link_at L i).next
  unlinked-next = subst (λ (l : Link). IsWithin L l.next) (sym is) (within-front L (Some i) cut.1 (Linked-split L None None cut.0 (i ∷ cut.1) at.linked).1.2)

  -- the list lacks the place, and nothing else
  pub unlinked-listed : IsListed (set (tied (link_at L i).prev (link_at L i).next L) i no_link) (record (tied_ends (link_at L i).prev (link_at L i).next d) { len = d.len - 1 }) (without i (list_of L d))
  unlinked-listed =
      let e : cut.0 ++ cut.1 ≡ without i (list_of L d) = sym (ap (without i) cut.2 ∙ taken-without L d cut.0 cut.1 i at) in
      let at_link = λ (l : Link) (xs : List ℕ). IsListed (set (tied l.prev l.next L) i no_link) (record (tied_ends l.prev l.next d) { len = d.len - 1 }) xs in
      subst (λ (l : Link). at_link l (without i (list_of L d))) (sym is) (subst (at_link (record { prev = back None cut.0; next = front cut.1 None })) e (taken-listed L d cut.0 cut.1 i at))

  -- what is not on the list keeps its link
  pub unlinked-outside : (x : ℕ) → ¬ (Contains (list_of L d) x) → link_at (set (tied (link_at L i).prev (link_at L i).next L) i no_link) x ≡ link_at L x
  unlinked-outside x out = ap (λ (l : Link). link_at (set (tied l.prev l.next L) i no_link) x) is ∙ taken-outside L d cut.0 cut.1 i at x (λ m. out (Contains-from_IsIn x (list_of L d) (subst (IsIn x) (sym cut.2) m)))

-- the first place taken off
pub without-first : (L : List Link) (d : ListHead) (p : ℕ) (xs : List ℕ) → IsListed L d xs → d.first ≡ Some p → without p xs ≡ drop 1 xs
without-first L d p [] h e = refl
without-first L d p (x ∷ xs) h e =
    let s : Some x ≡ Some p = sym h.first ∙ e in
    let same : x ≡ p = cc in
    subst (λ q. without q (x ∷ xs) ≡ xs) same (without-in x [] xs (λ i. i) (first_once L None x xs h.linked))
