-- Parts of a linked list.
use Rattle.std.proofs.Common.{◌≡◌, ℕ, zero, suc, ◌+◌, ◌<◌, ◌≤◌, inl, inr, List, [], ◌∷◌, ◌++◌, length, set, Option, Some, None, slice_get, refl, sym, ap, ap₂, subst, ◌∙◌, arith, length-set, get_or-set_same, get_or-set_other, length-append}
use Rattle.bh_index_lists.specs.declared.lists.Link.{Link}
use Rattle.bh_index_lists.specs.declared.lists.ListHead.{ListHead}
use Rattle.bh_index_lists.specs.Lists.{link_at, no_link, front, back, Linked, IsListed, walk, list_of, IsList}
use Rattle.bh_index_lists.proofs.Members.{IsIn, IsIn-split, NoRepeat, length-le}

-- the front of two lists together is that of the first, or else of the second
pub front-append : (ls rs : List ℕ) (q : Option ℕ) → front (ls ++ rs) q ≡ front ls (front rs q)
front-append [] rs q = refl
front-append (a ∷ ls) rs q = refl

-- the back of two lists together is that of the second, or else of the first
pub back-append : (p : Option ℕ) (ls rs : List ℕ) → back p (ls ++ rs) ≡ back (back p ls) rs
back-append p [] rs = refl
back-append p (a ∷ ls) rs = back-append (Some a) ls rs

-- ---- a linked list in two parts, and back

-- two linked lists together are linked each
pub Linked-split : (L : List Link) (p q : Option ℕ) (ls rs : List ℕ) → Linked L p (ls ++ rs) q → Linked L p ls (front rs q) × Linked L (back p ls) rs q
Linked-split L p q [] rs h = (tt, h)
Linked-split L p q (a ∷ ls) rs h =
    let rest = Linked-split L (Some a) q ls rs h.2 in
    ((h.0, h.1 ∙ ap (λ (n : Option ℕ). record { prev = p; next = n }) (front-append ls rs q), rest.0), rest.1)

-- and two that meet are linked together
pub Linked-join : (L : List Link) (p q : Option ℕ) (ls rs : List ℕ) → Linked L p ls (front rs q) → Linked L (back p ls) rs q → Linked L p (ls ++ rs) q
Linked-join L p q [] rs h k = k
Linked-join L p q (a ∷ ls) rs h k = (h.0, h.1 ∙ ap (λ (n : Option ℕ). record { prev = p; next = n }) (sym (front-append ls rs q)), Linked-join L (Some a) q ls rs h.2 k)

-- ---- other links

-- links that agree on the places
pub Linked-same : (L M : List Link) (p q : Option ℕ) (xs : List ℕ) → length M ≡ length L → ((x : ℕ) → IsIn x xs → link_at M x ≡ link_at L x) → Linked L p xs q → Linked M p xs q
Linked-same L M p q [] len same h = tt
Linked-same L M p q (x ∷ xs) len same h = (omega (arith, h.0, len), same x (inl refl) ∙ h.1, Linked-same L M (Some x) q xs len (λ y i. same y (inr i)) h.2)

-- links that agree on the places of a list have the same list
pub listed-same : (L M : List Link) (d : ListHead) (xs : List ℕ) → length M ≡ length L → ((x : ℕ) → IsIn x xs → link_at M x ≡ link_at L x) → IsListed L d xs → IsListed M d xs
listed-same L M d xs len same h = record { linked = Linked-same L M None None xs len same h.linked; first = h.first; last = h.last; len = h.len }

-- a link that is written leaves the others
pub link_at-set_other : (L : List Link) (y x : ℕ) (v : Link) → (x ≡ y → ⊥) → link_at (set L y v) x ≡ link_at L x
link_at-set_other L y x v ne = get_or-set_other L y x v no_link ne

-- and is read where it was written
pub link_at-set_same : (L : List Link) (x : ℕ) (v : Link) → x < length L → link_at (set L x v) x ≡ v
link_at-set_same L x v lt = get_or-set_same L x v no_link lt

-- a link outside a list may be written
pub Linked-set : (L : List Link) (p q : Option ℕ) (xs : List ℕ) (y : ℕ) (v : Link) → (IsIn y xs → ⊥) → Linked L p xs q → Linked (set L y v) p xs q
Linked-set L p q xs y v out = Linked-same L (set L y v) p q xs (length-set L y v) (λ x i. link_at-set_other L y x v (λ e. out (subst (λ z. IsIn z xs) e i)))

-- ---- no place comes twice

-- two lists from one place on are the same
same_from : (L : List Link) (p r : Option ℕ) (x : ℕ) (ls rs : List ℕ) → Linked L p (x ∷ ls) None → Linked L r (x ∷ rs) None → ls ≡ rs
same_from L p r x [] [] h k = refl
same_from L p r x [] (b ∷ rs) h k = let e : None ≡ Some b = ap (λ (l : Link). l.next) (sym h.1 ∙ k.1) in cc
same_from L p r x (a ∷ ls) [] h k = let e : Some a ≡ None = ap (λ (l : Link). l.next) (sym h.1 ∙ k.1) in cc
same_from L p r x (a ∷ ls) (b ∷ rs) h k =
    let e : Some a ≡ Some b = ap (λ (l : Link). l.next) (sym h.1 ∙ k.1) in
    let ab : a ≡ b = cc in
    ap₂ ◌∷◌ ab (same_from L (Some x) (Some x) a ls rs h.2 (subst (λ z. Linked L (Some x) (z ∷ rs) None) (sym ab) k.2))

-- the first place does not come again
pub first_once : (L : List Link) (p : Option ℕ) (x : ℕ) (xs : List ℕ) → Linked L p (x ∷ xs) None → IsIn x xs → ⊥
first_once L p x xs h i =
    let r = IsIn-split x xs i in
    let cut = Linked-split L (Some x) None r.0 (x ∷ r.1) (subst (λ z. Linked L (Some x) z None) r.2 h.2) in
    let e = same_from L p (back (Some x) r.0) x xs r.1 h cut.1 in
    omega (arith, ap length r.2, ap length e, length-append r.0 (x ∷ r.1))

-- no place stands twice on a linked list that ends
pub NoRepeat-linked : (L : List Link) (p : Option ℕ) (xs : List ℕ) → Linked L p xs None → NoRepeat xs
NoRepeat-linked L p [] h = tt
NoRepeat-linked L p (x ∷ xs) h = (first_once L p x xs h, NoRepeat-linked L (Some x) xs h.2)

-- each place of a linked list is one of the slice
pub linked-below : (L : List Link) (p q : Option ℕ) (xs : List ℕ) (x : ℕ) → Linked L p xs q → IsIn x xs → x < length L
linked-below L p q [] x h i = absurd i
linked-below L p q (y ∷ ys) x h (inl e) = subst (λ z. z < length L) e h.0
linked-below L p q (y ∷ ys) x h (inr k) = linked-below L (Some y) q ys x h.2 k

-- a list that lacks a place is shorter than the slice
pub len_below : (L : List Link) (d : ListHead) (xs : List ℕ) (s : ℕ) → IsListed L d xs → s < length L → (IsIn s xs → ⊥) → d.len + 1 ≤ length L
len_below L d xs s h lt out = omega (arith, h.len, length-le (length L) (s ∷ xs) (out, NoRepeat-linked L None xs h.linked) (λ x i. elim i [ inl e ↦ subst (λ z. z < length L) e lt | inr k ↦ linked-below L None None xs x h.linked k ]))

-- ---- the list that is walked

walk-linked : (L : List Link) (p : Option ℕ) (xs : List ℕ) → Linked L p xs None → walk L (length xs) (front xs None) ≡ xs
walk-linked L p [] h = refl
walk-linked L p (x ∷ xs) h = ap (λ ys. x ∷ ys) (ap (λ (l : Link). walk L (length xs) l.next) h.1 ∙ walk-linked L (Some x) xs h.2)

-- the list that is walked is the list that is linked
pub listed : (L : List Link) (d : ListHead) (xs : List ℕ) → IsListed L d xs → list_of L d ≡ xs
listed L d xs h = ap₂ (walk L) h.len h.first ∙ walk-linked L None xs h.linked

-- so there is a list
pub IsList-from : (L : List Link) (d : ListHead) (xs : List ℕ) → IsListed L d xs → IsList L d
IsList-from L d xs h = subst (IsListed L d) (sym (listed L d xs h)) h

-- the front of a list is its first place
pub front-is : (xs : List ℕ) → front xs None ≡ slice_get xs 0
front-is [] = refl
front-is (x ∷ xs) = refl

-- the link of the place at k leads to the place at k + 1
pub linked-next_at : (L : List Link) (p : Option ℕ) (xs : List ℕ) (k s : ℕ) → Linked L p xs None → slice_get xs k ≡ Some s → (link_at L s).next ≡ slice_get xs (suc k)
linked-next_at L p [] k s h e = absurd (none_some e)
  where
    none_some : None ≡ Some s → ⊥
    none_some e = cc
linked-next_at L p (x ∷ xs) zero s h e =
    let same : x ≡ s = cc in
    subst (λ z. (link_at L z).next ≡ slice_get xs 0) same (ap (λ (l : Link). l.next) h.1 ∙ front-is xs)
linked-next_at L p (x ∷ xs) (suc k) s h e = linked-next_at L (Some x) xs k s h.2 e
