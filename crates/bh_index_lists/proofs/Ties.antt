-- Two linked parts, tied together.
use Rattle.std.proofs.Common.{◌≡◌, ℕ, inl, inr, List, [], ◌∷◌, ◌++◌, length, set, Option, Some, None, refl, sym, ap, subst, ◌∙◌, arith, append-nil, length-set}
use Rattle.bh_index_lists.specs.declared.lists.Link.{Link}
use Rattle.bh_index_lists.specs.declared.lists.ListHead.{ListHead}
use Rattle.bh_index_lists.specs.Lists.{link_at, front, back, Linked}
use Rattle.bh_index_lists.specs.Ties.{with_next, tied, tied_ends, IsWithin}
use Rattle.bh_index_lists.proofs.Members.{IsIn, NoRepeat}
use Rattle.bh_index_lists.proofs.Segments.{back-append, Linked-join, Linked-set, link_at-set_same, link_at-set_other}

-- the last of a list that has a first
abbrev pub last_of : ℕ → List ℕ → ℕ
last_of x [] = x
last_of x (y ∷ ys) = last_of y ys

-- it is the back of that list
pub back-cons : (x : ℕ) (xs : List ℕ) → back (Some x) xs ≡ Some (last_of x xs)
back-cons x [] = refl
back-cons x (y ∷ ys) = back-cons y ys

IsIn-last_of : (x : ℕ) (xs : List ℕ) → IsIn (last_of x xs) (x ∷ xs)
IsIn-last_of x [] = inl refl
IsIn-last_of x (y ∷ ys) = inr (IsIn-last_of y ys)

-- ---- the last place of the first part

abbrev next_set : ℕ → Option ℕ → List Link → List Link
next_set z after L = set L z (record { prev = (link_at L z).prev; next = after })

linked-next_set : (L : List Link) (p q after : Option ℕ) (x : ℕ) (xs : List ℕ) → Linked L p (x ∷ xs) q → NoRepeat (x ∷ xs) → Linked (next_set (last_of x xs) after L) p (x ∷ xs) after
linked-next_set L p q after x [] h once =
    let v : Link = record { prev = (link_at L x).prev; next = after } in
    (omega (arith, h.0, length-set L x v), link_at-set_same L x v h.0 ∙ ap (λ (l : Link). record { prev = l.prev; next = after }) h.1, tt)
linked-next_set L p q after x (y ∷ ys) h once =
    let z = last_of y ys in
    let v : Link = record { prev = (link_at L z).prev; next = after } in
    (omega (arith, h.0, length-set L z v), link_at-set_other L z x v (λ e. once.0 (subst (λ w. IsIn w (y ∷ ys)) (sym e) (IsIn-last_of y ys))) ∙ h.1, linked-next_set L (Some x) q after y ys h.2 once.1)

-- the first part, with what follows its last place
pub linked-with_next : (L : List Link) (ls : List ℕ) (q after : Option ℕ) → Linked L None ls q → NoRepeat ls → Linked (with_next (back None ls) after L) None ls after
linked-with_next L [] q after h once = tt
linked-with_next L (x ∷ ls) q after h once = subst (λ b. Linked (with_next b after L) None (x ∷ ls) after) (sym (back-cons x ls)) (linked-next_set L None q after x ls h once)

-- a list that has nothing of the first part stays
next-outside : (L : List Link) (ls : List ℕ) (after p q : Option ℕ) (rs : List ℕ) → ((x : ℕ) → IsIn x ls → IsIn x rs → ⊥) → Linked L p rs q → Linked (with_next (back None ls) after L) p rs q
next-outside L [] after p q rs apart h = h
next-outside L (x ∷ ls) after p q rs apart h = subst (λ b. Linked (with_next b after L) p rs q) (sym (back-cons x ls)) (Linked-set L p q rs (last_of x ls) _ (apart (last_of x ls) (IsIn-last_of x ls)) h)

-- ---- the first place of the second part

abbrev prev_set : ℕ → Option ℕ → List Link → List Link
prev_set z before L = set L z (record { prev = before; next = (link_at L z).next })

linked-prev_set : (L : List Link) (p q before : Option ℕ) (x : ℕ) (xs : List ℕ) → Linked L p (x ∷ xs) q → (IsIn x xs → ⊥) → Linked (prev_set x before L) before (x ∷ xs) q
linked-prev_set L p q before x xs h once =
    let v : Link = record { prev = before; next = (link_at L x).next } in
    (omega (arith, h.0, length-set L x v), link_at-set_same L x v h.0 ∙ ap (λ (l : Link). record { prev = before; next = l.next }) h.1, Linked-set L (Some x) q xs x v once h.2)

-- ---- both

-- two parts that are tied together are one list
pub linked-tied : (L : List Link) (ls rs : List ℕ) (q r : Option ℕ) → Linked L None ls q → Linked L r rs None → NoRepeat ls → NoRepeat rs → ((x : ℕ) → IsIn x ls → IsIn x rs → ⊥) → Linked (tied (back None ls) (front rs None) L) None (ls ++ rs) None
linked-tied L ls [] q r h k once once' apart = Linked-join _ None None ls [] (linked-with_next L ls q None h once) tt
linked-tied L ls (b ∷ rs) q r h k once once' apart =
    let M = with_next (back None ls) (Some b) L in
    Linked-join _ None None ls (b ∷ rs)
    (Linked-set M None (Some b) ls b _ (λ i. apart b i (inl refl)) (linked-with_next L ls q (Some b) h once))
    (linked-prev_set M r None (back None ls) b rs (next-outside L ls (Some b) r None (b ∷ rs) apart k) once'.0)

-- what is in neither part keeps its link
pub tied-outside : (L : List Link) (ls rs : List ℕ) (x : ℕ) → (IsIn x ls → ⊥) → (IsIn x rs → ⊥) → link_at (tied (back None ls) (front rs None) L) x ≡ link_at L x
tied-outside L [] [] x out out' = refl
tied-outside L [] (b ∷ rs) x out out' = link_at-set_other L b x _ (λ e. out' (inl (sym e)))
tied-outside L (a ∷ ls) [] x out out' = ap (λ m. link_at (with_next m None L) x) (back-cons a ls) ∙ link_at-set_other L (last_of a ls) x _ (λ e. out (subst (λ w. IsIn w (a ∷ ls)) (sym e) (IsIn-last_of a ls)))
tied-outside L (a ∷ ls) (b ∷ rs) x out out' =
    link_at-set_other (with_next (back None (a ∷ ls)) (Some b) L) b x _ (λ e. out' (inl (sym e)))
    ∙ ap (λ m. link_at (with_next m (Some b) L) x) (back-cons a ls) ∙ link_at-set_other L (last_of a ls) x _ (λ e. out (subst (λ w. IsIn w (a ∷ ls)) (sym e) (IsIn-last_of a ls)))

-- the ends of both are those of the list that they make
pub tied_ends-is : (d : ListHead) (ls rs : List ℕ) (first last : Option ℕ) → d.first ≡ front ls first → d.last ≡ back last rs
    → ((tied_ends (back None ls) (front rs None) d).first ≡ front (ls ++ rs) None) × ((tied_ends (back None ls) (front rs None) d).last ≡ back None (ls ++ rs))
tied_ends-is d [] [] first last e f = (refl, refl)
tied_ends-is d [] (b ∷ rs) first last e f = (refl, f)
tied_ends-is d (a ∷ ls) [] first last e f = (ap (λ o. (tied_ends o None d).first) (back-cons a ls) ∙ e, ap (λ (zs : List ℕ). back (Some a) zs) (sym (append-nil ls)))
tied_ends-is d (a ∷ ls) (b ∷ rs) first last e f = (ap (λ o. (tied_ends o (Some b) d).first) (back-cons a ls) ∙ e, f ∙ sym (back-append (Some a) ls (b ∷ rs)))

-- ---- how many links there are

-- to write a link makes no more of them
pub length-with_next : (L : List Link) (before after : Option ℕ) → length (with_next before after L) ≡ length L
length-with_next L None after = refl
length-with_next L (Some z) after = length-set L z _

-- ---- the ends of a list are places of the slice

-- the back of a list is a place of the slice
pub within-back : (L : List Link) (p q : Option ℕ) (xs : List ℕ) → IsWithin L p → Linked L p xs q → IsWithin L (back p xs)
within-back L p q [] w h = w
within-back L p q (x ∷ xs) w h = within-back L (Some x) q xs h.0 h.2

-- and so is its front
pub within-front : (L : List Link) (p : Option ℕ) (xs : List ℕ) → Linked L p xs None → IsWithin L (front xs None)
within-front L p [] h = tt
within-front L p (x ∷ xs) h = h.0
