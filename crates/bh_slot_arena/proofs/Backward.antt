-- A linked list from its end.
use Rattle.std.proofs.Common.{◌≡◌, ℕ, zero, suc, List, [], ◌∷◌, Option, Some, refl, sym, ap, slice_get, ◌∙◌}
use mathlib.Core.List.{reverse_aux}
use Rattle.bh_index_lists.specs.declared.lists.Link.{Link}
use Rattle.bh_index_lists.specs.Lists.{link_at, back, Linked}

-- each place's link leads to the place before it, that is the one behind it in the reversed list
abbrev pub LeadsBack : List Link → List ℕ → Type 0
LeadsBack links xs = (k x : ℕ) → slice_get xs k ≡ Some x → (link_at links x).prev ≡ slice_get xs (suc k)

leads_back-more : (links : List Link) (x : ℕ) (xs : List ℕ) → (link_at links x).prev ≡ slice_get xs 0 → LeadsBack links xs → LeadsBack links (x ∷ xs)
leads_back-more links x xs first rest zero y e = let same : x ≡ y = cc in ap (λ z. (link_at links z).prev) (sym same) ∙ first
leads_back-more links x xs first rest (suc k) y e = rest k y e

pub leads_back : (links : List Link) (before after : Option ℕ) (xs ys : List ℕ) → Linked links before xs after → before ≡ slice_get ys 0 → LeadsBack links ys → LeadsBack links (reverse_aux xs ys)
leads_back links before after [] ys linked first rest = rest
leads_back links before after (x ∷ xs) ys linked first rest =
    leads_back links (Some x) after xs (x ∷ ys) linked.2 refl (leads_back-more links x ys (ap (λ (l : Link). l.prev) linked.1 ∙ first) rest)

-- the last place is the first of the reversed list
pub back-reverse : (before : Option ℕ) (xs ys : List ℕ) → before ≡ slice_get ys 0 → back before xs ≡ slice_get (reverse_aux xs ys) 0
back-reverse before [] ys first = first
back-reverse before (x ∷ xs) ys first = back-reverse (Some x) xs (x ∷ ys) refl
