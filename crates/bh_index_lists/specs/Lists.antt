-- Lists of the places of a slice, which links between the places hold.
use Rattle.std.specs.Prelude.{ℕ, zero, suc, ◌<◌, ◌≡◌, ◌==◌, not, List, [], ◌∷◌, length, Option, Some, None, filter, slice_index_or}
use Rattle.bh_index_lists.specs.declared.lists.Link.{Link}
use Rattle.bh_index_lists.specs.declared.lists.ListHead.{ListHead}

-- the link of a place that is on no list
abbrev pub no_link : Link
no_link = record { prev = None; next = None }

-- the empty list
abbrev pub no_list : ListHead
no_list = record { first = None; last = None; len = 0 }

-- the link of a place
abbrev pub link_at : List Link → ℕ → Link
link_at links place = slice_index_or links place no_link

-- at most n places, by the links from a place on
abbrev pub walk : List Link → ℕ → Option ℕ → List ℕ
walk links zero from = []
walk links (suc n) None = []
walk links (suc n) (Some place) = place ∷ walk links n (link_at links place).next

-- the places of a list in order
abbrev pub list_of : List Link → ListHead → List ℕ
list_of links head = walk links head.len head.first

-- the first place, or what follows where there is none
abbrev pub front : List ℕ → Option ℕ → Option ℕ
front [] after = after
front (x ∷ xs) after = Some x

-- the last place, or what goes before where there is none
abbrev pub back : Option ℕ → List ℕ → Option ℕ
back before [] = before
back before (x ∷ xs) = back (Some x) xs

-- the links lead through the places in both directions, from what goes before them to what follows
abbrev pub Linked : List Link → Option ℕ → List ℕ → Option ℕ → Type 0
Linked links before [] after = Unit {0}
Linked links before (x ∷ xs) after =
    (x < length links) × (link_at links x ≡ record { prev = before; next = front xs after }) × Linked links (Some x) xs after

-- the links and the head hold just these places
pub record IsListed (links : List Link) (head : ListHead) (places : List ℕ) : Type 0 where
  pub linked : Linked links None places None
  pub first : head.first ≡ front places None
  pub last : head.last ≡ back None places
  pub len : head.len ≡ length places

-- the links and the head hold a list
abbrev pub IsList : List Link → ListHead → Type 0
IsList links head = IsListed links head (list_of links head)

-- the places but this one
abbrev pub without : ℕ → List ℕ → List ℕ
without place = filter (λ x. not (x == place))
