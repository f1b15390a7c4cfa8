-- The links and the list numbers of nodes.
use Rattle.std.proofs.Common.{◌≡◌, ℕ, ◌<◌, List, [], ◌∷◌, ◌++◌, length, get_or, set, ◌∙◌, sym, ap, subst, arith}
use Rattle.std.specs.List.{Contains}
use Rattle.std.proofs.lemmas.List.{get_or-map, length-map, map-append, map-set, set-get_or}
use Rattle.bh_index_lists.specs.declared.lists.ListHead.{ListHead}
use Rattle.bh_index_lists.specs.Lists.{link_at, list_of, no_link}
use Rattle.bh_slot_arena.specs.declared.nodes.Node.{Node}
use Rattle.bh_slot_arena.specs.Nodes.{AreLinked, links_of, numbers_of}
use Rattle.bh_slot_arena.specs.Linked.{head_at}

-- what is read past the last node
abbrev pub no_node : Node
no_node = record { link = no_link; list = 0 }

-- as many links and numbers as nodes
pub links_size : (ns : List Node) → length (links_of ns) ≡ length ns
links_size ns = length-map ns (λ (n : Node). n.link)

pub numbers_size : (ns : List Node) → length (numbers_of ns) ≡ length ns
numbers_size ns = length-map ns (λ (n : Node). n.list)

-- a node that is read has the link and the number of the slot
pub link_read : (ns : List Node) (x : ℕ) (d : Node) → x < length ns → link_at (links_of ns) x ≡ (get_or ns x d).link
link_read ns x d lt = get_or-map (λ (n : Node). n.link) ns x d no_link lt

pub number_read : (ns : List Node) (x : ℕ) (d : Node) → x < length ns → get_or (numbers_of ns) x 0 ≡ (get_or ns x d).list
number_read ns x d lt = get_or-map (λ (n : Node). n.list) ns x d 0 lt

-- a list with what it has at a place written there again
same_again : {A : Type 0} (d : A) (xs : List A) (x : ℕ) (v : A) → v ≡ get_or xs x d → set xs x v ≡ xs
same_again d xs x v e = ap (set xs x) e ∙ set-get_or xs x d

-- a slot's link is written, and no number changes
pub link_written : (ns : List Node) (x : ℕ) (v : Node) → links_of (set ns x v) ≡ set (links_of ns) x v.link
link_written ns x v = map-set (λ (n : Node). n.link) ns x v

pub numbers_stay : (ns : List Node) (x : ℕ) (d v : Node) → x < length ns → v.list ≡ (get_or ns x d).list → numbers_of (set ns x v) ≡ numbers_of ns
numbers_stay ns x d v lt e = map-set (λ (n : Node). n.list) ns x v ∙ same_again 0 (numbers_of ns) x v.list (e ∙ sym (number_read ns x d lt))

-- a slot's number is written, and no link changes
pub number_written : (ns : List Node) (x : ℕ) (v : Node) → numbers_of (set ns x v) ≡ set (numbers_of ns) x v.list
number_written ns x v = map-set (λ (n : Node). n.list) ns x v

pub links_stay : (ns : List Node) (x : ℕ) (d v : Node) → x < length ns → v.link ≡ (get_or ns x d).link → links_of (set ns x v) ≡ links_of ns
links_stay ns x d v lt e = map-set (λ (n : Node). n.link) ns x v ∙ same_again no_link (links_of ns) x v.link (e ∙ sym (link_read ns x d lt))

-- one node more
pub links_more : (ns : List Node) (v : Node) → links_of (ns ++ v ∷ []) ≡ links_of ns ++ v.link ∷ []
links_more ns v = map-append (λ (n : Node). n.link) ns (v ∷ [])

pub numbers_more : (ns : List Node) (v : Node) → numbers_of (ns ++ v ∷ []) ≡ numbers_of ns ++ v.list ∷ []
numbers_more ns v = map-append (λ (n : Node). n.list) ns (v ∷ [])

-- ---- a slot and its list

module _ (ns : List Node) (heads : List ListHead) (x : ℕ) (sound : AreLinked ns heads) (lt : x < length ns) where
  at : (get_or (numbers_of ns) x 0 < length heads) × Contains (list_of (links_of ns) (head_at heads (get_or (numbers_of ns) x 0))) x
  at = sound.there x (omega (arith, lt, links_size ns))

  -- the number of a slot is that of a list
  pub number_there : (get_or ns x no_node).list < length heads
  number_there = subst (λ n. n < length heads) (number_read ns x no_node lt) at.0

  -- and the slot is on that list
  pub on_number : Contains (list_of (links_of ns) (head_at heads (get_or ns x no_node).list)) x
  on_number = subst (λ n. Contains (list_of (links_of ns) (head_at heads n)) x) (number_read ns x no_node lt) at.1
