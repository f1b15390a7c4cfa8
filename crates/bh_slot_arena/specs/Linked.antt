-- What holds of the links, the heads and the list numbers of one family.
use Rattle.std.specs.Prelude.{◌≡◌, ℕ, ◌<◌, ◌^◌, List, length, Contains, slice_index, slice_index_or}
use Rattle.bh_index_lists.specs.declared.lists.Link.{Link}
use Rattle.bh_index_lists.specs.declared.lists.ListHead.{ListHead}
use Rattle.bh_index_lists.specs.Lists.{IsList, list_of, no_list}

-- the head of a list
abbrev pub head_at : List ListHead → ℕ → ListHead
head_at heads l = slice_index_or heads l no_list

-- each head is a list, and each slot is on the list whose number it has, and on no other
pub record IsLinked (links : List Link) (heads : List ListHead) (on_list : List ℕ) : Type 0 where
  pub sizes : length on_list ≡ length links
  pub few : length links < 2 ^ 32
  pub listed : (l : ℕ) → l < length heads → IsList links (head_at heads l)
  pub on : (l x : ℕ) → l < length heads → Contains (list_of links (head_at heads l)) x → slice_index on_list x ≡ l
  pub there : (x : ℕ) → x < length links → (slice_index on_list x < length heads) × Contains (list_of links (head_at heads (slice_index on_list x))) x
