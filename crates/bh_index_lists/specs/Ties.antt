-- What is written where one place comes to follow another.
use Rattle.std.specs.Prelude.{ℕ, ◌<◌, List, length, Option, Some, None, slice_set}
use Rattle.bh_index_lists.specs.declared.lists.Link.{Link}
use Rattle.bh_index_lists.specs.declared.lists.ListHead.{ListHead}
use Rattle.bh_index_lists.specs.Lists.{link_at}

-- a place of the slice, if there is one
abbrev pub IsWithin : List Link → Option ℕ → Type 0
IsWithin links None = Unit {0}
IsWithin links (Some place) = place < length links

-- what follows a place is written
abbrev pub with_next : Option ℕ → Option ℕ → List Link → List Link
with_next None after links = links
with_next (Some b) after links = slice_set links b (record { prev = (link_at links b).prev; next = after })

-- what goes before a place is written
abbrev pub with_prev : Option ℕ → Option ℕ → List Link → List Link
with_prev before None links = links
with_prev before (Some a) links = slice_set links a (record { prev = before; next = (link_at links a).next })

-- the links, once `after` follows `before`
abbrev pub tied : Option ℕ → Option ℕ → List Link → List Link
tied before after links = with_prev before after (with_next before after links)

-- the head, once `after` follows `before`
abbrev pub tied_ends : Option ℕ → Option ℕ → ListHead → ListHead
tied_ends before after head = record { first = first before; last = last after; len = head.len }
  where
    first : Option ℕ → Option ℕ
    first None = after
    first (Some b) = head.first

    last : Option ℕ → Option ℕ
    last None = before
    last (Some a) = head.last
