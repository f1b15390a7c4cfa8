-- Lists are made for a group.
use Rattle.std.proofs.Common.{◌≡◌, ℕ, ◌+◌, ◌<◌, ◌≤◌, List, [], length, ap, arith}
use Rattle.bh_slot_arena.specs.Slots.{lists_in, slots_on}
use Rattle.bh_cache.specs.declared.lists.GroupLists.{GroupLists}
use Rattle.bh_cache.specs.Chains.{HasChains, unchained}
use Rattle.bh_cache.specs.Slots.{Slots, has, IsApart}
use Rattle.bh_tickets.specs.GroupSlots.{IsNumbered}
use Rattle.bh_tickets.specs.Growth.{HasNewLists, lists_from}
use Rattle.bh_tickets.specs.Names.{AreEmptyOn, names_of}
use Rattle.bh_tickets.specs.Spare.{IsVacant, free_slots}
use Rattle.bh_tickets.proofs.AddedLists.{count_more, empty_made, empty_more}
use Rattle.bh_tickets.proofs.Beside.{IsMade, beside_made}
use Rattle.bh_tickets.proofs.Shifted.{live_none}
use Rattle.bh_tickets.proofs.Vacant.{none_free, not_true}

-- ---- lists

-- the group's lists are new, with so many chains of each family, and lie behind those that were there
pub record IsNew (c : ℕ) (g : GroupLists) (a b : Slots) : Type 0 where
  pub some : 0 < c
  pub second : ℕ
  pub third : ℕ
  pub more : HasNewLists 4 second third a b
  pub free : g.free ≡ length (lists_in a 0)
  pub numbered : IsNumbered g
  pub made : IsMade c a b (names_of g)

-- lists from these numbers on, among so many that are new, behind the list that all groups share
pub new_lists : (k m n c : ℕ) (g : GroupLists) (a b : Slots) → 0 < c → HasNewLists 4 k k a b → g ≡ lists_from c (length (lists_in a 0)) m n → unchained < m → length (lists_in a 1) ≤ m → m + c ≤ length (lists_in a 1) + k → unchained < n → length (lists_in a 2) ≤ n → n + c ≤ length (lists_in a 2) + k → IsNew c g a b
new_lists k m n c g a b some more from second second_from second_to third third_from third_to = record {
  some = some;
  second = k;
  third = k;
  more = more;
  free = free;
  numbered = record { queued = omega (arith, free, ap (λ (z : GroupLists). z.queued) from); running = omega (arith, free, ap (λ (z : GroupLists). z.running) from); settled = omega (arith, free, ap (λ (z : GroupLists). z.settled) from) };
  made = record {
    names_behind = omega (arith, second, names);
    names = omega (arith, names, second_from);
    names_there = omega (arith, names_end, second_to, count_more 1 k a b more.second);
    contexts_behind = omega (arith, third, contexts);
    contexts = omega (arith, contexts, third_from);
    contexts_there = omega (arith, contexts_end, third_to, count_more 2 k a b more.third);
    many = record { names = omega (arith, names, names_end); contexts = omega (arith, contexts, contexts_end) };
  };
}
  where
    free : g.free ≡ length (lists_in a 0)
    free = ap (λ (z : GroupLists). z.free) from

    names : g.names ≡ m
    names = ap (λ (z : GroupLists). z.names) from

    names_end : g.names_end ≡ m + c
    names_end = ap (λ (z : GroupLists). z.names_end) from

    contexts : g.contexts ≡ n
    contexts = ap (λ (z : GroupLists). z.contexts) from

    contexts_end : g.contexts_end ≡ n + c
    contexts_end = ap (λ (z : GroupLists). z.contexts_end) from

-- where a group has chains, so do new lists lie behind those that there are
pub new_behind : (c : ℕ) (g h : GroupLists) (a b : Slots) → 0 < c → HasChains a h → HasNewLists 4 c c a b → g ≡ lists_from c (length (lists_in a 0)) (length (lists_in a 1)) (length (lists_in a 2)) → IsNew c g a b
new_behind c g h a b some there more from =
    new_lists c (length (lists_in a 1)) (length (lists_in a 2)) c g a b some more from
    (omega (arith, there.names_behind, there.names_some, there.names_there)) (omega arith) (omega arith)
    (omega (arith, there.contexts_behind, there.contexts_some, there.contexts_there)) (omega arith) (omega arith)

module _ (c : ℕ) (g : GroupLists) (a b : Slots) (new : IsNew c g a b) where
  empty_first : (l : ℕ) → length (lists_in a 0) ≤ l → slots_on b 0 l ≡ []
  empty_first = empty_more 0 4 a b new.more.first

  named : AreEmptyOn 1 g.names g.names_end b
  named = empty_made 1 new.second c g.names g.names_end a b new.some new.more.second new.made.names_behind new.made.names new.made.names_there new.made.many.names

  inside : AreEmptyOn 2 g.contexts g.contexts_end b
  inside = empty_made 2 new.third c g.contexts g.contexts_end a b new.some new.more.third new.made.contexts_behind new.made.contexts new.made.contexts_there new.made.many.contexts

  free_empty : slots_on b 0 g.free ≡ []
  free_empty = empty_first g.free (omega (arith, new.free))

  -- a group with new lists has no slot
  pub new_none : free_slots b g ≡ 0
  new_none = ap (λ (xs : List ℕ). length xs) free_empty

  -- and no ticket
  pub new_vacant : IsVacant b g
  new_vacant = record {
    numbered = new.numbered;
    there = omega (arith, new.free, new.numbered.settled, count_more 0 4 a b new.more.first);
    chains = record {
      names_behind = named.behind;
      names_some = named.some;
      names_there = named.there;
      contexts_behind = inside.behind;
      contexts_some = inside.some;
      contexts_there = inside.there;
    };
    live = λ x. live_none b g x
        (not_true (ap (has x) (empty_first g.queued (omega (arith, new.free, new.numbered.queued)))))
        (not_true (ap (has x) (empty_first g.running (omega (arith, new.free, new.numbered.running)))))
        (not_true (ap (has x) (empty_first g.settled (omega (arith, new.free, new.numbered.settled)))));
    names = none_free 1 g.names g.names_end b g free_empty named.empty;
    contexts = none_free 2 g.contexts g.contexts_end b g free_empty inside.empty;
  }

  -- its lists are behind those of groups that were there
  pub new_apart : (h : GroupLists) → h.settled < length (lists_in a 0) → HasChains a h → IsApart h g
  new_apart h p there =
      let beside = beside_made c a b (names_of h) (names_of g) there.names_there there.contexts_there new.made in
      record {
        apart = λ l own other. absurd (omega (arith, p, new.free, own.to, other.from));
        names = beside.names;
        contexts = beside.contexts;
      }
