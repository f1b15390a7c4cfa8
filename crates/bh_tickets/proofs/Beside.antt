-- Chains of groups, and of none, that have no list in common.
use Rattle.std.proofs.Common.{ℕ, ◌<◌, ◌≤◌, length, arith}
use Rattle.bh_slot_arena.specs.Slots.{lists_in}
use Rattle.bh_cache.specs.declared.lists.GroupLists.{GroupLists}
use Rattle.bh_cache.specs.Chains.{unchained}
use Rattle.bh_cache.specs.Slots.{Slots, IsApart}
use Rattle.bh_tickets.specs.declared.names.NameLists.{NameLists}
use Rattle.bh_tickets.specs.Names.{AreApart, AreBeside, AreMany, names_of}

-- whichever are named first
pub beside_back : (n m : NameLists) → AreBeside n m → AreBeside m n
beside_back n m beside = record { names = λ l own other. beside.names l other own; contexts = λ l own other. beside.contexts l other own }

pub apart_back : (g h : GroupLists) → IsApart g h → IsApart h g
apart_back g h apart = record {
  apart = λ l own other. apart.apart l other own;
  names = λ l own other. apart.names l other own;
  contexts = λ l own other. apart.contexts l other own;
}

-- as those of two groups
pub apart_beside : (g h : GroupLists) → IsApart g h → AreBeside (names_of g) (names_of h)
apart_beside g h apart = record { names = apart.names; contexts = apart.contexts }

-- lists of chains alone: what is known of those of a group is known of them
abbrev pub lists_of : NameLists → GroupLists
lists_of n = record {
  free = 1;
  queued = 1;
  running = 1;
  settled = 0;
  names = n.names;
  names_end = n.names_end;
  contexts = n.contexts;
  contexts_end = n.contexts_end;
}

pub apart_lists : (g : GroupLists) (n : NameLists) → AreBeside (names_of g) n → IsApart g (lists_of n)
apart_lists g n beside = record {
  apart = λ l own other. let low : 1 ≤ l = other.from in let high : l ≤ 0 = other.to in absurd (omega (arith, low, high));
  names = beside.names;
  contexts = beside.contexts;
}

-- ---- new chains

-- so many chains of each family, behind the lists that there were and the one that all groups share
pub record IsMade (c : ℕ) (a b : Slots) (x : NameLists) : Type 0 where
  pub names_behind : unchained < x.names
  pub names : length (lists_in a 1) ≤ x.names
  pub names_there : x.names_end ≤ length (lists_in b 1)
  pub contexts_behind : unchained < x.contexts
  pub contexts : length (lists_in a 2) ≤ x.contexts
  pub contexts_there : x.contexts_end ≤ length (lists_in b 2)
  pub many : AreMany c x

behind : (first end from to : ℕ) → end ≤ from → AreApart first end from to
behind first end from to le = λ l own other. absurd (omega (arith, le, own.1, other.0))

-- they are beside those that were there
pub beside_made : (c : ℕ) (a b : Slots) (n x : NameLists) → n.names_end ≤ length (lists_in a 1) → n.contexts_end ≤ length (lists_in a 2) → IsMade c a b x → AreBeside n x
beside_made c a b n x p q made = record {
  names = behind n.names n.names_end x.names x.names_end (omega (arith, p, made.names));
  contexts = behind n.contexts n.contexts_end x.contexts x.contexts_end (omega (arith, q, made.contexts));
}
