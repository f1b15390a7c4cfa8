-- A group is added.
use Rattle.std.proofs.Common.{◌≡◌, ℕ, zero, suc, ◌<◌, ◌⊎◌, inl, inr, List, [], ◌∷◌, ◌++◌, map, length, Some, refl, ◌∙◌, sym, ap, subst, arith}
use Rattle.std.specs.Prelude.{slice_get}
use Rattle.bh_base.specs.declared.ticket.Ticket.{Ticket}
use Rattle.bh_slot_arena.specs.Slots.{slots_on}
use Rattle.bh_cache.specs.Chains.{unchained}
use Rattle.bh_cache.specs.Slots.{Slots, has, is_on, IsArena, Once}
use Rattle.bh_tickets.specs.declared.group_slots.GroupSlots.{GroupSlots}
use Rattle.bh_tickets.specs.Growth.{HasMoreLists, HasNewLists}
use Rattle.bh_tickets.specs.Names.{names_of}
use Rattle.bh_tickets.specs.TicketsView.{GroupTickets}
use Rattle.bh_tickets.specs.Whole.{group_of, view_of, AreGroupSlots}
use Rattle.bh_tickets.specs.Same.{IsSame}
use Rattle.bh_tickets.proofs.Others.{group_same, slots_same}
use Rattle.bh_tickets.proofs.AddedLists.{count_more, names_more, on_more}

-- ---- lists

-- what is before others put after it is at its place
pub append_before : (ps qs : List Ticket) (x : ℕ) → x < length ps → slice_get (ps ++ qs) x ≡ slice_get ps x
append_before [] qs x lt = absurd (omega (arith, lt))
append_before (p ∷ ps) qs zero lt = refl
append_before (p ∷ ps) qs (suc x) lt = append_before ps qs x (omega (arith, lt))

-- a part among those with one more is that one, or was there
pub get_append : (ss : List GroupSlots) (r : GroupSlots) (i : ℕ) (s : GroupSlots) → slice_get (ss ++ r ∷ []) i ≡ Some s → ((i ≡ length ss) × (s ≡ r)) ⊎ ((i < length ss) × (slice_get ss i ≡ Some s))
get_append [] r zero s e = let k : s ≡ r = cc in inl (refl, k)
get_append [] r (suc i) s e = absurd cc
get_append (y ∷ ys) r zero s e = inr (omega arith, e)
get_append (y ∷ ys) r (suc i) s e = elim (get_append ys r i s e) [
  | inl k ↦ inl (let q : i ≡ length ys = k.0 in omega (arith, q), k.1)
  | inr k ↦ inr (let q : i < length ys = k.0 in omega (arith, q), k.1)
]

-- where each part is shown alike, so are all
pub map_same : (f g : GroupSlots → GroupTickets) (ss : List GroupSlots) → ((i : ℕ) (s : GroupSlots) → slice_get ss i ≡ Some s → f s ≡ g s) → map f ss ≡ map g ss
map_same f g [] same = refl
map_same f g (y ∷ ys) same = λ i. same 0 y refl i ∷ map_same f g ys (λ j s e. same (suc j) s e) i

-- ---- lists more

module _ (n k m : ℕ) (a b : Slots) (ss : List GroupSlots) (whole : AreGroupSlots a ss) (more : HasNewLists n k m a b) where
  on_first : (l : ℕ) → slots_on b 0 l ≡ slots_on a 0 l
  on_first = on_more 0 n a b more.first

  on_same : (l x : ℕ) → is_on b 0 l x ≡ is_on a 0 l x
  on_same l x = ap (has x) (on_first l)

  -- each slot lies on one list of the first family at most still
  pub arena_more : IsArena b 0
  arena_more = record {
    wide = omega (arith, whole.arena.wide, more.families);
    apart = λ l m x p q. whole.arena.apart l m x (sym (on_same l x) ∙ p) (sym (on_same m x) ∙ q);
    within = λ l x p. let lt : x < length a.payloads = whole.arena.within l x (sym (on_same l x) ∙ p) in omega (arith, lt, ap (λ (ps : List Ticket). length ps) more.payloads);
    once = λ l. subst Once (sym (on_first l)) (whole.arena.once l);
  }

  -- what lies on the lists of a group lies there still
  pub same_more : (i : ℕ) (s : GroupSlots) → slice_get ss i ≡ Some s → IsSame s.lists a b
  same_more i s e = record {
    slots = omega (arith, ap (λ (ps : List Ticket). length ps) more.payloads);
    count = omega (arith, count_more 0 n a b more.first);
    lists = λ l own. on_first l;
    payloads = λ l x own on. ap (λ (ps : List Ticket). slice_get ps x) more.payloads;
    chains = names_more n k m a b (names_of s.lists) more;
    by_name = λ l x own on. ap (has x) (on_more 1 k a b more.second unchained);
    by_context = λ l x own on. ap (has x) (on_more 2 m a b more.third unchained);
  }

  whole_new : AreGroupSlots b ss
  whole_new = record {
    arena = arena_more;
    each = λ i s e. slots_same a b s (same_more i s e) whole.arena (whole.each i s e);
    apart = whole.apart;
  }

  view_new : view_of b ss ≡ view_of a ss
  view_new = λ i. record { limit = (more.bounds i).0; groups = map_same (group_of b) (group_of a) ss (λ j s e. group_same a b s (same_more j s e) whole.arena (whole.each j s e)) i }

-- with some empty lists more, the groups are as they should be
pub whole_more : (a b : Slots) (ss : List GroupSlots) → AreGroupSlots a ss → HasMoreLists a b → AreGroupSlots b ss
whole_more a b ss whole more = whole_new more.first more.second more.third a b ss whole more.lists

-- with some empty lists more, contracts see of the groups what they saw before
pub view_more : (a b : Slots) (ss : List GroupSlots) → AreGroupSlots a ss → HasMoreLists a b → view_of b ss ≡ view_of a ss
view_more a b ss whole more = view_new more.first more.second more.third a b ss whole more.lists
