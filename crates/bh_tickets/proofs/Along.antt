-- What a walk along a list does to the tickets of a group, one slot after another.
use Rattle.std.proofs.Common.{◌≡◌, ℕ, zero, suc, ◌+◌, ◌<◌, inl, inr, Bool, true, false, List, [], ◌∷◌, ◌++◌, length, take, Option, Some, None, refl, ◌∙◌, sym, ap, subst, arith}
use Rattle.std.specs.Prelude.{◌||◌, eqb, slice_get, is_some, if◌then◌else◌}
use Rattle.std.proofs.lemmas.Bool.{cases_eq, eq-eqb, ne_eqb}
use Rattle.bh_base.specs.declared.ticket.Ticket.{Ticket}
use Rattle.bh_cache.specs.declared.lists.GroupLists.{GroupLists}
use Rattle.bh_cache.specs.Slots.{Slots, has, is_on, is_live_list, ticket_at, IsArena, IsFrame}
use Rattle.bh_cache.proofs.Members.{has_append, take_one_more}
use Rattle.bh_cache.proofs.Walks.{on_live_list}
use Rattle.bh_tickets.specs.declared.group_slots.GroupSlots.{GroupSlots}
use Rattle.bh_tickets.specs.GroupSlots.{IsGroupChange}
use Rattle.bh_tickets.specs.Sweeps.{IsSwept}
use Rattle.bh_tickets.proofs.Others.{frame_trans}
use Rattle.bh_cache.proofs.Placed.{frame_trans as chain_frame_trans}
use Rattle.bh_cache.specs.Chains.{IsChainFrame}

-- a slot of a list with tickets has one
pub on_live : (a : Slots) (g : GroupLists) (l x : ℕ) → IsArena a 0 → is_live_list g l ≡ true → is_on a 0 l x ≡ true → is_some (ticket_at a g x) ≡ true
on_live a g l x arena live on = ap (λ b. is_some (if b then slice_get a.payloads x else None)) (on_live_list a g l x live on) ∙ some a.payloads x (arena.within l x on)
  where
    some : (ps : List Ticket) (k : ℕ) → k < length ps → is_some (slice_get ps k) ≡ true
    some [] k lt = absurd (omega (arith, lt))
    some (p ∷ ps) zero lt = refl
    some (p ∷ ps) (suc k) lt = some ps k (omega (arith, lt))

-- a change of a group, and another after it, are one change of the group
pub change_trans : (a : Slots) (s : GroupSlots) (b : Slots) (r : GroupSlots) (c : Slots) (u : GroupSlots) → IsGroupChange a s b r → IsGroupChange b r c u → IsGroupChange a s c u
change_trans a s b r c u first second = record {
  arena = second.arena;
  group = second.group;
  frame = frame_trans s.lists a b c first.frame (subst (λ (g : GroupLists). IsFrame g b c) first.lists second.frame);
  chains = chain_frame_trans s.lists a b c first.chains (subst (λ (g : GroupLists). IsChainFrame g b c) first.lists second.chains);
  bounds = second.bounds ∙ first.bounds;
  lists = second.lists ∙ first.lists;
  room = second.room ∙ first.room;
  unmade = second.unmade ∙ first.unmade;
}

module _ (f : Option Ticket → Option Ticket) (again : (o : Option Ticket) → f (f o) ≡ f o) where
  -- slots swept after others are swept together with them, where to sweep twice is to sweep once
  pub swept_both : (xs ys : List ℕ) (a : Slots) (s : GroupSlots) (b : Slots) (r : GroupSlots) (c : Slots) (u : GroupSlots) → IsSwept f xs a s b r → IsSwept f ys b r c u → IsSwept f (xs ++ ys) a s c u
  swept_both xs ys a s b r c u first second = record {
    change = change_trans a s b r c u first.change second.change;
    next = second.next ∙ first.next;
    tickets = λ y.
        subst (λ (g : GroupLists). ticket_at c g y ≡ (if has y ys then f (ticket_at b g y) else ticket_at b g y)) first.change.lists (second.tickets y)
        ∙ by (has y xs) (has y ys) (ticket_at a s.lists y) (ticket_at b s.lists y) (first.tickets y)
        ∙ sym (ap (λ d. if d then f (ticket_at a s.lists y) else ticket_at a s.lists y) (has_append y xs ys));
  }
    where
      by : (d e : Bool) (o q : Option Ticket) → q ≡ (if d then f o else o) → (if e then f q else q) ≡ (if (d || e) then f o else o)
      by true true o q is = ap f is ∙ again o
      by true false o q is = is
      by false true o q is = ap f is
      by false false o q is = is

  -- where the first i slots of a list are swept, and then the next, one slot more of the list is
  pub swept_more : (xs : List ℕ) (i x : ℕ) (a : Slots) (s : GroupSlots) (b : Slots) (r : GroupSlots) (c : Slots) (u : GroupSlots) → slice_get xs i ≡ Some x → IsSwept f (take i xs) a s b r → IsSwept f (x ∷ []) b r c u → IsSwept f (take (i + 1) xs) a s c u
  swept_more xs i x a s b r c u at first second = subst (λ ys. IsSwept f ys a s c u) (sym (take_one_more xs i x at)) (swept_both (take i xs) (x ∷ []) a s b r c u first second)

-- one slot
pub has_one_slot : (x y : ℕ) → has y (x ∷ []) ≡ eqb y x
has_one_slot x y = elim (cases_eq y x) [
  | inl e ↦ ap (λ b. b || false) (eq-eqb x y (sym e)) ∙ sym (eq-eqb y x e)
  | inr ne ↦ ap (λ b. b || false) (ne_eqb x y (λ e. ne (sym e))) ∙ sym (ne_eqb y x ne)
]
