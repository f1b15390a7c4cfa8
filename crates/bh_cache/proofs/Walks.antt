-- A walk along a list.
use Rattle.std.proofs.Common.{◌≡◌, ℕ, suc, ◌<◌, ◌⊎◌, inl, inr, Bool, true, false, List, [], ◌∷◌, length, Some, refl, ◌∙◌, ap, arith}
use Rattle.std.specs.Prelude.{◌||◌, eqb, slice_get}
use Rattle.std.proofs.lemmas.Bool.{cases_eq, ne_eqb}
use Rattle.bh_cache.specs.declared.lists.GroupLists.{GroupLists}
use Rattle.bh_slot_arena.specs.Lists.{IsPartition}
use Rattle.bh_slot_arena.specs.Slots.{lists_in, slots_on}
use Rattle.bh_cache.proofs.Members.{has_place}
use Rattle.bh_cache.specs.Slots.{Slots, has, is_on, is_live, is_live_list, Once, IsArena}

-- the law of an arena's lists says that each slot is on one list at most, and there once
pub arena_is : (a : Slots) (f : ℕ) → f < length a.families → IsPartition (length a.payloads) (lists_in a f) → IsArena a f
arena_is a f wide law = record {
  wide = wide;
  apart = λ l m x p q. let r = has_place (slots_on a f l) x p in let s = has_place (slots_on a f m) x q in (law.once l m r.0 s.0 x r.1 s.1).0;
  within = λ l x p. let r = has_place (slots_on a f l) x p in law.within l r.0 x r.1;
  once = λ l. no_twice (slots_on a f l) (λ k j x p q. (law.once l l k j x p q).1);
}
  where
    no_twice : (xs : List ℕ) → ((k j x : ℕ) → slice_get xs k ≡ Some x → slice_get xs j ≡ Some x → k ≡ j) → Once xs
    no_twice [] same = tt
    no_twice (x ∷ xs) same = (out (has x xs) refl, no_twice xs (λ k j y p q. let e : suc k ≡ suc j = same (suc k) (suc j) y p q in omega (arith, e)))
      where
        out : (b : Bool) → has x xs ≡ b → b ≡ false
        out false e = refl
        out true e = let r = has_place xs x e in let z : 0 ≡ suc r.0 = same 0 (suc r.0) x refl r.1 in absurd (omega (arith, z))

live_of : (p q r : Bool) → (p ≡ true) ⊎ ((q ≡ true) ⊎ (r ≡ true)) → (p || (q || r)) ≡ true
live_of true q r h = refl
live_of false true r h = refl
live_of false false true h = refl
live_of false false false h = elim h [ inl e ↦ e | inr k ↦ elim k [ inl e ↦ e | inr e ↦ e ] ]

-- a slot on the group's list of queued tickets is on one of its lists with tickets
pub on_queued : (a : Slots) (g : GroupLists) (x : ℕ) → is_on a 0 g.queued x ≡ true → is_live a g x ≡ true
on_queued a g x e = live_of (is_on a 0 g.queued x) (is_on a 0 g.running x) (is_on a 0 g.settled x) (inl e)

-- and so is a slot on its list of running tickets
pub on_running : (a : Slots) (g : GroupLists) (x : ℕ) → is_on a 0 g.running x ≡ true → is_live a g x ≡ true
on_running a g x e = live_of (is_on a 0 g.queued x) (is_on a 0 g.running x) (is_on a 0 g.settled x) (inr (inl e))

-- and so is a slot on its list of settled tickets
pub on_settled : (a : Slots) (g : GroupLists) (x : ℕ) → is_on a 0 g.settled x ≡ true → is_live a g x ≡ true
on_settled a g x e = live_of (is_on a 0 g.queued x) (is_on a 0 g.running x) (is_on a 0 g.settled x) (inr (inr e))

-- a slot on one of the group's lists with tickets has one
pub on_live_list : (a : Slots) (g : GroupLists) (l x : ℕ) → is_live_list g l ≡ true → is_on a 0 l x ≡ true → is_live a g x ≡ true
on_live_list a g l x live on = elim (cases_eq g.queued l) [
  | inl e ↦ on_queued a g x (ap (λ m. is_on a 0 m x) e ∙ on)
  | inr not_queued ↦ elim (cases_eq g.running l) [
    | inl e ↦ on_running a g x (ap (λ m. is_on a 0 m x) e ∙ on)
    | inr not_running ↦ elim (cases_eq g.settled l) [
      | inl e ↦ on_settled a g x (ap (λ m. is_on a 0 m x) e ∙ on)
      | inr not_settled ↦ absurd (none (eqb g.queued l) (eqb g.running l) (eqb g.settled l) (ne_eqb g.queued l not_queued) (ne_eqb g.running l not_running) (ne_eqb g.settled l not_settled) live)
    ]
  ]
]
  where
    none : (p q r : Bool) → p ≡ false → q ≡ false → r ≡ false → (p || (q || r)) ≡ true → ⊥
    none p q r d e f h = cc
