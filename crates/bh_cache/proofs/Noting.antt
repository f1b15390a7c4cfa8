-- What is noted as a request context ends.
use Rattle.std.proofs.Common.{◌≡◌, ℕ, ◌+◌, inl, inr, Bool, true, false, List, [], ◌∷◌, ◌++◌, take, Some, refl, ◌∙◌, sym, ap, subst}
use Rattle.std.specs.Prelude.{◌||◌, slice_get, if◌then◌else◌}
use Rattle.std.specs.Option.{option_map}
use Rattle.std.proofs.lemmas.Bool.{cases_eq, eq-eqb, ne_eqb}
use Rattle.bh_base.specs.Tickets.{is_cached_in}
use Rattle.bh_cache.specs.declared.lists.GroupLists.{GroupLists}
use Rattle.bh_cache.specs.Cache.{IsDroppedFrom, uncached_in}
use Rattle.bh_cache.specs.Slots.{Slots, has, has_one, is_live}
use Rattle.bh_cache.proofs.Members.{has_append, take_one_more}
use Rattle.bh_cache.specs.declared.notes.FewSlots.{FewSlots}
use Rattle.bh_cache.specs.declared.notes.Noted.{Noted}
use Rattle.bh_cache.specs.declared.notes.Noted.TheVariants as noted
use Rattle.bh_cache.specs.Notes.{AreNoted, IsNoted, is_noted}
use Rattle.bh_cache.proofs.Found.{HaveAllCached}

not_both : (b : Bool) → b ≡ true → b ≡ false → ⊥
not_both b e f = let k : true ≡ false = sym e ∙ f in cc

only : (x y : ℕ) → has y (x ∷ []) ≡ true → x ≡ y
only x y e = elim (cases_eq x y) [
  | inl q ↦ q
  | inr ne ↦ let k : false ≡ true = sym (ap (λ b. b || false) (ne_eqb x y ne)) ∙ e in absurd cc
]

-- a slot more among a few
pub slot_more : (x : ℕ) (few new : FewSlots) → take new.count new.slots ≡ take few.count few.slots ++ x ∷ [] → IsNoted x (noted.Few few) (noted.Few new)
slot_more x few new is = record {
  it = all x ∙ ap (λ b. has x (take few.count few.slots) || (b || false)) (eq-eqb x x refl) ∙ or_true (has x (take few.count few.slots));
  more = λ y e. all y ∙ ap (λ b. b || has y (x ∷ [])) e;
  few = λ before e room. (new, refl, is ∙ ap (λ (f : FewSlots). take f.count f.slots ++ x ∷ []) (inside before e));
}
  where
    inside : (before : FewSlots) → noted.Few few ≡ noted.Few before → few ≡ before
    inside before e = cc

    all : (y : ℕ) → has y (take new.count new.slots) ≡ (has y (take few.count few.slots) || has y (x ∷ []))
    all y = ap (has y) is ∙ has_append y (take few.count few.slots) (x ∷ [])

    or_true : (b : Bool) → (b || true) ≡ true
    or_true true = refl
    or_true false = refl

-- a slot whose ticket is not cached in the context need not be noted
pub noted_not : (context : ℕ) (a : Slots) (x : ℕ) (n : Noted) → has_one (is_cached_in context) (slice_get a.payloads x) ≡ false → AreNoted context (λ y. has y (x ∷ [])) a n n
noted_not context a x n off = record {
  cached = λ y on is. absurd (not_both (has_one (is_cached_in context) (slice_get a.payloads y)) is (ap (λ z. has_one (is_cached_in context) (slice_get a.payloads z)) (sym (only x y on)) ∙ off));
  more = λ y e. e;
}

-- a slot that is noted is noted, whatever its ticket
pub noted_one : (context : ℕ) (a : Slots) (x : ℕ) (n m : Noted) → IsNoted x n m → AreNoted context (λ y. has y (x ∷ [])) a n m
noted_one context a x n m is = record { cached = λ y on cached. ap (is_noted m) (sym (only x y on)) ∙ is.it; more = is.more }

module _ (context : ℕ) (g : GroupLists) (xs ys : List ℕ) (a b : Slots) (number : ℕ) (n m k : Noted) (dropped : IsDroppedFrom context g xs a b number) (first : AreNoted context (λ x. has x xs) a n m) (second : AreNoted context (λ x. has x ys) b m k) where
  -- slots that are noted after others are noted together with them
  pub noted_both : AreNoted context (λ x. has x (xs ++ ys)) a n k
  noted_both = record {
    cached = λ x on is. by x (has x xs) refl (sym (has_append x xs ys) ∙ on) is (dropped.payloads x);
    more = λ y e. second.more y (first.more y e);
  }
    where
      by : (x : ℕ) (d : Bool) → has x xs ≡ d → (d || has x ys) ≡ true → has_one (is_cached_in context) (slice_get a.payloads x) ≡ true
          → slice_get b.payloads x ≡ (if d then option_map (uncached_in context) (slice_get a.payloads x) else slice_get a.payloads x) → is_noted k x ≡ true
      by x true here on is now = second.more x (first.cached x here is)
      by x false here on is now = second.cached x on (ap (has_one (is_cached_in context)) now ∙ is)

-- where the first i slots of a list are noted, and then the next, one slot more of the list is
pub noted_more : (context : ℕ) (g : GroupLists) (xs : List ℕ) (i x : ℕ) (a b : Slots) (number : ℕ) (n m k : Noted) → slice_get xs i ≡ Some x → IsDroppedFrom context g (take i xs) a b number
    → AreNoted context (λ y. has y (take i xs)) a n m → AreNoted context (λ y. has y (x ∷ [])) b m k → AreNoted context (λ y. has y (take (i + 1) xs)) a n k
noted_more context g xs i x a b number n m k at dropped first second = subst (λ (ys : List ℕ). AreNoted context (λ y. has y ys) a n k) (sym (take_one_more xs i x at)) (noted_both context g (take i xs) (x ∷ []) a b number n m k dropped first second)

-- the slots are noted that have all tickets of the context, so those of the group are
pub noted_group : (context : ℕ) (a : Slots) (g : GroupLists) (xs : List ℕ) (n m : Noted) → HaveAllCached context a g xs → AreNoted context (λ x. has x xs) a n m → AreNoted context (is_live a g) a n m
noted_group context a g xs n m have noted = record { cached = λ x live is. noted.cached x (have.all x live is) is; more = noted.more }
