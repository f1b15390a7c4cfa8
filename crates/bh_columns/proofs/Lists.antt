-- Lists of which each became another.
use Rattle.std.proofs.Common.{◌≡◌, ◌≢◌, ◌+◌, ◌<◌, ◌⊎◌, inl, inr, ℕ, List, ◌++◌, length, set, take, append-nil, Some, refl, sym, ap, subst, ◌∙◌, arith}
use Rattle.std.specs.Prelude.{Vec, slice_get}
use Rattle.std.specs.Vec.{with_items}
use Rattle.std.specs.declared.alloc.Global.{Global}
use Rattle.std.proofs.lemmas.List.{drop_all, length-set, take_all}
use Rattle.std.proofs.lemmas.Option.{slice_get_within}
use Rattle.bh_port.proofs.Keeping.{either}
use Rattle.bh_port.proofs.Lists.{read_within}
use Rattle.bh_look.proofs.Adding.{set_here, set_other}
use Rattle.bh_columns.specs.Panels.{EachAt}

-- the one at a place is another, and so each up to it became one to which it stands so
pub each_more : {X : Type 0} (first xs : List X) (n : ℕ) (next : X) (R : ℕ → X → X → Type 0) → n < length xs
    → ((k : ℕ) (x : X) → k < n → slice_get first k ≡ Some x → (y : X) × (slice_get xs k ≡ Some y) × R k x y)
    → ((x : X) → slice_get first n ≡ Some x → R n x next)
    → (k : ℕ) (x : X) → k < n + 1 → slice_get first k ≡ Some x → (y : X) × (slice_get (set xs n next) k ≡ Some y) × R k x y
each_more first xs n next R inside before here k x below at = elim (either k n) [
  | inl is ↦ (
    next,
    ap (slice_get (set xs n next)) is ∙ set_here xs n next inside,
    subst (λ m. R m x next) (sym is) (here x (ap (slice_get first) (sym is) ∙ at)),
  )
  | inr differ ↦ (
      let (y, found, holds) = before k x (omega (arith, below, differ)) at in
      (y, set_other xs n k next differ ∙ found, holds))
]

-- one after the other
pub each_then : {X : Type 0} (a b c : List X) (R S T : ℕ → X → X → Type 0) → ((k : ℕ) (x y z : X) → R k x y → S k y z → T k x z) → EachAt a b R → EachAt b c S → EachAt a c T
each_then a b c R S T both first second = record {
  count = second.count ∙ first.count;
  each = λ k x at.
      let one = first.each k x at in
      let two = second.each k one.0 one.1 in
      (two.0, two.1, both k x one.0 two.0 one.2 two.2);
}

-- each stands so to one that it was
pub each_back : {X : Type 0} (a b : List X) (R : ℕ → X → X → Type 0) (k : ℕ) (y : X) → EachAt a b R → slice_get b k ≡ Some y → (x : X) × (slice_get a k ≡ Some x) × R k x y
each_back {X} a b R k y each at =
    let inside : k < length a = omega (arith, slice_get_within b k y at, each.count) in
    let (x, was) = read_within a k inside in
    let (z, is, holds) = each.each k x was in
    let one : Some y ≡ Some z = sym at ∙ is in
    let same : z ≡ y = cc in
    (x, was, subst (R k x) same holds)

-- all of a list stay as they are
pub each_same : {X : Type 0} (a : List X) (R : ℕ → X → X → Type 0) → ((k : ℕ) (x : X) → R k x x) → EachAt a a R
each_same a R same = record { count = refl; each = λ k x at. (x, at, same k x) }

-- one of a list is another
pub each_one : {X : Type 0} (a : List X) (n : ℕ) (old new : X) (R : ℕ → X → X → Type 0) → slice_get a n ≡ Some old → R n old new → ((k : ℕ) (x : X) → k ≢ n → R k x x) → EachAt a (set a n new) R
each_one {X} a n old new R at here same = record { count = length-set a n new; each = λ k x found. step k x found (either k n) }
  where
    inside : n < length a
    inside = slice_get_within a n old at

    step : (k : ℕ) (x : X) → slice_get a k ≡ Some x → (k ≡ n) ⊎ (k ≢ n) → (y : X) × (slice_get (set a n new) k ≡ Some y) × R k x y
    step k x found (inl is) =
        let both : Some old ≡ Some x = sym at ∙ ap (slice_get a) (sym is) ∙ found in
        let one : old ≡ x = cc in
        (new, ap (slice_get (set a n new)) is ∙ set_here a n new inside, subst (λ m. R m x new) (sym is) (subst (λ z. R n z new) one here))
    step k x found (inr differ) = (x, set_other a n k new differ ∙ found, same k x differ)

-- what a slice of a vector became is what the vector has
pub items_are : {X : Type 0} (v : Vec X Global) (ws : List X) → length ws ≡ length v.items → (with_items v ws).items ≡ ws
items_are v ws same =
    ap (λ d. take v.len (ws ++ d)) (drop_all (length ws) v.items (omega (arith, same))) ∙ ap (take v.len) (append-nil ws) ∙ take_all v.len ws (omega (arith, v.ok.0, same))

pub each_items : {X : Type 0} (v : Vec X Global) (old ws : List X) (R : ℕ → X → X → Type 0) → old ≡ v.items → EachAt old ws R → EachAt v.items (with_items v ws).items R
each_items {X} v old ws R is each =
    let e = subst (λ o. EachAt o ws R) is each in
    subst (λ ys. EachAt v.items ys R) (sym (items_are v ws e.count)) e

-- a relation that is less
pub each_weaker : {X : Type 0} (a b : List X) (R S : ℕ → X → X → Type 0) → ((k : ℕ) (x y : X) → R k x y → S k x y) → EachAt a b R → EachAt a b S
each_weaker a b R S weaker each = record {
  count = each.count;
  each = λ k x at.
      let one = each.each k x at in
      (one.0, one.1, weaker k x one.0 one.2);
}
