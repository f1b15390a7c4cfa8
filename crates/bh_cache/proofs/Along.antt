-- A walk along a list that may take the slot at hand off it.
use Rattle.std.proofs.Common.{◌≡◌, ℕ, zero, suc, ◌+◌, not, cond, Bool, true, false, List, [], ◌∷◌, ◌++◌, drop, length, Some, refl, ◌∙◌, sym, ap, subst, add-one, append_assoc}
use Rattle.std.specs.Prelude.{◌||◌, slice_get, if◌then◌else◌}
use Rattle.std.proofs.lemmas.Bool.{eq-eqb, ne_eqb}
use Rattle.bh_index_lists.specs.Lists.{without}
use Rattle.bh_cache.specs.Drops.{without_if}
use Rattle.bh_cache.specs.Slots.{has, Once}
use Rattle.bh_cache.proofs.Moves.{without_absent}
use Rattle.bh_cache.proofs.Members.{drop_at, has_append}

-- what is ahead on the list is as it was, from a place on
pub record IsAlong (now old : List ℕ) (i : ℕ) : Type 0 where
  pub behind : List ℕ
  pub is : now ≡ behind ++ drop i old

-- a list that has each slot once, without one of them
pub without_at : (x : ℕ) (pre rest : List ℕ) → Once (pre ++ x ∷ rest) → without x (pre ++ x ∷ rest) ≡ pre ++ rest
without_at x [] rest h = ap (λ b. cond (not b) (x ∷ without x rest) (without x rest)) (eq-eqb x x refl) ∙ without_absent x rest h.0
without_at x (y ∷ pre) rest h =
    ap (λ b. cond (not b) (y ∷ without x (pre ++ x ∷ rest)) (without x (pre ++ x ∷ rest))) (ne_eqb y x (λ e. twice e (has_append y pre (x ∷ rest) ∙ ap (λ b. has y pre || b) (found e) ∙ or_right (has y pre))))
    ∙ ap (λ zs. y ∷ zs) (without_at x pre rest h.1)
  where
    or_right : (b : Bool) → (b || true) ≡ true
    or_right true = refl
    or_right false = refl

    found : y ≡ x → has y (x ∷ rest) ≡ true
    found e = ap (λ b. b || has y rest) (eq-eqb x y (sym e))

    twice : y ≡ x → has y (pre ++ x ∷ rest) ≡ true → ⊥
    twice e t = no_such (sym t ∙ h.0)
      where
        no_such : true ≡ false → ⊥
        no_such e = cc

get_ahead : (behind rest : List ℕ) (x : ℕ) → slice_get (behind ++ x ∷ rest) (length behind) ≡ Some x
get_ahead [] rest x = refl
get_ahead (y ∷ ys) rest x = get_ahead ys rest x

get_next : (behind rest : List ℕ) (x : ℕ) → slice_get (behind ++ x ∷ rest) (length behind + 1) ≡ slice_get rest 0
get_next behind rest x = ap (slice_get (behind ++ x ∷ rest)) (add-one (length behind)) ∙ at behind
  where
    at : (ys : List ℕ) → slice_get (ys ++ x ∷ rest) (suc (length ys)) ≡ slice_get rest 0
    at [] = refl
    at (y ∷ ys) = at ys

get_drop : (xs : List ℕ) (i : ℕ) → slice_get (drop i xs) 0 ≡ slice_get xs i
get_drop [] zero = refl
get_drop [] (suc i) = refl
get_drop (x ∷ xs) zero = refl
get_drop (x ∷ xs) (suc i) = get_drop xs i

module _ (now old : List ℕ) (i x : ℕ) (along : IsAlong now old i) (at : slice_get old i ≡ Some x) where
  ahead : now ≡ along.behind ++ x ∷ drop (i + 1) old
  ahead = along.is ∙ ap (λ ys. along.behind ++ ys) (drop_at old i x at ∙ ap (λ n. x ∷ drop n old) (sym (add-one i)))

  -- the slot at hand
  pub along_at : slice_get now (length along.behind) ≡ Some x
  along_at = ap (λ ys. slice_get ys (length along.behind)) ahead ∙ get_ahead along.behind (drop (i + 1) old) x

  -- what comes after it is what came after it on the old list
  pub along_next : slice_get now (length along.behind + 1) ≡ slice_get old (i + 1)
  along_next = ap (λ ys. slice_get ys (length along.behind + 1)) ahead ∙ get_next along.behind (drop (i + 1) old) x ∙ get_drop old (i + 1)

  -- where the slot at hand stays on the list, what is ahead is as it was from the next place on
  along_stays : (after : List ℕ) → after ≡ now → IsAlong after old (i + 1)
  along_stays after e = record { behind = along.behind ++ x ∷ []; is = e ∙ ahead ∙ sym (append_assoc along.behind (x ∷ []) (drop (i + 1) old)) }

  -- and so it is where the slot at hand is taken off a list that has each slot once
  along_gone : Once now → (after : List ℕ) → after ≡ without x now → IsAlong after old (i + 1)
  along_gone once after e = record { behind = along.behind; is = e ∙ ap (without x) ahead ∙ without_at x along.behind (drop (i + 1) old) (subst Once ahead once) }

  -- and so it is either way, where b says whether the slot at hand is taken off
  pub along_more : Once now → (b : Bool) (after : List ℕ) → after ≡ without_if b x now → IsAlong after old (i + 1)
  along_more once true after e = along_gone once after e
  along_more once false after e = along_stays after e

  -- and so it is either way, where b says whether the slot at hand stays
  pub along_unless : Once now → (b : Bool) (after : List ℕ) → after ≡ (if b then now else without x now) → IsAlong after old (i + 1)
  along_unless once true after e = along_stays after e
  along_unless once false after e = along_gone once after e

  -- the slot at hand is on the list
  pub along_on : has x now ≡ true
  along_on = ap (has x) ahead ∙ has_append x along.behind (x ∷ drop (i + 1) old) ∙ ap (λ b. has x along.behind || (b || has x (drop (i + 1) old))) (eq-eqb x x refl) ∙ or_true (has x along.behind)
    where
      or_true : (b : Bool) → (b || true) ≡ true
      or_true true = refl
      or_true false = refl
