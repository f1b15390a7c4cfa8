-- Lists of which one item is new or changed, or that have one item for each of another list.
use Rattle.std.proofs.Common.{◌≡◌, ◌+◌, ◌<◌, ℕ, All, map, zero, suc, List, [], ◌∷◌, ◌++◌, length, Some, None, refl, ◌∙◌, sym, ap, subst, arith, add-zero}
use Rattle.std.proofs.lemmas.Option.{get_or_from_slice_get, slice_get_within}
use Rattle.std.specs.Prelude.{option_map, slice_get}
use Rattle.std.specs.List.{AllByRecursion}
use Rattle.bh_base.specs.Commands.{each_from}

pub push_before : {X : Type 0} (xs : List X) (x : X) (i : ℕ) → i < length xs → slice_get (xs ++ x ∷ []) i ≡ slice_get xs i
push_before [] x i inside = absurd (omega (arith, inside))
push_before (y ∷ ys) x zero inside = refl
push_before (y ∷ ys) x (suc i) inside = push_before ys x i (omega (arith, inside))

pub push_here : {X : Type 0} (xs : List X) (x : X) → slice_get (xs ++ x ∷ []) (length xs) ≡ Some x
push_here [] x = refl
push_here (y ∷ ys) x = push_here ys x

pub push_past : {X : Type 0} (xs : List X) (x : X) (i : ℕ) → length xs < i → slice_get (xs ++ x ∷ []) i ≡ None
push_past [] x zero past = absurd (omega (arith, past))
push_past [] x (suc i) past = refl
push_past (y ∷ ys) x zero past = absurd (omega (arith, past))
push_past (y ∷ ys) x (suc i) past = push_past ys x i (omega (arith, past))

-- the item at a place of a list that was made from another
pub each_at : {X Y : Type 0} (from : ℕ) (f : ℕ → X → Y) (xs : List X) (i : ℕ) → slice_get (each_from from f xs) i ≡ option_map (f (from + i)) (slice_get xs i)
each_at from f [] i = refl
each_at from f (x ∷ xs) zero = ap (λ n. Some (f n x)) (sym (add-zero from))
each_at from f (x ∷ xs) (suc i) =
    let same : (from + 1) + i ≡ from + suc i = omega arith in
    each_at (from + 1) f xs i ∙ ap (λ n. option_map (f n) (slice_get xs i)) same

pub each_push : {X Y : Type 0} (from : ℕ) (f : ℕ → X → Y) (xs : List X) (x : X) → each_from from f (xs ++ x ∷ []) ≡ each_from from f xs ++ f (from + length xs) x ∷ []
each_push from f [] x = ap (λ n. f n x ∷ []) (sym (add-zero from))
each_push from f (y ∷ ys) x =
    let same : (from + 1) + length ys ≡ from + suc (length ys) = omega arith in
    ap (λ zs. f from y ∷ zs) (each_push (from + 1) f ys x ∙ ap (λ n. each_from (from + 1) f ys ++ f n x ∷ []) same)

pub all_push : {X : Type 0} (P : X → Type 0) (xs : List X) (x : X) → AllByRecursion P xs → P x → AllByRecursion P (xs ++ x ∷ [])
all_push P [] x all here = (here, tt)
all_push P (y ∷ ys) x all here = (all.0, all_push P ys x all.1 here)

pub all_weaker : {X : Type 0} (P Q : X → Type 0) (xs : List X) → ((x : X) → P x → Q x) → AllByRecursion P xs → AllByRecursion Q xs
all_weaker P Q [] weaker all = tt
all_weaker P Q (x ∷ xs) weaker all = (weaker x all.0, all_weaker P Q xs weaker all.1)

-- what holds at each place holds of the one at a place
pub every_at : {X : Type 0} (P : X → Type 0) (xs : List X) (i : ℕ) (x : X) → All P xs → slice_get xs i ≡ Some x → P x
every_at P xs i x all at = subst P (get_or_from_slice_get xs i x x at) (all i x (slice_get_within xs i x at))

pub each-map : {X Y Z : Type 0} (from : ℕ) (f : ℕ → Y → Z) (g : X → Y) (xs : List X) → each_from from f (map g xs) ≡ each_from from (λ n x. f n (g x)) xs
each-map from f g [] = refl
each-map from f g (x ∷ xs) = ap (λ zs. f from (g x) ∷ zs) (each-map (from + 1) f g xs)

-- what is within a list can be read
pub read_within : {X : Type 0} (xs : List X) (i : ℕ) → i < length xs → (x : X) × (slice_get xs i ≡ Some x)
read_within [] i inside = absurd (omega (arith, inside))
read_within (x ∷ xs) zero inside = (x, refl)
read_within (x ∷ xs) (suc i) inside = read_within xs i (omega (arith, inside))
