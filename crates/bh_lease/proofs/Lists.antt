-- The lease at the first place that passes a test.
use Rattle.std.proofs.Common.{◌≡◌, ◌≢◌, ℕ, zero, suc, ◌+◌, ◌<◌, ◌||◌, ◌∙◌, Bool, true, false, cond, List, [], ◌∷◌, length, remove, slice_get, slice_index_or, slice_set, Option, Some, IfSome, ◌⊎◌, inl, inr, refl, ap, sym, arith, subst}
use Rattle.std.specs.List.{list_any}
use Rattle.bh_base.specs.declared.step.GroupId.{GroupId}
use Rattle.bh_lease.specs.declared.lease.Lease.{Lease}
use Rattle.bh_lease.specs.declared.lease.Part.{Part}
use Rattle.bh_lease.specs.declared.lease.Part.TheVariants as part
use Rattle.bh_lease.specs.Lease.{has_at, is_over, with_part}
use Rattle.bh_lease.specs.Leases.{IsFirst, given_up, told_to_fall_back}

-- two places are one, or they are not
same_or_other : (a b : ℕ) → (a ≡ b) ⊎ (a ≢ b)
same_or_other zero zero = inl refl
same_or_other zero (suc b) = inr (λ e. cc)
same_or_other (suc a) zero = inr (λ e. cc)
same_or_other (suc a) (suc b) = elim (same_or_other a b) [ inl e ↦ inl (ap suc e) | inr n ↦ inr (λ e. n (omega arith)) ]

-- the item at a place of the list
item_at : {K : Type 0} (xs : List K) (k : ℕ) (d : K) → k < length xs → slice_get xs k ≡ Some (slice_index_or xs k d)
item_at [] k d lt = absurd (omega arith)
item_at (x ∷ xs) zero d lt = refl
item_at (x ∷ xs) (suc k) d lt = item_at xs k d (omega arith)

-- the items before a place fail a test, and so does that at the place
pub fail_up_to : {K : Type 0} (test : K → Bool) (xs : List K) (k : ℕ) (d : K) → ((j : ℕ) → j < k → IfSome (slice_get xs j) (λ y. test y ≡ false)) → k < length xs → test (slice_index_or xs k d) ≡ false → (j : ℕ) → j < k + 1 → IfSome (slice_get xs j) (λ y. test y ≡ false)
fail_up_to {K = K} test xs k d before within fails j lt = elim (same_or_other j k) [
  | inl e ↦ (let P : Option K → Type 0 = λ o. IfSome o (λ y. test y ≡ false) in subst P (sym (ap (slice_get xs) e ∙ item_at xs k d within)) fails)
  | inr n ↦ before j (omega arith)
]

-- the first item that passes a test, where those before it do not
pub first_at : {K : Type 0} (test : K → Bool) (xs : List K) (k : ℕ) (d : K) → ((j : ℕ) → j < k → IfSome (slice_get xs j) (λ y. test y ≡ false)) → k < length xs → test (slice_index_or xs k d) ≡ true → IsFirst test xs k
first_at test [] k d before within passes = absurd (omega arith)
first_at test (y ∷ ys) zero d before within passes = passes
first_at test (y ∷ ys) (suc k) d before within passes =
    (before 0 (omega arith), first_at test ys k d (λ j lt. before (suc j) (omega arith)) (omega arith) passes)

-- and where none passes it
pub none_passes : {K : Type 0} (test : K → Bool) (xs : List K) → ((j : ℕ) → j < length xs → IfSome (slice_get xs j) (λ y. test y ≡ false)) → list_any test xs ≡ false
none_passes test [] none = refl
none_passes test (y ∷ ys) none =
    ap (λ b. b || list_any test ys) (none 0 (omega arith)) ∙ none_passes test ys (λ j lt. none (suc j) (omega arith))

-- an item passes the test where one is the first
pub first_passes : {K : Type 0} (test : K → Bool) (xs : List K) (k : ℕ) → IsFirst test xs k → list_any test xs ≡ true
first_passes test [] k first = absurd first
first_passes test (x ∷ xs) zero first = ap (λ b. b || list_any test xs) first
first_passes test (x ∷ xs) (suc k) first = ap (λ b. b || list_any test xs) first.0 ∙ first_passes test xs k first.1

-- nobody gives up what nobody has
pub none_given_up : (group : GroupId) (serial : ℕ) (p : Part) (ls : List Lease) → list_any (has_at group serial p) ls ≡ false → given_up group serial p ls ≡ ls
none_given_up group serial p [] none = refl
none_given_up group serial p (l ∷ ls) none = at (has_at group serial p l) none (none_given_up group serial p ls)
  where
    at : (b : Bool) → (b || list_any (has_at group serial p) ls) ≡ false → (list_any (has_at group serial p) ls ≡ false → given_up group serial p ls ≡ ls) → cond b (cond (is_over (with_part p false l)) ls (with_part p false l ∷ ls)) (l ∷ given_up group serial p ls) ≡ l ∷ ls
    at true passes later = absurd cc
    at false passes later = ap (λ xs. l ∷ xs) (later passes)

-- the first lease that has the part is off the list where nothing is left of it
pub given_up_whole : (group : GroupId) (serial : ℕ) (p : Part) (ls : List Lease) (k : ℕ) (x : Lease) → IsFirst (has_at group serial p) ls k → x ≡ slice_index_or ls k x → is_over (with_part p false x) ≡ true → given_up group serial p ls ≡ remove ls k
given_up_whole group serial p [] k x first at over = absurd first
given_up_whole group serial p (l ∷ ls) zero x first at over =
    let same : l ≡ x = sym at in
    ap (λ b. cond b (cond (is_over (with_part p false l)) ls (with_part p false l ∷ ls)) (l ∷ given_up group serial p ls)) first
    ∙ ap (λ b. cond b ls (with_part p false l ∷ ls)) (ap (λ y. is_over (with_part p false y)) same ∙ over)
given_up_whole group serial p (l ∷ ls) (suc k) x first at over =
    ap (λ b. cond b (cond (is_over (with_part p false l)) ls (with_part p false l ∷ ls)) (l ∷ given_up group serial p ls)) first.0
    ∙ ap (λ xs. l ∷ xs) (given_up_whole group serial p ls k x first.1 at over)

-- and stays without the part where something is
pub given_up_part : (group : GroupId) (serial : ℕ) (p : Part) (ls : List Lease) (k : ℕ) (x : Lease) → IsFirst (has_at group serial p) ls k → x ≡ slice_index_or ls k x → is_over (with_part p false x) ≡ false → given_up group serial p ls ≡ slice_set ls k (with_part p false x)
given_up_part group serial p [] k x first at over = absurd first
given_up_part group serial p (l ∷ ls) zero x first at over =
    let same : l ≡ x = sym at in
    ap (λ b. cond b (cond (is_over (with_part p false l)) ls (with_part p false l ∷ ls)) (l ∷ given_up group serial p ls)) first
    ∙ ap (λ b. cond b ls (with_part p false l ∷ ls)) (ap (λ y. is_over (with_part p false y)) same ∙ over)
    ∙ ap (λ y. with_part p false y ∷ ls) same
given_up_part group serial p (l ∷ ls) (suc k) x first at over =
    ap (λ b. cond b (cond (is_over (with_part p false l)) ls (with_part p false l ∷ ls)) (l ∷ given_up group serial p ls)) first.0
    ∙ ap (λ xs. l ∷ xs) (given_up_part group serial p ls k x first.1 at over)

-- nobody is told to run the fallback of a ticket that nobody holds
pub none_told : (group : GroupId) (serial : ℕ) (ls : List Lease) → list_any (has_at group serial part.Holder) ls ≡ false → told_to_fall_back group serial ls ≡ ls
none_told group serial [] none = refl
none_told group serial (l ∷ ls) none = at (has_at group serial part.Holder l) none (none_told group serial ls)
  where
    at : (b : Bool) → (b || list_any (has_at group serial part.Holder) ls) ≡ false → (list_any (has_at group serial part.Holder) ls ≡ false → told_to_fall_back group serial ls ≡ ls) → cond b (with_part part.Fallback true l ∷ ls) (l ∷ told_to_fall_back group serial ls) ≡ l ∷ ls
    at true passes later = absurd cc
    at false passes later = ap (λ xs. l ∷ xs) (later passes)

-- the first holder is
pub first_told : (group : GroupId) (serial : ℕ) (ls : List Lease) (k : ℕ) (x : Lease) → IsFirst (has_at group serial part.Holder) ls k → x ≡ slice_index_or ls k x → told_to_fall_back group serial ls ≡ slice_set ls k (with_part part.Fallback true x)
first_told group serial [] k x first at = absurd first
first_told group serial (l ∷ ls) zero x first at =
    let same : l ≡ x = sym at in
    ap (λ b. cond b (with_part part.Fallback true l ∷ ls) (l ∷ told_to_fall_back group serial ls)) first
    ∙ ap (λ y. with_part part.Fallback true y ∷ ls) same
first_told group serial (l ∷ ls) (suc k) x first at =
    ap (λ b. cond b (with_part part.Fallback true l ∷ ls) (l ∷ told_to_fall_back group serial ls)) first.0
    ∙ ap (λ xs. l ∷ xs) (first_told group serial ls k x first.1 at)
