-- Columns that are joined, and their width.
use Rattle.std.proofs.Common.{◌≡◌, ◌+◌, ◌*◌, ◌<◌, ℕ, zero, suc, refl, sym, ap, ◌∙◌, arith}
use Rattle.std.proofs.Math.Nat.{add-mul, mul_assoc, suc-mul, zero-mul}
use Rattle.bh_columns.specs.Columns.{bare, joined, no_column}
use Rattle.bh_columns.specs.Laws.{JoinedAreWider}
use Rattle.bh_columns.specs.Spans.{Fill, IsFill}
use Rattle.bh_columns.specs.Tracks.{joined_run}
use Rattle.bh_columns.specs.declared.column.Column.{Column}

-- the columns from an index on, joined
run_filled : (f : Fill) (width from n : ℕ) → IsFill f → joined_run (λ i. f (i * width) (i * width + width)) from n ≡ f (from * width) (from * width + n * width)
run_filled f width from zero fill = sym (fill.none (from * width)) ∙ ap (f (from * width)) (let e = zero-mul width in omega (arith, e))
run_filled f width from (suc n) fill =
    let begin = from * width in
    let split : (from + n) * width ≡ begin + n * width = add-mul from n width in
    let more : begin + n * width + width ≡ begin + suc n * width = (let e = suc-mul n width in omega (arith, e)) in
    (λ i. joined (run_filled f width from n fill i) (f (split i) (split i + width)))
    ∙ ap (λ e. joined (f begin (begin + n * width)) (f (begin + n * width) e)) more
    ∙ sym (fill.joins begin (begin + n * width) (begin + suc n * width) (omega arith) (omega (arith, sym more)))

pub joined_are_wider : JoinedAreWider
joined_are_wider f width many index fill =
    run_filled f width (index * many) many fill
    ∙ (λ i. f (mul_assoc index many width i) (mul_assoc index many width i + many * width))

-- columns that are the same from an index on are the same joined
pub run_same : (at other : ℕ → Column) (from n : ℕ) → ((k : ℕ) → k < n → at (from + k) ≡ other (from + k)) → joined_run at from n ≡ joined_run other from n
run_same at other from zero same = refl
run_same at other from (suc n) same =
    λ i. joined (run_same at other from n (λ k below. same k (omega (arith, below))) i) (same n (omega arith) i)

-- nothing joined is nothing
pub run_none : (at : ℕ → Column) (from n : ℕ) → ((k : ℕ) → k < n → at (from + k) ≡ no_column) → joined_run at from n ≡ no_column
run_none at from zero none = refl
run_none at from (suc n) none =
    λ i. joined (run_none at from n (λ k below. none k (omega (arith, below))) i) (none n (omega arith) i)

-- all but the usage is joined by itself
pub run_bare : (at : ℕ → Column) (from n : ℕ) → bare (joined_run at from n) ≡ joined_run (λ i. bare (at i)) from n
run_bare at from zero = refl
run_bare at from (suc n) = ap (λ c. joined c (bare (at (from + n)))) (run_bare at from n)
