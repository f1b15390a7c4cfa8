-- How many texts there are in all, as they come and go.
use Rattle.std.proofs.Common.{◌≡◌, ◌<◌, ◌+◌, ℕ, List, [], ◌∷◌, ◌++◌, length, slice_index_or, sum_by, refl, ◌∙◌, arith}
use Rattle.std.specs.List.{remove}
use Rattle.std.proofs.lemmas.List.Sums.{sum_by-append, sum_by-cons}
use Rattle.bh_serve.specs.declared.report.Report.{Report}
use Rattle.bh_serve.specs.Reports.{said, rest_of, with_more}

-- one more behind the others
pub said_snoc : (xs : List Report) (r : Report) → sum_by said (xs ++ r ∷ []) ≡ sum_by said xs + said r
said_snoc xs r = sum_by-append said xs (r ∷ []) ∙ omega arith

-- the first one and the others
pub said_first : (xs : List Report) (d : Report) → 0 < length xs → sum_by said xs ≡ said (slice_index_or xs 0 d) + sum_by said (remove xs 0)
said_first [] d some = absurd (omega (arith, some))
said_first (x ∷ xs) d some = sum_by-cons said x xs

pub rest_others : (xs : List Report) (more : ℕ) → 0 < length xs → rest_of xs more ≡ with_more (remove xs 0) more
rest_others [] more some = absurd (omega (arith, some))
rest_others (x ∷ xs) more some = refl

pub fewer : (xs : List Report) → 0 < length xs → length (remove xs 0) + 1 ≡ length xs
fewer [] some = absurd (omega (arith, some))
fewer (x ∷ xs) some = omega arith
