-- Laws of what is kept of moments.
use Rattle.std.specs.Prelude.{◌+◌, ◌*◌, ◌≡◌, ℕ}
use Rattle.bh_base.specs.Runs.{View}
use Rattle.bh_base.specs.declared.step.Op.{Op}
use Rattle.bh_columns.specs.Columns.{no_column}
use Rattle.bh_columns.specs.Spans.{Fill, IsFill}
use Rattle.bh_columns.specs.Steps.{filled_with}
use Rattle.bh_columns.specs.Tracks.{joined_run}

-- nothing is kept of any moment at first, and each step of a group adds to what is kept of its moments, whatever is selected
pub record FillsStayFills : Type 0 where
  pub none : IsFill (λ a b. no_column)
  pub step : (f : Fill) (from to : ℕ) (v : View) (o : Op) (now command : ℕ) → IsFill f → IsFill (filled_with from to v o now command f)

-- columns of one width that are joined, so many of them
abbrev pub JoinedAreWider : Type 0
JoinedAreWider = (f : Fill) (width many index : ℕ) → IsFill f
    → joined_run (λ i. f (i * width) (i * width + width)) (index * many) many ≡ f (index * (many * width)) (index * (many * width) + many * width)
