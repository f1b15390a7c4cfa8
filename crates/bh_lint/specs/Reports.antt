-- A report, and the findings that it is on.
use Rattle.std.specs.Prelude.{◌≡◌, List, ◌++◌, map}
use Rattle.bh_lint.specs.declared.finding.Finding.{Finding}
use Rattle.bh_lint.specs.declared.report.Report.{Report}
use Rattle.bh_lint.specs.Lines.{first_of, more_of}
use Rattle.bh_lint.specs.Report.{are_some}

-- the first of the errors and then the warnings are told in their order, and how many are left out
pub record Reports (errors warnings : List Finding) (r : Report) : Type 0 where
  pub told : map (λ t. t.finding) r.told.items ≡ first_of (errors ++ warnings)
  pub more : r.more ≡ more_of (errors ++ warnings)
  pub has_errors : r.has_errors ≡ are_some errors
  pub has_warnings : r.has_warnings ≡ are_some warnings
