-- What a lint writes, and its exit status.
use Rattle.std.specs.Prelude.{◌≡◌, ℕ, List, Option, map}
use Rattle.std.specs.Io.KnownBytes.{Appends}
use Rattle.bh_lint.specs.declared.told.Told.{Told}
use Rattle.bh_commands.specs.declared.lint.Linting.{Linting}
use Rattle.bh_lint.specs.Lines.{first_of, more_of}
use Rattle.bh_lint.specs.Form.{text_in}
use Rattle.bh_lint.specs.Report.{findings_in, lint_status}

-- the first findings were written in the form that was asked for, each with a place, and how many more there are; the status tells what they are
pub record LintStatus (linting : Linting) (file : List ℕ) (bytes : List ℕ) (w0 w1 : Option (List ℕ)) (status : ℕ) : Type 0 where
  pub written : (told : List Told) × (map (λ t. t.finding) told ≡ first_of (findings_in bytes)) × Appends w0 w1 (text_in linting.form file told (more_of (findings_in bytes)))
  pub answers : status ≡ lint_status linting.denies_warnings bytes
