-- The errors and warnings in bytes: they are those of their text, and the errors are what a check refuses.
use Rattle.std.proofs.Common.{◌≡◌, ◌∙◌, ℕ, List, [], ◌∷◌, Bool, true, false, Option, Some, None, Result, IfOk, IsUtf8, refl, sym, ap, subst}
use Rattle.std.proofs.lemmas.Str.{is_utf8-from_IsUtf8, IsUtf8-from_is_utf8}
use Rattle.std.specs.Prelude.{if◌then◌else◌, Err}
use Rattle.std.specs.Str.{is_utf8}
use Rattle.toml.specs.Data.{Members, table}
use Rattle.toml.specs.Parse.{parse_document}
use Rattle.bh_props.specs.declared.error.SettingsError.TheVariants.{Syntax}
use Rattle.bh_props.specs.Names.{names_of}
use Rattle.bh_props.specs.Settings.{settings_of, settings_of_tree}
use Rattle.bh_props.specs.SettingsFile.{settings_in}
use Rattle.bh_lint.specs.Finding.{refused}
use Rattle.bh_lint.specs.Findings.{errors_of, errors_of_tree, warnings_of}
use Rattle.bh_lint.specs.Refuses.{RefusesAs}
use Rattle.bh_lint.specs.Report.{errors_in, warnings_in}
use Rattle.bh_lint.specs.Reports.{Reports}
use Rattle.bh_lint.specs.declared.report.Report.{Report}
use Rattle.bh_lint.specs.declared.finding.Finding.{Finding}
use Rattle.bh_lint.proofs.First.{named-refused}

tree-refused : (o : Option Members) → RefusesAs (errors_of_tree o) (settings_of_tree o)
tree-refused None = refl
tree-refused (Some ms) = named-refused (table ms) (names_of (table ms))

either : (b : Bool) (bytes : List ℕ) → RefusesAs (if b then errors_of bytes else refused Syntax ∷ []) (if b then settings_of bytes else Err Syntax)
either true bytes = tree-refused (parse_document bytes)
either false bytes = refl

pub in_refused : (bytes : List ℕ) → RefusesAs (errors_in bytes) (settings_in bytes)
unfolding errors_in settings_in
in_refused bytes = either (is_utf8 bytes) bytes

errors-text : (bytes text : List ℕ) → (text ≡ bytes) × IsUtf8 bytes → errors_of text ≡ errors_in bytes
unfolding errors_in
errors-text bytes text valid = sym (ap (λ b. if b then errors_of bytes else refused Syntax ∷ []) (is_utf8-from_IsUtf8 bytes valid.1) ∙ ap errors_of (sym valid.0))

warnings-text : (bytes text : List ℕ) → (text ≡ bytes) × IsUtf8 bytes → warnings_of text ≡ warnings_in bytes
unfolding warnings_in
warnings-text bytes text valid = sym (ap (λ b. if b then warnings_of bytes else []) (is_utf8-from_IsUtf8 bytes valid.1) ∙ ap warnings_of (sym valid.0))

errors-no_text : (bytes : List ℕ) → ¬ (IsUtf8 bytes) → refused Syntax ∷ [] ≡ errors_in bytes
unfolding errors_in
errors-no_text bytes none = by_test (is_utf8 bytes) (IsUtf8-from_is_utf8 bytes)
  where
    by_test : (b : Bool) → (b ≡ true → IsUtf8 bytes) → refused Syntax ∷ [] ≡ (if b then errors_of bytes else refused Syntax ∷ [])
    by_test true valid = absurd (none (valid refl))
    by_test false valid = refl

warnings-no_text : (bytes : List ℕ) → ¬ (IsUtf8 bytes) → [] ≡ warnings_in bytes
unfolding warnings_in
warnings-no_text bytes none = by_test (is_utf8 bytes) (IsUtf8-from_is_utf8 bytes)
  where
    by_test : (b : Bool) → (b ≡ true → IsUtf8 bytes) → [] ≡ (if b then warnings_of bytes else [])
    by_test true valid = absurd (none (valid refl))
    by_test false valid = refl

module _ {E : Type 0} where
  reports-same : (o : Result Report E) (es es' ws ws' : List Finding) → es ≡ es' → ws ≡ ws' → IfOk o (Reports es ws) → IfOk o (Reports es' ws')
  reports-same o es es' ws ws' same_errors same_warnings h =
      subst (λ (x : List Finding). IfOk o (Reports x ws')) same_errors (subst (λ (x : List Finding). IfOk o (Reports es x)) same_warnings h)

  -- the report on a text is the one on its bytes
  pub reports-text : (bytes text : List ℕ) (o : Result Report E) → (text ≡ bytes) × IsUtf8 bytes → IfOk o (Reports (errors_of text) (warnings_of text))
      → IfOk o (Reports (errors_in bytes) (warnings_in bytes))
  reports-text bytes text o valid h =
      reports-same o (errors_of text) (errors_in bytes) (warnings_of text) (warnings_in bytes) (errors-text bytes text valid) (warnings-text bytes text valid) h

  -- and so is the one on bytes that are no text
  pub reports-no_text : (bytes : List ℕ) (o : Result Report E) → ¬ (IsUtf8 bytes) → IfOk o (Reports (refused Syntax ∷ []) []) → IfOk o (Reports (errors_in bytes) (warnings_in bytes))
  reports-no_text bytes o none h =
      reports-same o (refused Syntax ∷ []) (errors_in bytes) [] (warnings_in bytes) (errors-no_text bytes none) (warnings-no_text bytes none) h
