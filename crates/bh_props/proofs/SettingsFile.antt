-- The settings in a file: it is no text, or they are those of its text.
use Rattle.std.proofs.Common.{◌≡◌, ℕ, List, Bool, true, false, Err, IsUtf8, refl, ap, sym, ◌∙◌, if◌then◌else◌}
use Rattle.std.proofs.lemmas.Str.{is_utf8-from_IsUtf8, IsUtf8-from_is_utf8}
use Rattle.std.specs.Str.{is_utf8}
use Rattle.bh_props.specs.Settings.{settings_of}
use Rattle.bh_props.specs.declared.error.SettingsError.TheVariants.{Syntax}
use Rattle.bh_props.specs.SettingsFile.{settings_in}

-- bytes that are not UTF-8 are refused
pub settings-no_text : (bytes : List ℕ) → ¬ (IsUtf8 bytes) → settings_in bytes ≡ Err Syntax
unfolding settings_in
settings-no_text bytes none = by_test (is_utf8 bytes) (IsUtf8-from_is_utf8 bytes)
  where
    by_test : (b : Bool) → (b ≡ true → IsUtf8 bytes) → (if b then settings_of bytes else Err Syntax) ≡ Err Syntax
    by_test true valid = absurd (none (valid refl))
    by_test false valid = refl

-- else the settings are those of the text
pub settings-text : (bytes text : List ℕ) → (text ≡ bytes) × IsUtf8 bytes → settings_in bytes ≡ settings_of text
unfolding settings_in
settings-text bytes text valid = ap (λ b. if b then settings_of bytes else Err Syntax) (is_utf8-from_IsUtf8 bytes valid.1) ∙ ap settings_of (sym valid.0)
