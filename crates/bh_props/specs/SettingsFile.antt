-- The settings that the bytes of a file give.
use Rattle.std.specs.Prelude.{ℕ, List, Result, Err, if◌then◌else◌}
use Rattle.std.specs.Str.{is_utf8}
use Rattle.bh_props.specs.Settings.{settings_of}
use Rattle.bh_props.specs.SettingsView.{SettingsView}
use Rattle.bh_props.specs.declared.error.SettingsError.{SettingsError}
use Rattle.bh_props.specs.declared.error.SettingsError.TheVariants.{Syntax}

-- the settings in the bytes of a file, or why they are refused
unfoldable pub settings_in : List ℕ → Result SettingsView SettingsError
settings_in bytes = if is_utf8 bytes then settings_of bytes else Err Syntax
