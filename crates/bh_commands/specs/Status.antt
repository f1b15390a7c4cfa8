-- What the exit status of the program says.
use Rattle.std.specs.Prelude.{◌≡◌, ◌≢◌, ℕ, false, List, Option, IfSome, codes}
use Rattle.std.specs.Io.KnownBytes.{Appends}
use Rattle.bh_cut.specs.Kept.{kept}
use Rattle.bh_draw.specs.Texts.{EndsIn}
use Rattle.bh_lines.specs.Lines.{Cut, cut, stops}
use Rattle.bh_streams.specs.Watched.{WritesFront}
use Rattle.bh_port.specs.Course.{new_course}
use Rattle.bh_port.specs.Text.{text}
use Rattle.bh_props.specs.SettingsView.{SettingsView}
use Rattle.bh_props.specs.Printed.{lines_of}
use Rattle.bh_props.specs.declared.error.SettingsError.{SettingsError}
use Rattle.bh_props.specs.declared.error.SettingsError.TheVariants.{Memory}

-- settings that are refused, or a fault
abbrev pub settings_status : SettingsError → ℕ
settings_status Memory = 3
settings_status _ = 1

-- with status 0 the whole text was written and no line is too long or not UTF-8; with status 3 a front of it was written
pub record RunStatus (service : SettingsView) (c : Cut) (w0 w1 : Option (List ℕ)) (status : ℕ) : Type 0 where
  pub whole : status ≡ 0 → Appends w0 w1 (text service (new_course service) c) × (stops c ≡ false)
  pub front : status ≡ 3 → WritesFront w0 w1 (text service (new_course service) c)
  pub not_refused : status ≢ 1

-- with status 0 all lines of the settings were written; with status 3 a front of them was written
pub record CheckStatus (service : SettingsView) (w0 w1 : Option (List ℕ)) (status : ℕ) : Type 0 where
  pub whole : status ≡ 0 → Appends w0 w1 (lines_of service)
  pub front : status ≡ 3 → WritesFront w0 w1 (lines_of service)
  pub not_refused : status ≢ 1

-- with status 0 all lines of the groups were written and no line is too long or not UTF-8; with status 3 a front of them was
-- written
pub record CutStatus (names : List (List ℕ)) (input : List ℕ) (w0 w1 : Option (List ℕ)) (status : ℕ) : Type 0 where
  pub whole : status ≡ 0 → Appends w0 w1 (kept names input) × (stops (cut input) ≡ false)
  pub front : status ≡ 3 → WritesFront w0 w1 (kept names input)
  pub not_refused : status ≢ 1

-- no line of the input, where it is known, is too long or not UTF-8
abbrev pub IsWhole : Option (List ℕ) → Type 0
IsWhole input = IfSome input (λ bytes. stops (cut bytes) ≡ false)

-- a whole picture was written, and nothing else
abbrev pub WritesPicture : Option (List ℕ) → Option (List ℕ) → Type 0
WritesPicture w0 w1 = (picture : List ℕ) × EndsIn (codes "</svg>\n") picture × Appends w0 w1 picture

-- a text was written behind what was there
abbrev pub WritesText : Option (List ℕ) → Option (List ℕ) → Type 0
WritesText w0 w1 = (text : List ℕ) × Appends w0 w1 text
