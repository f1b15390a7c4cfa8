-- The text of a script, by its first line.
use Rattle.std.proofs.Common.{◌≡◌, ℕ, List, [], ◌++◌, refl}
use Rattle.bh_lines.specs.Lines.{Cut, line, ended, stopped}
use Rattle.bh_port.specs.Course.{Course, line_act}
use Rattle.bh_port.specs.Text.{answer_to, course_with, text}
use Rattle.bh_props.specs.SettingsView.{SettingsView}

-- a line is answered, and then the lines behind it
pub text-line : (service : SettingsView) (before : Course) (bytes : List ℕ) (rest : Cut)
    → text service before (line bytes rest)
    ≡ answer_to service before (line_act service before.entries bytes) ++ text service (course_with service before (line_act service before.entries bytes)) rest
unfolding text
text-line service before bytes rest = refl

-- nothing answers the end
pub text-ended : (service : SettingsView) (before : Course) → text service before ended ≡ []
unfolding text
text-ended service before = refl

-- nothing answers a line that is refused
pub text-stopped : (service : SettingsView) (before : Course) → text service before stopped ≡ []
unfolding text
text-stopped service before = refl
