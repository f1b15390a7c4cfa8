use Rattle.bh_props.proofs.SettingsFile.{settings-no_text, settings-text}
use Rattle.bh_props.proofs.settings_file.settings_in.Goals as goal

pub returns-in_default-clause-refused : goal.returns-in_default-clause-refused
returns-in_default-clause-refused c = λ _. settings-no_text _ c.in_default.ensures.cases.0

pub returns-clause-ok : goal.returns-clause-ok
returns-clause-ok c = rw (settings-text _ _ c.in-Ok.ensures.cases) c.read.ensures.ok

pub returns-clause-refused : goal.returns-clause-refused
returns-clause-refused c = rw (settings-text _ _ c.in-Ok.ensures.cases) c.read.ensures.refused
