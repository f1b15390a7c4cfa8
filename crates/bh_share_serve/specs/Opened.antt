-- The groups that a service is opened with.
use Rattle.std.specs.Prelude.{◌≡◌}
use Rattle.bh_core.specs.CoreView.{CoreView}
use Rattle.bh_port.specs.Course.{opened_core}
use Rattle.bh_props.specs.SettingsView.{SettingsView}

-- they are those of some settings, all new
abbrev pub AreOpened : CoreView → Type 0
AreOpened groups = (service : SettingsView) × (groups ≡ opened_core service)
