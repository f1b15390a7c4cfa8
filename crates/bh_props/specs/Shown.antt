-- What settings show: the entries of their maps, in lists, and the limit of audited steps.
use Rattle.bh_props.specs.declared.settings.Settings.{Settings}
use Rattle.bh_props.specs.SettingsView.{SettingsView}

abbrev pub settings_view : Settings → SettingsView
settings_view s = record { groups = s.groups.entries; audit_steps = s.audit_steps; commands = s.commands.entries }
