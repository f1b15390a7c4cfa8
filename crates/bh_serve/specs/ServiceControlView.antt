-- What contracts see of the control of a service.
use Rattle.std.specs.Prelude.{Option}
use Rattle.bh_lines.specs.Names.{Names}
use Rattle.bh_journal.specs.Passes.{PassView}
use Rattle.bh_audit.specs.Service.{ServiceView}

-- the service, the names of its groups and of their commands, and the pass of what was asked last, if one was taken
pub record ServiceControlView : Type 0 where
  pub service : ServiceView
  pub names : Names
  pub last : Option PassView
