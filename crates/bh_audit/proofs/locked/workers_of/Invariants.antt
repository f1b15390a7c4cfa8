use Rattle.std.proofs.Common.{◌≡◌, false, take}
use Rattle.std.specs.List.{list_any}
use Rattle.bh_base.specs.Machine.{is_pooled}
use Rattle.bh_audit.proofs.locked.workers_of.Given as goal

abbrev pub invariant-loop-command : goal.invariant-loop-command
invariant-loop-command l = list_any (λ c. is_pooled c.strategy) (take l.command-index l.props.commands) ≡ false
