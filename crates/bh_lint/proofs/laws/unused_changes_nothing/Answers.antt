use Rattle.bh_lint.proofs.Unused.{unused_changes_nothing}
use Rattle.bh_lint.proofs.laws.unused_changes_nothing.Goals as goal

pub returns : goal.returns
returns c = unused_changes_nothing
