use Rattle.bh_columns.proofs.Joining.{joined_are_wider}
use Rattle.bh_columns.proofs.laws.joined_are_wider.Goals as goal

pub returns : goal.returns
returns c = joined_are_wider
