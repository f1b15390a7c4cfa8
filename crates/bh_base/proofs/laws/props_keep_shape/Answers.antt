use Rattle.bh_base.proofs.Views.{step_ranges, step_shape}
use Rattle.bh_base.proofs.laws.props_keep_shape.Goals as goal

pub returns : goal.returns
returns c = record { shape = step_shape; ranges = step_ranges }
