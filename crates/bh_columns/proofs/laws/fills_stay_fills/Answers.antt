use Rattle.bh_columns.proofs.Filling.{fills_stay_fills}
use Rattle.bh_columns.proofs.laws.fills_stay_fills.Goals as goal

pub returns : goal.returns
returns c = fills_stay_fills
