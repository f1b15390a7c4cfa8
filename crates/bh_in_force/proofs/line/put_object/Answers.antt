use Rattle.serde_json.proofs.Texts.{print-outline}
use Rattle.bh_in_force.specs.PropertiesLine.{properties_data}
use Rattle.bh_in_force.proofs.Sending.{object-same}
use Rattle.bh_in_force.proofs.line.put_object.Goals as goal

pub returns : goal.returns
unfolding properties_data
returns c = object-same _ _ _ _ _ c.write_object.ensures (rw c.strategy_word.ensures (print-outline (properties_data c.args.properties.now)))
