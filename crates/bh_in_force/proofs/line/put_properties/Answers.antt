use Rattle.std.proofs.Common.{refl}
use Rattle.bh_in_force.specs.PropertiesLine.{properties_line}
use Rattle.bh_in_force.proofs.Sending.{line-put}
use Rattle.bh_in_force.proofs.line.put_properties.Goals as goal

pub returns-clause-ok : goal.returns-clause-ok
unfolding properties_line
returns-clause-ok c = line-put _ _ _ _ c.end_line.new.bytes _ _ c.put_object-put.ensures c.end_line.ensures.ok c.end_line.ensures.put refl
