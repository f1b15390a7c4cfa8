use Rattle.std.proofs.Common.{rules}
use Rattle.bh_props.specs.Table.{all}
use Rattle.bh_props.proofs.subject.Scope.properties.Goals as goal

pub returns-in-Group : goal.returns-in-Group
unfolding all
returns-in-Group c = search rules

pub returns-in-Command : goal.returns-in-Command
unfolding all
returns-in-Command c = search rules
