use Rattle.std.proofs.Common.{codes, rules}
use Rattle.clap.specs.Words.{found_of}
use Rattle.bh_arguments.proofs.Found.{names-told}
use Rattle.bh_arguments.proofs.values.groups_in.Goals as goal

pub returns : goal.returns
returns c = names-told (found_of c.args.found.now) (codes "group") c.get_strs.result _ _ c.get_strs.ensures c.unwrap_or.ensures (search rules)
