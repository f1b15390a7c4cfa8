use Rattle.std.proofs.Common.{rules}
use Rattle.clap.specs.Words.{found_of}
use Rattle.bh_arguments.proofs.Found.{number-told}
use Rattle.bh_arguments.proofs.values.u16_in.Goals as goal

pub returns : goal.returns
returns c = number-told 16 (found_of c.args.found.now) c.args.id.now c.get_one.result c.args.usual _ (search rules) c.get_one.ensures.none c.get_one.ensures.value
