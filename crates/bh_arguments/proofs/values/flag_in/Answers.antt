use Rattle.clap.specs.Words.{found_of}
use Rattle.bh_arguments.proofs.Found.{flag-told}
use Rattle.bh_arguments.proofs.values.flag_in.Goals as goal

pub returns : goal.returns
returns c = flag-told (found_of c.args.found.now) c.args.id.now _ c.get_flag.ensures.none c.get_flag.ensures.value c.get_flag.ensures.other
