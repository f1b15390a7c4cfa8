use Rattle.std.proofs.Common.{codes, refl}
use Rattle.clap.specs.Words.{found_of}
use Rattle.bh_arguments.proofs.Found.{text-given, text-missing}
use Rattle.bh_arguments.proofs.values.path_in.Goals as goal

pub returns-in-Some : goal.returns-in-Some
returns-in-Some c = text-given (found_of c.args.found.now) (codes "FILE") c.in-Some.path c.in-Some.ensures

pub returns-in-None : goal.returns-in-None
returns-in-None c = text-missing (found_of c.args.found.now) (codes "FILE") _ c.in-None.ensures refl
