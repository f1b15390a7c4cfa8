use Rattle.std.proofs.Common.{◌∙◌, codes, sym}
use Rattle.clap.specs.Words.{found_of}
use Rattle.clap.proofs.WalkLemmas.{first_value-rows}
use Rattle.bh_arguments.proofs.invocation.place_in.Goals as goal

pub returns-in-Some : goal.returns-in-Some
returns-in-Some c = sym (first_value-rows (found_of c.args.found.now) (codes "socket")) ∙ sym c.in-Some.ensures

pub returns-in-None : goal.returns-in-None
returns-in-None c = (sym (first_value-rows (found_of c.args.found.now) (codes "socket")) ∙ sym c.in-None.ensures, c.u16_in.ensures)
