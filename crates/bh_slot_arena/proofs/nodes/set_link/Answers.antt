use Rattle.std.proofs.Common.{refl}
use Rattle.bh_slot_arena.proofs.Beside.{link_written, numbers_stay}
use Rattle.bh_slot_arena.proofs.nodes.set_link.Goals as goal

pub returns-clause-links : goal.returns-clause-links
returns-clause-links c = link_written c.args.nodes.now c.args.slot _

pub returns-clause-numbers : goal.returns-clause-numbers
returns-clause-numbers c = numbers_stay c.args.nodes.now c.args.slot _ _ c.requires refl
