use Rattle.std.proofs.Common.{refl}
use Rattle.bh_slot_arena.proofs.Beside.{links_stay, number_written}
use Rattle.bh_slot_arena.proofs.nodes.set_number.Goals as goal

pub returns-clause-links : goal.returns-clause-links
returns-clause-links c = links_stay c.args.nodes.now c.args.slot _ _ c.requires refl

pub returns-clause-numbers : goal.returns-clause-numbers
returns-clause-numbers c = number_written c.args.nodes.now c.args.slot _
