use Rattle.bh_sharing.proofs.locked.Locked.turn.Goals as goal

pub returns-in-GiveBack-clause-does : goal.returns-in-GiveBack-clause-does
returns-in-GiveBack-clause-does g c = rw c.in-GiveBack.is (c.give_back.ensures c.args.reply.now)
