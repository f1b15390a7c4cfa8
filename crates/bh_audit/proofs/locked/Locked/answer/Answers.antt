use Rattle.bh_audit.proofs.locked.Locked.answer.Goals as goal

pub returns-in-Expire-clause-does : goal.returns-in-Expire-clause-does
returns-in-Expire-clause-does g c = rw c.in-Expire.is (c.expire.ensures c.args.reply.now)
