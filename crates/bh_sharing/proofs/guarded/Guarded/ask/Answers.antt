use Rattle.bh_sharing.proofs.guarded.Guarded.ask.Goals as goal

pub returns : goal.returns
returns g c = (_, c.turn.new.self, c.turn.ensures.of, c.turn.ensures.does)
