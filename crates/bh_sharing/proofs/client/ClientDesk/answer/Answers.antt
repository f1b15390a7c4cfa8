use Rattle.bh_sharing.proofs.Told.{told-turn}
use Rattle.bh_sharing.proofs.client.ClientDesk.answer.Goals as goal

pub returns-in-Step : goal.returns-in-Step
returns-in-Step g c =
    rw c.in-Step.is
    (told-turn g.S.Service.facts g.P.Presence.gone c.args.self.now c.answer_step.new.self c.in-Step.group c.in-Step.op c.in-Step.wait c.args.out.now.items c.answer_step.new.out.items c.answer_step.result
    c.answer_step.ensures.turn c.answer_step.ensures.names)
