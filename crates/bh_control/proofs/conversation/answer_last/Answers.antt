use Rattle.bh_control.proofs.Pieces.{last-found}
use Rattle.bh_control.proofs.conversation.answer_last.Goals as goal

pub returns-clause-last : goal.returns-clause-last
returns-clause-last g c = last-found _ _ _ _ _ _ c.in-Some.is c.in_ok-asked.ensures.last c.in_ok-put_answer.ensures.answer
