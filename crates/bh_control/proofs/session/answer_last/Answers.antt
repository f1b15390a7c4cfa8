use Rattle.bh_control.proofs.Holding.{last-written}
use Rattle.bh_control.proofs.session.answer_last.Goals as goal

pub returns-clause-outcome : goal.returns-clause-outcome
returns-clause-outcome g c =
    last-written _ _ _ _ _ c.args.answers.now.items c.put_answer.new.out.items _ _ c.write_held.result
    c.in-Some.is c.in_ok-asked.ensures.last c.in_ok-put_answer.ensures.answer c.requires.held c.write_held.ensures.ok c.write_held.ensures.err c.write_held.ensures.front
