use Rattle.bh_desk.proofs.Holding.{last-written}
use Rattle.bh_desk.proofs.session.answer_last.Goals as goal

pub returns-clause-outcome : goal.returns-clause-outcome
returns-clause-outcome g c =
    last-written _ _ _ _ _ _ _ _ c.args.answers.now.items c.answer_line.new.answers.items _ _ c.write_held.result
    c.in-Some.is c.in_ok-asked.ensures.last c.requires.held c.in_ok-answer_line.ensures.outcome c.write_held.ensures.ok c.write_held.ensures.err c.write_held.ensures.front
