use Rattle.std.proofs.Common.{rules}
use Rattle.bh_control.specs.AnswerLine.{responder}
use Rattle.bh_control.proofs.Pieces.{fed-refused}
use Rattle.bh_control.proofs.conversation.Conversation.feed.Goals as goal

pub returns-in-Err-Line-clause-fed : goal.returns-in-Err-Line-clause-fed
returns-in-Err-Line-clause-fed g c = λ going.
    let who = responder (g.C.Control.names c.args.control.now) g.C.Control.may_show g.C.Control.may_answer g.C.Control.may_close g.C.Control.may_total g.C.Control.may_tune g.C.Control.may_force in
    fed-refused who _ c.push.new.self c.new-out.result.items c.answer_each.new.received _ c.in-Err-Line.field-0 c.answer_each.new.out c.unless_empty.result
    c.in-Err-Line.ensures.each c.in-Err-Line.field-0-is c.new-out.ensures.items (search rules) c.unless_empty.ensures
