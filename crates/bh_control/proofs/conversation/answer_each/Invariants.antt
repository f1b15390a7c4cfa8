use Rattle.std.proofs.Common.{◌≡◌, length}
use Rattle.bh_control.specs.AnswerLine.{responder}
use Rattle.bh_control.proofs.Pieces.{SoFar}
use Rattle.bh_control.proofs.conversation.answer_each.Given as goal

abbrev pub invariant-loop-answer : goal.invariant-loop-answer
invariant-loop-answer g l =
    (g.C.Control.names l.control ≡ g.C.Control.names l.fn.control)
    × SoFar (responder (g.C.Control.names l.fn.control) g.C.Control.may_show g.C.Control.may_answer g.C.Control.may_close g.C.Control.may_total g.C.Control.may_tune g.C.Control.may_force) l.fn.received l.fn.out.items l.received l.out.items

abbrev pub decreases-loop-answer : goal.decreases-loop-answer
decreases-loop-answer g l = length l.received
