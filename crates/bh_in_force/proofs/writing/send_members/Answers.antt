use Rattle.std.proofs.Common.{arith}
use Rattle.std.proofs.lemmas.List.{at_drop_all}
use Rattle.bh_in_force.specs.Sent.{member_tokens}
use Rattle.bh_in_force.proofs.Sending.{next-sent, next-not_sent, members-left, sent-nothing}
use Rattle.bh_in_force.proofs.writing.send_members.Goals as goal

pub loop-member-init : goal.loop-member-init
loop-member-init c = λ r end sent. sent

pub loop-member-preserved : goal.loop-member-preserved
loop-member-preserved c =
    next-sent _ _ _ _ _ _ _ _ c.loop-member.invariant (members-left c.args.members.now c.loop-member.member-index _ (omega arith)) c.in_ok-send_member.ensures

pub returns-in_err-send_member : goal.returns-in_err-send_member
returns-in_err-send_member c = next-not_sent _ _ _ _ _ _ _ _ c.loop-member.invariant c.in_err-send_member.ensures c.from_residual.ensures.0

pub returns : goal.returns
returns c = c.loop-member.invariant _ _ (rw (at_drop_all member_tokens c.args.members.now c.loop-member.member-index (omega arith)) (sent-nothing tt c.loop-member.writer))
