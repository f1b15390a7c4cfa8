use Rattle.std.proofs.Common.{drop}
use Rattle.bh_in_force.specs.Sent.{member_tokens}
use Rattle.bh_in_force.proofs.Sending.{Leaves}
use Rattle.bh_in_force.proofs.writing.send_members.Given as goal

abbrev pub invariant-loop-member : goal.invariant-loop-member
invariant-loop-member l = Leaves l.fn.writer l.writer (member_tokens (drop l.member-index l.members)) (member_tokens l.members)
