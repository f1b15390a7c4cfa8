use Rattle.std.proofs.Common.{arith}
use Rattle.bh_sharing.proofs.Listing.{each-next}
use Rattle.bh_sharing.proofs.line_object.object_of.Goals as goal

pub loop-member-preserved : goal.loop-member-preserved
loop-member-preserved c =
    each-next c.args.members.now c.loop-member.member-index _ _ _ _ (omega (arith, c.loop-member-test.true)) c.loop-member.invariant c.in_ok-put_member.ensures
