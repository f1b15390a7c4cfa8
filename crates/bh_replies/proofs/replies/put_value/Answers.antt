use Rattle.std.proofs.Common.{arith}
use Rattle.bh_replies.proofs.Putting.{object-put}
use Rattle.bh_replies.proofs.Texts.{value-text}
use Rattle.bh_replies.proofs.replies.put_value.Goals as goal

pub returns : goal.returns
returns c = object-put _ _ _ _ _ _ _ c.put_around_string.ensures (value-text c.args.body.now) (omega arith)
