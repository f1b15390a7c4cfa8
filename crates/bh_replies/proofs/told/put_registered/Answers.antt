use Rattle.std.proofs.Common.{arith}
use Rattle.bh_replies.proofs.Putting.{object-put}
use Rattle.bh_replies.proofs.Texts.{registered-text}
use Rattle.bh_replies.proofs.told.put_registered.Goals as goal

pub returns : goal.returns
returns c = object-put _ _ _ _ _ _ _ c.put_around_string.ensures (registered-text c.args.name.now) (omega arith)
