use Rattle.std.proofs.Common.{arith}
use Rattle.bh_replies.proofs.Putting.{object-put, put-first}
use Rattle.bh_replies.proofs.Texts.{own_run-text}
use Rattle.bh_replies.proofs.replies.put_own_run.Goals as goal

pub returns : goal.returns
returns c =
    object-put _ _ _ _ _ _ _ (put-first _ _ _ _ _ _ _ _ _ c.in_ok-put_with_string.ensures c.put_numbered.ensures) (own_run-text c.args.ticket c.args.arg.now) (omega arith)
