use Rattle.std.proofs.Common.{arith}
use Rattle.bh_replies.proofs.Putting.{object-put, put-first}
use Rattle.bh_replies.proofs.Texts.{run-text}
use Rattle.bh_replies.proofs.replies.put_run.Goals as goal

pub returns : goal.returns
returns c =
    object-put _ _ _ _ _ _ _
    (put-first _ _ _ _ _ _ _ _ _ c.in_ok-put_with_string.ensures (put-first _ _ _ _ _ _ _ _ _ c.in_ok-put_with_string-2.ensures c.put_numbered.ensures))
    (run-text c.args.ticket c.args.name.now c.args.arg.now) (omega arith)
