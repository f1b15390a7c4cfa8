use Rattle.std.proofs.Common.{arith}
use Rattle.json.specs.Print.{escape_byte}
use Rattle.bh_replies.proofs.Counting.{events-text}
use Rattle.bh_replies.proofs.Putting.{put-first, put-none, put-same}
use Rattle.bh_replies.proofs.replies.put_events.Goals as goal

pub returns-in_err-put_counts : goal.returns-in_err-put_counts
returns-in_err-put_counts c =
    put-none _ _ _ _ _ _ _ _ (put-first _ _ _ _ _ _ _ _ _ c.in_ok-put_text.ensures c.in_err-put_counts.ensures) (omega arith) c.from_residual-in_err-put_counts.ensures.0

pub returns : goal.returns
unfolding escape_byte
returns c =
    put-same _ _ _ _ _ _ _ (put-first _ _ _ _ _ _ _ _ _ c.in_ok-put_text.ensures (put-first _ _ _ _ _ _ _ _ _ c.in_ok-put_counts.ensures c.put_text-2.ensures))
    (events-text c.args.counts.now) (omega arith)
