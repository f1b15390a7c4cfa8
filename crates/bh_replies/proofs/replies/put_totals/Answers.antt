use Rattle.std.proofs.Common.{arith}
use Rattle.bh_replies.proofs.Putting.{put-first, put-none, put-same}
use Rattle.bh_replies.proofs.Texts.{totals-text}
use Rattle.bh_replies.proofs.replies.put_totals.Goals as goal

pub returns : goal.returns
returns c =
    put-same _ _ _ _ _ _ _ (put-first _ _ _ _ _ _ _ _ _ c.in_ok-put_text.ensures (put-first _ _ _ _ _ _ _ _ _ c.in_ok-put_events.ensures c.put_text-2.ensures))
    (totals-text c.args.counts.now) (omega arith)
