use Rattle.std.proofs.Common.{arith}
use Rattle.bh_replies.proofs.Putting.{put-first, put-same}
use Rattle.bh_replies.proofs.Texts.{no_value-text}
use Rattle.bh_replies.proofs.replies.put_no_value.Goals as goal

pub returns : goal.returns
returns c =
    put-same _ _ _ _ _ _ _ (put-first _ _ _ _ _ _ _ _ _ c.in_ok-put_text.ensures c.put_text-2.ensures)
    (no_value-text c.args.cause c.args.fallback _ _ c.error_front.ensures.text c.error_back.ensures.text) (omega arith)
