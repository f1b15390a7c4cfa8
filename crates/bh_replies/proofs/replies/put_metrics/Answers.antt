use Rattle.std.proofs.Common.{arith}
use Rattle.bh_replies.proofs.Putting.{put-first, put-none, put-same}
use Rattle.bh_replies.proofs.Texts.{metrics-text}
use Rattle.bh_replies.proofs.replies.put_metrics.Goals as goal

pub returns-in_err-put_with_number-3 : goal.returns-in_err-put_with_number-3
returns-in_err-put_with_number-3 c =
    put-none _ _ _ _ _ _ _ _
    (put-first _ _ _ _ _ _ _ _ _ c.in_ok-put_with_number.ensures
    (put-first _ _ _ _ _ _ _ _ _ c.in_ok-put_with_number-2.ensures
    (put-first _ _ _ _ _ _ _ _ _ c.in_ok-put_text.ensures
    (put-first _ _ _ _ _ _ _ _ _ c.in_ok-put_events.ensures c.in_err-put_with_number-3.ensures))))
    (omega arith) c.from_residual-in_err-put_with_number-3.ensures.0

pub returns-in_err-put_with_number-4 : goal.returns-in_err-put_with_number-4
returns-in_err-put_with_number-4 c =
    put-none _ _ _ _ _ _ _ _
    (put-first _ _ _ _ _ _ _ _ _ c.in_ok-put_with_number.ensures
    (put-first _ _ _ _ _ _ _ _ _ c.in_ok-put_with_number-2.ensures
    (put-first _ _ _ _ _ _ _ _ _ c.in_ok-put_text.ensures
    (put-first _ _ _ _ _ _ _ _ _ c.in_ok-put_events.ensures
    (put-first _ _ _ _ _ _ _ _ _ c.in_ok-put_with_number-3.ensures c.in_err-put_with_number-4.ensures)))))
    (omega arith) c.from_residual-in_err-put_with_number-4.ensures.0

pub returns-in_err-put_with_number-5 : goal.returns-in_err-put_with_number-5
returns-in_err-put_with_number-5 c =
    put-none _ _ _ _ _ _ _ _
    (put-first _ _ _ _ _ _ _ _ _ c.in_ok-put_with_number.ensures
    (put-first _ _ _ _ _ _ _ _ _ c.in_ok-put_with_number-2.ensures
    (put-first _ _ _ _ _ _ _ _ _ c.in_ok-put_text.ensures
    (put-first _ _ _ _ _ _ _ _ _ c.in_ok-put_events.ensures
    (put-first _ _ _ _ _ _ _ _ _ c.in_ok-put_with_number-3.ensures
    (put-first _ _ _ _ _ _ _ _ _ c.in_ok-put_with_number-4.ensures c.in_err-put_with_number-5.ensures))))))
    (omega arith) c.from_residual-in_err-put_with_number-5.ensures.0

pub returns : goal.returns
returns c =
    put-same _ _ _ _ _ _ _
    (put-first _ _ _ _ _ _ _ _ _ c.in_ok-put_with_number.ensures
    (put-first _ _ _ _ _ _ _ _ _ c.in_ok-put_with_number-2.ensures
    (put-first _ _ _ _ _ _ _ _ _ c.in_ok-put_text.ensures
    (put-first _ _ _ _ _ _ _ _ _ c.in_ok-put_events.ensures
    (put-first _ _ _ _ _ _ _ _ _ c.in_ok-put_with_number-3.ensures
    (put-first _ _ _ _ _ _ _ _ _ c.in_ok-put_with_number-4.ensures
    (put-first _ _ _ _ _ _ _ _ _ c.in_ok-put_with_number-5.ensures c.put_numbered.ensures)))))))
    (metrics-text c.args.metrics.now _ c.circuit_front.ensures.text) (omega arith)
