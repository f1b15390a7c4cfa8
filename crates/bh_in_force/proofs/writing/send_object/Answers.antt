use Rattle.bh_in_force.proofs.Sending.{sent-first, sent-one}
use Rattle.bh_in_force.proofs.writing.send_object.Goals as goal

pub returns : goal.returns
returns c =
    sent-first _ _ _ _ _ _ _ (sent-one _ _ _ _ c.in_ok-begin_object.ensures)
    (sent-first _ _ _ _ _ _ _ (sent-one _ _ _ _ c.in_ok-key.ensures)
    (sent-first _ _ _ _ _ _ _ c.in_ok-send_inner.ensures
    (sent-first _ _ _ _ _ _ _ c.in_ok-send_word.ensures (sent-one _ _ _ _ c.end_object.ensures))))
