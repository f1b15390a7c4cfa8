use Rattle.bh_replies.proofs.Sending.{sent-first, sent-none, sent-one}
use Rattle.bh_replies.proofs.writing.send_number.Goals as goal

pub returns-in_err-key : goal.returns-in_err-key
returns-in_err-key c = sent-none _ _ _ _ _ _ (sent-one _ _ _ _ c.in_err-key.ensures) c.from_residual.ensures.0

pub returns : goal.returns
returns c = sent-first _ _ _ _ _ _ _ (sent-one _ _ _ _ c.in_ok-key.ensures) (sent-one _ _ _ _ c.u64.ensures)
