use Rattle.bh_in_force.proofs.Sending.{sent-first, sent-none, sent-one}
use Rattle.bh_in_force.proofs.writing.send_inner.Goals as goal

pub returns-in_err-begin_object : goal.returns-in_err-begin_object
returns-in_err-begin_object c = sent-none _ _ _ _ _ _ (sent-one _ _ _ _ c.in_err-begin_object.ensures) c.from_residual.ensures.0

pub returns-in_err-send_members : goal.returns-in_err-send_members
returns-in_err-send_members c =
    sent-first _ _ _ _ _ _ _ (sent-one _ _ _ _ c.in_ok-begin_object.ensures) (sent-none _ _ _ _ _ _ c.in_err-send_members.ensures c.from_residual-in_err-send_members.ensures.0)

pub returns : goal.returns
returns c =
    sent-first _ _ _ _ _ _ _ (sent-one _ _ _ _ c.in_ok-begin_object.ensures) (sent-first _ _ _ _ _ _ _ c.in_ok-send_members.ensures (sent-one _ _ _ _ c.end_object.ensures))
