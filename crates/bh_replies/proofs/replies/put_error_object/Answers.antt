use Rattle.std.proofs.Common.{arith}
use Rattle.bh_replies.specs.FaultLine.{error_data}
use Rattle.bh_replies.proofs.Putting.{object-put, object-same}
use Rattle.bh_replies.proofs.Rooms.{error-room}
use Rattle.bh_replies.proofs.Texts.{error-text}
use Rattle.serde_json.proofs.Texts.{print-outline}
use Rattle.bh_replies.proofs.replies.put_error_object.Goals as goal

pub returns-then-not-is_plain : goal.returns-then-not-is_plain
returns-then-not-is_plain c = object-same _ _ _ _ _ _ _ c.write_object.ensures (print-outline (error_data c.args.why.now)) (error-room c.args.why.now)

pub returns : goal.returns
returns c = object-put _ _ _ _ _ _ _ c.put_around_string.ensures (error-text c.args.why.now) (omega arith)
