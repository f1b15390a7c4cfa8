use Rattle.std.proofs.Common.{Some, arith}
use Rattle.bh_replies.specs.ReplyLine.{assigned_data}
use Rattle.bh_replies.proofs.Putting.{object-same}
use Rattle.bh_replies.proofs.Rooms.{run-room}
use Rattle.serde_json.proofs.Texts.{print-outline}
use Rattle.bh_replies.proofs.replies.write_run.Goals as goal

pub returns : goal.returns
returns c = object-same _ _ _ _ _ _ _ c.write_object.ensures (print-outline (assigned_data c.args.ticket (Some c.args.name.now) c.args.arg.now)) (run-room c.args.ticket c.args.name.now c.args.arg.now (omega arith))
