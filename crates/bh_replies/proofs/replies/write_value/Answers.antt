use Rattle.bh_replies.specs.ReplyLine.{value_data}
use Rattle.bh_replies.proofs.Putting.{object-same}
use Rattle.bh_replies.proofs.Rooms.{value-room}
use Rattle.serde_json.proofs.Texts.{print-outline}
use Rattle.bh_replies.proofs.replies.write_value.Goals as goal

pub returns : goal.returns
returns c = object-same _ _ _ _ _ _ _ c.write_object.ensures (print-outline (value_data c.args.body.now)) (value-room c.args.body.now)
