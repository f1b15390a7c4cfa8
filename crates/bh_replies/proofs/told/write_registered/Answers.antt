use Rattle.bh_replies.specs.ToldLine.{registered_data}
use Rattle.bh_replies.proofs.Putting.{object-same}
use Rattle.bh_replies.proofs.Rooms.{registered-room}
use Rattle.serde_json.proofs.Texts.{print-outline}
use Rattle.bh_replies.proofs.told.write_registered.Goals as goal

pub returns : goal.returns
returns c = object-same _ _ _ _ _ _ _ c.write_object.ensures (print-outline (registered_data c.args.name.now)) (registered-room c.args.name.now)
