use Rattle.bh_replies.proofs.Rooms.{fallback_value-sent}
use Rattle.bh_replies.proofs.replies.write_fallback_value.Goals as goal

pub returns : goal.returns
returns c = fallback_value-sent _ _ _ c.args.cause c.args.body.now _ c.cause_word.ensures c.write_object.ensures
