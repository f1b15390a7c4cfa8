use Rattle.std.proofs.Common.{arith}
use Rattle.bh_replies.proofs.Putting.{object-put}
use Rattle.bh_replies.proofs.Texts.{fallback_value-text}
use Rattle.bh_replies.proofs.replies.put_fallback_value.Goals as goal

pub returns : goal.returns
returns c =
    object-put _ _ _ _ _ _ _ c.put_around_string.ensures (fallback_value-text c.args.cause c.args.body.now _ c.fallback_value_back.ensures.text)
    (omega (arith, c.fallback_value_back.ensures.short))
