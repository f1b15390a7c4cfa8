use Rattle.std.proofs.Common.{get_or, ap, ◌∙◌, arith}
use Rattle.json.specs.Run.{is_stop}
use Rattle.bh_replies.proofs.Unescaped.{plain-more}
use Rattle.bh_replies.proofs.pieces.is_plain.Goals as goal

pub loop-byte-preserved : goal.loop-byte-preserved
loop-byte-preserved c =
    plain-more _ _ _ _ (omega arith) c.loop-byte.invariant (c.needs_escape-stops.ensures ∙ ap (λ t. is_stop (get_or t c.loop-byte.byte-index 0)) c.as_bytes-byte-items.ensures.value)
