use Rattle.std.proofs.Common.{◌∙◌, ap, arith}
use Rattle.bh_replies.proofs.Sending.{object-sent}
use Rattle.bh_replies.proofs.writing.write_object.Goals as goal

pub returns : goal.returns
returns c =
    let taken = c.replace.ensures.value in
    object-sent _ _ _ c.args.bytes.now _ _ c.send_object-sent.ensures (c.new-writer.ensures.before ∙ ap (λ v. v.items) taken) c.new-writer.ensures.tokens
    (rw (c.new-writer.ensures.spare, taken) (omega arith)) c.into_inner.ensures.items
