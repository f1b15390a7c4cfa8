use Rattle.std.proofs.Common.{◌∙◌, ap}
use Rattle.bh_in_force.proofs.Sending.{object-sent}
use Rattle.bh_in_force.proofs.writing.write_object.Goals as goal

pub returns : goal.returns
returns c =
    object-sent _ _ _ _ _ _ c.send_object-sent.ensures (c.new-writer.ensures.before ∙ ap (λ v. v.items) c.replace.ensures.value) c.new-writer.ensures.tokens c.into_inner.ensures.items
