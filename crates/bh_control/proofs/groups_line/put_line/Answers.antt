use Rattle.std.proofs.Common.{◌∙◌, ◌∷◌, [], ◌++◌, ap}
use Rattle.bh_control.proofs.Listed.{groups-put}
use Rattle.bh_control.proofs.groups_line.put_line.Goals as goal

pub returns-clause-ok : goal.returns-clause-ok
returns-clause-ok c =
    c.in_ok-push.ensures.items
    ∙ ap (λ s. s ++ 10 ∷ []) c.into_inner.ensures.items
    ∙ groups-put c.args.out.now.items _ _ _ c.args.names.now
    (c.in_ok-sent.ensures.before ∙ c.new-writer.ensures.before ∙ ap (λ v. v.items) c.replace.ensures.value) c.new-writer.ensures.tokens c.in_ok-sent.ensures.sent
