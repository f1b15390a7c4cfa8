use Rattle.std.proofs.Common.{◌∙◌}
use Rattle.std.proofs.lemmas.Grind.{merely}
use Rattle.bh_props.specs.Shown.{settings_view}
use Rattle.bh_share_serve.proofs.share.shared_groups.Goals as goal

pub invariant_of-opening : goal.invariant_of-opening
invariant_of-opening g c = merely (settings_view c.args.settings.now, c.in-Ok-new.ensures.groups ∙ c.in-Ok.ensures.opened)
