use Rattle.std.proofs.Common.{◌≡◌, ◌∙◌, ap}
use Rattle.bh_core.specs.CoreView.{view_at}
use Rattle.bh_lender.specs.Lender.{LenderView}
use Rattle.bh_lender.specs.Looks.{in_force_at}
use Rattle.bh_lender.proofs.Looking.{either_shown}
use Rattle.bh_lender.proofs.lender.Lender.in_force.Goals as goal

pub returns : goal.returns
returns c =
    either_shown (view_at c.self.inside.core.groups c.args.group.0) c.args.command c.in_force.result c.in_force.ensures.known c.in_force.ensures.unknown
    ∙ ap (λ (v : LenderView). in_force_at v.recorded.groups c.args.group.0 c.args.command) c.self.view_is
