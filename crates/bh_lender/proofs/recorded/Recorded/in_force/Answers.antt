use Rattle.std.proofs.Common.{◌≡◌, ◌∙◌, Some, ap, subst, sym}
use Rattle.std.specs.Prelude.{slice_get}
use Rattle.bh_core.specs.CoreView.{CoreView, living, view_at}
use Rattle.bh_core.proofs.OneOfMany.{shown_living}
use Rattle.bh_in_force.specs.Properties.{in_force_found}
use Rattle.bh_lender.specs.Recorded.{RecordedView}
use Rattle.bh_lender.proofs.recorded.Recorded.in_force.Goals as goal

pub returns-in-Some-clause-known : goal.returns-in-Some-clause-known
returns-in-Some-clause-known c = λ v shown.
    let same : c.core-core.result.now ≡ c.args.self.now.groups = c.core-core.ensures ∙ ap (λ (r : RecordedView). r.groups) c.self.view_is in
    let P : CoreView → Type 0 = λ groups. view_at groups c.args.group.0 ≡ Some v in
    let life = shown_living (slice_get c.core-core.result.now.lives c.args.group.0) v (subst P (sym same) shown) in
    c.find.ensures ∙ ap (in_force_found c.args.command) (c.in-Some.ensures.known (living v) life).0
