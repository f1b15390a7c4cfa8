use Rattle.std.proofs.Common.{◌≡◌, ◌*◌, rules, subst, sym}
use Rattle.bh_columns.specs.Tracks.{IsWithin, tenth}
use Rattle.bh_columns.proofs.Within.{wider_within}
use Rattle.bh_columns.proofs.grid.Grid.widen.Goals as goal

pub returns-clause-within : goal.returns-clause-within
returns-clause-within c = λ f fill within.
    let g = c.args.self.now in
    let wide : c.in-Some.width ≡ g.width * 10 = search rules in
    subst (λ e. IsWithin e c.in-Some.width f) (sym c.tenth-self.ensures)
    (subst (λ w. IsWithin (tenth g.extent) w f) (sym wide) (wider_within g.extent g.width f fill within))
