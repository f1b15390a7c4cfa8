use Rattle.std.proofs.Common.{◌≡◌, ℕ, List, [], ◌∷◌, ◌++◌, ◌∙◌, sym, ap, arith, append_assoc, append-nil, map}
use Rattle.std.proofs.lemmas.Grind.{common_steps}
use Rattle.bh_base.specs.Props.{GroupProps}
use Rattle.bh_props.specs.Shown.{settings_view}
use Rattle.bh_port.proofs.Opening.{opened_life, open-more}
use Rattle.bh_port.proofs.script.open.Goals as goal

pub loop-name-preserved : goal.loop-name-preserved
loop-name-preserved c =
    let (done, whole, views) = c.loop-name.invariant in
    let e : List ℕ × GroupProps = (c.in-Some._name.now, c.in-Some.props.now) in
    let iter : c.loop-name._name-iterator ≡ e ∷ c.next.new.self = grind (arith, common_steps) in (
      done ++ e ∷ [],
      whole ∙ ap (λ t. done ++ t) iter ∙ sym (append_assoc done (e ∷ []) c.next.new.self),
      open-more (settings_view c.args.settings.now) done e c.loop-name.core c.register.new.self _ c.step_limit-limit.ensures views c.in-Ok.ensures.added,
    )

pub returns-clause-opened : goal.returns-clause-opened
returns-clause-opened c =
    let (done, whole, views) = c.loop-name.invariant in
    let iter : c.loop-name._name-iterator ≡ [] = grind (arith, common_steps) in
    let all : done ≡ c.args.settings.now.groups.entries = sym (whole ∙ ap (λ t. done ++ t) iter ∙ append-nil done) in
    views ∙ ap (λ gs. record { slot_limit = 4_294_967_295; lives = map (opened_life (settings_view c.args.settings.now)) gs }) all
