use Rattle.std.proofs.Common.{◌≡◌, ℕ, List, [], ◌∷◌, ◌++◌, ◌∙◌, sym, subst, ap, arith, append_assoc, append-nil, rules}
use Rattle.std.proofs.lemmas.Grind.{common_steps}
use Rattle.bh_base.specs.Props.{GroupProps}
use Rattle.bh_look.specs.Watched.{AreNewLanes, Lanes}
use Rattle.bh_look.proofs.Watching.{new_more}
use Rattle.bh_look.proofs.watch.all_lanes.Goals as goal

pub loop-name-preserved : goal.loop-name-preserved
loop-name-preserved c =
    let (done, whole, new) = c.loop-name.invariant in
    let e : List ℕ × GroupProps = (c.in-Some._name.now, c.in-Some.props.now) in
    let iter : c.loop-name._name-iterator ≡ e ∷ c.next.new.self = grind (arith, common_steps) in (
      done ++ e ∷ [],
      whole ∙ ap (λ t. done ++ t) iter ∙ sym (append_assoc done (e ∷ []) c.next.new.self),
      subst (λ (ls : Lanes). AreNewLanes (done ++ e ∷ []) ls) (sym c.in_ok-push.ensures.items) (new_more done e c.loop-name.lanes.items c.in_ok-new_lanes.field-0 new (search rules) c.in_ok-new_lanes.ensures.none),
    )

pub returns : goal.returns
returns c =
    let (done, whole, new) = c.loop-name.invariant in
    let iter : c.loop-name._name-iterator ≡ [] = grind (arith, common_steps) in
    let all : done ≡ c.args.settings.now.groups.entries = sym (whole ∙ ap (λ t. done ++ t) iter ∙ append-nil done) in
    subst (λ gs. AreNewLanes gs c.loop-name.lanes.items) all new
