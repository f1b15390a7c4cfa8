use Rattle.std.proofs.Common.{◌≡◌, ◌<◌, ◌∙◌, None, Some, arith, length, refl, rules, set, subst, sym}
use Rattle.std.specs.Prelude.{slice_get}
use Rattle.std.proofs.lemmas.Option.{slice_get_read, slice_get_within}
use Rattle.bh_columns.specs.Panels.{EachAt}
use Rattle.bh_columns.specs.Placed.{IsBegunAt}
use Rattle.bh_columns.specs.declared.panel.KeptPanel.{KeptPanel}
use Rattle.bh_columns.proofs.Beginning.{none_begun, one_begun}
use Rattle.bh_columns.proofs.kept.Kept.begin_life.Goals as goal

pub returns-in_default-clause-panels : goal.returns-in_default-clause-panels
returns-in_default-clause-panels c =
    let none : c.args.place ≡ None = search rules in
    none_begun c.args.self.now.panels.items c.args.place (λ p panel at is. let both : None ≡ Some p = sym none ∙ is in absurd cc)

pub returns-then-panel-len-clause-panels : goal.returns-then-panel-len-clause-panels
returns-then-panel-len-clause-panels c =
    let panels = c.args.self.now.panels.items in
    let n = c.in-Some.panel in
    let was : KeptPanel = c.index_mut.result.now in
    let inside : n < length panels = omega (arith, c.if-panel-len.true, c.len.ensures) in
    let at : slice_get panels n ≡ Some was = slice_get_read panels (length panels) n was refl inside c.index_mut.ensures.value in
    subst (λ o. EachAt panels (set panels n c.begin_life.new.self) (λ p a b. IsBegunAt o p a b)) (sym c.in-Some.is)
    (one_begun panels n was c.begin_life.new.self at c.begin_life.ensures.lanes c.begin_life.ensures.steps c.begin_life.ensures.group c.begin_life.ensures.like)

pub returns-else-panel-len-clause-panels : goal.returns-else-panel-len-clause-panels
returns-else-panel-len-clause-panels c =
    let panels = c.args.self.now.panels.items in
    let n = c.in-Some.panel in
    none_begun panels c.args.place (λ p panel at is.
    let both : Some n ≡ Some p = sym c.in-Some.is ∙ is in
    let same : n ≡ p = cc in
    let inside = slice_get_within panels p panel at in
    absurd (omega (arith, inside, same, c.if-panel-len.false, c.len.ensures)))
