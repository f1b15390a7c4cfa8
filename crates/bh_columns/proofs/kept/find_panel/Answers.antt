use Rattle.std.proofs.Common.{◌≡◌, ◌∙◌, inl, inr, Some, ap, arith, length, refl, subst, sym}
use Rattle.std.specs.Prelude.{slice_get}
use Rattle.std.proofs.lemmas.Option.{slice_get_read, slice_get_within}
use Rattle.bh_port.proofs.Keeping.{either}
use Rattle.bh_columns.specs.Recorded.{IsPanelOf}
use Rattle.bh_columns.specs.declared.panel.KeptPanel.{KeptPanel}
use Rattle.bh_columns.proofs.kept.find_panel.Goals as goal

pub returns-then-is_of : goal.returns-then-is_of
returns-then-is_of c =
    let panels = c.args.panels.now in
    let was : KeptPanel = c.index-panels-place.result in
    (was, slice_get_read panels (length panels) c.loop-place.place was refl c.loop-place-test.true c.index-panels-place.is, c.is_of.ensures.own c.if-is_of.true)

pub loop-place-preserved : goal.loop-place-preserved
loop-place-preserved c = λ p panel below found is.
    let panels = c.args.panels.now in
    let n = c.loop-place.place in
    let was : KeptPanel = c.index-panels-place.result in
    let at : slice_get panels n ≡ Some was = slice_get_read panels (length panels) n was refl c.loop-place-test.true c.index-panels-place.is in
    elim (either p n) [
      | inl same ↦ (
          let both : Some panel ≡ Some was = sym found ∙ ap (slice_get panels) same ∙ at in
          let one : panel ≡ was = cc in
          c.is_of.ensures.other c.if-is_of.false (subst (IsPanelOf c.args.group.now c.args.like) one is))
      | inr differ ↦ c.loop-place.invariant p panel (omega (arith, below, differ)) found is
    ]

pub returns : goal.returns
returns c = λ p panel found is.
    let inside = slice_get_within c.args.panels.now p panel found in
    c.loop-place.invariant p panel (omega (arith, inside, c.loop-place-test.false)) found is
