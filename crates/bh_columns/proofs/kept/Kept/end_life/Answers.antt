use Rattle.std.proofs.Common.{◌≡◌, Some, length, refl}
use Rattle.std.specs.Prelude.{slice_get}
use Rattle.std.proofs.lemmas.Option.{slice_get_read}
use Rattle.bh_columns.specs.declared.panel.KeptPanel.{KeptPanel}
use Rattle.bh_columns.proofs.Lists.{each_one}
use Rattle.bh_columns.proofs.Going.{SamePanelBut}
use Rattle.bh_columns.proofs.kept.Kept.end_life.Goals as goal

pub returns-in-Some : goal.returns-in-Some
returns-in-Some c =
    let panels = c.args.self.now.panels.items in
    let n = c.in-Some.place in
    let was : KeptPanel = c.index_mut.result.now in
    let at : slice_get panels n ≡ Some was = slice_get_read panels (length panels) n was refl c.in-Some.ensures.1 c.index_mut.ensures.value in
    record {
      panels = each_one panels n was c.end_life.new.self (λ p panel next. SamePanelBut panel next) at (c.end_life.ensures.lanes, c.end_life.ensures.steps, c.end_life.ensures.group, c.end_life.ensures.like) (λ p panel differ. (refl, refl, refl, refl));
      places = refl;
      selection = refl;
      width = refl;
      extent = refl;
      lanes = refl;
      left_out = refl;
    }
