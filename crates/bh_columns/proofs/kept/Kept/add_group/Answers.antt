use Rattle.std.proofs.Common.{◌∙◌, ◌++◌, ◌∷◌, [], ℕ, Option, ap}
use Rattle.std.specs.Prelude.{Vec}
use Rattle.std.specs.declared.alloc.Global.{Global}
use Rattle.bh_props.specs.Shown.{settings_view}
use Rattle.bh_columns.proofs.Coming.{kept_more}
use Rattle.bh_columns.proofs.kept.Kept.add_group.Goals as goal

pub returns : goal.returns
returns c = λ sel course fills listed before kept.
    kept_more (settings_view c.args.settings.now) sel c.args.self.now c.panel_for.new.self _ course fills c.args.name c.args.like c.in_ok-place.place listed before kept c.in_ok-place.ensures
    c.begin_life.ensures.panels (c.in_ok-push.ensures.items ∙ ap (λ (w : Vec (Option ℕ) Global). w.items ++ c.in_ok-place.place ∷ []) c.begin_life.ensures.places) c.begin_life.ensures.selection (ap (λ g. g.width) c.begin_life.ensures.grid) (ap (λ g. g.extent) c.begin_life.ensures.grid) c.begin_life.ensures.lanes c.begin_life.ensures.left_out
