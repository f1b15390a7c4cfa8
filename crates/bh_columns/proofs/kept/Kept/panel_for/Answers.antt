use Rattle.std.proofs.Common.{◌≡◌, ◌∙◌, inl, None, Some, ap, refl, rules, sym}
use Rattle.std.specs.Prelude.{slice_get}
use Rattle.bh_props.specs.Shown.{settings_view}
use Rattle.bh_columns.proofs.Laying.{laid_found, laid_unselected}
use Rattle.bh_columns.proofs.kept.Kept.panel_for.Goals as goal

pub returns-in-Some : goal.returns-in-Some
returns-in-Some c = record {
  places = refl;
  selection = refl;
  width = refl;
  extent = refl;
  left = λ none. none;
  laid_out = λ l listed laid.
      let (panel, at, named) = c.in-Some.ensures in
      laid_found (settings_view c.args.settings.now) c.args.self.now.selection c.args.name c.args.like l c.args.self.now laid c.in-Some.place panel (ap (λ ps. slice_get ps c.in-Some.place) (sym c.as_slice.ensures.value) ∙ at) named;
  stay = λ p panel at. at;
  more = λ p panel at. inl at;
  found = λ p is.
      let same : c.in-Some.place ≡ p = cc in
      let (panel, at, named) = c.in-Some.ensures in
      (panel, ap (slice_get c.args.self.now.panels.items) (sym same) ∙ ap (λ ps. slice_get ps c.in-Some.place) (sym c.as_slice.ensures.value) ∙ at, named);
  none = λ listed is. absurd (let both : Some c.in-Some.place ≡ None = is in cc);
}

pub returns-then-not-keeps_group : goal.returns-then-not-keeps_group
returns-then-not-keeps_group c = record {
  places = refl;
  selection = refl;
  width = refl;
  extent = refl;
  left = λ none. none;
  laid_out = λ l listed laid. laid_unselected (settings_view c.args.settings.now) c.args.self.now.selection c.args.name c.args.like l c.args.self.now laid (search rules);
  stay = λ p panel at. at;
  more = λ p panel at. inl at;
  found = λ p is. absurd (let both : None ≡ Some p = is in cc);
  none = search rules;
}
