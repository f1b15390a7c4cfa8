use Rattle.std.proofs.Common.{◌≡◌, ◌+◌, ◌<◌, ◌≤◌, ◌∙◌, ◌⊎◌, ◌++◌, ◌∷◌, [], ℕ, List, inl, inr, None, Some, ap, arith, length, length-append, refl, subst, sym}
use Rattle.std.specs.Prelude.{slice_get}
use Rattle.std.specs.Option.{option_map_or}
use Rattle.std.proofs.lemmas.Option.{slice_get_within}
use Rattle.bh_base.specs.Commands.{command_count}
use Rattle.bh_base.specs.Props.{GroupProps}
use Rattle.bh_port.proofs.Keeping.{either}
use Rattle.bh_port.proofs.Lists.{push_before, push_here}
use Rattle.bh_look.specs.Tallies.{sum_up_to}
use Rattle.bh_props.specs.Shown.{settings_view}
use Rattle.bh_columns.specs.Layouts.{lanes_of}
use Rattle.bh_columns.specs.Placed.{IsEmptyPanel}
use Rattle.bh_columns.specs.declared.panel.KeptPanel.{KeptPanel}
use Rattle.bh_columns.proofs.Coming.{some_same}
use Rattle.bh_columns.proofs.Laying.{laid_left_out, laid_more}
use Rattle.bh_columns.proofs.kept.Kept.new_panel.Goals as goal
use Rattle.bh_columns.proofs.kept.Kept.new_panel.Goals.{then-lanes-gt-MOST_LANES-via-then-lanes-gt-MOST_LANES, then-lanes-gt-MOST_LANES-via-else-lanes-gt-MOST_LANES+then-self-gt0}

pub returns-then-lanes-gt-MOST_LANES : goal.returns-then-lanes-gt-MOST_LANES
returns-then-lanes-gt-MOST_LANES c = λ selected none.
    let was = c.args.self.now in
    let service = settings_view c.args.settings.now in
    let many : lanes_of service c.args.like ≡ length c.props.inside.commands.items = ap (λ o. option_map_or (λ (g : List ℕ × GroupProps). command_count g.1) o 0) (sym c.in-Some.ensures.entry) ∙ sym (ap (λ (p : GroupProps). command_count p) c.props.view_is) in
    let past : (1_000 < was.lanes + lanes_of service c.args.like) ⊎ (0 < was.left_out) = elim c.then-lanes-gt-MOST_LANES.branch [
      | then-lanes-gt-MOST_LANES-via-then-lanes-gt-MOST_LANES w ↦ inl (omega (arith, many, c.len.ensures, c.saturating_add-lanes.ensures, w.if-lanes-gt-MOST_LANES.true))
      | then-lanes-gt-MOST_LANES-via-else-lanes-gt-MOST_LANES+then-self-gt0 w ↦ inr (omega (arith, w.if-self-gt0.true))
    ] in
    let more : c.saturating_add-self.result ≡ sum_up_to was.left_out 1 = c.saturating_add-self.ensures in
    record {
      places = refl;
      selection = refl;
      width = refl;
      extent = refl;
      left = λ empty. absurd (omega (arith, empty, more));
      laid_out = λ l listed laid. laid_left_out service was.selection c.args.name c.args.like l was laid _ selected none past refl refl more;
      stay = λ p panel at. at;
      more = λ p panel at. inl at;
      found = λ p is. absurd (let both : None ≡ Some p = is in cc);
      none = λ listed is kept. ((λ empty. absurd (omega (arith, empty, more))), none);
    }

pub returns : goal.returns
returns c = λ selected none.
    let panels = c.args.self.now.panels.items in
    let panel : KeptPanel = c.in_ok-panel.panel in
    let items : c.push.new.self.items ≡ panels ++ panel ∷ [] = c.in_ok-push.ensures.items in
    let count : c.len-place.result ≡ length panels = omega (arith, c.len-place.ensures) in
    record {
      places = refl;
      selection = refl;
      width = refl;
      extent = refl;
      left = λ is. is;
      laid_out = λ l listed laid.
          let service = settings_view c.args.settings.now in
          let many : lanes_of service c.args.like ≡ length c.props.inside.commands.items = ap (λ o. option_map_or (λ (g : List ℕ × GroupProps). command_count g.1) o 0) (sym c.in-Some.ensures.entry) ∙ sym (ap (λ (p : GroupProps). command_count p) c.props.view_is) in
          let few : c.args.self.now.lanes + lanes_of service c.args.like ≤ 1_000 = omega (arith, many, c.len.ensures, c.saturating_add-lanes.ensures, c.if-lanes-gt-MOST_LANES.false) in
          let sum : c.saturating_add-lanes.result ≡ c.args.self.now.lanes + lanes_of service c.args.like = omega (arith, few, many, c.len.ensures, c.saturating_add-lanes.ensures) in
          laid_more service c.args.self.now.selection c.args.name c.args.like l c.args.self.now laid _ panel selected none few (omega (arith, c.if-self-gt0.false)) items c.in_ok-panel.ensures.named sum refl;
      stay = λ p next at.
          let inside = slice_get_within panels p next at in
          ap (λ ps. slice_get ps p) items ∙ push_before panels panel p inside ∙ at;
      more = λ p next at. elim (either p (length panels)) [
        | inl last ↦ (
            let here : slice_get (panels ++ panel ∷ []) p ≡ Some panel = ap (slice_get (panels ++ panel ∷ [])) last ∙ push_here panels panel in
            let both : Some panel ≡ Some next = sym here ∙ sym (ap (λ ps. slice_get ps p) items) ∙ at in
            let same : panel ≡ next = cc in
            inr (
              ap (λ k. Some k) (count ∙ sym last),
              record {
                last = last;
                named = record { group = ap (λ (q : KeptPanel). q.group) (sym same) ∙ c.in_ok-panel.ensures.named.group; like = ap (λ (q : KeptPanel). q.like) (sym same) ∙ c.in_ok-panel.ensures.named.like };
                chosen = selected;
                none_left = omega (arith, c.if-self-gt0.false);
                none = none;
                fit = λ props listed. (
                    let found : Some (c.in-Some._name.now, c.in-Some.props.now) ≡ Some props = c.in-Some.ensures.entry ∙ listed in
                    let pair : (c.in-Some._name.now, c.in-Some.props.now) ≡ props = some_same (c.in-Some._name.now, c.in-Some.props.now) props found in
                    let commands = ap (λ (l : List ℕ × GroupProps). command_count l.1) pair in
                    record {
                      lanes = ap (λ (q : KeptPanel). length q.lanes.items) (sym same) ∙ c.in_ok-panel.ensures.lanes ∙ commands;
                      steps = ap (λ (q : KeptPanel). length q.steps.items) (sym same) ∙ c.in_ok-panel.ensures.steps ∙ commands;
                    });
                empty = subst IsEmptyPanel same c.in_ok-panel.ensures.empty;
              },
            ))
        | inr differ ↦ (
            let all : p < length (panels ++ panel ∷ []) = slice_get_within (panels ++ panel ∷ []) p next (sym (ap (λ ps. slice_get ps p) items) ∙ at) in
            let inside : p < length panels = omega (arith, all, differ, length-append panels (panel ∷ [])) in
            inl (sym (push_before panels panel p inside) ∙ sym (ap (λ ps. slice_get ps p) items) ∙ at))
      ];
      found = λ p is.
          let same : c.len-place.result ≡ p = cc in
          (panel, ap (λ ps. slice_get ps p) items ∙ ap (slice_get (panels ++ panel ∷ [])) (sym same ∙ count) ∙ push_here panels panel, c.in_ok-panel.ensures.named);
      none = λ listed is. absurd (let both : Some c.len-place.result ≡ None = is in cc);
    }
