use Rattle.std.proofs.Common.{◌≡◌, ◌<◌, ◌+◌, ℕ, List, [], ◌∷◌, ◌++◌, ◌∙◌, map, length, slice_index, get_or, IfSome, sym, ap, subst, arith, append_assoc, length-append, refl, rules}
use Rattle.std.proofs.Output.{has_written_append, has_written_of_eq}
use Rattle.std.proofs.lemmas.Grind.{common_steps}
use Rattle.bh_base.specs.Commands.{command_count}
use Rattle.bh_base.specs.Props.{GroupProps}
use Rattle.bh_props.specs.ByGroup.{AreByGroup}
use Rattle.bh_props.specs.Printed.{group_lines}
use Rattle.bh_props.specs.Shown.{settings_view}
use Rattle.bh_props.proofs.Each.{rows-next, index-behind}
use Rattle.bh_props.proofs.print.SettingsDisplay.fmt.Goals as goal
use Rattle.bh_props.proofs.print.SettingsDisplay.fmt.Goals.{then-place-eq0, else-place-eq0}

grown : (done : List (List ℕ × GroupProps)) (e : List ℕ × GroupProps) (place : ℕ) → place ≡ length done → place + 1 ≡ length (done ++ e ∷ [])
grown done e place at = omega (arith, length-append done (e ∷ []))

pub write_commands-requires-clause-known : goal.write_commands-requires-clause-known
write_commands-requires-clause-known g c =
    let (done, whole, at, gathered, written) = c.loop-name.invariant in
    let e : List ℕ × GroupProps = (c.in-Some.name.now, c.in-Some.props.now) in
    let iter : c.loop-name.name-iterator ≡ e ∷ c.next.new.self = grind (arith, common_steps) in
    λ k d within is.
    let known = c.args.self.now.known_commands k d within in
    let x : List ℕ × (ℕ × ℕ) = get_or c.args.self.now.commands.entries k d in
    let count : slice_index (map (λ t. command_count t.1) c.args.self.now.groups.entries) x.1.0 ≡ command_count c.in-Some.props.now =
    ap (λ gs. slice_index (map (λ t. command_count t.1) gs) x.1.0) (whole ∙ ap (λ t. done ++ t) iter)
    ∙ ap (slice_index (map (λ t. command_count t.1) (done ++ e ∷ c.next.new.self))) (is ∙ at)
    ∙ index-behind (λ t. command_count t.1) done c.next.new.self e in
    subst (λ n. x.1.1 < n) count known.2

pub loop-name-preserved : goal.loop-name-preserved
loop-name-preserved g c =
    let (done, whole, at, gathered, written) = c.loop-name.invariant in
    let e : List ℕ × GroupProps = (c.in-Some.name.now, c.in-Some.props.now) in
    let iter : c.loop-name.name-iterator ≡ e ∷ c.next.new.self = grind (arith, common_steps) in
    let own = c.write_subject.ensures in
    let further = c.write_commands.ensures in (
      done ++ e ∷ [],
      whole ∙ ap (λ t. done ++ t) iter ∙ sym (append_assoc done (e ∷ []) c.next.new.self),
      grown done e c.loop-name.place at,
      elim c.if-place-eq0.branch [
        | then-place-eq0 w ↦ subst (λ o. IfSome o (λ lists. AreByGroup c.args.self.now.commands.entries lists.items)) (sym w.lists-is) w.gathered-lists.ensures
        | else-place-eq0 w ↦ subst (λ o. IfSome o (λ lists. AreByGroup c.args.self.now.commands.entries lists.items)) (sym w.lists-is) gathered
      ],
      λ plain.
          let first = rw c.as_str.ensures.text at own (written plain).plain (search rules) in
          has_written_of_eq _ _ _ _ _ (rows-next (group_lines (settings_view c.args.self.now)) done e c.loop-name.place _ _ at refl)
          (has_written_append _ _ _ _ _ _ (has_written_append _ _ _ _ _ _ (written plain) first) (further first.plain (search rules))),
    )
