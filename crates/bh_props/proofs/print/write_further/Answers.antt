use Rattle.std.proofs.Common.{◌≡◌, ℕ, List, [], ◌∷◌, ◌++◌, ◌∙◌, sym, ap, arith, append_assoc, rules}
use Rattle.std.proofs.Output.{has_written_append, has_written_of_eq}
use Rattle.std.proofs.lemmas.Grind.{common_steps}
use Rattle.bh_props.specs.declared.subject.Scope.TheVariants as scopes
use Rattle.bh_props.specs.Printed.{subject_lines}
use Rattle.bh_props.proofs.Further.{rows-own, rows-other}
use Rattle.bh_props.proofs.print.write_further.Goals as goal

pub loop-name-preserved-in-Continue-1 : goal.loop-name-preserved-in-Continue-1
loop-name-preserved-in-Continue-1 g c =
    let (done, whole, written) = c.loop-name.invariant in
    let e : List ℕ × (ℕ × ℕ) = (c.in-Some.name.now, c.in-Some.command.now) in
    let iter : c.loop-name.name-iterator ≡ e ∷ c.next.new.self = grind (arith, common_steps) in
    let w = c.write_subject.ensures in (
      done ++ e ∷ [],
      whole ∙ ap (λ t. done ++ t) iter ∙ sym (append_assoc done (e ∷ []) c.next.new.self),
      λ plain. has_written_of_eq _ _ _ _ _
          (rows-own (λ x. subject_lines c.args.audit_steps scopes.Command x.0 c.args.props.now x.1.1) c.args.place done e c.if-command-place.true)
          (has_written_append _ _ _ _ _ _ (written plain) (rw c.as_str.ensures.text at w (written plain).plain (search rules))),
    )

pub loop-name-preserved : goal.loop-name-preserved
loop-name-preserved g c =
    let (done, whole, written) = c.loop-name.invariant in
    let e : List ℕ × (ℕ × ℕ) = (c.in-Some.name.now, c.in-Some.command.now) in
    let iter : c.loop-name.name-iterator ≡ e ∷ c.next.new.self = grind (arith, common_steps) in (
      done ++ e ∷ [],
      whole ∙ ap (λ t. done ++ t) iter ∙ sym (append_assoc done (e ∷ []) c.next.new.self),
      λ plain. has_written_of_eq _ _ _ _ _
          (rows-other (λ x. subject_lines c.args.audit_steps scopes.Command x.0 c.args.props.now x.1.1) c.args.place done e c.if-command-place.false)
          (written plain),
    )
