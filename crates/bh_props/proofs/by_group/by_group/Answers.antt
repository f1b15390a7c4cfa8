use Rattle.std.proofs.Common.{◌≡◌, ◌∙◌, ◌++◌, ◌∷◌, [], ◌<◌, ◌≤◌, ℕ, List, Vec, Global, length, refl, ap, sym, append_assoc, arith}
use Rattle.std.proofs.Math.ListN.{length-set}
use Rattle.std.proofs.lemmas.Grind.{common_steps}
use Rattle.bh_props.proofs.ByGroup.{by_group-next, by_group-other}
use Rattle.bh_props.proofs.by_group.by_group.Goals as goal

pub loop-name-preserved-in-Continue-branch-2 : goal.loop-name-preserved-in-Continue-branch-2
loop-name-preserved-in-Continue-branch-2 c =
    let (done, whole, groups, gathered) = c.loop-name.invariant in
    let e : List ℕ × (ℕ × ℕ) = (c.in-Some.name.now, c.in-Some.command.now) in
    let iter : c.loop-name.name-iterator ≡ e ∷ c.next.new.self = grind (arith, common_steps) in (
      done ++ e ∷ [],
      whole ∙ ap (λ t. done ++ t) iter ∙ sym (append_assoc done (e ∷ []) c.next.new.self),
      length-set c.loop-name.lists.items c.in-Some.command.now.0 c.push.new.self ∙ groups,
      by_group-next done c.loop-name.lists.items e gathered c.in-Some.command.now.0 c.index_mut.result.now c.push.new.self refl
          (omega (arith, groups))
          (c.in_ok-push.ensures.items ∙ ap (λ (v : Vec (List ℕ × (ℕ × ℕ)) Global). v.items ++ e ∷ []) c.index_mut.ensures.value),
    )

pub loop-name-preserved : goal.loop-name-preserved
loop-name-preserved c =
    let (done, whole, groups, gathered) = c.loop-name.invariant in
    let e : List ℕ × (ℕ × ℕ) = (c.in-Some.name.now, c.in-Some.command.now) in
    let iter : c.loop-name.name-iterator ≡ e ∷ c.next.new.self = grind (arith, common_steps) in (
      done ++ e ∷ [],
      whole ∙ ap (λ t. done ++ t) iter ∙ sym (append_assoc done (e ∷ []) c.next.new.self),
      groups,
      by_group-other done c.loop-name.lists.items e gathered (λ inside. absurd (not_below c.in-Some.command.now.0 c.args.groups (length c.loop-name.lists.items) c.if-place-groups.false groups inside)),
    )
  where
    not_below : (place groups lists : ℕ) → groups ≤ place → lists ≡ groups → place < lists → ⊥
    not_below place groups lists h same inside = omega arith
