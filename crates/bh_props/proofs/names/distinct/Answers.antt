use Rattle.std.proofs.Common.{◌≡◌, ◌≤◌, ◌∙◌, List, ℕ, All, ap, map, sym, subst, length, arith}
use Rattle.std.proofs.lemmas.List.{take_all}
use Rattle.bh_props.proofs.Named.{names_fit, names_short}
use Rattle.bh_props.proofs.names.distinct.Goals as goal

pub add-requires : goal.add-requires
add-requires c = names_fit _ _ _ c.requires.good c.loop-i-test.true

pub invariant_of-result : goal.invariant_of-result
invariant_of-result c =
    let all : List (List ℕ) = map (λ s. s.now) c.args.names.now in
    let kept : c.loop-i.kept.keys ≡ all = c.loop-i.invariant.kept ∙ ap (map (λ s. s.now)) (take_all c.loop-i.i c.args.names.now (omega arith)) in
    record { short = subst (All (λ name. length name ≤ 32)) (sym kept) (names_short all c.requires.good) }
