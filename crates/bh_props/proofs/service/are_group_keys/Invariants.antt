use Rattle.std.proofs.Common.{◌≡◌}
use Rattle.toml.specs.View.{members_view}
use Rattle.bh_props.specs.Tree.{all_members}
use Rattle.bh_props.specs.Refusals.{is_key}
use Rattle.bh_props.proofs.service.are_group_keys.Given as goal

abbrev pub invariant-loop-key : goal.invariant-loop-key
invariant-loop-key l =
    (goal.iterator-loop-key).can_next l.key-iterator × (goal.iterator-loop-key).is_finite l.key-iterator
    × (all_members (λ key d. is_key l.names.texts.keys key) (members_view l.key-iterator) ≡ all_members (λ key d. is_key l.names.texts.keys key) (members_view l.table.entries))
