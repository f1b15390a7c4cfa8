use Rattle.std.proofs.Common.{◌≡◌}
use Rattle.toml.specs.View.{members_view}
use Rattle.bh_props.specs.Tree.{all_members}
use Rattle.bh_props.specs.Refusals.{is_service_member}
use Rattle.bh_props.proofs.service.has_known_members.Given as goal

abbrev pub invariant-loop-key : goal.invariant-loop-key
invariant-loop-key l =
    (goal.iterator-loop-key).can_next l.key-iterator × (goal.iterator-loop-key).is_finite l.key-iterator
    × (all_members (is_service_member l.names.texts.keys) (members_view l.key-iterator) ≡ all_members (is_service_member l.names.texts.keys) (members_view l.service.entries))
