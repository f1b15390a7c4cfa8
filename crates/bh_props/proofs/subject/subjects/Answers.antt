use Rattle.std.proofs.Common.{ap, ◌∙◌, ◌++◌, length, map}
use Rattle.bh_props.specs.Commands.{Commands}
use Rattle.bh_props.specs.Subjects.{a_command}
use Rattle.bh_props.proofs.ByGroup.{list-at}
use Rattle.bh_props.proofs.Subjects.{subjects-next}
use Rattle.bh_props.proofs.subject.subjects.Goals as goal

pub loop-place-preserved : goal.loop-place-preserved
loop-place-preserved c = λ commands by_group.
    let further = list-at commands c.args.further.now (length c.args.names.now) c.loop-place.place _ c.deref.result.now
    by_group c.requires c.loop-place-test.true c.index-further-place.is c.deref.ensures.value in
    subjects-next c.args.names.now commands c.loop-place.place _ _ _ _ c.loop-place-test.true c.index-names-place.is
    (c.loop-place.invariant commands by_group) c.in_ok-push.ensures.items
    (c.in_ok-push_further.ensures ∙ ap (λ (some : Commands). c.push.new.self.items ++ map (λ x. a_command x.0) some) further)
