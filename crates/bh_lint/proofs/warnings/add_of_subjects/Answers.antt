use Rattle.bh_lint.proofs.Grown.{grown}
use Rattle.bh_lint.proofs.warnings.add_of_subjects.Goals as goal

pub loop-subject-preserved : goal.loop-subject-preserved
loop-subject-preserved c =
    grown _ _ _ _ _ _ _ c.loop-subject-test.true c.subject-item.is c.loop-subject.invariant c.in_ok-add_of_subject.ensures
