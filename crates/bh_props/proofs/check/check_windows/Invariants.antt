use Rattle.std.proofs.Common.{◌≡◌, drop}
use Rattle.toml.specs.View.{view}
use Rattle.bh_props.specs.Refusals.{checked_windows}
use Rattle.bh_props.proofs.check.check_windows.Given as goal

abbrev pub invariant-loop-subject : goal.invariant-loop-subject
invariant-loop-subject l =
    checked_windows (view l.sections.root.now) (drop l.subject-index l.subjects) ≡ checked_windows (view l.sections.root.now) l.subjects
