-- What a line is answered, from what was done for it.
use Rattle.std.proofs.Common.{◌≡◌, ℕ, List, Some, Ok, Err, Result, ◌∙◌, ap, sym, subst}
use Rattle.bh_faults.specs.declared.fault.Fault.{Fault}
use Rattle.bh_port.specs.declared.act.LineAct.{LineAct}
use Rattle.bh_port.specs.Course.{Course, line_act}
use Rattle.bh_port.specs.GroupsView.{GroupsView}
use Rattle.bh_port.specs.Script.{GroupsShow}
use Rattle.bh_port.specs.Text.{answer_to, course_with}
use Rattle.bh_props.specs.SettingsView.{SettingsView}
use Rattle.bh_c.specs.declared.outcome.Outcome.{Outcome}
use Rattle.bh_c.specs.declared.outcome.Outcome.TheVariants.{Done, Refused, NoMemory, NoRoom, BadLine, NoSuchGroup, NotText, TooLong, NoSuchOperation, NoSuchCommand, NotOpen, NoSuchProperty, OutOfRange}
use Rattle.bh_c.specs.Buffers.{IsWritten}
use Rattle.bh_c.specs.Calls.{ActTold, FaultWritten, IsAnswered, LineTold}
use Rattle.bh_c.specs.Lines.{line_text}

module _ (service : SettingsView) (line : List ℕ) (was is : GroupsView) (old new : List ℕ) (needed : ℕ) (text : line_text line ≡ Some line) where
  -- the line asks for the same in the groups of a run so far
  says_of : (said : Result LineAct Fault) (before : Course) → line_act service was.entries line ≡ said → GroupsShow service was before → line_act service before.entries line ≡ said
  says_of said before says agrees = sym (ap (λ es. line_act service es line) agrees.entries) ∙ says

  answered : (said : Result LineAct Fault) (before : Course) → line_act service before.entries line ≡ said → IsWritten (answer_to service before said) old new needed → GroupsShow service is (course_with service before said)
      → IsAnswered service before line is old new needed
  answered said before says writes does = record {
    answer = subst (λ s. IsWritten (answer_to service before s) old new needed) (sym says) writes;
    agrees = subst (λ s. GroupsShow service is (course_with service before s)) (sym says) does;
  }

  -- of a line that asks for something
  pub line-act : (act : LineAct) (outcome : Outcome) → line_act service was.entries line ≡ Ok act
      → ActTold service act was is old new needed outcome → LineTold service line was is old new needed outcome
  line-act act Done says done = (
    text,
    λ before agrees. let told = done before agrees in answered (Ok act) before (says_of (Ok act) before says agrees) told.answer told.agrees,
  )
  line-act act NoMemory says done = done
  line-act act Refused says done = absurd done
  line-act act NoRoom says done = absurd done
  line-act act BadLine says done = absurd done
  line-act act NoSuchGroup says done = absurd done
  line-act act NotText says done = absurd done
  line-act act TooLong says done = absurd done
  line-act act NoSuchOperation says done = absurd done
  line-act act NoSuchCommand says done = absurd done
  line-act act NotOpen says done = absurd done
  line-act act NoSuchProperty says done = absurd done
  line-act act OutOfRange says done = absurd done

  -- of a faulty line
  pub line-fault : (fault : Fault) (outcome : Outcome) → line_act service was.entries line ≡ Err fault → is ≡ was
      → FaultWritten fault old new needed outcome → LineTold service line was is old new needed outcome
  line-fault fault Done says same done = (
    text,
    λ before agrees. answered (Err fault) before (says_of (Err fault) before says agrees) done (subst (λ groups. GroupsShow service groups before) (sym same) agrees),
  )
  line-fault fault NoMemory says same done = record { groups = same; buffer = done }
  line-fault fault Refused says same done = absurd done
  line-fault fault NoRoom says same done = absurd done
  line-fault fault BadLine says same done = absurd done
  line-fault fault NoSuchGroup says same done = absurd done
  line-fault fault NotText says same done = absurd done
  line-fault fault TooLong says same done = absurd done
  line-fault fault NoSuchOperation says same done = absurd done
  line-fault fault NoSuchCommand says same done = absurd done
  line-fault fault NotOpen says same done = absurd done
  line-fault fault NoSuchProperty says same done = absurd done
  line-fault fault OutOfRange says same done = absurd done
