use Rattle.bh_columns.proofs.Within.{three_ok}
use Rattle.bh_columns.proofs.Stepping.{left_recorded, step_recorded}
use Rattle.bh_columns.proofs.kept.Kept.take_step.Goals as goal

pub returns-in-Some : goal.returns-in-Some
returns-in-Some c = three_ok c.record_step.result c.record_step.ensures.panels c.record_step.ensures.filled c.record_step.ensures.within (λ panels filled within service sel run all asked recorded.
    step_recorded service sel c.args.groups.now c.record_step.new.groups c.args.self.now run c.args.step.now c.record_step.new.reply all asked recorded c.record_step.ensures.step c.record_step.ensures.entries c.record_step.ensures.there
    c.record_step.new.self c.in-Some.panel c.in-Some.ensures.0 panels c.record_step.ensures.places c.record_step.ensures.selection c.record_step.ensures.lanes c.record_step.ensures.left_out
    (λ s fs own shown in_range at stands fills was. filled s fs own shown in_range at stands fills was) (λ s fs shown fills was. within s fs shown fills was))

pub returns-in-None : goal.returns-in-None
returns-in-None c = λ service sel run all asked recorded.
    left_recorded service sel c.args.groups.now c.apply_to.new.self c.args.self.now run c.args.step.now c.apply_to.new.reply all asked recorded c.apply_to.ensures.step c.apply_to.ensures.entries c.core-core.ensures.there c.in-None.ensures
