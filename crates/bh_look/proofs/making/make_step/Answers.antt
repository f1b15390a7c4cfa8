use Rattle.std.proofs.Common.{◌≡◌, ◌-◌, Some, sym, ap, ◌∙◌, arith}
use Rattle.bh_base.specs.Commands.{command_count}
use Rattle.bh_base.specs.Runs.{State, View, step, view}
use Rattle.bh_base.specs.Seen.{view_after}
use Rattle.bh_base.specs.declared.step.Step.{Step}
use Rattle.bh_base.proofs.Views.{step_ranges}
use Rattle.bh_core.specs.CoreView.{Shows, view_at}
use Rattle.bh_look.specs.Steps.{tally_with}
use Rattle.bh_look.proofs.Adding.{count_kept, each_step, fits, then_times}
use Rattle.bh_look.proofs.making.make_step.Goals as goal

pub returns-in-Some-clause-tallies : goal.returns-in-Some-clause-tallies
returns-in-Some-clause-tallies c = λ s shown in_range count.
    let x : Step = c.args.step.now in
    let g = x.group.0 in
    let v : View = view s in
    let t : State = (step s x.op x.now).state in
    let w : View = view t in
    let r = c.apply_to.new.reply in
    let after : Shows c.apply_to.new.self.core g t = c.apply_to.ensures.step.own s shown in
    let seen = c.apply_to.ensures.step.seen v shown.view_is in
    let both : Some w ≡ Some (view_after v x.op x.now) = sym after.view_is ∙ seen.1 in
    let is : w ≡ view_after v x.op x.now = cc in
    let kept : command_count t.present.props ≡ command_count s.present.props = count_kept s x.op x.now in
    let fit = fits s c.args.lanes.now shown.sound in_range count in
    let noted = c.note_looks.ensures v (ap (λ k. view_at k g) c.core-4.ensures.core ∙ shown.view_is) fit in
    let again = fits t c.note_looks.new.lanes after.sound (step_ranges s x.op x.now in_range) (omega (arith, c.note_looks.auto.lanes, count, kept)) in
    let added = c.add_looks.ensures w (ap (λ k. view_at k g) c.core-6.ensures.core ∙ after.view_is) again in
    let says = c.expires_some-expires.ensures v (ap (λ k. view_at k g) c.core-3.ensures.core ∙ shown.view_is) in
    let now_is = c.latest-moment.ensures.known w (ap (λ k. view_at k g) c.core-5.ensures.core ∙ after.view_is) in
    let was_is = c.latest-began.ensures.known v (ap (λ k. view_at k g) c.core-2.ensures.core ∙ shown.view_is) in
    let spent : c.saturating_sub-passed.result ≡ w.present.latest - v.present.latest = omega (arith, c.saturating_sub-passed.ensures, now_is, was_is) in
    let of_command = c.command_of.ensures v (c.ticket_before-ticket.ensures v (ap (λ k. view_at k g) c.core.ensures.core ∙ shown.view_is)) in
    let did = each_step v w x.op x.now c.saturating_sub-passed.result c.expires_some-expires.result says is spent r c.command_of.result c.kind_told.result c.args.lanes.now c.note_looks.new.lanes c.add_looks.new.lanes c.add_told.new.lanes fit noted added c.add_told.ensures of_command c.kind_told.ensures seen.0 in
    then_times c.args.lanes.now c.add_told.new.lanes c.add_time.new.lanes (λ k u. tally_with v x.op x.now k u) did c.add_time.ensures

pub returns-in-None-clause-tallies : goal.returns-in-None-clause-tallies
returns-in-None-clause-tallies c = λ s shown in_range count.
    let x : Step = c.args.step.now in
    let g = x.group.0 in
    let v : View = view s in
    let t : State = (step s x.op x.now).state in
    let w : View = view t in
    let r = c.apply_to.new.reply in
    let after : Shows c.apply_to.new.self.core g t = c.apply_to.ensures.step.own s shown in
    let seen = c.apply_to.ensures.step.seen v shown.view_is in
    let both : Some w ≡ Some (view_after v x.op x.now) = sym after.view_is ∙ seen.1 in
    let is : w ≡ view_after v x.op x.now = cc in
    let kept : command_count t.present.props ≡ command_count s.present.props = count_kept s x.op x.now in
    let fit = fits s c.args.lanes.now shown.sound in_range count in
    let noted = c.note_looks.ensures v (ap (λ k. view_at k g) c.core-4.ensures.core ∙ shown.view_is) fit in
    let again = fits t c.note_looks.new.lanes after.sound (step_ranges s x.op x.now in_range) (omega (arith, c.note_looks.auto.lanes, count, kept)) in
    let added = c.add_looks.ensures w (ap (λ k. view_at k g) c.core-6.ensures.core ∙ after.view_is) again in
    let says = c.expires_some-expires.ensures v (ap (λ k. view_at k g) c.core-3.ensures.core ∙ shown.view_is) in
    let now_is = c.latest-moment.ensures.known w (ap (λ k. view_at k g) c.core-5.ensures.core ∙ after.view_is) in
    let was_is = c.latest-began.ensures.known v (ap (λ k. view_at k g) c.core-2.ensures.core ∙ shown.view_is) in
    let spent : c.saturating_sub-passed.result ≡ w.present.latest - v.present.latest = omega (arith, c.saturating_sub-passed.ensures, now_is, was_is) in
    let of_command = c.command_of.ensures v (c.ticket_before-ticket.ensures v (ap (λ k. view_at k g) c.core.ensures.core ∙ shown.view_is)) in
    let did = each_step v w x.op x.now c.saturating_sub-passed.result c.expires_some-expires.result says is spent r c.command_of.result c.kind_told.result c.args.lanes.now c.note_looks.new.lanes c.add_looks.new.lanes c.add_told.new.lanes fit noted added c.add_told.ensures of_command c.kind_told.ensures seen.0 in
    did
