use Rattle.std.proofs.Common.{◌≡◌, true, false, ◌∙◌, ap, sym, subst}
use Rattle.std.specs.Prelude.{if◌then◌else◌}
use Rattle.bh_replies.specs.declared.told.Told.TheVariants as told
use Rattle.bh_props.specs.Shown.{settings_view}
use Rattle.bh_port.specs.Course.{IsActOf}
use Rattle.bh_port.specs.Entries.{without}
use Rattle.bh_port.specs.Script.{GroupsShow}
use Rattle.bh_port.specs.Text.{held_at, told_by, with_act}
use Rattle.bh_port.proofs.Lists.{read_within}
use Rattle.bh_port.proofs.Showing.{agrees-registered, agrees-retired, held-is}
use Rattle.bh_port.proofs.groups.Groups.act.Goals as goal

pub make_step-command-requires-clause-act : goal.make_step-command-requires-clause-act
make_step-command-requires-clause-act c = subst (IsActOf (settings_view c.args.settings.now) c.args.self.now.entries) c.in-Step.is c.requires

pub returns-in-Step-clause-told : goal.returns-in-Step-clause-told
returns-in-Step-clause-told c = λ before agrees.
    ap (told.Reply c.make_step-command.new.reply) c.copied-command.ensures ∙ c.make_step-command.ensures.told before agrees ∙ sym (ap (told_by (settings_view c.args.settings.now) before) c.in-Step.is)

pub returns-in-Step-clause-agrees : goal.returns-in-Step-clause-agrees
returns-in-Step-clause-agrees c = λ before agrees.
    let service = settings_view c.args.settings.now in
    subst (λ a. GroupsShow service c.make_step-command.new.self (with_act service before a)) (sym c.in-Step.is) (c.make_step-command.ensures.agrees before agrees)

pub returns-in_ok-register-in-Register-clause-agrees : goal.returns-in_ok-register-in-Register-clause-agrees
returns-in_ok-register-in-Register-clause-agrees c = λ before agrees.
    let service = settings_view c.args.settings.now in
    let asked = subst (IsActOf service c.args.self.now.entries) c.in-Register.is c.requires in
    let (group, at) = read_within service.groups c.in-Register.like asked.0 in
    subst (λ a. GroupsShow service c.register.new.self (with_act service before a)) (sym c.in-Register.is)
    (agrees-registered service c.args.self.now c.register.new.self before c.in-Register.name c.in-Register.like group agrees at c.in_ok-register-in-Register.ensures.entries (c.in_ok-register-in-Register.ensures.core group at))

pub returns-then-retire-clause-told : goal.returns-then-retire-clause-told
returns-then-retire-clause-told c = λ before agrees.
    let service = settings_view c.args.settings.now in
    let (v, shown, unused, core, entries) = c.retire.ensures.ended c.if-retire.true in
    let free : held_at service before c.in-Retire.group.0 ≡ false = held-is service c.args.self.now before c.in-Retire.group.0 v agrees shown ∙ unused in
    sym (ap (told_by service before) c.in-Retire.is ∙ ap (λ b. if b then told.Held else told.Retired) free)

pub returns-then-retire-clause-agrees : goal.returns-then-retire-clause-agrees
returns-then-retire-clause-agrees c = λ before agrees.
    let service = settings_view c.args.settings.now in
    let n = c.in-Retire.group.0 in
    let (v, shown, unused, core, entries) = c.retire.ensures.ended c.if-retire.true in
    let free : held_at service before n ≡ false = held-is service c.args.self.now before n v agrees shown ∙ unused in
    subst (λ a. GroupsShow service c.retire.new.self (with_act service before a)) (sym c.in-Retire.is)
    (subst (λ b. GroupsShow service c.retire.new.self (if b then before else record before { entries = without n before.entries })) (sym free)
    (agrees-retired service c.args.self.now c.retire.new.self before n v agrees shown entries core))

pub returns-else-retire-clause-told : goal.returns-else-retire-clause-told
returns-else-retire-clause-told c = λ before agrees.
    let service = settings_view c.args.settings.now in
    let (v, shown, used, same) = c.retire.ensures.held c.if-retire.false in
    let held : held_at service before c.in-Retire.group.0 ≡ true = held-is service c.args.self.now before c.in-Retire.group.0 v agrees shown ∙ used in
    sym (ap (told_by service before) c.in-Retire.is ∙ ap (λ b. if b then told.Held else told.Retired) held)

pub returns-else-retire-clause-agrees : goal.returns-else-retire-clause-agrees
returns-else-retire-clause-agrees c = λ before agrees.
    let service = settings_view c.args.settings.now in
    let n = c.in-Retire.group.0 in
    let (v, shown, used, same) = c.retire.ensures.held c.if-retire.false in
    let held : held_at service before n ≡ true = held-is service c.args.self.now before n v agrees shown ∙ used in
    subst (λ a. GroupsShow service c.retire.new.self (with_act service before a)) (sym c.in-Retire.is)
    (subst (λ b. GroupsShow service c.retire.new.self (if b then before else record before { entries = without n before.entries })) (sym held)
    (subst (λ g. GroupsShow service g before) (sym same) agrees))
