use Rattle.std.proofs.Common.{◌≡◌, ◌<◌, ℕ, Some, length, set, refl, sym, ap, subst, ◌∙◌, arith}
use Rattle.std.specs.Prelude.{IsSome, Vec, slice_get}
use Rattle.std.specs.declared.alloc.Global.{Global}
use Rattle.std.specs.Vec.{with_items}
use Rattle.std.proofs.lemmas.Option.{slice_get_read}
use Rattle.bh_base.specs.Commands.{command_count}
use Rattle.bh_base.specs.Ranges.{IsInRange}
use Rattle.bh_base.specs.Runs.{view}
use Rattle.bh_base.specs.declared.step.Step.{Step}
use Rattle.bh_port.specs.declared.act.LineAct.TheVariants as act
use Rattle.bh_port.specs.Course.{IsActOf}
use Rattle.bh_port.specs.Entries.{entry_at}
use Rattle.bh_port.specs.Script.{GroupsShow}
use Rattle.bh_port.specs.Text.{with_act}
use Rattle.bh_port.proofs.Lists.{read_within}
use Rattle.bh_port.proofs.Outcomes.{both_ok}
use Rattle.bh_props.specs.Shown.{settings_view}
use Rattle.bh_look.specs.declared.lane.Lane.{Lane}
use Rattle.bh_look.specs.Looked.{EachLane}
use Rattle.bh_look.specs.Scripts.{tally_done}
use Rattle.bh_look.specs.Steps.{tally_with}
use Rattle.bh_look.specs.Watched.{IsWatched, tally_at}
use Rattle.bh_look.proofs.Watching.{always, fit, items_are, like_in_range, like_of, state_there, tallies_registered, tallies_step, watched_registered, watched_retired, watched_step}
use Rattle.bh_look.proofs.watch.Watch.take_act.Goals as goal

pub returns-else-place-len-clause-watched : goal.returns-else-place-len-clause-watched
returns-else-place-len-clause-watched c = always c.make_step.result (λ before was.
    let service = settings_view c.args.settings.now in
    let x : Step = c.in-Step.step in
    let l0 = c.args.self.now.lanes.items in
    let old : Vec Lane Global = c.index_mut.result.now in
    let inside : x.group.0 < length l0 = omega (arith, c.if-place-len.false, c.len.ensures) in
    let at : slice_get l0 x.group.0 ≡ Some old = slice_get_read l0 (length l0) x.group.0 old refl inside c.index_mut.ensures.value in
    let there : IsSome (entry_at c.args.self.now.groups.entries x.group.0) = subst (IsActOf service c.args.self.now.groups.entries) c.in-Step.is c.requires in
    let lanes = c.make_step.new.lanes in
    let same : length lanes ≡ length old.items = omega (arith, c.make_step.auto.lanes, ap length c.deref_mut.ensures.value) in
    let new : Vec Lane Global = with_items old lanes in
    let are : new.items ≡ lanes = items_are old lanes same in
    let many : length new.items ≡ length old.items = ap length are ∙ same in
    subst (λ a. IsWatched service c.make_step.new.groups (set l0 x.group.0 new) (with_act service before a)) (sym c.in-Step.is)
    (watched_step service c.args.self.now.groups c.make_step.new.groups l0 (set l0 x.group.0 new) before x c.make_step.new.reply old new was c.make_step.ensures.step c.make_step.ensures.entries there at refl many))

pub returns-else-place-len-clause-tallies : goal.returns-else-place-len-clause-tallies
returns-else-place-len-clause-tallies c = always c.make_step.result (λ before was.
    let service = settings_view c.args.settings.now in
    let x : Step = c.in-Step.step in
    let n = x.group.0 in
    let l0 = c.args.self.now.lanes.items in
    let old : Vec Lane Global = c.index_mut.result.now in
    let inside : n < length l0 = omega (arith, c.if-place-len.false, c.len.ensures) in
    let at : slice_get l0 n ≡ Some old = slice_get_read l0 (length l0) n old refl inside c.index_mut.ensures.value in
    let there : IsSome (entry_at c.args.self.now.groups.entries n) = subst (IsActOf service c.args.self.now.groups.entries) c.in-Step.is c.requires in
    let (s, state) = state_there service c.args.self.now.groups before n was.shows (c.make_step.ensures.there n) there in
    let shown = was.shows.shows n s state in
    let like = like_of service before n s state in
    let in_range : IsInRange s.present.props = like.ranges (like_in_range service (entry_at before.entries n) like.like c.args.settings.now.in_range like.is) in
    let count : length old.items ≡ command_count s.present.props = fit service c.args.self.now.groups l0 before was n like.like old like.is at ∙ sym like.count in
    let each = c.make_step.ensures.tallies s shown in_range (ap length c.deref_mut.ensures.value ∙ count) in
    let lanes = c.make_step.new.lanes in
    let same : length lanes ≡ length old.items = omega (arith, c.make_step.auto.lanes, ap length c.deref_mut.ensures.value) in
    let new : Vec Lane Global = with_items old lanes in
    let are : new.items ≡ lanes = items_are old lanes same in
    let many : length new.items ≡ length old.items = ap length are ∙ same in
    let R : ℕ → Lane → Lane → Type 0 = λ k lane next. next.tally ≡ tally_with (view s) x.op x.now k lane.tally in
    let from : EachLane old.items lanes R = subst (λ ls. EachLane ls lanes R) c.deref_mut.ensures.value each in
    let mine : EachLane old.items new.items R = subst (λ ls. EachLane old.items ls R) (sym are) from in
    λ g k. tallies_step service c.args.self.now.groups c.make_step.new.groups l0 (set l0 n new) before x c.make_step.new.reply old new was c.make_step.ensures.step c.make_step.ensures.entries there at refl many s state count mine g k
    ∙ sym (ap (λ a. tally_done service before a g k (tally_at l0 g k)) c.in-Step.is))

pub returns-in_ok-own-in-Register-clause-watched : goal.returns-in_ok-own-in-Register-clause-watched
returns-in_ok-own-in-Register-clause-watched c = both_ok c.register.result c.register.ensures.shows c.register.ensures.lanes (λ shows lanes before was.
    let service = settings_view c.args.settings.now in
    let asked = subst (IsActOf service c.args.self.now.groups.entries) c.in-Register.is c.requires in
    let (like, at) = read_within service.groups c.in-Register.like asked.0 in
    let count = c.in_ok-own-in-Register.ensures.count ∙ c.command_count.ensures like at in
    subst (λ a. IsWatched service c.register.new.self.groups c.register.new.self.lanes.items (with_act service before a)) (sym c.in-Register.is)
    (watched_registered service c.args.self.now.groups c.register.new.self.groups c.args.self.now.lanes.items c.register.new.self.lanes.items before c.in-Register.name c.in-Register.like like c.in_ok-own-in-Register.own was lanes at count c.in_ok-own-in-Register.ensures.none
    (subst (λ a. GroupsShow service c.register.new.self.groups (with_act service before a)) c.in-Register.is (shows before was))))

pub returns-in_ok-own-in-Register-clause-tallies : goal.returns-in_ok-own-in-Register-clause-tallies
returns-in_ok-own-in-Register-clause-tallies c = both_ok c.register.result c.register.ensures.shows c.register.ensures.lanes (λ shows lanes before was.
    let service = settings_view c.args.settings.now in
    let asked = subst (IsActOf service c.args.self.now.groups.entries) c.in-Register.is c.requires in
    let (like, at) = read_within service.groups c.in-Register.like asked.0 in
    let count = c.in_ok-own-in-Register.ensures.count ∙ c.command_count.ensures like at in
    λ g k. tallies_registered service c.args.self.now.groups c.register.new.self.groups c.args.self.now.lanes.items c.register.new.self.lanes.items before c.in-Register.name c.in-Register.like like c.in_ok-own-in-Register.own was lanes at count c.in_ok-own-in-Register.ensures.none g k
    ∙ sym (ap (λ a. tally_done service before a g k (tally_at c.args.self.now.lanes.items g k)) c.in-Register.is))

pub returns-in-Retire-clause-watched : goal.returns-in-Retire-clause-watched
returns-in-Retire-clause-watched c = both_ok c.retire.result c.retire.ensures.shows c.retire.ensures.lanes (λ shows lanes before was.
    let service = settings_view c.args.settings.now in
    let later = with_act service before (act.Retire c.in-Retire.field-0) in
    let shown : GroupsShow service c.retire.new.self.groups later = subst (λ a. GroupsShow service c.retire.new.self.groups (with_act service before a)) c.in-Retire.is (shows before was) in
    let retired : IsWatched service c.retire.new.self.groups c.args.self.now.lanes.items later =
    watched_retired service c.retire.new.self.groups c.args.self.now.groups c.args.self.now.lanes.items before c.in-Retire.field-0.0 was shown in
    subst (λ a. IsWatched service c.retire.new.self.groups c.retire.new.self.lanes.items (with_act service before a)) (sym c.in-Retire.is)
    (subst (λ (ls : Vec (Vec Lane Global) Global). IsWatched service c.retire.new.self.groups ls.items later) (sym lanes) retired))
