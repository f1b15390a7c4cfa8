use Rattle.std.proofs.Common.{◌≡◌, ◌<◌, ◌∙◌, Some, ap, arith, length, sym}
use Rattle.std.specs.Prelude.{Vec, slice_get}
use Rattle.std.specs.Vec.{with_items}
use Rattle.std.specs.declared.alloc.Global.{Global}
use Rattle.std.proofs.lemmas.Option.{slice_get_within}
use Rattle.bh_base.specs.Runs.{view}
use Rattle.bh_port.proofs.Lists.{every_at, read_within}
use Rattle.bh_look.specs.declared.lane.Lane.{Lane}
use Rattle.bh_look.specs.Steps.{tally_with}
use Rattle.bh_look.specs.Tallies.{no_tally}
use Rattle.bh_columns.proofs.Lists.{items_are}
use Rattle.bh_columns.proofs.panel.KeptPanel.make_step.Goals as goal

pub returns-clause-told : goal.returns-clause-told
returns-clause-told c = λ s shown in_range count k step at.
    let v : Vec Lane Global = c.args.self.now.steps in
    let cleared = c.clear_all.new.steps in
    let long : length cleared ≡ length v.items = c.clear_all.auto.steps ∙ ap length c.deref_mut.ensures.value in
    let u : Vec Lane Global = with_items v cleared in
    let is : u.items ≡ cleared = items_are v cleared long in
    let mid = c.deref_mut-2.result.now in
    let from : mid ≡ cleared = c.deref_mut-2.ensures.value ∙ is in
    let new = c.make_step.new.lanes in
    let same : length new ≡ length u.items = c.make_step.auto.lanes ∙ ap length c.deref_mut-2.ensures.value in
    let ends : (with_items u new).items ≡ new = items_are u new same in
    let found : slice_get new k ≡ Some step = sym (ap (λ xs. slice_get xs k) ends) ∙ at in
    let each = c.make_step.ensures.tallies s shown in_range (ap length from ∙ long ∙ count) in
    let inside : k < length mid = omega (arith, slice_get_within new k step found, c.make_step.auto.lanes) in
    let (lane, was) = read_within mid k inside in
    let (next, now, tally) = each k lane was in
    let both : Some next ≡ Some step = sym now ∙ found in
    let one : next ≡ step = cc in
    let none : lane.tally ≡ no_tally = every_at (λ (l : Lane). l.tally ≡ no_tally) cleared k lane c.clear_all.ensures (sym (ap (λ xs. slice_get xs k) from) ∙ was) in
    ap (λ (l : Lane). l.tally) (sym one) ∙ tally ∙ ap (tally_with (view s) c.args.step.now.op c.args.step.now.now k) none

pub returns-clause-count : goal.returns-clause-count
returns-clause-count c =
    let v : Vec Lane Global = c.args.self.now.steps in
    let cleared = c.clear_all.new.steps in
    let long : length cleared ≡ length v.items = c.clear_all.auto.steps ∙ ap length c.deref_mut.ensures.value in
    let u : Vec Lane Global = with_items v cleared in
    let is : u.items ≡ cleared = items_are v cleared long in
    let new = c.make_step.new.lanes in
    let same : length new ≡ length u.items = c.make_step.auto.lanes ∙ ap length c.deref_mut-2.ensures.value in
    ap length (items_are u new same) ∙ same ∙ ap length is ∙ long
