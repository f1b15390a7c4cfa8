use Rattle.std.proofs.Common.{◌≡◌, ◌<◌, ◌≤◌, ◌∙◌, Some, arith, ap, length, refl, set, subst, sym}
use Rattle.std.specs.Prelude.{◌==◌, Vec, slice_get, unwrap_or}
use Rattle.std.specs.declared.alloc.Global.{Global}
use Rattle.std.proofs.lemmas.Option.{get_or_from_slice_get, slice_get_within}
use Rattle.bh_base.specs.Commands.{command_count}
use Rattle.bh_base.specs.Runs.{State, View, step, view}
use Rattle.bh_base.specs.Seen.{view_after}
use Rattle.bh_base.specs.declared.step.Step.{Step}
use Rattle.bh_core.specs.CoreView.{Shows, view_at}
use Rattle.bh_look.specs.declared.lane.Lane.{Lane}
use Rattle.bh_look.proofs.Adding.{count_kept, set_here}
use Rattle.bh_columns.specs.Filled.{AreFilled, HasRoomsFor, SamePanel, Stands}
use Rattle.bh_columns.specs.Panels.{EachAt, FitsLanes, HasLooked, HasTold, SameStanding}
use Rattle.bh_columns.specs.Steps.{when_of}
use Rattle.bh_columns.specs.declared.lane.KeptLane.{KeptLane}
use Rattle.bh_columns.specs.declared.panel.KeptPanel.{KeptPanel}
use Rattle.bh_columns.specs.declared.panel.When.{When}
use Rattle.bh_columns.proofs.Lists.{each_back}
use Rattle.bh_port.proofs.Lists.{read_within}
use Rattle.bh_columns.proofs.Recording.{all_stepped, latest_rises, recorded, set_filled, since_before, since_is}
use Rattle.bh_columns.proofs.Within.{stepped_within}
use Rattle.bh_columns.proofs.kept.Kept.record_step.Goals as goal

pub returns : goal.returns
returns c = record {
  step = c.make_step.ensures.step;
  entries = c.make_step.ensures.entries;
  there = c.make_step.ensures.there;
  places = c.make_room.ensures.places;
  selection = c.make_room.ensures.selection;
  lanes = c.make_room.ensures.lanes;
  left_out = c.make_room.ensures.left_out;
  panels =
      let n = c.args.panel in
      let p0 = c.args.self.now.panels.items in
      let m0 : KeptPanel = c.index_mut.result.now in
      let (own, at) = read_within p0 n c.requires in
      let at0 : slice_get p0 n ≡ Some m0 = at ∙ ap Some (sym (c.index_mut.ensures.value ∙ get_or_from_slice_get p0 n own m0 at)) in
      let m1 : KeptPanel = c.make_step.new.self in
      let p1 = set p0 n m1 in
      let at1 : slice_get p1 n ≡ Some m1 = set_here p0 n m1 (slice_get_within p0 n m0 at0) in
      let k1 : KeptPanel = c.index_mut-2.result.now in
      let k1_is : k1 ≡ m1 = c.index_mut-2.ensures.value ∙ get_or_from_slice_get p1 n m1 k1 at1 in
      let m2 : KeptPanel = c.note_life.new.self in
      let p2 = set p1 n m2 in
      let at2 : slice_get p2 n ≡ Some m2 = set_here p1 n m2 (slice_get_within p1 n m1 at1) in
      let p3 = c.make_room.new.self.panels.items in
      let (y, y_at, y_same) = c.in_ok-make_room.ensures.panels.each n m2 at2 in
      let m3 : KeptPanel = c.index_mut-3.result.now in
      let at3 : slice_get p3 n ≡ Some m3 = y_at ∙ ap Some (sym (c.index_mut-3.ensures.value ∙ get_or_from_slice_get p3 n y m3 y_at)) in
      let m4 : KeptPanel = c.add.new.self in
      let p4 = set p3 n m4 in
      let at4 : slice_get p4 n ≡ Some m4 = set_here p3 n m4 (slice_get_within p3 n m3 at3) in
      let k4 : KeptPanel = c.index_mut-4.result.now in
      let k4_is : k4 ≡ m4 = c.index_mut-4.ensures.value ∙ get_or_from_slice_get p4 n m4 k4 at4 in
      all_stepped p0 p3 n m0 m1 m2 m3 m4 c.look.new.self at0 c.make_step.ensures.group c.make_step.ensures.like
      (c.note_life.ensures.group ∙ ap (λ (m : KeptPanel). m.group) k1_is) (c.note_life.ensures.like ∙ ap (λ (m : KeptPanel). m.like) k1_is)
      c.in_ok-make_room.ensures.panels at3 c.add.ensures.group c.add.ensures.like
      (c.look.ensures.group ∙ ap (λ (m : KeptPanel). m.group) k4_is) (c.look.ensures.like ∙ ap (λ (m : KeptPanel). m.like) k4_is);
  filled = λ s fs own shown in_range at stands fills filled.
      let x : Step = c.args.step.now in
      let g = x.group.0 in
      let n = c.args.panel in
      let v : View = view s in
      let t : State = (step s x.op x.now).state in
      let w : View = view_after v x.op x.now in
      let core = c.make_step.new.groups.core in
      let after : Shows core g t = c.make_step.ensures.step.own s shown in
      let seen : view_at core g ≡ Some w = (c.make_step.ensures.step.seen v shown.view_is).1 in
      let views : Some (view t) ≡ Some w = sym after.view_is ∙ seen in
      let is : view t ≡ w = cc in
      let p0 = c.args.self.now.panels.items in
      let inside : n < length p0 = slice_get_within p0 n own at in
      let m0 : KeptPanel = c.index_mut.result.now in
      let m0_is : m0 ≡ own = c.index_mut.ensures.value ∙ get_or_from_slice_get p0 n own m0 at in
      let m1 : KeptPanel = c.make_step.new.self in
      let lanes1 : m1.lanes ≡ own.lanes = c.make_step.ensures.lanes ∙ ap (λ (m : KeptPanel). m.lanes) m0_is in
      let p1 = set p0 n m1 in
      let at1 : slice_get p1 n ≡ Some m1 = set_here p0 n m1 inside in
      let k1 : KeptPanel = c.index_mut-2.result.now in
      let k1_is : k1 ≡ m1 = c.index_mut-2.ensures.value ∙ get_or_from_slice_get p1 n m1 k1 at1 in
      let m2 : KeptPanel = c.note_life.new.self in
      let lanes2 : m2.lanes ≡ m1.lanes = c.note_life.ensures.lanes ∙ ap (λ (m : KeptPanel). m.lanes) k1_is in
      let steps2 : m2.steps ≡ m1.steps = c.note_life.ensures.steps ∙ ap (λ (m : KeptPanel). m.steps) k1_is in
      let p2 = set p1 n m2 in
      let inside1 : n < length p1 = slice_get_within p1 n m1 at1 in
      let at2 : slice_get p2 n ≡ Some m2 = set_here p1 n m2 inside1 in
      let width0 = c.args.self.now.grid.width in
      let filled1 : AreFilled p1 width0 fs = set_filled p0 n width0 own m1 fs at lanes1 filled in
      let filled2 : AreFilled p2 width0 fs = set_filled p1 n width0 m1 m2 fs at1 lanes2 filled1 in
      let p3 = c.make_room.new.self.panels.items in
      let width = c.make_room.new.self.grid.width in
      let filled3 : AreFilled p3 width fs = c.in_ok-make_room.ensures.filled fs fills filled2 in
      let (y, y_at, y_same) = c.in_ok-make_room.ensures.panels.each n m2 at2 in
      let m3 : KeptPanel = c.index_mut-3.result.now in
      let m3_is : m3 ≡ y = c.index_mut-3.ensures.value ∙ get_or_from_slice_get p3 n y m3 y_at in
      let at3 : slice_get p3 n ≡ Some m3 = y_at ∙ ap Some (sym m3_is) in
      let same3 : SamePanel m2 m3 = subst (SamePanel m2) (sym m3_is) y_same in
      let standing : EachAt own.lanes.items m3.lanes.items (λ k lane next. SameStanding lane next) =
      subst (λ (ls : Vec KeptLane Global). EachAt ls.items m3.lanes.items (λ k lane next. SameStanding lane next)) (lanes2 ∙ lanes1) same3.lanes in
      let steps3 : m3.steps ≡ m1.steps = same3.steps ∙ steps2 in
      let many0 : length m0.steps.items ≡ command_count s.present.props = ap (λ (m : KeptPanel). length m.steps.items) m0_is ∙ stands.steps in
      let told1 : HasTold v x.op x.now m1.steps.items = c.make_step.ensures.told s shown in_range many0 in
      let told : HasTold v x.op x.now m3.steps.items = subst (λ (ss : Vec Lane Global). HasTold v x.op x.now ss.items) (sym steps3) told1 in
      let lanes3 : length m3.lanes.items ≡ command_count s.present.props = standing.count ∙ stands.count in
      let count : length m3.steps.items ≡ length m3.lanes.items = ap (λ (ss : Vec Lane Global). length ss.items) steps3 ∙ c.make_step.ensures.count ∙ many0 ∙ sym lanes3 in
      let commands : command_count w.present.props ≡ command_count s.present.props = ap (λ (u : View). command_count u.present.props) (sym is) ∙ count_kept s x.op x.now in
      let fits3 : FitsLanes w m3.lanes.items = record { count = lanes3 ∙ sym commands; few = omega (arith, commands, in_range.few_commands) } in
      let m4 : KeptPanel = c.add.new.self in
      let added = c.add.ensures.lanes w (ap (λ k. view_at k g) c.core-4.ensures.core ∙ seen) fits3 count in
      let p4 = set p3 n m4 in
      let inside3 : n < length p3 = slice_get_within p3 n m3 at3 in
      let at4 : slice_get p4 n ≡ Some m4 = set_here p3 n m4 inside3 in
      let k4 : KeptPanel = c.index_mut-4.result.now in
      let k4_is : k4 ≡ m4 = c.index_mut-4.ensures.value ∙ get_or_from_slice_get p4 n m4 k4 at4 in
      let fits4 : FitsLanes w k4.lanes.items = record { count = ap (λ (m : KeptPanel). length m.lanes.items) k4_is ∙ added.count ∙ fits3.count; few = fits3.few } in
      let m5 : KeptPanel = c.look.new.self in
      let touched = c.touched-touched.result in
      let looked4 = c.look.ensures.lanes w (ap (λ k. view_at k g) c.core-5.ensures.core ∙ seen) fits4 in
      let looked : EachAt m4.lanes.items m5.lanes.items (λ k lane next. HasLooked w k touched lane next) =
      subst (λ (m : KeptPanel). EachAt m.lanes.items m5.lanes.items (λ k lane next. HasLooked w k touched lane next)) k4_is looked4 in
      let from = c.args.self.now.selection.from in
      let to = c.args.self.now.selection.to in
      let when : When = record { since = c.unwrap_or-since.result; moment = c.latest-moment.result; from = from; to = to } in
      let moment : c.latest-moment.result ≡ w.present.latest = c.latest-moment.ensures.known w (ap (λ k. view_at k g) c.core-3.ensures.core ∙ seen) in
      let began = c.clock-began.ensures v (ap (λ k. view_at k g) c.core.ensures.core ∙ shown.view_is) in
      let since : c.unwrap_or-since.result ≡ (when_of from to v x.op x.now).since =
      c.unwrap_or-since.ensures ∙ ap (unwrap_or c.clock-began.result) moment ∙ since_is (v.present.steps == 0) c.clock-began.result v.present.latest w.present.latest began in
      let when_is : when ≡ when_of from to v x.op x.now = λ i. record { since = since i; moment = moment i; from = from; to = to } in
      let rises : v.present.latest ≤ w.present.latest = subst (λ (u : View). v.present.latest ≤ u.present.latest) is (latest_rises s x.op x.now) in
      let before = since_before (v.present.steps == 0) v.present.latest w.present.latest rises in
      let order : when.since ≤ when.moment = omega (arith, moment, since, before) in
      let rooms : HasRoomsFor width when m3 = c.in_ok-make_room.ensures.room m3 order at3 in
      let inside4 : n < length p4 = slice_get_within p4 n m4 at4 in
      let steps5 : m5.steps ≡ m3.steps = c.look.ensures.steps ∙ ap (λ (m : KeptPanel). m.steps) k4_is ∙ c.add.ensures.steps in
      let stands5 : Stands w m5 = record {
        count = looked.count ∙ added.count ∙ fits3.count;
        steps = ap (λ (ss : Vec Lane Global). length ss.items) steps5 ∙ count ∙ fits3.count;
        circuits = λ k lane found. (each_back m4.lanes.items m5.lanes.items (λ q l next. HasLooked w q touched l next) k lane looked found).2.circuit;
      } in
      (recorded p3 n width own m3 m4 m5 when v w touched x.op x.now from to fs stands standing told count added looked rooms when_is refl at3 filled3, (m5, set_here p4 n m5 inside4, stands5));
  within = λ s fs shown fills within.
      let x : Step = c.args.step.now in
      let g = x.group.0 in
      let n = c.args.panel in
      let v : View = view s in
      let t : State = (step s x.op x.now).state in
      let w : View = view_after v x.op x.now in
      let after : Shows c.make_step.new.groups.core g t = c.make_step.ensures.step.own s shown in
      let seen : view_at c.make_step.new.groups.core g ≡ Some w = (c.make_step.ensures.step.seen v shown.view_is).1 in
      let views : Some (view t) ≡ Some w = sym after.view_is ∙ seen in
      let is : view t ≡ w = cc in
      let from = c.args.self.now.selection.from in
      let to = c.args.self.now.selection.to in
      let when : When = record { since = c.unwrap_or-since.result; moment = c.latest-moment.result; from = from; to = to } in
      let moment : c.latest-moment.result ≡ w.present.latest = c.latest-moment.ensures.known w (ap (λ k. view_at k g) c.core-3.ensures.core ∙ seen) in
      let began = c.clock-began.ensures v (ap (λ k. view_at k g) c.core.ensures.core ∙ shown.view_is) in
      let since : c.unwrap_or-since.result ≡ (when_of from to v x.op x.now).since =
      c.unwrap_or-since.ensures ∙ ap (unwrap_or c.clock-began.result) moment ∙ since_is (v.present.steps == 0) c.clock-began.result v.present.latest w.present.latest began in
      let when_is : when ≡ when_of from to v x.op x.now = λ i. record { since = since i; moment = moment i; from = from; to = to } in
      let rises : v.present.latest ≤ w.present.latest = subst (λ (u : View). v.present.latest ≤ u.present.latest) is (latest_rises s x.op x.now) in
      let before = since_before (v.present.steps == 0) v.present.latest w.present.latest rises in
      let order : when.since ≤ when.moment = omega (arith, moment, since, before) in
      let grid = c.make_room.new.self.grid in
      stepped_within grid.extent grid.width n from to v x.op x.now fs when when_is grid.some_width order c.make_room.ensures.taken (λ p command. c.make_room.ensures.within (fs p command) (fills p command) (within p command));
}
