use Rattle.std.proofs.Common.{◌≡◌, ◌-◌, ◌/◌, ◌<◌, Some, arith, length, max, refl, subst}
use Rattle.std.specs.Prelude.{slice_get}
use Rattle.std.proofs.lemmas.Option.{slice_get_read}
use Rattle.bh_port.proofs.Outcomes.{both_ok}
use Rattle.bh_columns.specs.Tracks.{IsIn, IsReach}
use Rattle.bh_columns.specs.declared.panel.KeptPanel.{KeptPanel}
use Rattle.bh_columns.proofs.Keeping.{made_all, made_panels, made_rooms, panels_then}
use Rattle.bh_columns.proofs.kept.Kept.make_room.Goals as goal

pub returns-clause-filled : goal.returns-clause-filled
returns-clause-filled c = both_ok c.make_room.result c.make_room.ensures.lanes c.make_room.ensures.lanes (λ each _ fs fills filled.
    let panels = c.fit.new.self.panels.items in
    let was : KeptPanel = c.index_mut.result.now in
    let inside : c.args.panel < length panels = omega (arith, c.requires, c.fit.ensures.panels.count) in
    let at : slice_get panels c.args.panel ≡ Some was = slice_get_read panels (length panels) c.args.panel was refl inside c.index_mut.ensures.value in
    made_all panels c.args.panel c.reach-reach.result.first c.reach-reach.result.end c.fit.new.self.grid.width was c.make_room.new.self fs at each (c.fit.ensures.filled fs fills filled))

pub returns-clause-panels : goal.returns-clause-panels
returns-clause-panels c = both_ok c.make_room.result c.make_room.ensures.lanes c.make_room.ensures.lanes (λ each _.
    let panels = c.fit.new.self.panels.items in
    let was : KeptPanel = c.index_mut.result.now in
    let inside : c.args.panel < length panels = omega (arith, c.requires, c.fit.ensures.panels.count) in
    let at : slice_get panels c.args.panel ≡ Some was = slice_get_read panels (length panels) c.args.panel was refl inside c.index_mut.ensures.value in
    panels_then c.args.self.now.panels.items panels _ c.fit.ensures.panels (made_panels panels c.args.panel c.reach-reach.result.first c.reach-reach.result.end was c.make_room.new.self at each c.make_room.ensures.steps c.make_room.ensures.group c.make_room.ensures.like))

pub returns-clause-room : goal.returns-clause-room
returns-clause-room c = both_ok c.make_room.result c.make_room.ensures.lanes c.make_room.ensures.lanes (λ each _ own order found.
    let panels = c.fit.new.self.panels.items in
    let when = c.args.when.now in
    let was : KeptPanel = c.index_mut.result.now in
    let r = c.reach-reach.result in
    let until = c.until-until.result in
    let inside : c.args.panel < length panels = omega (arith, c.requires, c.fit.ensures.panels.count) in
    let reach : max when.since when.from < until → IsReach r (max when.since when.from) until =
    subst (λ n. n < until → IsReach r n until) c.max-since.ensures c.reach-reach.ensures.reach in
    made_rooms panels c.args.panel c.fit.new.self.grid.width until when r was c.make_room.new.self own inside found each c.reach-reach.ensures.width c.until-until.ensures order reach)

pub returns-clause-taken : goal.returns-clause-taken
returns-clause-taken c =
    let when = c.args.when.now in
    let extent = c.fit.new.self.grid.extent in
    let width = c.fit.new.self.grid.width in
    let until = c.until-until.result in
    subst (λ n. max when.since when.from < n → IsIn extent (max when.since when.from / width) × IsIn extent ((n - 1) / width)) c.until-until.ensures
    (subst (λ n. n < until → IsIn extent (n / width) × IsIn extent ((until - 1) / width)) c.max-since.ensures c.fit.ensures.taken)
