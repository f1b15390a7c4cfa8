use Rattle.bh_columns.specs.Panels.{HasMadeRoom}
use Rattle.bh_look.proofs.Watching.{always}
use Rattle.bh_columns.proofs.Lists.{each_items}
use Rattle.bh_columns.proofs.panel.KeptPanel.make_room.Goals as goal

pub returns-clause-lanes : goal.returns-clause-lanes
returns-clause-lanes c = always c.make_room.result (each_items c.args.self.now.lanes c.deref_mut.result.now c.make_room_in_all.new.lanes (λ k lane next. HasMadeRoom c.args.from c.args.to lane next) c.deref_mut.ensures.value c.in_ok-make_room_in_all.ensures)
