use Rattle.std.proofs.Common.{rules}
use Rattle.std.specs.Prelude.{Vec}
use Rattle.std.specs.Vec.{with_items}
use Rattle.std.specs.declared.alloc.Global.{Global}
use Rattle.bh_columns.specs.Filled.{IsJoinedPanel, SamePanel}
use Rattle.bh_columns.specs.declared.panel.KeptPanel.{KeptPanel}
use Rattle.bh_columns.proofs.Keeping.{joined_panel, joined_panels}
use Rattle.bh_columns.proofs.Lists.{each_items, each_weaker}
use Rattle.bh_columns.proofs.kept.Kept.join.Goals as goal

pub returns-clause-filled : goal.returns-clause-filled
returns-clause-filled c = λ fs fills filled.
    let v : Vec KeptPanel Global = c.args.self.now.panels in
    let new = c.join_panels.new.panels in
    let each = each_items v c.deref_mut.result.now new (λ p panel next. IsJoinedPanel panel next) c.deref_mut.ensures.value c.join_panels.ensures in
    joined_panels v.items (with_items v new).items c.args.self.now.grid.width c.widen.new.self.width fs (c.widen.ensures.wider (search rules)) fills each filled

pub returns-clause-panels : goal.returns-clause-panels
returns-clause-panels c =
    let v : Vec KeptPanel Global = c.args.self.now.panels in
    let new = c.join_panels.new.panels in
    each_weaker v.items (with_items v new).items (λ p panel next. IsJoinedPanel panel next) (λ p panel next. SamePanel panel next) (λ p x y xy. joined_panel x y xy)
    (each_items v c.deref_mut.result.now new (λ p panel next. IsJoinedPanel panel next) c.deref_mut.ensures.value c.join_panels.ensures)

pub returns-clause-within : goal.returns-clause-within
returns-clause-within c = λ f fill within. c.widen.ensures.within f fill within
