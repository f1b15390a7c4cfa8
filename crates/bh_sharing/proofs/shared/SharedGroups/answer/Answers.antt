use Rattle.bh_sharing.proofs.Told.{shared-line}
use Rattle.bh_turns.specs.Turn.{answer_line}
use Rattle.bh_sharing.proofs.shared.SharedGroups.answer.Goals as goal

pub returns-in-Ok : goal.returns-in-Ok
returns-in-Ok g c =
    let names = g.D.Directory.names c.args.directory.now in
    let d = c.in-Told.ensures in (
      answer_line c.in-Told.refused names c.args.group c.ask.new.reply,
      shared-line g.S.Service.facts names c.args.group c.args.op.now c.args.wait d.0 c.args.leases.now c.ask.new.reply d.1 c.ask.new.leases c.in-Told.refused d.2 d.3,
      c.in-Ok.ensures.ok,
    )

pub returns-in-Err : goal.returns-in-Err
returns-in-Err g c =
    let names = g.D.Directory.names c.args.directory.now in
    let d = c.in-Told.ensures in (
      (
        answer_line c.in-Told.refused names c.args.group c.ask.new.reply,
        shared-line g.S.Service.facts names c.args.group c.args.op.now c.args.wait d.0 c.args.leases.now c.ask.new.reply d.1 c.ask.new.leases c.in-Told.refused d.2 d.3,
      ),
      c.in-Err.ensures.err,
    )
