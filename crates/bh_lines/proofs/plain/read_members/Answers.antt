use Rattle.bh_lines.proofs.PlainReading.{whole_line}
use Rattle.bh_lines.proofs.plain.read_members.Goals as goal

pub returns-in-End-clause-found : goal.returns-in-End-clause-found
returns-in-End-clause-found g c whole =
    (whole_line c.args.line.now c.loop-follows.members.items c.take_member.new.members.items c.in-Some.follows c.in-End.end c.requires.opens c.in-Some.ensures c.in-End.is c.if-end-line.true).0

pub returns-in-End-clause-value : goal.returns-in-End-clause-value
returns-in-End-clause-value g c whole =
    (whole_line c.args.line.now c.loop-follows.members.items c.take_member.new.members.items c.in-Some.follows c.in-End.end c.requires.opens c.in-Some.ensures c.in-End.is c.if-end-line.true).1
