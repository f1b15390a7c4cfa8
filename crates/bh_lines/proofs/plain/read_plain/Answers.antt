use Rattle.std.proofs.Common.{refl}
use Rattle.bh_lines.proofs.PlainReading.{front_named}
use Rattle.bh_lines.proofs.plain.read_plain.Goals as goal

pub returns-in-UpTo-clause-front : goal.returns-in-UpTo-clause-front
returns-in-UpTo-clause-front c start is =
    front_named c.args.line.now c.read_members-in-UpTo.new.members.items start (c.if-not-is_at.ensures.stands refl) (c.read_members-in-UpTo.ensures.front start is)

pub returns-in_default-read_members-clause-front : goal.returns-in_default-read_members-clause-front
returns-in_default-read_members-clause-front c start is =
    front_named c.args.line.now c.read_members.new.members.items start (c.if-not-is_at.ensures.stands refl) (c.in-UpTo.ensures.front start is)
