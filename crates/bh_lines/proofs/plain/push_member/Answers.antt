use Rattle.std.proofs.Common.{◌≡◌, ◌<◌, [], ◌∷◌, ◌++◌, length, arith}
use Rattle.bh_lines.proofs.PlainReading.{taken_by}
use Rattle.bh_lines.proofs.plain.push_member.Goals as goal

pub returns : goal.returns
returns c =
    let found = c.args.members.now.items in
    let pushed : c.try_push.new.self.items ≡ found ++ c.args.member ∷ [] = grind arith in
    let room : length found < 8 = grind arith in
    taken_by c.args.line.now found c.try_push.new.self.items c.args.member c.args.behind c.in_ok-follows.follows c.requires c.in_ok-follows.ensures room pushed
