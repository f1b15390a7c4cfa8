use Rattle.std.proofs.Common.{refl}
use Rattle.bh_replies.specs.ToldLine.{told_line}
use Rattle.bh_replies.proofs.Putting.{line-put}
use Rattle.bh_replies.proofs.told.put_told.Goals as goal

pub returns-clause-ok : goal.returns-clause-ok
unfolding told_line
returns-clause-ok c = line-put _ _ _ _ c.end_line.new.bytes _ _ _ c.put_object-put.ensures c.end_line.ensures.ok c.end_line.ensures.put refl
