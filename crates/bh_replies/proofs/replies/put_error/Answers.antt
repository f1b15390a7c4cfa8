use Rattle.std.proofs.Common.{refl}
use Rattle.bh_replies.proofs.Putting.{line-put}
use Rattle.bh_replies.proofs.replies.put_error.Goals as goal

pub returns-clause-ok : goal.returns-clause-ok
returns-clause-ok c = line-put _ _ _ _ c.end_line.new.bytes _ _ _ c.put_error_object-put.ensures c.end_line.ensures.ok c.end_line.ensures.put refl
