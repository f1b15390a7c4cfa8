use Rattle.bh_replies.specs.ToldLine.{told_line}
use Rattle.bh_replies.proofs.Putting.{put-whole}
use Rattle.bh_replies.proofs.told.put_told_within.Goals as goal

pub returns-clause-line : goal.returns-clause-line
unfolding told_line
returns-clause-line c = (put-whole _ _ _ _ _ _ c.put_object.ensures c.unwrap.ensures).0

pub returns-clause-length : goal.returns-clause-length
unfolding told_line
returns-clause-length c = (put-whole _ _ _ _ _ _ c.put_object.ensures c.unwrap.ensures).1
