use Rattle.bh_sharing.proofs.Saying.{put-says-end}
use Rattle.bh_sharing.proofs.step_line.put_end.Goals as goal

pub returns-clause-says : goal.returns-clause-says
returns-clause-says g c =
    put-says-end c.extend_from_slice.result c.args.now _ c.in-Some.group.now _ c.in-Some.ensures c.in_ok-value.ensures c.in_ok-line.ensures.reads
