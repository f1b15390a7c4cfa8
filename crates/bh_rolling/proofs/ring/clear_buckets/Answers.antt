use Rattle.std.proofs.Common.{get_or, set, ◌∙◌, ap, arith}
use Rattle.std.proofs.lemmas.List.{get_or_default}
use Rattle.std.proofs.lemmas.List.Edits.{map_over_more}
use Rattle.bh_base.specs.declared.event.Counts.{Counts}
use Rattle.bh_rolling.specs.declared.ring.Bucket.{Bucket}
use Rattle.bh_base.specs.Tables.{no_counts}
use Rattle.bh_rolling.specs.Buckets.{cleared}
use Rattle.bh_rolling.proofs.ring.clear_buckets.Goals as goal

pub loop-bucket-preserved : goal.loop-bucket-preserved
loop-bucket-preserved c =
    let i = c.loop-bucket.bucket-index in
    let d : Bucket = record { number = 0; counts = no_counts } in
    ap (λ (n : Counts). set c.loop-bucket.buckets i (record { number = (get_or c.loop-bucket.buckets i d).number; counts = n })) c.no_counts-bucket.ensures
    ∙ map_over_more cleared c.args.buckets.now c.loop-bucket.buckets i (get_or c.loop-bucket.buckets i d) c.loop-bucket-test.true c.loop-bucket.invariant (get_or_default c.loop-bucket.buckets i d (get_or c.loop-bucket.buckets i d) (omega (arith, c.loop-bucket-test.true, c.loop-bucket.auto.buckets)))
