use Rattle.std.proofs.Common.{List, [], ◌∷◌, ◌++◌, arith, sym, ap, ◌∙◌}
use Rattle.std.proofs.lemmas.List.FromFn.{map-range_with_len_more}
use Rattle.bh_base.specs.declared.event.Counts.{Counts}
use Rattle.bh_rolling.specs.declared.ring.Bucket.{Bucket}
use Rattle.bh_rolling.specs.Buckets.{fresh}
use Rattle.bh_rolling.proofs.ring.new_buckets.Goals as goal

pub loop-number-preserved : goal.loop-number-preserved
loop-number-preserved c =
    c.in_ok-push.ensures.items
    ∙ ap (λ (n : Counts). c.loop-number.buckets.items ++ record { number = c.loop-number.number; counts = n } ∷ []) c.no_counts.ensures
    ∙ ap (λ (xs : List Bucket). xs ++ fresh c.loop-number.number ∷ []) c.loop-number.invariant
    ∙ sym (map-range_with_len_more fresh 0 c.loop-number.number c.loop-number.number (omega arith))
