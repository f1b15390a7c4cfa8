use Rattle.std.proofs.Common.{map, false}
use Rattle.std.specs.Iterator.Adapters.{zip_first, zip_second}
use Rattle.std.specs.Slice.Iter.{iter_rest}
use Rattle.bh_replies.specs.Puts.{counts_text, counts_most}
use Rattle.bh_replies.proofs.Putting.{Leaves}
use Rattle.bh_replies.proofs.replies.put_counts.Given as goal

abbrev pub invariant-loop-front : goal.invariant-loop-front
invariant-loop-front l =
    let left = map (λ front. front.now) (iter_rest (zip_first l.front-iterator)) in
    let all = map (λ front. front.now) l.fronts in
    Leaves l.fn.bytes l.bytes (counts_text l.later left (iter_rest (zip_second l.front-iterator))) (counts_most left) (counts_text false all l.counts) (counts_most all)
