use Rattle.std.proofs.Common.{◌≡◌, ◌<◌, ◌∙◌, ◌∷◌, ◌++◌, [], sym, ap, false, length, List, slice_index_or, subst}
use Rattle.bh_lender.specs.Steps.{Made}
use Rattle.bh_lender.specs.Settling.{Settles}
use Rattle.bh_lender.specs.declared.lender.Left.{Left}
use Rattle.bh_lender.specs.Settling.{is_waiting}
use Rattle.bh_lender.proofs.Counting.{fewer, holders}
use Rattle.bh_lender.proofs.Settled.{one_more}
use Rattle.bh_lender.proofs.settling.settle.Goals as goal

pub loop-place-preserved : goal.loop-place-preserved
loop-place-preserved c =
    let chunks : List (List Made) = c.loop-place.invariant.0 in
    let made = c.collect.ensures.0 in
    let holder = c.take_one-holder.result in
    let same : c.as_slice.result.now ≡ c.loop-place.left.items = c.as_slice.ensures.value in
    let within : c.in-Some.place < length c.loop-place.left.items = rw same at c.in-Some.ensures.within in
    let ready : is_waiting c.loop-place.core.groups (slice_index_or c.loop-place.left.items c.in-Some.place holder) ≡ false = rw same at c.in-Some.ensures.ready holder in
    let P : List Left → Type 0 = λ left. Settles c.args.now c.args.core.now c.args.left.now.items (chunks ++ made ∷ []) c.collect.new.core left in (
      chunks ++ made ∷ [],
      subst P (sym c.take_one-holder.ensures.items) (one_more c.args.now c.args.core.now c.args.left.now.items chunks c.loop-place.core c.loop-place.left.items c.in-Some.place holder made c.collect.new.core
          c.loop-place.invariant.1 within c.take_one-holder.ensures.value (ap (is_waiting c.loop-place.core.groups) c.take_one-holder.ensures.value ∙ ready) c.collect.ensures.2 c.collect.ensures.1),
    )

pub loop-place-smaller : goal.loop-place-smaller
loop-place-smaller c =
    let holder = c.take_one-holder.result in
    let same : c.as_slice.result.now ≡ c.loop-place.left.items = c.as_slice.ensures.value in
    let within : c.in-Some.place < length c.loop-place.left.items = rw same at c.in-Some.ensures.within in
    let P : List Left → Type 0 = λ left. holders left < holders c.loop-place.left.items in
    subst P (sym c.take_one-holder.ensures.items) (fewer holder c.loop-place.left.items c.in-Some.place within c.take_one-holder.ensures.value)
