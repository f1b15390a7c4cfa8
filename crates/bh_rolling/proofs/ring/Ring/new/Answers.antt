use Rattle.std.proofs.Common.{◌≡◌, [], map, refl, sym, subst}
use Rattle.std.specs.List.{range_with_len}
use Rattle.bh_rolling.specs.declared.ring.Ring.TheInside.{Inside}
use Rattle.bh_rolling.specs.Buckets.{fresh}
use Rattle.bh_rolling.specs.RingView.{RingView, IsTableOf}
use Rattle.bh_rolling.proofs.Blank.{blank_ring, blank_view, empty_tells, fresh_blank, fresh_length, fresh_placed}
use Rattle.bh_rolling.proofs.ring.Ring.new.Goals as goal

abbrev made : goal.In_ok-new_buckets → Inside
made c = record { window = record { buckets = c.args.buckets; width = c.args.width }; latest = 0; newest = c.at.result; buckets = c.in_ok-new_buckets.field-0 }

are : (c : goal.In_ok-new_buckets) → c.in_ok-new_buckets.field-0.items ≡ map fresh (range_with_len 0 c.args.buckets)
are c = c.in_ok-new_buckets.ensures

pub invariant_of-result : goal.invariant_of-result
invariant_of-result c =
    let bs = c.in_ok-new_buckets.field-0.items in
    blank_ring (made c) refl (fresh_blank c.args.buckets bs (are c)) c.requires.buckets c.requires.width (fresh_length c.args.buckets bs (are c)) c.at.ensures (fresh_placed c.args.buckets bs (are c))

pub returns-clause-empty : goal.returns-clause-empty
returns-clause-empty c = blank_view (made c) refl (fresh_blank c.args.buckets c.in_ok-new_buckets.field-0.items (are c))

pub returns-clause-events : goal.returns-clause-events
returns-clause-events c = subst (λ (r : RingView). IsTableOf r []) (sym (returns-clause-empty c)) (empty_tells (made c).window)
