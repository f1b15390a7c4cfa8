use Rattle.std.proofs.Common.{◌≡◌, ◌%◌, [], length, map, refl, sym, subst, ap, ◌∙◌, arith}
use Rattle.std.proofs.lemmas.List.{length-map, with_items_is}
use Rattle.std.specs.Vec.{with_items}
use Rattle.bh_rolling.specs.declared.ring.Ring.TheInside.{Inside}
use Rattle.bh_rolling.specs.Buckets.{cleared}
use Rattle.bh_rolling.specs.RingView.{RingView, IsTableOf, empty_ring}
use Rattle.bh_rolling.proofs.Blank.{blank_ring, blank_view, empty_tells, cleared_blank, cleared_length, cleared_number}
use Rattle.bh_rolling.proofs.ring.Ring.clear.Goals as goal

abbrev left : goal.After-self-3-1 → Inside
left c = record { window = c.self.inside.window; latest = 0; newest = c.at-self-inside.result; buckets = with_items c.self.inside.buckets c.clear_buckets.new.buckets }

-- the buckets after the loop are those before it, cleared
are : (c : goal.After-self-3-1) → (with_items c.self.inside.buckets c.clear_buckets.new.buckets).items ≡ map cleared c.self.inside.buckets.items
are c =
    let old = c.self.inside.buckets in
    let done : c.clear_buckets.new.buckets ≡ map cleared old.items = rw c.deref_mut.ensures.value at c.clear_buckets.ensures in
    with_items_is old c.clear_buckets.new.buckets (ap length done ∙ length-map old.items cleared ∙ sym old.ok.0) ∙ done

pub invariant_of-self : goal.invariant_of-self
invariant_of-self c =
    let old = c.self.inside.buckets in
    let ring = c.self.invariant in
    blank_ring (left c) refl (cleared_blank old.items (left c).buckets.items (are c)) ring.some ring.width (cleared_length old.items (left c).buckets.items (are c) ∙ ring.buckets) c.at-self-inside.ensures
    (λ q d inside. ap (λ n. n % c.self.inside.window.buckets) (cleared_number old.items (left c).buckets.items (are c) q d (omega (arith, ring.buckets))) ∙ ring.placed q d inside)

pub returns-clause-empty : goal.returns-clause-empty
returns-clause-empty c =
    blank_view (left c) refl (cleared_blank c.self.inside.buckets.items (left c).buckets.items (are c)) ∙ ap (λ (r : RingView). empty_ring r.window) c.self.view_is

pub returns-clause-events : goal.returns-clause-events
returns-clause-events c = subst (λ (r : RingView). IsTableOf r []) (sym (returns-clause-empty c)) (empty_tells c.args.self.now.window)
