use Rattle.std.proofs.Common.{◌≤◌, ◌^◌, ◌∙◌, sym, subst, ap}
use Rattle.bh_base.specs.History.{bucket_of, health_by}
use Rattle.bh_rolling.specs.declared.stretch.Stretch.{Stretch}
use Rattle.bh_rolling.specs.Buckets.{within_count}
use Rattle.bh_rolling.specs.RingView.{RingView, ring_count}
use Rattle.bh_rolling.proofs.Counted.{counted, counted-le}
use Rattle.bh_rolling.proofs.Healths.{health_by_same}
use Rattle.bh_rolling.proofs.ring.Ring.health.Goals as goal

pub health_within-requires : goal.health_within-requires
health_within-requires c = λ k.
    let i = c.self.inside in
    let later : i.latest ≤ c.args.now = subst (λ (r : RingView). r.latest ≤ c.args.now) (sym c.self.view_is) c.requires in
    let below : within_count i.window.buckets (bucket_of i.window c.args.now) k i.buckets.items ≤ 2 ^ 60 = counted-le i.window i.buckets.items i.latest c.args.now k c.self.invariant.some c.self.invariant.empty later (2 ^ 60) (c.self.invariant.bounded k) in
    rw c.deref.ensures.value (subst (λ (s : Stretch). within_count i.window.buckets s.number k i.buckets.items ≤ 2 ^ 60) (sym c.later-end.ensures) below)

pub returns : goal.returns
returns c =
    let i = c.self.inside in
    let later : i.latest ≤ c.args.now = subst (λ (r : RingView). r.latest ≤ c.args.now) (sym c.self.view_is) c.requires in
    c.health_within.ensures
    ∙ ap (λ bs. health_by (λ k. within_count i.window.buckets c.later-end.result.number k bs)) c.deref.ensures.value
    ∙ ap (λ (s : Stretch). health_by (λ k. within_count i.window.buckets s.number k i.buckets.items)) c.later-end.ensures
    ∙ health_by_same _ _ (λ k. counted i.window i.buckets.items i.latest c.args.now k c.self.invariant.some c.self.invariant.empty later)
    ∙ ap (λ (r : RingView). health_by (ring_count r c.args.now)) c.self.view_is
