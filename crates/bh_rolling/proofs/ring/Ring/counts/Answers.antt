use Rattle.std.proofs.Common.{◌≡◌, ◌≤◌, ◌^◌, ◌∙◌, sym, subst, ap}
use Rattle.bh_base.specs.declared.event.EventKind.{EventKind}
use Rattle.bh_base.specs.declared.event.Counts.{Counts}
use Rattle.bh_base.specs.History.{bucket_of, counts_by, count_in}
use Rattle.bh_base.proofs.Tables.{counts_by_same}
use Rattle.bh_base.proofs.Windows.{count_in-counts_by}
use Rattle.bh_rolling.specs.declared.stretch.Stretch.{Stretch}
use Rattle.bh_rolling.specs.Buckets.{within_count}
use Rattle.bh_rolling.specs.RingView.{RingView, ring_count}
use Rattle.bh_rolling.proofs.Counted.{counted, counted-le}
use Rattle.bh_rolling.proofs.ring.Ring.counts.Goals as goal

few : (c : goal.After-deref) (k : EventKind) → within_count c.self.inside.window.buckets c.later-end.result.number k c.deref.result.now ≤ 2 ^ 60
few c k =
    let i = c.self.inside in
    let later : i.latest ≤ c.args.now = subst (λ (r : RingView). r.latest ≤ c.args.now) (sym c.self.view_is) c.requires in
    let below : within_count i.window.buckets (bucket_of i.window c.args.now) k i.buckets.items ≤ 2 ^ 60 = counted-le i.window i.buckets.items i.latest c.args.now k c.self.invariant.some c.self.invariant.empty later (2 ^ 60) (c.self.invariant.bounded k) in
    rw c.deref.ensures.value (subst (λ (s : Stretch). within_count i.window.buckets s.number k i.buckets.items ≤ 2 ^ 60) (sym c.later-end.ensures) below)

pub sum_within-requires : goal.sum_within-requires
sum_within-requires c = few c

pub returns-clause-counts : goal.returns-clause-counts
returns-clause-counts c =
    let i = c.self.inside in
    let later : i.latest ≤ c.args.now = subst (λ (r : RingView). r.latest ≤ c.args.now) (sym c.self.view_is) c.requires in
    c.sum_within.ensures
    ∙ ap (λ bs. counts_by (λ k. within_count i.window.buckets c.later-end.result.number k bs)) c.deref.ensures.value
    ∙ ap (λ (s : Stretch). counts_by (λ k. within_count i.window.buckets s.number k i.buckets.items)) c.later-end.ensures
    ∙ counts_by_same _ _ (λ k. counted i.window i.buckets.items i.latest c.args.now k c.self.invariant.some c.self.invariant.empty later)
    ∙ ap (λ (r : RingView). counts_by (ring_count r c.args.now)) c.self.view_is

pub returns-clause-bound : goal.returns-clause-bound
returns-clause-bound c = λ k.
    let is : count_in c.sum_within.result k ≡ within_count c.self.inside.window.buckets c.later-end.result.number k c.deref.result.now =
    ap (λ (n : Counts). count_in n k) c.sum_within.ensures ∙ count_in-counts_by (λ l. within_count c.self.inside.window.buckets c.later-end.result.number l c.deref.result.now) k in
    subst (λ n. n ≤ 2 ^ 60) (sym is) (few c.before k)
