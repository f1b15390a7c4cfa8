use Rattle.std.proofs.Common.{◌≡◌, ◌%◌, ◌<◌, ◌≤◌, ◌^◌, [], ◌∷◌, ◌++◌, get_or, ◌∙◌, sym, subst, ap, arith}
use Rattle.bh_base.specs.declared.event.Counts.{Counts}
use Rattle.bh_base.specs.History.{bucket_of, count_in}
use Rattle.bh_rolling.specs.declared.ring.Bucket.{Bucket}
use Rattle.bh_rolling.specs.declared.ring.Ring.TheInside.{Inside}
use Rattle.bh_rolling.specs.declared.stretch.Stretch.{Stretch}
use Rattle.std.specs.Vec.{with_item}
use Rattle.bh_rolling.specs.Buckets.{raised, renewed}
use Rattle.bh_rolling.specs.Inside.{ring_view, IsRing}
use Rattle.bh_rolling.specs.RingView.{RingView, IsTableOf, ring_count, ring_recorded}
use Rattle.bh_rolling.proofs.Counted.{counted-le}
use Rattle.bh_rolling.proofs.Recorded.{recorded_ring, recorded_view, renewed-le}
use Rattle.bh_rolling.proofs.Tells.{tells_more}
use Rattle.bh_rolling.proofs.Written.{written}
use Rattle.bh_rolling.proofs.ring.Ring.record.Goals as goal

pub raise-requires : goal.raise-requires
raise-requires c =
    let i = c.self.inside in
    let number = bucket_of i.window c.args.now in
    let later : i.latest ≤ c.args.now = subst (λ (r : RingView). r.latest ≤ c.args.now) (sym c.self.view_is) c.requires.later in
    let held : c.index_mut-bucket.result.now ≡ get_or i.buckets.items (number % i.window.buckets) c.index_mut-bucket.result.now =
    c.index_mut-bucket.ensures.value ∙ ap (λ (s : Stretch). get_or i.buckets.items s.place c.index_mut-bucket.result.now) c.later-newest.ensures in
    let renewed_is : c.renew.new.bucket ≡ renewed number (get_or i.buckets.items (number % i.window.buckets) c.index_mut-bucket.result.now) =
    c.renew.ensures ∙ ap (λ (s : Stretch). renewed s.number c.index_mut-bucket.result.now) c.later-newest.ensures ∙ ap (renewed number) held in
    omega (
      arith,
      ap (λ (b : Bucket). count_in b.counts c.args.kind) renewed_is,
      renewed-le i.window.buckets number (2 ^ 60) c.args.kind i.buckets.items (number % i.window.buckets) c.index_mut-bucket.result.now c.self.invariant.some (omega (arith, c.self.invariant.some, c.self.invariant.buckets))
          (counted-le i.window i.buckets.items i.latest c.args.now c.args.kind c.self.invariant.some c.self.invariant.empty later (2 ^ 60) (c.self.invariant.bounded c.args.kind)),
    )

-- the bucket that is written
abbrev bucket : goal.After-self-2-1 → Bucket
bucket c = record { number = c.renew.new.bucket.number; counts = c.raise.new.counts }

-- it is the one of the number, with one more event
bucket_is : (c : goal.After-self-2-1) → bucket c ≡ written (bucket_of c.self.inside.window c.args.now) c.args.kind (get_or c.self.inside.buckets.items (bucket_of c.self.inside.window c.args.now % c.self.inside.window.buckets) c.index_mut-bucket.result.now)
bucket_is c =
    let number = bucket_of c.self.inside.window c.args.now in
    ap (λ (n : Counts). record { number = c.renew.new.bucket.number; counts = n }) c.raise.ensures
    ∙ ap (λ (b : Bucket). record { number = b.number; counts = raised c.args.kind b.counts }) c.renew.ensures
    ∙ ap (λ (s : Stretch). written s.number c.args.kind c.index_mut-bucket.result.now) c.later-newest.ensures
    ∙ ap (written number c.args.kind) c.index_mut-bucket.ensures.value
    ∙ ap (λ (s : Stretch). written number c.args.kind (get_or c.self.inside.buckets.items s.place c.index_mut-bucket.result.now)) c.later-newest.ensures

later : (c : goal.After-self-2-1) → c.self.inside.latest ≤ c.args.now
later c = subst (λ (r : RingView). r.latest ≤ c.args.now) (sym c.self.view_is) c.requires.later

few : (c : goal.After-self-2-1) → ring_count (ring_view c.self.inside) c.args.now c.args.kind < 2 ^ 60
few c = subst (λ (r : RingView). ring_count r c.args.now c.args.kind < 2 ^ 60) (sym c.self.view_is) c.requires.few

-- the ring that is left, were this its newest stretch
abbrev left : goal.After-self-2-1 → Stretch → Inside
left c s = record { window = c.self.inside.window; latest = c.args.now; newest = s; buckets = with_item c.self.inside.buckets s.place (bucket c) }

pub invariant_of-self : goal.invariant_of-self
invariant_of-self c =
    subst (λ (s : Stretch). IsRing (left c s)) (sym c.later-newest.ensures)
    (recorded_ring c.self.inside c.args.now c.args.kind c.index_mut-bucket.result.now (bucket c) c.self.invariant (later c) (few c) (bucket_is c))

pub returns-clause-recorded : goal.returns-clause-recorded
returns-clause-recorded c =
    ap (λ (s : Stretch). ring_view (left c s)) c.later-newest.ensures
    ∙ recorded_view c.self.inside c.args.now c.args.kind c.index_mut-bucket.result.now (bucket c) c.self.invariant (later c) (few c) (bucket_is c)
    ∙ ap (ring_recorded c.args.now c.args.kind) c.self.view_is

pub returns-clause-events : goal.returns-clause-events
returns-clause-events c = λ events is.
    subst (λ (r : RingView). IsTableOf r (events ++ record { moment = c.args.now; kind = c.args.kind } ∷ [])) (sym (returns-clause-recorded c)) (tells_more c.args.self.now events c.args.now c.args.kind c.requires.later is)
