-- Objects whose members are listed.
use Rattle.std.proofs.Common.{◌≡◌, ◌∙◌, ℕ, ◌<◌, ◌+◌, List, length, drop, slice_index_or, ap, sym, add-one, drop-cons}
use Rattle.serde_json.specs.Data.{Members}
use Rattle.bh_sharing.specs.declared.line_object.Member.{Member}
use Rattle.bh_sharing.specs.LineObject.{with_each, with_one}

-- one more of them was put
pub each-next : (ms : List Member) (i : ℕ) (d : Member) (v w all : Members) → i < length ms → with_each (drop i ms) v ≡ all → w ≡ with_one (slice_index_or ms i d) v → with_each (drop (i + 1) ms) w ≡ all
each-next ms i d v w all h so is =
    rw (add-one, is) (sym (ap (λ (xs : List Member). with_each xs v) (drop-cons ms i d h)) ∙ so)
