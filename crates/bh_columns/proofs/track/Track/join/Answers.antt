use Rattle.std.proofs.Common.{◌≡◌, ◌+◌, ◌*◌, ◌-◌, ◌/◌, ◌^◌, ◌<◌, ◌≤◌, inl, inr, ℕ, length, get_or, set, take, sym, ap, ◌∙◌, arith}
use Rattle.std.proofs.Math.Nat.{div-mul-le_self, lt-div-mul-add}
use Rattle.std.proofs.lemmas.Bool.{cases_lt}
use Rattle.std.proofs.lemmas.List.{get_or-set_other, get_or-set_same, get_or-take, length-set, length-take}
use Rattle.bh_port.proofs.Keeping.{either}
use Rattle.bh_columns.specs.Columns.{no_column}
use Rattle.bh_columns.specs.Tracks.{column_at, joined_run}
use Rattle.bh_columns.proofs.Joining.{run_none, run_same}
use Rattle.bh_columns.proofs.Tracking.{column_in, none_before, none_beyond, none_past, same_read, shown_at}
use Rattle.bh_columns.proofs.track.Track.join.Goals as goal

pub loop-place-preserved : goal.loop-place-preserved
loop-place-preserved c =
    let old = c.args.self.now in
    let mid = c.loop-place.self in
    let p = c.loop-place.place in
    let q = old.first / 10 in
    let most : q * 10 ≤ old.first = div-mul-le_self old.first 10 in
    let below : old.first < q * 10 + 10 = lt-div-mul-add (omega arith) in
    let inside : p < length mid.columns.items = omega (arith, c.loop-place-test.true, c.joined_count-count.ensures.within, c.loop-place.invariant.count) in
    let reads : (k : ℕ) → k < 10 → column_at mid ((q + p) * 10 + k) ≡ column_at old ((q + p) * 10 + k) = λ k lt.
    let i = (q + p) * 10 + k in
    let firsts : column_at mid i ≡ column_in old.first mid.columns.items i = ap (λ f. column_in f mid.columns.items i) c.loop-place.invariant.first in
    elim (cases_lt i old.first) [
      | inl before ↦ firsts ∙ none_before old.first mid.columns.items i before ∙ sym (none_before old.first old.columns.items i before)
      | inr from ↦ firsts ∙ same_read old.first mid.columns.items old.columns.items i (c.loop-place.invariant.rest (i - old.first) (omega (arith, most, below, from, lt)))
    ] in
    let made : c.joined-joined.result ≡ joined_run (column_at old) ((q + p) * 10) 10 = c.joined-joined.ensures ∙ run_same (column_at mid) (column_at old) ((q + p) * 10) 10 reads in
    record {
      first = c.loop-place.invariant.first;
      count = length-set mid.columns.items p c.joined-joined.result ∙ c.loop-place.invariant.count;
      done = λ k lt. elim (either k p) [
        | inl is ↦ ap (λ n. get_or (set mid.columns.items p c.joined-joined.result) n no_column) is ∙ get_or-set_same mid.columns.items p c.joined-joined.result no_column inside ∙ made ∙ ap (λ n. joined_run (column_at old) ((q + n) * 10) 10) (sym is)
        | inr differ ↦ get_or-set_other mid.columns.items p k c.joined-joined.result no_column differ ∙ c.loop-place.invariant.done k (omega (arith, lt, differ))
      ];
      rest = λ k le. get_or-set_other mid.columns.items p k c.joined-joined.result no_column (λ is. absurd (omega (arith, le, is))) ∙ c.loop-place.invariant.rest k (omega (arith, le));
    }

pub returns : goal.returns
returns c = λ index.
    let old = c.args.self.now in
    let items = c.loop-place.self.columns.items in
    let q = old.first / 10 in
    let n = c.joined_count-count.result in
    let last = c.truncate.new.self.items in
    let is : last ≡ take n items = c.truncate.ensures.items in
    let most : q * 10 ≤ old.first = div-mul-le_self old.first 10 in
    elim (cases_lt index (2 ^ 64)) [
      | inr beyond ↦ none_beyond q last index beyond ∙ sym (run_none (column_at old) (index * 10) 10 (λ k lt. none_beyond old.first old.columns.items (index * 10 + k) (omega (arith, beyond))))
      | inl small ↦ elim (cases_lt index q) [
        | inl before ↦ none_before q last index before ∙ sym (run_none (column_at old) (index * 10) 10 (λ k lt. none_before old.first old.columns.items (index * 10 + k) (omega (arith, before, most, lt))))
        | inr from ↦ elim (cases_lt index (q + n)) [
          | inl within ↦ (
              let k = index - q in
              let below : k < n = omega (arith, within, from) in
              let whole : q + k ≡ index = omega (arith, from) in
              shown_at q last index from small ∙ ap (λ xs. get_or xs k no_column) is ∙ get_or-take n items k no_column below ∙ c.loop-place.invariant.done k (omega (arith, below, c.loop-place-test.false)) ∙ ap (λ m. joined_run (column_at old) (m * 10) 10) whole)
          | inr past ↦ none_past q last index (omega (arith, past, ap length is, length-take n items)) ∙ sym (run_none (column_at old) (index * 10) 10 (λ k lt. c.joined_count-count.ensures.all index k past))
        ]
      ]
    ]
