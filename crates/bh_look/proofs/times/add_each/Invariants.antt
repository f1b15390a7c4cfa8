use Rattle.std.proofs.Common.{◌≡◌, ℕ, ◌+◌, ◌<◌, ◌≤◌, ◌^◌}
use Rattle.std.specs.Prelude.{slice_index}
use Rattle.bh_look.proofs.times.add_each.Given as goal

abbrev pub invariant-loop-grade : goal.invariant-loop-grade
invariant-loop-grade l = record {
  done : (k : ℕ) → k < l.grade → slice_index l.initial.numbers k + slice_index l.others k < 2 ^ 64 → slice_index l.numbers k ≡ slice_index l.initial.numbers k + slice_index l.others k;
  rest : (k : ℕ) → l.grade ≤ k → slice_index l.numbers k ≡ slice_index l.initial.numbers k;
}
