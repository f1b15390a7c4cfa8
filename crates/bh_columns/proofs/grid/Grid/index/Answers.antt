use Rattle.std.proofs.Common.{◌≡◌, ◌+◌, ◌*◌, ◌/◌, ◌<◌, ◌≤◌, ℕ, suc, arith}
use Rattle.std.proofs.Math.Nat.{suc-mul}
use Rattle.std.proofs.lemmas.Nat.{div_below, le-div}
use Rattle.bh_columns.proofs.grid.Grid.index.Goals as goal

-- the column in which a moment lies is that of its index
index_is : (k w m : ℕ) → 0 < w → k * w ≤ m → m < k * w + w → k ≡ m / w
index_is k w m some from to =
    let one : suc k * w ≡ k * w + w = suc-mul k w in
    let least : k ≤ m / w = le-div k m w some from in
    let below : m / w < suc k = div_below m w (suc k) some (omega (arith, to, one)) in
    omega (arith, least, below)

pub returns-then-is_latest : goal.returns-then-is_latest
returns-then-is_latest c =
    let g = c.args.self.now in
    let (from, to) = c.is_latest.ensures c.if-is_latest.true in
    index_is g.latest g.width c.args.moment g.some_width (omega (arith, from, g.begins)) (omega (arith, to, g.begins))
