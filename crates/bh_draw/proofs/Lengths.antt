-- Parts of lengths: none of nothing, no more than all, and exact where the product fits.
use Rattle.std.proofs.Common.{◌≡◌, ℕ, ◌+◌, ◌*◌, ◌/◌, ◌<◌, ◌≤◌, ap, ◌∙◌, arith}
use Rattle.std.proofs.Math.Nat.{mul-le-mul_right}
use Rattle.std.proofs.lemmas.Nat.{div_below, mul-le}
use Rattle.bh_look.specs.Tallies.{sum_up_to}
use Rattle.bh_draw.specs.Lengths.{product_up_to, rounded_part}

-- where the product fits, the part is exact
pub part_fits : (part whole length : ℕ) → part < whole → whole < 281474976710656 → length < 16384 → rounded_part part whole length ≡ (part * length + whole / 2) / whole
part_fits part whole length low small short =
    let wide = mul-le part length 281474976710656 16384 (omega arith) (omega arith) in
    let fits : sum_up_to (product_up_to part length) (whole / 2) ≡ part * length + whole / 2 = omega (arith, wide) in
    ap (λ n. n / whole) fits

-- a part is no longer than all
pub part_within : (part whole length : ℕ) → 0 < whole → part ≤ whole → rounded_part part whole length ≤ length
part_within part whole length some fits =
    let wide : part * length ≤ whole * length = mul-le-mul_right length fits in
    let few : sum_up_to (product_up_to part length) (whole / 2) < (length + 1) * whole = omega (arith, wide) in
    let below = div_below (sum_up_to (product_up_to part length) (whole / 2)) whole (length + 1) some few in
    omega (arith, below)

zero_part : (whole length : ℕ) → 0 < whole → rounded_part 0 whole length ≡ 0
zero_part whole length some =
    let few : sum_up_to (product_up_to 0 length) (whole / 2) < 1 * whole = omega arith in
    let below = div_below (sum_up_to (product_up_to 0 length) (whole / 2)) whole 1 some few in
    omega (arith, below)

-- nothing has no length
pub part_nothing : (part whole length : ℕ) → 0 < whole → part ≡ 0 → rounded_part part whole length ≡ 0
part_nothing part whole length some is = ap (λ n. rounded_part n whole length) is ∙ zero_part whole length some
