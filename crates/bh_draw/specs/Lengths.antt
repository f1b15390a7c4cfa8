-- Lengths in tenths of a pixel.
use Rattle.std.specs.Prelude.{ℕ, ◌-◌, ◌*◌, ◌/◌, ◌^◌, ◌==◌, max, min, List, if◌then◌else◌}
use Rattle.std.specs.List.{fold}
use Rattle.bh_draw.specs.declared.bar.Bar.{Bar}
use Rattle.bh_draw.specs.declared.scale.Scale.{Scale}
use Rattle.bh_draw.specs.Bars.{bar_count}
use Rattle.bh_look.specs.Tallies.{sum_up_to}
use Rattle.bh_look.specs.declared.tally.Tally.{Tally}

-- the product, or the most that is counted
abbrev pub product_up_to : ℕ → ℕ → ℕ
product_up_to a b = min (a * b) (2 ^ 64 - 1)

-- that part of a length which `part` is of `whole`, rounded to the nearest, where product and sum fit; of nothing no length
abbrev pub rounded_part : ℕ → ℕ → ℕ → ℕ
rounded_part part whole length = sum_up_to (product_up_to part length) (whole / 2) / whole

-- how high so many are drawn: at least so high, and not at all where there are none
abbrev pub drawn_height : Scale → ℕ → ℕ → ℕ
drawn_height scale number least = if number == 0 then 0 else max (rounded_part number scale.most scale.height) least

-- how many there are of all these bars
abbrev pub bars_count : List Bar → Tally → ℕ
bars_count bars t = fold (λ n bar. sum_up_to n (bar_count bar t)) 0 bars

-- how high the stack of these bars is, of which none is less than so high
abbrev pub bars_height : List Bar → Tally → Scale → ℕ → ℕ
bars_height bars t scale least = fold (λ n bar. sum_up_to n (drawn_height scale (bar_count bar t) least)) 0 bars
