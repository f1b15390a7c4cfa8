-- The stretches of moments that the buckets of a window count.
use Rattle.std.proofs.Common.{◌≡◌, ℕ, ◌-◌, ◌*◌, ◌%◌, ◌<◌, ◌≤◌, refl, ◌∙◌, sym, ap, subst, arith}
use Rattle.std.proofs.Math.Nat.{div-eq_of_lt-le, div-mul-le_self}
use Rattle.bh_base.specs.declared.event.Window.{Window}
use Rattle.bh_base.specs.History.{bucket_of}
use Rattle.bh_rolling.specs.declared.stretch.Stretch.{Stretch}
use Rattle.bh_rolling.specs.Stretches.{stretch_at, IsStretchOf}

-- a later moment that is less than a width behind the begin of a stretch lies in it
pub same_stretch : (w : Window) (s : Stretch) (moment : ℕ) → IsStretchOf w s → s.begin ≤ moment → moment - s.begin < w.width → s ≡ stretch_at w moment
same_stretch w s moment is later soon =
    let number : s.number ≡ bucket_of w moment = sym (div-eq_of_lt-le w.width (omega (arith, is.begin)) (omega (arith, is.begin))) in
    λ j. record { number = number j; begin = (is.begin ∙ ap (λ n. n * w.width) number) j; place = (is.place ∙ ap (λ n. n % w.buckets) number) j }

module _ (w : Window) (s : Stretch) (latest : ℕ) (is : s ≡ stretch_at w latest) where
  -- the stretch of a moment is that of its bucket
  pub newest_one : IsStretchOf w s
  newest_one = subst (IsStretchOf w) (sym is) (record { begin = refl; place = refl })

  -- and begins no later than any later moment
  pub newest_begun : (moment : ℕ) → latest ≤ moment → s.begin ≤ moment
  newest_begun moment later = omega (arith, ap (λ (t : Stretch). t.begin) is, div-mul-le_self latest w.width)
