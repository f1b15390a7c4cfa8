-- The stretches of moments that the buckets of a window count.
use Rattle.std.specs.Prelude.{◌≡◌, ℕ, ◌*◌, ◌%◌}
use Rattle.bh_base.specs.declared.event.Window.{Window}
use Rattle.bh_base.specs.History.{bucket_of}
use Rattle.bh_rolling.specs.declared.stretch.Stretch.{Stretch}

-- the stretch that the moment lies in
abbrev pub stretch_at : Window → ℕ → Stretch
stretch_at w moment = record { number = bucket_of w moment; begin = bucket_of w moment * w.width; place = bucket_of w moment % w.buckets }

-- it is the stretch of the bucket whose number it has
pub record IsStretchOf (w : Window) (s : Stretch) : Type 0 where
  pub begin : s.begin ≡ s.number * w.width
  pub place : s.place ≡ s.number % w.buckets
