-- Which count a bar shows.
use Rattle.std.specs.Prelude.{ℕ, ◌-◌}
use Rattle.bh_draw.specs.declared.bar.Bar.{Bar}
use Rattle.bh_draw.specs.declared.bar.Bar.TheVariants as bar
use Rattle.bh_look.specs.Tallies.{requests}
use Rattle.bh_look.specs.declared.tally.Tally.{Tally}

-- how many of its kind the tally has
abbrev pub bar_count : Bar → Tally → ℕ
bar_count bar.Value t = t.values
bar_count bar.FallbackValue t = t.fallback_values
bar_count bar.Error t = t.errors
bar_count bar.BadRequest t = t.bad_requests
bar_count bar.ShortCircuited t = t.short_circuited
bar_count bar.Rejected t = t.rejected
bar_count bar.Timeout t = t.timeouts
bar_count bar.Failure t = t.failures
bar_count bar.Late t = t.late

-- the requests that were answered by no value
abbrev pub without_value : Tally → ℕ
without_value t = requests t - t.values
