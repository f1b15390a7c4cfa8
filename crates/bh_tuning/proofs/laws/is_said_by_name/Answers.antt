-- For each change the tests of the names before its own compute to false, and that of its own to true.
use Rattle.std.proofs.Common.{◌≡◌, true, Ok, refl}
use Rattle.bh_base.specs.declared.props.Tuning.{Tuning}
use Rattle.bh_base.specs.declared.props.Tuning.TheVariants as tuning
use Rattle.bh_base.specs.Tunings.{is_within}
use Rattle.bh_tuning.specs.Named.{tuning_named, name_of, value_of}
use Rattle.bh_tuning.proofs.laws.is_said_by_name.Goals as goal

said : (t : Tuning) → is_within t ≡ true → tuning_named (name_of t) (value_of t) ≡ Ok t
unfolding tuning_named
said (tuning.Timeout n) w = rw w
said (tuning.TimeoutOn b) w = refl
said (tuning.Semaphore n) w = rw w
said (tuning.FallbackPermits n) w = rw w
said (tuning.FallbackOn b) w = refl
said (tuning.CircuitOn b) w = refl
said (tuning.Volume n) w = rw w
said (tuning.SleepWindow n) w = rw w
said (tuning.ErrorPercent n) w = rw w
said (tuning.ForceOpen b) w = refl
said (tuning.ForceClosed b) w = refl
said (tuning.HealthInterval n) w = rw w
said (tuning.CacheOn b) w = refl
said (tuning.CoreSize n) w = rw w
said (tuning.QueueThreshold n) w = rw w

pub returns : goal.returns
returns c = said
