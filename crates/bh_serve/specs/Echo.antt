-- What the echo dependency answers to its arguments.
use Rattle.std.specs.Prelude.{ℕ, List, length, codes, nat_le, ◌||◌, if◌then◌else◌}
use Rattle.std.specs.Str.{bytes_eq}
use Rattle.bh_base.specs.declared.step.RunEnd.{RunEnd}
use Rattle.bh_base.specs.declared.step.RunEnd.TheVariants as run
use Rattle.bh_base.specs.declared.step.FallbackEnd.{FallbackEnd}
use Rattle.bh_base.specs.declared.step.FallbackEnd.TheVariants as fallback

-- the argument as a body: every argument is short enough
abbrev pub echoed : List ℕ → RunEnd
echoed arg = if nat_le (length arg) 256 then run.Success arg else run.Failure

-- three arguments fail, one is bad, and each other one comes back
abbrev pub run_end : List ℕ → RunEnd
run_end arg =
    if bytes_eq arg (codes "fail") || bytes_eq arg (codes "fail twice") || bytes_eq arg (codes "fail bare") then run.Failure else
    (if bytes_eq arg (codes "bad") then run.BadRequest else echoed arg)

-- two arguments have no fallback that gives a value
abbrev pub fallback_end : List ℕ → FallbackEnd
fallback_end arg =
    if bytes_eq arg (codes "fail twice") then fallback.Failure else
    (if bytes_eq arg (codes "fail bare") then fallback.Missing else fallback.Success (codes "fallback"))
