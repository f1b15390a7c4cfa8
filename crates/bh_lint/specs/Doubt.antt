-- Values in force that can hardly be meant.
use Rattle.std.specs.Prelude.{ℕ, List, [], ◌∷◌, drop, nat_lt, Bool, true, false, ◌&&◌, ◌==◌, is_some, Result, Ok}
use Rattle.std.specs.List.{list_any}
use Rattle.toml.specs.Data.{Data}
use Rattle.bh_base.specs.declared.props.Strategy.TheVariants as strategies
use Rattle.bh_props.specs.declared.property.Property.{Property}
use Rattle.bh_props.specs.declared.property.Property.TheVariants as properties
use Rattle.bh_props.specs.declared.value.PropertyValue.{PropertyValue}
use Rattle.bh_props.specs.declared.value.PropertyValue.TheVariants as values
use Rattle.bh_props.specs.declared.value.Fault.{Fault}
use Rattle.bh_props.specs.declared.subject.Scope.{Scope}
use Rattle.bh_props.specs.declared.subject.Scope.TheVariants as scopes
use Rattle.bh_props.specs.Tree.{look_up}
use Rattle.bh_props.specs.Table.{path_of}
use Rattle.bh_props.specs.InForce.{in_force}
use Rattle.bh_props.specs.Refusals.{number}
use Rattle.bh_lint.specs.declared.doubt.Doubt.{Doubt}
use Rattle.bh_lint.specs.declared.doubt.Doubt.TheVariants as doubts

-- each of them, that of a group alone first
abbrev pub all_doubts : List Doubt
all_doubts =
    doubts.ThresholdOverQueue ∷ doubts.PercentOver100 ∷ doubts.BothForces ∷ doubts.NoTime ∷ doubts.NoPermit ∷ doubts.IdleTimeout
    ∷ doubts.IdleFallback ∷ doubts.IdleCircuit ∷ []

-- those of a group, or of a further command
abbrev pub doubts_of : Scope → List Doubt
doubts_of scopes.Group = all_doubts
doubts_of scopes.Command = drop 1 all_doubts

-- the properties of which a group or a command gives one itself, where it is told
abbrev pub concerns : Doubt → List Property
concerns doubts.PercentOver100 = properties.ErrorPercent ∷ []
concerns doubts.BothForces = properties.ForceOpen ∷ properties.ForceClosed ∷ []
concerns doubts.ThresholdOverQueue = properties.QueueThreshold ∷ properties.MaxQueue ∷ []
concerns doubts.NoTime = properties.Timeout ∷ []
concerns doubts.NoPermit = properties.Semaphore ∷ properties.Strategy ∷ []
concerns doubts.IdleTimeout = properties.Timeout ∷ []
concerns doubts.IdleFallback = properties.FallbackPermits ∷ []
concerns doubts.IdleCircuit = properties.Volume ∷ properties.SleepWindow ∷ properties.ErrorPercent ∷ []

-- a switch that is on
abbrev pub is_on : Result PropertyValue Fault → Bool
is_on (Ok (values.Truth true)) = true
is_on _ = false

-- one that is off
abbrev pub is_off : Result PropertyValue Fault → Bool
is_off (Ok (values.Truth false)) = true
is_off _ = false

-- the number 0
abbrev pub is_zero : Result PropertyValue Fault → Bool
is_zero (Ok (values.Number n)) = n == 0
is_zero _ = false

-- the strategy by semaphore
abbrev pub has_permits : Result PropertyValue Fault → Bool
has_permits (Ok (values.Strategy strategies.Semaphore)) = true
has_permits _ = false

-- a queue of a size below the threshold
abbrev pub is_over : Result PropertyValue Fault → ℕ → Bool
is_over (Ok (values.Number size)) threshold = nat_lt size threshold
is_over _ threshold = false

-- the values in force are such
abbrev pub is_so : Doubt → (Property → Result PropertyValue Fault) → Bool
is_so doubts.PercentOver100 value = nat_lt 100 (number (value properties.ErrorPercent))
is_so doubts.BothForces value = is_on (value properties.ForceOpen) && is_on (value properties.ForceClosed)
is_so doubts.ThresholdOverQueue value = is_over (value properties.MaxQueue) (number (value properties.QueueThreshold))
is_so doubts.NoTime value = is_on (value properties.TimeoutOn) && is_zero (value properties.Timeout)
is_so doubts.NoPermit value = has_permits (value properties.Strategy) && is_zero (value properties.Semaphore)
is_so doubts.IdleTimeout value = is_off (value properties.TimeoutOn)
is_so doubts.IdleFallback value = is_off (value properties.FallbackOn)
is_so doubts.IdleCircuit value = is_off (value properties.CircuitOn)

-- the name itself gives the property
abbrev pub is_given : Data → List ℕ → Property → Bool
is_given d name p = is_some (look_up (path_of p name) d)

-- it is told of the name
abbrev pub is_doubtful : Data → List ℕ → Doubt → Bool
is_doubtful d name doubt = list_any (is_given d name) (concerns doubt) && is_so doubt (λ p. in_force p name d)
