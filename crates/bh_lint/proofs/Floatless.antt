-- Objects that tell findings have no floats.
use Rattle.std.proofs.Common.{◌≡◌, ◌||◌, ℕ, List, [], ◌∷◌, false, refl}
use Rattle.serde_json.specs.Written.{has_float}
use Rattle.bh_props.specs.declared.value.Kind.{Kind}
use Rattle.bh_props.specs.declared.value.Kind.TheVariants as kinds
use Rattle.bh_props.specs.Table.{row}
use Rattle.bh_lint.specs.declared.finding.Finding.{Finding}
use Rattle.bh_lint.specs.declared.finding.Finding.TheVariants as findings
use Rattle.bh_lint.specs.declared.told.Told.{Told}
use Rattle.bh_lint.specs.Objects.{text_or_null, range_of, range_data, object_data, more_data}

text-floatless : (s : List ℕ) → has_float (text_or_null s) ≡ false
text-floatless [] = refl
text-floatless (b ∷ rest) = refl

kind-floatless : (kind : Kind) → has_float (range_of kind) ≡ false
kind-floatless (kinds.Number least most) = refl
kind-floatless kinds.QueueSize = refl
kind-floatless kinds.Truth = refl
kind-floatless kinds.Strategy = refl

range-floatless : (f : Finding) → has_float (range_data f) ≡ false
range-floatless (findings.Refused r) = refl
range-floatless (findings.BadValue fault name p s words) = kind-floatless (row p).kind
range-floatless (findings.NotMultiple name) = refl
range-floatless (findings.Unknown t name key) = refl
range-floatless (findings.Doubtful name doubt) = refl

pub object-floatless : (file : List ℕ) (t : Told) → has_float (object_data file t) ≡ false
object-floatless file t = λ i. text-floatless t.nearest i || (range-floatless t.finding i || false)

pub more-floatless : (file : List ℕ) (more : ℕ) → has_float (more_data file more) ≡ false
more-floatless file more = refl
