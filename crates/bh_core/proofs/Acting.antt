-- A registration as an act.
use Rattle.std.proofs.Common.{◌≡◌, ◌+◌, ◌<◌, ◌≤◌, ℕ, zero, suc, List, [], ◌∷◌, length, get_or, Some, refl, subst, arith}
use Rattle.std.proofs.lemmas.Option.{slice_get_read}
use Rattle.std.specs.List.{AllByRecursion}
use Rattle.std.specs.Prelude.{slice_get}
use Rattle.bh_base.specs.Props.{GroupProps}
use Rattle.bh_base.specs.declared.step.GroupId.{GroupId}
use Rattle.bh_core.specs.declared.service.acts.Act.{Act}
use Rattle.bh_core.specs.declared.service.acts.Act.TheVariants as act
use Rattle.bh_core.specs.declared.service.acts.Outcome.TheVariants as outcome
use Rattle.bh_core.specs.declared.service.RegisterError.{RegisterError}
use Rattle.bh_core.specs.declared.service.RegisterError.TheVariants as register
use Rattle.bh_core.specs.Acts.{IsAct, IsActOf, with_opened}
use Rattle.bh_core.specs.CoreView.{CoreView, most_groups, slots_in}

-- what holds of all holds of the one at a place
pub all_at : {X : Type 0} (P : X → Type 0) (xs : List X) (i : ℕ) (x : X) → AllByRecursion P xs → slice_get xs i ≡ Some x → P x
all_at P [] i x all e = absurd cc
all_at P (y ∷ ys) zero x all e = (let same : y ≡ x = cc in subst P same all.0)
all_at P (y ∷ ys) (suc i) x all e = all_at P ys i x all.1 e

-- what the code reads at a place within a list stands there
pub read_at : {X : Type 0} (xs : List X) (i : ℕ) (x : X) → i < length xs → x ≡ get_or xs i x → slice_get xs i ≡ Some x
read_at xs i x inside read = slice_get_read xs (length xs) i x refl inside read

-- the properties at the place, which is within the list
pub asked_props : (props : List GroupProps) (a : Act) (place limit : ℕ) (p : GroupProps) → IsActOf (length props) a → a ≡ act.Register place limit → p ≡ get_or props place p → slice_get props place ≡ Some p
asked_props props a place limit p asked is read =
    let in_range : IsActOf (length props) (act.Register place limit) = subst (IsActOf (length props)) is asked in
    slice_get_read props (length props) place p refl in_range.0 read

-- a group was registered
pub registered_act : (props : List GroupProps) (place limit : ℕ) (p : GroupProps) (old new : CoreView) (id : GroupId) → slice_get props place ≡ Some p → id.0 ≡ length old.lives → (most_groups ≤ length old.lives → ⊥) → ((length old.lives < most_groups) × (old.slot_limit < slots_in old.lives + p.slots) → ⊥) → new ≡ with_opened p limit old → IsAct props old (act.Register place limit, outcome.Registered id) new
registered_act props place limit p old new id at number few room is =
    let fewer : length old.lives < most_groups = less _ _ few in
    (p, at, number, fewer, at_most _ _ (λ more. room (fewer, more)), is)
  where
    less : (m n : ℕ) → (n ≤ m → ⊥) → m < n
    less m n h = grind arith

    at_most : (m n : ℕ) → (n < m → ⊥) → m ≤ n
    at_most m n h = grind arith

-- none was
pub unregistered_act : (props : List GroupProps) (place limit : ℕ) (p : GroupProps) (old new : CoreView) (e : RegisterError) → slice_get props place ≡ Some p → (e ≡ register.TooManyGroups → most_groups ≤ length old.lives) → (most_groups ≤ length old.lives → e ≡ register.TooManyGroups)
    → (e ≡ register.TooManySlots → (length old.lives < most_groups) × (old.slot_limit < slots_in old.lives + p.slots)) → ((length old.lives < most_groups) × (old.slot_limit < slots_in old.lives + p.slots) → e ≡ register.TooManySlots)
    → new ≡ old → IsAct props old (act.Register place limit, outcome.NotRegistered e) new
unregistered_act props place limit p old new register.TooManyGroups at many some room beyond same = (p, at, many refl, same)
unregistered_act props place limit p old new register.TooManySlots at many some room beyond same = (p, at, room refl, same)
unregistered_act props place limit p old new register.Memory at many some room beyond same =
    let fewer : length old.lives < most_groups = less _ _ (λ h. let both : register.Memory ≡ register.TooManyGroups = some h in cc) in
    (p, at, (fewer, at_most _ _ (λ more. let both : register.Memory ≡ register.TooManySlots = beyond (fewer, more) in cc)), same)
  where
    less : (m n : ℕ) → (n ≤ m → ⊥) → m < n
    less m n h = grind arith

    at_most : (m n : ℕ) → (n < m → ⊥) → m ≤ n
    at_most m n h = grind arith
