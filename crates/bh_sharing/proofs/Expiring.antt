-- Groups in which what is due was timed out, one after the other.
use Rattle.std.proofs.Common.{◌≡◌, ℕ, suc, ◌+◌, ◌-◌, ◌≤◌, arith, refl, subst}
use Rattle.bh_sharing.specs.Locked.{AreExpiredAt, IsExpiredAt, LockedView}

-- none
pub expired_none : (moments : ℕ → Type 0) (first : ℕ) (s : LockedView) → AreExpiredAt moments first (first - first) s s
expired_none moments first s =
    let P : ℕ → Type 0 = λ n. AreExpiredAt moments first n s s in
    let none : 0 ≡ first - first = omega arith in
    subst P none refl

-- one more
pub expired_more : (moments : ℕ → Type 0) (first number : ℕ) (old mid new : LockedView) → first ≤ number → AreExpiredAt moments first (number - first) old mid
    → IsExpiredAt moments (record { 0 = number }) mid new → AreExpiredAt moments first (number + 1 - first) old new
expired_more moments first number old mid new within before this =
    let P : ℕ → Type 0 = λ n. AreExpiredAt moments first n old new in
    let Q : ℕ → Type 0 = λ n. IsExpiredAt moments (record { 0 = n }) mid new in
    let one : suc (number - first) ≡ number + 1 - first = omega arith in
    let place : number ≡ first + (number - first) = omega arith in
    subst P one (mid, before, subst Q place this)

-- as many
pub expired_all : (moments : ℕ → Type 0) (first n m : ℕ) (old new : LockedView) → n ≡ m → AreExpiredAt moments first n old new → AreExpiredAt moments first m old new
expired_all moments first n m old new same all = let P : ℕ → Type 0 = λ k. AreExpiredAt moments first k old new in subst P same all

-- how many they were at the end
pub same_count : (first end number : ℕ) → first ≤ number → (first ≤ end → number ≤ end) → (end ≤ first → number ≡ first) → end ≤ number → number - first ≡ end - first
same_count first end number above within none past = grind arith
