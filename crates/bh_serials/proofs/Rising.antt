-- Entries whose serials rise, and what keeps that.
use Rattle.std.proofs.Common.{◌<◌, ◌≤◌, ℕ, zero, suc, Bool, true, false, cond, inl, inr, subst, List, [], ◌∷◌, ◌++◌, length, set, Option, arith}
use Rattle.std.specs.List.{filter}
use Rattle.std.proofs.Math.Nat.{eq-or-lt_of_le}
use Rattle.bh_serials.specs.declared.entries.Entry.{Entry}
use Rattle.bh_serials.specs.Entries.{IsRising, entry_at}

-- from a lower one they rise too
pub IsRising-lower : (low mid high : ℕ) (es : List Entry) → low ≤ mid → IsRising mid high es → IsRising low high es
IsRising-lower low mid high [] le r = omega arith
IsRising-lower low mid high (e ∷ es) le r = let h = r.0 in (omega arith, r.1)

pub le_from_rising : (low high : ℕ) (es : List Entry) → IsRising low high es → low ≤ high
le_from_rising low high [] r = r
le_from_rising low high (e ∷ es) r = let h = r.0 in let k = le_from_rising e.serial high es r.1 in omega arith

-- each serial is between the two
pub above_low : (low high : ℕ) (es : List Entry) (k : ℕ) → k < length es → IsRising low high es → low < (entry_at es k).serial
above_low low high [] k lt r = absurd (omega arith)
above_low low high (e ∷ es) zero lt r = r.0
above_low low high (e ∷ es) (suc k) lt r =
    let h = r.0 in let i = above_low e.serial high es k (omega arith) r.1 in omega arith

-- a serial is less than those behind it
pub less_before : (low high : ℕ) (es : List Entry) (i j : ℕ) → i < j → j < length es → IsRising low high es → (entry_at es i).serial < (entry_at es j).serial
less_before low high [] i j lt le r = absurd (omega arith)
less_before low high (e ∷ es) i zero lt le r = absurd (omega arith)
less_before low high (e ∷ es) zero (suc j) lt le r = above_low e.serial high es j (omega arith) r.1
less_before low high (e ∷ es) (suc i) (suc j) lt le r = less_before e.serial high es i j (omega arith) (omega arith) r.1

-- a greater serial at the end
pub IsRising-append : (low high serial : ℕ) (slot : Option ℕ) (es : List Entry) → high < serial → IsRising low high es → IsRising low serial (es ++ record { serial = serial; slot = slot } ∷ [])
IsRising-append low high serial slot [] lt r = (omega arith, omega arith)
IsRising-append low high serial slot (e ∷ es) lt r = (r.0, IsRising-append e.serial high serial slot es lt r.1)

-- some of them
filter_if : (b : Bool) (low high : ℕ) (e : Entry) (es fs : List Entry) → low < e.serial → IsRising e.serial high fs → IsRising low high (cond b (e ∷ fs) fs)
filter_if true low high e es fs lt r = (lt, r)
filter_if false low high e es fs lt r = IsRising-lower low e.serial high fs (omega arith) r

pub IsRising-filter : (p : Entry → Bool) (low high : ℕ) (es : List Entry) → IsRising low high es → IsRising low high (filter p es)
IsRising-filter p low high [] r = r
IsRising-filter p low high (e ∷ es) r = filter_if (p e) low high e es (filter p es) r.0 (IsRising-filter p e.serial high es r.1)

-- another slot beside one of them
pub IsRising-set : (low high : ℕ) (slot : Option ℕ) (es : List Entry) (k : ℕ) → IsRising low high es → IsRising low high (set es k (record { serial = (entry_at es k).serial; slot = slot }))
IsRising-set low high slot [] k r = r
IsRising-set low high slot (e ∷ es) zero r = r
IsRising-set low high slot (e ∷ es) (suc k) r = (r.0, IsRising-set e.serial high slot es k r.1)

-- so no serial is greater than one behind it
pub no_greater_before : (high : ℕ) (es : List Entry) → IsRising 0 high es → (i j : ℕ) → i ≤ j → j < length es → (entry_at es i).serial ≤ (entry_at es j).serial
no_greater_before high es r i j le lt =
    elim (eq-or-lt_of_le le) [
      | inl e ↦ subst (λ (k : ℕ). (entry_at es i).serial ≤ (entry_at es k).serial) e (omega arith)
      | inr l ↦ (let h = less_before 0 high es i j l lt r in omega arith)
    ]
