-- What one turn does to what stands under the lock.
use Rattle.std.specs.Prelude.{◌≡◌, ◌⊎◌, ℕ, zero, suc, ◌+◌, Bool, true, false, Option, None, Some, max}
use Rattle.bh_base.specs.declared.reply.Reply.{Reply}
use Rattle.bh_base.specs.declared.step.GroupId.{GroupId}
use Rattle.bh_base.specs.declared.step.Op.{Op}
use Rattle.bh_lease.specs.declared.leases.Refusal.{Refusal}
use Rattle.bh_lease.specs.Leases.{LeasesView, cleared, entered, entry_refusal, refusal}
use Rattle.bh_lender.specs.Lender.{IsExpired, IsGivenBack, LenderView}
use Rattle.bh_lender.specs.Steps.{step_at}
use Rattle.bh_sharing.specs.declared.asks.Said.{Said}
use Rattle.bh_sharing.specs.declared.asks.Said.TheVariants as said
use Rattle.bh_sharing.specs.Service.{Facts}
use Rattle.bh_turns.specs.Turn.{IsDone, has_to_wait}

-- the groups with the holders that are left, and the moment of the latest turn
pub record LockedView : Type 0 where
  pub lender : LenderView
  pub latest : ℕ

-- the moment of the turn was read from the clock in it, and no turn is earlier than those before it
abbrev pub IsReadAfter : (ℕ → Type 0) → ℕ → ℕ → Type 0
IsReadAfter moments old new = (read : ℕ) × moments read × (new ≡ max old read)

-- a step need not wait: it is not to, or the service was stopped, or it would be answered neither Pending nor Idle
abbrev pub NeedNotWait : Facts → Bool → LenderView → LeasesView → GroupId → Op → Type 0
NeedNotWait facts wait lender had group o = wait ≡ true → facts.stopped ⊎ (has_to_wait lender had group o ≡ false)

-- the step need not wait, and was made at the moment of the turn, or refused by what the connection has; or it is to wait and
-- has to, and nothing was done
abbrev pub IsTurnAt : Facts → GroupId → Op → Bool → LockedView → LeasesView → Reply → LockedView → LeasesView → Said → Type 0
IsTurnAt facts group o wait old had reply new has (said.Told refused) =
    NeedNotWait facts wait old.lender had group o × IsReadAfter facts.moments old.latest new.latest × (refused ≡ refusal group o had)
    × IsDone (step_at group new.latest o) reply old.lender had new.lender has
IsTurnAt facts group o wait old had reply new has said.Waits =
    (wait ≡ true) × (has_to_wait old.lender had group o ≡ true) × (new ≡ old) × (has ≡ had)
IsTurnAt facts group o wait old had reply new has _ = ⊥

-- the connection is within the request context from now on, unless it may not enter it
abbrev pub entered_unless : Option Refusal → GroupId → ℕ → LeasesView → LeasesView
entered_unless None group context had = record had { contexts = entered group context had.contexts }
entered_unless (Some why) group context had = had

-- it was entered, or refused by what the connection has; no step was made
abbrev pub IsEntry : GroupId → ℕ → LeasesView → Option Refusal → LeasesView → Type 0
IsEntry group context had refused has =
    (refused ≡ entry_refusal group context had) × (has ≡ entered_unless (entry_refusal group context had) group context had)

-- all that the connection had was given back, at the moment of the turn
abbrev pub IsGivenBackAt : (ℕ → Type 0) → LockedView → LeasesView → LockedView → LeasesView → Type 0
IsGivenBackAt moments old had new has =
    IsReadAfter moments old.latest new.latest × IsGivenBack new.latest had old.lender new.lender × (has ≡ cleared had)

-- what was due in the group was timed out, at the moment of the turn
abbrev pub IsExpiredAt : (ℕ → Type 0) → GroupId → LockedView → LockedView → Type 0
IsExpiredAt moments group old new =
    (number : Option ℕ) × IsReadAfter moments old.latest new.latest × IsExpired group new.latest number old.lender new.lender

-- the same in so many groups one after the other, from this number on
abbrev pub AreExpiredAt : (ℕ → Type 0) → ℕ → ℕ → LockedView → LockedView → Type 0
AreExpiredAt moments first zero old new = new ≡ old
AreExpiredAt moments first (suc count) old new =
    (mid : LockedView) × AreExpiredAt moments first count old mid × IsExpiredAt moments (record { 0 = first + count }) mid new
