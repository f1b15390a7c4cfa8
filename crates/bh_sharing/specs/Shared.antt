-- What one turn tells of groups that others change too.
use Rattle.std.specs.Prelude.{◌≡◌, ℕ, List, ◌++◌, Bool, true, Option, Result, Ok, Err}
use Rattle.std.specs.declared.alloc.AllocError.{AllocError}
use Rattle.bh_base.specs.declared.step.GroupId.{GroupId}
use Rattle.bh_base.specs.declared.step.Op.{Op}
use Rattle.bh_desk.specs.declared.desk.Turn.{Turn}
use Rattle.bh_desk.specs.declared.desk.Turn.TheVariants as turn
use Rattle.bh_in_force.specs.declared.properties.InForce.{InForce}
use Rattle.bh_lease.specs.Leases.{LeasesView}
use Rattle.bh_lender.specs.Looks.{in_force_at}
use Rattle.bh_lender.specs.Steps.{step_at}
use Rattle.bh_lines.specs.Names.{Names}
use Rattle.bh_sharing.specs.Locked.{IsGivenBackAt, IsReadAfter, LockedView, NeedNotWait}
use Rattle.bh_sharing.specs.Service.{Facts, IsOf}
use Rattle.bh_turns.specs.Turn.{IsAnswered, has_to_wait}

-- one step was made in one turn, whatever the groups of the service were then, or was refused by what the connection has, and
-- the line tells the one or the other; where it was to wait, it need not
abbrev pub IsTurn : Facts → Names → GroupId → Op → Bool → LeasesView → LeasesView → List ℕ → Type 0
IsTurn facts names group o wait had has line =
    (old : LockedView) × (new : LockedView) × IsOf facts old.lender.recorded.groups × NeedNotWait facts wait old.lender had group o
    × IsReadAfter facts.moments old.latest new.latest × IsAnswered names (step_at group new.latest o) old.lender had new.lender has line

-- in one turn the step had to wait, whatever the groups were then
abbrev pub HadToWait : Facts → GroupId → Op → LeasesView → Type 0
HadToWait facts group o had =
    (old : LockedView) × IsOf facts old.lender.recorded.groups × (has_to_wait old.lender had group o ≡ true)

-- the line of one turn stands behind the bytes; or the step is to wait and has to, and nothing was done; or memory for the line
-- was refused, and the bytes are as they were
abbrev pub IsShared : Facts → Names → GroupId → Op → Bool → LeasesView → List ℕ → Result Turn AllocError → LeasesView → List ℕ → Type 0
IsShared facts names group o wait had before (Ok turn.Answered) has after =
    (line : List ℕ) × IsTurn facts names group o wait had has line × (after ≡ before ++ line)
IsShared facts names group o wait had before (Ok turn.Waits) has after =
    (wait ≡ true) × HadToWait facts group o had × (has ≡ had) × (after ≡ before)
IsShared facts names group o wait had before (Err refused) has after =
    ((line : List ℕ) × IsTurn facts names group o wait had has line) × (after ≡ before)

-- in one turn this was in force of the group's command, whatever the groups of the service were then
abbrev pub IsInForce : Facts → GroupId → ℕ → Option InForce → Type 0
IsInForce facts group command found =
    (old : LockedView) × IsOf facts old.lender.recorded.groups × (found ≡ in_force_at old.lender.recorded.groups group.0 command)

-- all that a connection had was given back in one turn, whatever the groups of the service were then
abbrev pub IsReturned : Facts → LeasesView → LeasesView → Type 0
IsReturned facts had has =
    (old : LockedView) × (new : LockedView) × IsOf facts old.lender.recorded.groups × IsGivenBackAt facts.moments old had new has
