-- What is looked at of a command before a step and behind it.
use Rattle.std.specs.Prelude.{◌≡◌, ◌-◌, ◌<◌, ◌≤◌, ℕ, Bool, true, false, List, Some, length, slice_get}
use Rattle.bh_base.specs.Commands.{command_count}
use Rattle.bh_base.specs.Machine.{circuit_of}
use Rattle.bh_base.specs.Runs.{View, begun}
use Rattle.bh_base.specs.Seen.{past_view_of, past_view_rolling, view_reply}
use Rattle.bh_base.specs.declared.step.Op.{Op}
use Rattle.bh_base.specs.declared.step.Op.TheVariants as op
use Rattle.bh_core.specs.Looks.{expires_some}
use Rattle.bh_look.specs.declared.lane.Lane.{Lane}
use Rattle.bh_look.specs.declared.lane.Shown.{Shown}
use Rattle.bh_look.specs.declared.tally.Tally.{Tally}
use Rattle.bh_look.specs.Tallies.{with_time, with_timeouts, with_trip}

-- the timeouts are asked for where the step times out tickets
abbrev pub AsksTimeouts : View → Op → ℕ → Bool → Type 0
AsksTimeouts v op.Expire now asks = asks ≡ expires_some (view_reply v op.Expire now)
AsksTimeouts v _ now asks = asks ≡ false

-- the timeouts in the window of the command at the moment
abbrev pub timeouts_at : View → ℕ → ℕ → ℕ
timeouts_at v command now = (past_view_rolling v.present.latest (past_view_of command v) (begun now v.present).latest).counts.timeout

-- what the command shows, its timeouts where they are asked for
pub record IsShown (v : View) (command now : ℕ) (asks : Bool) (s : Shown) : Type 0 where
  pub circuit : s.circuit ≡ (circuit_of command v.present).state
  pub timeouts : asks ≡ true → s.timeouts ≡ timeouts_at v command now
  pub none : asks ≡ false → s.timeouts ≡ 0

-- the lane has noted it
pub record HasNoted (v : View) (command now : ℕ) (asks : Bool) (old new : Lane) : Type 0 where
  pub shown : IsShown v command now asks new.before
  pub tally : new.tally ≡ old.tally

-- the tally with what is shown differently behind the step
abbrev pub tally_looked : Shown → Shown → ℕ → Tally → Tally
tally_looked before after passed t =
    with_timeouts (after.timeouts - before.timeouts) (with_trip before.circuit after.circuit (with_time before.circuit passed t))

-- the lane has added it
pub record HasAdded (w : View) (command now : ℕ) (asks : Bool) (passed : ℕ) (old new : Lane) : Type 0 where
  pub after : Shown
  pub shown : IsShown w command now asks after
  pub tally : new.tally ≡ tally_looked old.before after passed old.tally

-- there is a lane for each command of the group, of which there are 16 at most, and each counts its events in buckets
pub record Fits (v : View) (lanes : List Lane) : Type 0 where
  pub pasts : length v.pasts ≡ command_count v.present.props
  pub count : length lanes ≡ command_count v.present.props
  pub few : command_count v.present.props ≤ 16
  pub buckets : (k : ℕ) → k < command_count v.present.props → 0 < (past_view_of k v).window.buckets

-- each lane of a command became another, to which it stands so
abbrev pub EachLane : List Lane → List Lane → (ℕ → Lane → Lane → Type 0) → Type 0
EachLane old new R = (k : ℕ) (lane : Lane) → slice_get old k ≡ Some lane → (next : Lane) × (slice_get new k ≡ Some next) × R k lane next
