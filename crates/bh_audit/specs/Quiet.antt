-- Moments before which no ticket of a group is due.
use Rattle.std.specs.Prelude.{◌≡◌, ◌<◌, ℕ, List, Some, length, slice_get, false}
use Rattle.bh_core.specs.CoreView.{CoreView, view_at}
use Rattle.bh_audit.specs.Calls.{would_expire}

-- each group has a moment, and before it no ticket of the group is due
pub record AreQuiet (groups : CoreView) (until : List ℕ) : Type 0 where
  pub same : length until ≡ length groups.lives
  pub quiet : (group end moment : ℕ) → slice_get until group ≡ Some end → moment < end → would_expire (view_at groups group) moment ≡ false
