use Rattle.std.proofs.Common.{◌≡◌, ◌≤◌, ℕ, take, length, vec_capacity, None}
use Rattle.std.specs.Prelude.{slice_get}
use Rattle.bh_base.specs.Runs.{State}
use Rattle.bh_core.specs.CoreView.{Shows, view_at}
use Rattle.bh_core.proofs.Whole.{GoesAs, IsUnknown}
use Rattle.bh_core.proofs.service.Core.run.Given as goal

-- each group goes as its machine does
abbrev pub invariant-loop-step : goal.invariant-loop-step
invariant-loop-step l = record {
  count : length l.replies.items ≡ l.step-index;
  room : length l.steps ≤ vec_capacity l.replies;
  groups : length l.self.lives ≡ length l.fn.self.lives;
  limit : l.self.slot_limit ≡ l.fn.self.slot_limit;
  own : (group : ℕ) (s : State) → Shows l.fn.self group s → GoesAs group s (take l.step-index l.steps) l.replies.items l.self;
  unknown : (group : ℕ) → view_at l.fn.self group ≡ None → IsUnknown group (take l.step-index l.steps) l.replies.items l.self;
  kept : (group : ℕ) → view_at l.fn.self group ≡ None → slice_get l.self.lives group ≡ slice_get l.fn.self.lives group;
}
