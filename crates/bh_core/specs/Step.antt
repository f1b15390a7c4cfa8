-- What one step does to all groups: it is made in its own group, and leaves the others as they were.
use Rattle.std.specs.Prelude.{◌≡◌, ◌≢◌, ◌<◌, ℕ, None, Some, length, slice_get, false, true}
use Rattle.bh_base.specs.declared.reply.Reply.{Reply}
use Rattle.bh_base.specs.declared.reply.Reply.TheVariants.{GroupFull, NoCommand, NoGroup, Worn}
use Rattle.bh_base.specs.declared.step.Step.{Step}
use Rattle.bh_base.specs.Commands.{command_count, is_known}
use Rattle.bh_base.specs.Replies.{can_reply}
use Rattle.bh_base.specs.Runs.{State, View, moved_on}
use Rattle.bh_base.specs.Runs.{step as machine_step}
use Rattle.bh_base.specs.Seen.{view_after, view_reply}
use Rattle.bh_core.specs.CoreView.{CoreView, Shows, view_at}

-- the step took the groups from old to new, and was told the reply
pub record IsStep (old : CoreView) (step : Step) (told : Reply) (new : CoreView) : Type 0 where
  -- the group goes as its machine does, from every state that it may be in by its view
  pub reply : (s : State) → Shows old step.group.0 s → told ≡ (machine_step s step.op step.now).reply
  pub own : (s : State) → Shows old step.group.0 s → Shows new step.group.0 (machine_step s step.op step.now).state
  -- every other group stays as it was
  pub others : (group : ℕ) → group ≢ step.group.0 → slice_get new.lives group ≡ slice_get old.lives group
  pub count : length new.lives ≡ length old.lives
  pub limit : new.slot_limit ≡ old.slot_limit
  -- of a group that is not registered, or is retired, that is told, and nothing changes
  pub unknown : view_at old step.group.0 ≡ None → told ≡ NoGroup
  pub unknown_same : view_at old step.group.0 ≡ None → new ≡ old
  -- so is a step of a registered group that lacks the command which the step names, whether the group is worn or not
  pub missing : (v : View) → view_at old step.group.0 ≡ Some v → is_known step.op v.present.props ≡ false → told ≡ NoCommand
  pub has_command : (v : View) → view_at old step.group.0 ≡ Some v → told ≡ NoCommand → is_known step.op v.present.props ≡ false
  -- a registered group has its own command, so a step that names that one, or none, is never told so
  pub own_command : (v : View) → view_at old step.group.0 ≡ Some v → 0 < command_count v.present.props
  -- what a refusal leaves: all as it was, or of a full group the step's number and moment alone
  pub worn : told ≡ Worn → new ≡ old
  pub no_group : told ≡ NoGroup → new ≡ old
  pub no_command : told ≡ NoCommand → new ≡ old
  pub full : told ≡ GroupFull → (s : State) → Shows old step.group.0 s → Shows new step.group.0 (moved_on s step.now)
  -- what can be said with no state at hand: the step by the view alone, and the kinds of replies
  pub seen : (v : View) → view_at old step.group.0 ≡ Some v → (told ≡ view_reply v step.op step.now) × (view_at new step.group.0 ≡ Some (view_after v step.op step.now))
  pub kinds : can_reply step.op told ≡ true
