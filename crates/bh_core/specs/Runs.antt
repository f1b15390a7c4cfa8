-- Two worlds: a group's own steps decide what it is told and shows, whatever other groups do beside them.
use Rattle.std.specs.Prelude.{◌≡◌, ℕ, List}
use Rattle.bh_base.specs.declared.reply.Reply.{Reply}
use Rattle.bh_base.specs.declared.step.Step.{Step}
use Rattle.bh_base.specs.Runs.{State, own, replies, state_after}
use Rattle.bh_core.specs.CoreView.{CoreView, Shows, own_replies, view_at}

-- what a run of all groups ensures: the steps took the groups from old to new, with the replies
pub record IsRun (old : CoreView) (steps : List Step) (told : List Reply) (new : CoreView) : Type 0 where
  pub replies : (group : ℕ) (s : State) → Shows old group s → own_replies group steps told ≡ replies s (own group steps)
  pub views : (group : ℕ) (s : State) → Shows old group s → Shows new group (state_after s (own group steps))

-- two runs in which a group begins alike and has the same steps of its own
pub record AreTwoWorlds (group : ℕ) (s : State) (a b c d : CoreView) (xs ys : List Step) (told heard : List Reply) : Type 0 where
  pub first : IsRun a xs told b
  pub second : IsRun c ys heard d
  pub shows : Shows a group s
  pub alike : view_at c group ≡ view_at a group
  pub own_steps : own group xs ≡ own group ys

-- the group was told the same, and looks the same
pub record EndAlike (group : ℕ) (b d : CoreView) (xs ys : List Step) (told heard : List Reply) : Type 0 where
  pub replies : own_replies group xs told ≡ own_replies group ys heard
  pub views : view_at b group ≡ view_at d group

-- no group can tell one world from the other
abbrev pub TwoWorlds : Type 0
TwoWorlds = (group : ℕ) (s : State) (a b c d : CoreView) (xs ys : List Step) (told heard : List Reply) → AreTwoWorlds group s a b c d xs ys told heard → EndAlike group b d xs ys told heard
