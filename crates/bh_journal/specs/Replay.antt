-- When the journal of a group agrees with what the group shows.
use Rattle.std.specs.Prelude.{◌≡◌, ℕ, ◌-◌, false, List, [], ◌∷◌, ◌++◌, map}
use Rattle.std.specs.List.{AllByRecursion}
use Rattle.bh_base.specs.Props.{GroupProps}
use Rattle.bh_base.specs.declared.step.Step.{Step}
use Rattle.bh_base.specs.declared.reply.Reply.{Reply}
use Rattle.bh_base.specs.Replies.{is_refusal}
use Rattle.bh_base.specs.Runs.{View, opened, replies, state_after, view}

-- a journal: with what its group was registered, which no step changes, the entries, and how many more there is room for
pub record JournalView : Type 0 where
  pub props : GroupProps
  pub limit : ℕ
  pub entries : List (Step × Reply)
  pub room : ℕ

-- the journal of a group that did no step
abbrev pub empty_journal : GroupProps → ℕ → JournalView
empty_journal props limit = record { props = props; limit = limit; entries = []; room = limit }

-- with what the group of a journal was registered
abbrev pub registered_as : JournalView → GroupProps × ℕ
registered_as j = (j.props, j.limit)

-- one more entry, in one place of the room
abbrev pub written : JournalView → Step → Reply → JournalView
written j step reply = record j { entries = j.entries ++ (step, reply) ∷ []; room = j.room - 1 }

-- the steps of the entries
abbrev pub steps_of : List (Step × Reply) → List Step
steps_of entries = map (λ e. e.0) entries

-- the replies of the entries
abbrev pub replies_of : List (Step × Reply) → List Reply
replies_of entries = map (λ e. e.1) entries

-- the entries are a run of the machine of a group of these properties and this step limit: each step is one of
-- the group's own, the machine gives their replies from the opening on one by one, and none was refused
pub record IsRunOf (group : ℕ) (props : GroupProps) (limit : ℕ) (entries : List (Step × Reply)) : Type 0 where
  pub own : AllByRecursion (λ e. e.0.group.0 ≡ group) entries
  pub replied : replies (opened props limit) (steps_of entries) ≡ replies_of entries
  pub taken : AllByRecursion (λ e. is_refusal e.1 ≡ false) entries

-- the entries are such a run from the group's registration on, and the group shows what the run ends in: so the properties that
-- it shows are those of its registration with each change that an entry made
pub record JournalAgrees (group : ℕ) (j : JournalView) (shown : View) : Type 0 where
  pub run : IsRunOf group j.props j.limit j.entries
  pub ends : view (state_after (opened j.props j.limit) (steps_of j.entries)) ≡ shown
