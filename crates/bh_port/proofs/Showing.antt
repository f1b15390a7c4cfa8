-- What the groups show at the beginning of a run, and after one act more.
use Rattle.std.proofs.Common.{◌≡◌, ◌≢◌, inl, inr, ◌<◌, ℕ, true, false, List, [], ◌∷◌, ◌++◌, length, Some, None, refl, ◌∙◌, sym, ap, subst, arith, length-append}
use Rattle.std.proofs.lemmas.Bool.Decides.{nat_tests}
use Rattle.std.proofs.lemmas.List.{length-map, length-set}
use Rattle.std.specs.List.{AllByRecursion}
use Rattle.std.specs.Prelude.{◌==◌, IsSome, option_and_then, option_map, slice_get, if◌then◌else◌}
use Rattle.bh_base.specs.Props.{GroupProps}
use Rattle.bh_base.specs.declared.reply.Reply.{Reply}
use Rattle.bh_base.specs.declared.step.Step.{Step}
use Rattle.bh_base.specs.Runs.{State, View, own, opened, state_after, step, view}
use Rattle.bh_base.proofs.Kept.{length-each_from}
use Rattle.bh_base.proofs.OneMore.{own-push_other, own-push_same, state_after-push}
use Rattle.bh_base.proofs.Views.{stays_sound}
use Rattle.bh_core.specs.Acts.{with_opened}
use Rattle.bh_core.specs.CoreView.{Shows, living, retired, shown_by, view_at, with_retired}
use Rattle.bh_core.specs.Looks.{is_in_use}
use Rattle.bh_core.specs.Step.{IsStep}
use Rattle.bh_props.specs.SettingsView.{SettingsView}
use Rattle.bh_port.specs.declared.groups.Entry.{Entry}
use Rattle.bh_port.specs.Course.{Course, group_after, like_at, listed_entries, new_course, opened_core, opened_group, state_at, step_limit}
use Rattle.bh_port.specs.Entries.{entry_at, new_entry, without}
use Rattle.bh_port.specs.GroupsView.{GroupsView}
use Rattle.bh_port.specs.Script.{GroupsShow}
use Rattle.bh_port.specs.Text.{held_at, is_held, reply_of, reply_to}
use Rattle.bh_port.proofs.Keeping.{either, listed_at, opened_at, opened_here, opened_other, read, retired_here, retired_other}
use Rattle.bh_port.proofs.Lists.{all_push, all_weaker}
use Rattle.bh_port.proofs.Naming.{entry-push, entry-pushed, entry-without_other, entry-without_same, entry_within, length-without}

-- ---- the state of a group

-- a group after its own steps, with one step more
group_after-own : (service : SettingsView) (props : GroupProps) (group : ℕ) (xs : List Step) (x : Step) → (x.group.0 == group) ≡ true
    → group_after service props group (xs ++ x ∷ []) ≡ (step (group_after service props group xs) x.op x.now).state
unfolding group_after
group_after-own service props group xs x test =
    let s : State = opened_group service props in
    let mine : own group (xs ++ x ∷ []) ≡ own group xs ++ x ∷ [] = own-push_same group xs x test in
    ap (state_after s) mine ∙ state_after-push s (own group xs) x

group_after-other : (service : SettingsView) (props : GroupProps) (group : ℕ) (xs : List Step) (x : Step) → (x.group.0 == group) ≡ false
    → group_after service props group (xs ++ x ∷ []) ≡ group_after service props group xs
unfolding group_after
group_after-other service props group xs x test = ap (state_after (opened_group service props)) (own-push_other group xs x test)

own-none : (group : ℕ) (xs : List Step) → AllByRecursion (λ x. x.group.0 < group) xs → own group xs ≡ []
own-none group [] below = refl
own-none group (x ∷ xs) below = ap (λ b. if b then x ∷ own group xs else own group xs) (differs x.group.0 group below.0) ∙ own-none group xs below.1
  where
    differs : (m n : ℕ) → m < n → (m == n) ≡ false
    differs m n less = grind (arith, nat_tests)

-- a group that did no step is new
group_after-none : (service : SettingsView) (props : GroupProps) (group : ℕ) (xs : List Step) → own group xs ≡ [] → group_after service props group xs ≡ opened_group service props
unfolding group_after
group_after-none service props group xs none = ap (state_after (opened_group service props)) none

-- the group that a state is of
record Found (service : SettingsView) (course : Course) (number : ℕ) (s : State) : Type 0 where
  pub group : List ℕ × GroupProps
  pub like : like_at service course.entries number ≡ Some group
  pub state : group_after service group.1 number course.steps ≡ s

found : (service : SettingsView) (course : Course) (number : ℕ) (s : State) → state_at service course number ≡ Some s → Found service course number s
found service course number s is = elim (read (like_at service course.entries number)) [
  | inl none ↦ absurd (let both : None ≡ Some s = sym (ap (option_map after) none) ∙ is in cc)
  | inr at ↦ (
      let both : Some (after at.0) ≡ Some s = sym (ap (option_map after) at.1) ∙ is in
      let same : after at.0 ≡ s = cc in
      record { group = at.0; like = at.1; state = same })
]
  where
    after : List ℕ × GroupProps → State
    after group = group_after service group.1 number course.steps

state-like : (service : SettingsView) (course : Course) (number : ℕ) (group : List ℕ × GroupProps) → like_at service course.entries number ≡ Some group → state_at service course number ≡ Some (group_after service group.1 number course.steps)
state-like service course number group like = ap (option_map (λ g. group_after service g.1 number course.steps)) like

state-none : (service : SettingsView) (course : Course) (number : ℕ) → like_at service course.entries number ≡ None → state_at service course number ≡ None
state-none service course number none = ap (option_map (λ g. group_after service g.1 number course.steps)) none

none-like : (service : SettingsView) (course : Course) (number : ℕ) → state_at service course number ≡ None → like_at service course.entries number ≡ None
none-like service course number is = elim (read (like_at service course.entries number)) [
  | inl none ↦ none
  | inr at ↦ absurd (let both : None ≡ Some (group_after service at.0.1 number course.steps) = sym is ∙ state-like service course number at.0 at.1 in cc)
]

-- a group that looks like another one is like the same one of the settings
like-same : (service : SettingsView) (es fs : List Entry) (number : ℕ) → entry_at es number ≡ entry_at fs number → like_at service es number ≡ like_at service fs number
like-same service es fs number same = ap (option_and_then (λ e. slice_get service.groups e.like)) same

same_number : (m n : ℕ) → m ≡ n → (m == n) ≡ true
same_number m n is = grind (arith, nat_tests)

other_number : (m n : ℕ) → n ≢ m → (m == n) ≡ false
other_number m n differ = grind (arith, nat_tests)

-- ---- a step

module _ (service : SettingsView) (old new : GroupsView) (course : Course) (x : Step) (r : Reply) (agrees : GroupsShow service old course) (stepped : IsStep old.core x r new.core) where
  abbrev later : Course
  later = record course { steps = course.steps ++ x ∷ [] }

  shows_step : (number : ℕ) (s : State) → Found service later number s → Shows new.core number s
  shows_step number s at = elim (either number x.group.0) [
    | inl here ↦ (
        let was = group_after service at.group.1 number course.steps in
        let shown : Shows old.core x.group.0 was = subst (λ k. Shows old.core k was) here (agrees.shows number was (state-like service course number at.group at.like)) in
        let is : Shows new.core number (step was x.op x.now).state = subst (λ k. Shows new.core k (step was x.op x.now).state) (sym here) (stepped.own was shown) in
        subst (Shows new.core number) (sym (group_after-own service at.group.1 number course.steps x (same_number x.group.0 number (sym here))) ∙ at.state) is)
    | inr differ ↦ (
        let was = group_after service at.group.1 number course.steps in
        let shown = agrees.shows number was (state-like service course number at.group at.like) in
        let is : Shows new.core number was = record { sound = shown.sound; view_is = ap shown_by (stepped.others number differ) ∙ shown.view_is } in
        subst (Shows new.core number) (sym (group_after-other service at.group.1 number course.steps x (other_number x.group.0 number differ)) ∙ at.state) is)
  ]

  others_step : (number : ℕ) → view_at old.core number ≡ None → view_at new.core number ≡ None
  others_step number none = elim (either number x.group.0) [
    | inl here ↦ ap (λ c. view_at c number) (stepped.unknown_same (subst (λ k. view_at old.core k ≡ None) here none)) ∙ none
    | inr differ ↦ ap shown_by (stepped.others number differ) ∙ none
  ]

  -- after a step the groups show one step more
  pub agrees-step : new.entries ≡ old.entries → IsSome (entry_at old.entries x.group.0) → GroupsShow service new later
  agrees-step same there = record {
    entries = same ∙ agrees.entries;
    count = stepped.count ∙ agrees.count;
    shows = λ number s is. shows_step number s (found service later number s is);
    others = λ number none. others_step number (agrees.others number (state-none service course number (none-like service later number none)));
    known = all_push (λ k. k.group.0 < length course.entries) course.steps x agrees.known (entry_within course.entries x.group.0 (subst (λ es. IsSome (entry_at es x.group.0)) agrees.entries there));
  }

  -- and the reply is the one that the definition has
  pub reply-step : r ≡ reply_to service course x
  unfolding reply_to
  reply-step = elim (read (state_at service course x.group.0)) [
    | inl none ↦ stepped.unknown (agrees.others x.group.0 none) ∙ sym (ap (reply_of x) none)
    | inr at ↦ stepped.reply at.0 (agrees.shows x.group.0 at.0 at.1) ∙ sym (ap (reply_of x) at.1)
  ]

-- ---- one group more

module _ (service : SettingsView) (old new : GroupsView) (course : Course) (name : List ℕ) (place : ℕ) (group : List ℕ × GroupProps) (agrees : GroupsShow service old course) (like : slice_get service.groups place ≡ Some group) where
  abbrev more : Course
  more = record course { entries = course.entries ++ new_entry name place ∷ [] }

  abbrev limit : ℕ
  limit = step_limit service.audit_steps

  here-like : like_at service more.entries (length course.entries) ≡ Some group
  here-like = ap (option_and_then (λ e. slice_get service.groups e.like)) (entry-pushed course.entries name place) ∙ like

  there-like : (number : ℕ) → number ≢ length course.entries → like_at service more.entries number ≡ like_at service course.entries number
  there-like number differ = like-same service more.entries course.entries number (entry-push course.entries (new_entry name place) number differ)

  not_last : (number : ℕ) → number ≢ length course.entries → number ≢ length old.core.lives
  not_last number differ is = differ (is ∙ agrees.count)

  shows_new : Shows (with_opened group.1 limit old.core) (length course.entries) (opened_group service group.1)
  shows_new = record {
    sound = stays_sound.opened group.1 limit;
    view_is = ap (view_at (with_opened group.1 limit old.core)) (sym agrees.count) ∙ opened_here old.core group.1 limit;
  }

  shows_more : (number : ℕ) (s : State) → Found service more number s → Shows (with_opened group.1 limit old.core) number s
  shows_more number s at = elim (either number (length course.entries)) [
    | inl here ↦ (
        let both : Some at.group ≡ Some group = sym at.like ∙ ap (like_at service more.entries) here ∙ here-like in
        let same : at.group ≡ group = cc in
        let none : own number course.steps ≡ [] = ap (λ n. own n course.steps) here ∙ own-none (length course.entries) course.steps agrees.known in
        let is : opened_group service group.1 ≡ s = ap (λ g. opened_group service g.1) (sym same) ∙ sym (group_after-none service at.group.1 number course.steps none) ∙ at.state in
        subst (λ k. Shows (with_opened group.1 limit old.core) k s) (sym here) (subst (Shows (with_opened group.1 limit old.core) (length course.entries)) is shows_new))
    | inr differ ↦ (
        let was : state_at service course number ≡ Some s = state-like service course number at.group (sym (there-like number differ) ∙ at.like) ∙ ap Some at.state in
        let shown = agrees.shows number s was in
        record { sound = shown.sound; view_is = opened_other old.core group.1 limit number (not_last number differ) ∙ shown.view_is })
  ]

  others_more : (number : ℕ) → like_at service more.entries number ≡ None → view_at (with_opened group.1 limit old.core) number ≡ None
  others_more number none = elim (either number (length course.entries)) [
    | inl here ↦ absurd (let both : None ≡ Some group = sym none ∙ ap (like_at service more.entries) here ∙ here-like in cc)
    | inr differ ↦ opened_other old.core group.1 limit number (not_last number differ) ∙ agrees.others number (state-none service course number (sym (there-like number differ) ∙ none))
  ]

  -- after a registration the groups show a new one more
  pub agrees-registered : new.entries ≡ old.entries ++ new_entry name place ∷ [] → new.core ≡ with_opened group.1 limit old.core → GroupsShow service new more
  agrees-registered listed is = record {
    entries = listed ∙ ap (λ es. es ++ new_entry name place ∷ []) agrees.entries;
    count = ap (λ c. length c.lives) is ∙ omega (arith, length-append old.core.lives (living (view (opened group.1 limit)) ∷ []), length-append course.entries (new_entry name place ∷ []), agrees.count);
    shows = λ number s at. subst (λ c. Shows c number s) (sym is) (shows_more number s (found service more number s at));
    others = λ number none. ap (λ c. view_at c number) is ∙ others_more number (none-like service more number none);
    known = all_weaker (λ x. x.group.0 < length course.entries) (λ x. x.group.0 < length more.entries) course.steps (λ x below. omega (arith, below, length-append course.entries (new_entry name place ∷ []))) agrees.known;
  }

-- ---- one group fewer

-- a group that shows a view is in use as the view says
pub held-is : (service : SettingsView) (groups : GroupsView) (course : Course) (number : ℕ) (v : View) → GroupsShow service groups course → view_at groups.core number ≡ Some v → held_at service course number ≡ is_in_use v
unfolding held_at
held-is service groups course number v agrees shown = elim (read (state_at service course number)) [
  | inl none ↦ absurd (let both : None ≡ Some v = sym (agrees.others number none) ∙ shown in cc)
  | inr at ↦ (
      let both : Some (view at.0) ≡ Some v = sym (agrees.shows number at.0 at.1).view_is ∙ shown in
      let same : view at.0 ≡ v = cc in
      ap is_held at.1 ∙ ap is_in_use same)
]

module _ (service : SettingsView) (old new : GroupsView) (course : Course) (n : ℕ) (v : View) (agrees : GroupsShow service old course) (shown : view_at old.core n ≡ Some v) where
  abbrev fewer : Course
  fewer = record course { entries = without n course.entries }

  gone : like_at service fewer.entries n ≡ None
  gone = ap (option_and_then (λ e. slice_get service.groups e.like)) (entry-without_same course.entries n)

  left-like : (number : ℕ) → number ≢ n → like_at service fewer.entries number ≡ like_at service course.entries number
  left-like number differ = like-same service fewer.entries course.entries number (entry-without_other course.entries n number differ)

  shows_fewer : (number : ℕ) (s : State) → Found service fewer number s → Shows (with_retired n v old.core) number s
  shows_fewer number s at = elim (either number n) [
    | inl here ↦ absurd (let both : None ≡ Some at.group = sym gone ∙ sym (ap (like_at service fewer.entries) here) ∙ at.like in cc)
    | inr differ ↦ (
        let was : state_at service course number ≡ Some s = state-like service course number at.group (sym (left-like number differ) ∙ at.like) ∙ ap Some at.state in
        let is = agrees.shows number s was in
        record { sound = is.sound; view_is = retired_other n v old.core number differ ∙ is.view_is })
  ]

  others_fewer : (number : ℕ) → like_at service fewer.entries number ≡ None → view_at (with_retired n v old.core) number ≡ None
  others_fewer number none = elim (either number n) [
    | inl here ↦ ap (view_at (with_retired n v old.core)) here ∙ retired_here n v old.core shown
    | inr differ ↦ retired_other n v old.core number differ ∙ agrees.others number (state-none service course number (sym (left-like number differ) ∙ none))
  ]

  -- after a retirement the groups show one fewer
  pub agrees-retired : new.entries ≡ without n old.entries → new.core ≡ with_retired n v old.core → GroupsShow service new fewer
  agrees-retired listed is = record {
    entries = listed ∙ ap (without n) agrees.entries;
    count = ap (λ c. length c.lives) is ∙ length-set old.core.lives n (retired v.present.props v.present.limit) ∙ agrees.count ∙ sym (length-without course.entries n);
    shows = λ number s at. subst (λ c. Shows c number s) (sym is) (shows_fewer number s (found service fewer number s at));
    others = λ number none. ap (λ c. view_at c number) is ∙ others_fewer number (none-like service fewer number none);
    known = subst (λ m. AllByRecursion (λ x. x.group.0 < m) course.steps) (sym (length-without course.entries n)) agrees.known;
  }

-- ---- the groups of the settings

listed-like : (service : SettingsView) (number : ℕ) → like_at service (listed_entries service) number ≡ slice_get service.groups number
listed-like service number = elim (read (slice_get service.groups number)) [
  | inl none ↦ ap (option_and_then (λ e. slice_get service.groups e.like)) (listed_at service number ∙ ap (option_map (λ group. new_entry group.0 number)) none) ∙ sym none
  | inr at ↦ ap (option_and_then (λ e. slice_get service.groups e.like)) (listed_at service number ∙ ap (option_map (λ group. new_entry group.0 number)) at.1)
]

-- all groups stand, and are new
pub agrees-opened : (service : SettingsView) (groups : GroupsView) → groups.entries ≡ listed_entries service → groups.core ≡ opened_core service → GroupsShow service groups (new_course service)
agrees-opened service groups listed is = record {
  entries = listed;
  count = ap (λ c. length c.lives) is ∙ length-map service.groups _ ∙ sym (length-each_from 0 _ service.groups);
  shows = λ number s at. (
      let f = found service (new_course service) number s at in
      let there : slice_get service.groups number ≡ Some f.group = sym (listed-like service number) ∙ f.like in
      let new : opened_group service f.group.1 ≡ s = sym (group_after-none service f.group.1 number [] refl) ∙ f.state in
      subst (Shows groups.core number) new (record {
        sound = stays_sound.opened f.group.1 (step_limit service.audit_steps);
        view_is = ap (λ c. view_at c number) is ∙ opened_at service number ∙ ap (option_map (λ group. view (opened_group service group.1))) there;
      }));
  others = λ number none. (
      let there : slice_get service.groups number ≡ None = sym (listed-like service number) ∙ none-like service (new_course service) number none in
      ap (λ c. view_at c number) is ∙ opened_at service number ∙ ap (option_map (λ group. view (opened_group service group.1))) there);
  known = tt;
}
