-- What is kept of a script with one act more.
use Rattle.std.proofs.Common.{◌≡◌, ◌≢◌, inl, inr, ℕ, ◌+◌, ◌<◌, ◌≤◌, Bool, true, false, List, [], ◌∷◌, ◌++◌, length, set, Option, Some, None, Result, Ok, Err, refl, sym, ap, subst, ◌∙◌, arith, append-nil, length-append, take, ◌⊎◌}
use Rattle.std.specs.Prelude.{◌==◌, All, IsSome, OnOk, Vec, is_some, nat_lt, option_and_then, option_map, slice_get, if◌then◌else◌}
use Rattle.std.specs.Option.{option_map_or}
use Rattle.std.specs.declared.alloc.Global.{Global}
use Rattle.std.proofs.lemmas.Bool.Decides.{nat_tests}
use Rattle.std.proofs.lemmas.List.{drop_all, length-set, take_all}
use Rattle.std.specs.Vec.{with_items}
use Rattle.std.proofs.lemmas.Option.{slice_get_past, slice_get_within}
use Rattle.bh_base.specs.Commands.{command_count}
use Rattle.bh_base.specs.Props.{GroupProps}
use Rattle.bh_base.specs.Ranges.{IsInRange}
use Rattle.bh_base.specs.Runs.{State, own, state_after, step, view}
use Rattle.bh_base.specs.declared.reply.Reply.{Reply}
use Rattle.bh_base.specs.declared.step.Step.{Step}
use Rattle.bh_base.proofs.Kept.{length-each_from}
use Rattle.bh_base.proofs.Views.{step_ranges}
use Rattle.bh_core.specs.CoreView.{view_at}
use Rattle.bh_core.specs.Step.{IsStep}
use Rattle.bh_port.specs.declared.act.LineAct.TheVariants as act
use Rattle.bh_port.specs.declared.groups.Entry.{Entry}
use Rattle.bh_port.specs.Course.{Course, group_after, like_at, listed_entries, new_course, opened_group, state_at}
use Rattle.bh_port.specs.Entries.{entry_at, new_entry, unless_retired, without}
use Rattle.bh_port.specs.GroupsView.{GroupsView}
use Rattle.bh_port.specs.Script.{GroupsShow}
use Rattle.bh_port.specs.Text.{held_at, with_act}
use Rattle.bh_core.proofs.OneOfMany.{slice_get-set_other, slice_get-set_same}
use Rattle.bh_port.proofs.Keeping.{either, read}
use Rattle.bh_port.proofs.Lists.{each_at, every_at, push_before, push_here, push_past, read_within}
use Rattle.bh_port.proofs.Naming.{length-without, without_is}
use Rattle.bh_port.proofs.Showing.{agrees-step}
use Rattle.bh_props.specs.SettingsView.{SettingsView}
use Rattle.bh_look.specs.declared.lane.Lane.{Lane}
use Rattle.bh_look.specs.declared.tally.Tally.{Tally}
use Rattle.bh_look.specs.Looked.{EachLane}
use Rattle.bh_look.specs.Scripts.{tally_done}
use Rattle.bh_look.specs.Steps.{tally_in, tally_with}
use Rattle.bh_look.specs.Tallies.{no_tally}
use Rattle.bh_look.specs.Watched.{AreNewLanes, IsWatched, Lanes, commands_at, tally_at}
use Rattle.bh_look.proofs.Adding.{count_kept, set_here, set_other}

after_count : (s : State) (xs : List Step) → command_count (state_after s xs).present.props ≡ command_count s.present.props
after_count s [] = refl
after_count s (x ∷ xs) = after_count (step s x.op x.now).state xs ∙ count_kept s x.op x.now

after_ranges : (s : State) (xs : List Step) → IsInRange s.present.props → IsInRange (state_after s xs).present.props
after_ranges s [] ranges = ranges
after_ranges s (x ∷ xs) ranges = after_ranges (step s x.op x.now).state xs (step_ranges s x.op x.now ranges)

group_count : (service : SettingsView) (props : GroupProps) (group : ℕ) (xs : List Step) → command_count (group_after service props group xs).present.props ≡ command_count props
unfolding group_after
group_count service props group xs = after_count (opened_group service props) (own group xs)

group_ranges : (service : SettingsView) (props : GroupProps) (group : ℕ) (xs : List Step) → IsInRange props → IsInRange (group_after service props group xs).present.props
unfolding group_after
group_ranges service props group xs ranges = after_ranges (opened_group service props) (own group xs) ranges

-- the group of the settings that a group is like, with whose properties it was registered: it has as many commands, and what
-- is in force is in range as those are
pub record IsLike (service : SettingsView) (course : Course) (group : ℕ) (s : State) : Type 0 where
  pub like : List ℕ × GroupProps
  pub is : like_at service course.entries group ≡ Some like
  pub count : command_count s.present.props ≡ command_count like.1
  pub ranges : IsInRange like.1 → IsInRange s.present.props

pub like_of : (service : SettingsView) (course : Course) (group : ℕ) (s : State) → state_at service course group ≡ Some s → IsLike service course group s
like_of service course group s is = elim (read (like_at service course.entries group)) [
  | inl none ↦ absurd (let both : None ≡ Some s = sym (ap (option_map after) none) ∙ is in cc)
  | inr at ↦ (
      let both : Some (after at.0) ≡ Some s = sym (ap (option_map after) at.1) ∙ is in
      let same : after at.0 ≡ s = cc in
      record {
        like = at.0;
        is = at.1;
        count = ap (λ (t : State). command_count t.present.props) (sym same) ∙ group_count service at.0.1 group course.steps;
        ranges = λ ranges. subst (λ (t : State). IsInRange t.present.props) same (group_ranges service at.0.1 group course.steps ranges);
      })
]
  where
    after : List ℕ × GroupProps → State
    after like = group_after service like.1 group course.steps

-- the properties of that one are in range, as those of all groups of the settings
pub like_in_range : (service : SettingsView) (o : Option Entry) (like : List ℕ × GroupProps) → All (λ (g : List ℕ × GroupProps). IsInRange g.1) service.groups → option_and_then (λ (e : Entry). slice_get service.groups e.like) o ≡ Some like → IsInRange like.1
like_in_range service None like all is = absurd cc
like_in_range service (Some e) like all is = every_at (λ (g : List ℕ × GroupProps). IsInRange g.1) service.groups e.like like all is

-- the tally in a list of lanes
abbrev pub tally_in_lanes : List Lane → ℕ → Tally
tally_in_lanes lanes k = option_map_or (λ (lane : Lane). lane.tally) (slice_get lanes k) no_tally

within : (m n : ℕ) → (m < n) ⊎ (n ≤ m)
within m n = grind arith

-- where nothing is found, the list has ended
pub not_within : {X : Type 0} (xs : List X) (k : ℕ) → slice_get xs k ≡ None → length xs ≤ k
not_within xs k none = elim (within k (length xs)) [
  | inl inside ↦ absurd (let found = read_within xs k inside in let both : None ≡ Some found.0 = sym none ∙ found.1 in cc)
  | inr past ↦ past
]

-- the tallies of a group with what its step did
lane_tallies : (s : State) (x : Step) (old new : List Lane) (k : ℕ) → length old ≡ command_count s.present.props → length new ≡ length old
    → EachLane old new (λ k lane next. next.tally ≡ tally_with (view s) x.op x.now k lane.tally) → tally_in_lanes new k ≡ tally_in (Some s) x k (tally_in_lanes old k)
lane_tallies s x old new k count same each = elim (read (slice_get old k)) [
  | inl none ↦ (
      let past : length old ≤ k = not_within old k none in
      let gone : slice_get new k ≡ None = slice_get_past new k (omega (arith, past, same)) in
      let lacks : nat_lt k (command_count s.present.props) ≡ false = test_past k (command_count s.present.props) (omega (arith, past, count)) in
      ap (λ o. option_map_or (λ (lane : Lane). lane.tally) o no_tally) (gone ∙ sym none)
      ∙ sym (ap (λ b. if b then tally_with (view s) x.op x.now k (tally_in_lanes old k) else tally_in_lanes old k) lacks))
  | inr at ↦ (
      let next = each k at.0 at.1 in
      let inside : k < length old = slice_get_within old k at.0 at.1 in
      let has : nat_lt k (command_count s.present.props) ≡ true = test_within k (command_count s.present.props) (omega (arith, inside, count)) in
      ap (λ o. option_map_or (λ (lane : Lane). lane.tally) o no_tally) next.1
      ∙ next.2
      ∙ ap (λ t. tally_with (view s) x.op x.now k t) (sym (ap (λ o. option_map_or (λ (lane : Lane). lane.tally) o no_tally) at.1))
      ∙ sym (ap (λ b. if b then tally_with (view s) x.op x.now k (tally_in_lanes old k) else tally_in_lanes old k) has))
]
  where
    test_past : (m n : ℕ) → n ≤ m → nat_lt m n ≡ false
    test_past m n past = grind (arith, nat_tests)

    test_within : (m n : ℕ) → m < n → nat_lt m n ≡ true
    test_within m n inside = grind (arith, nat_tests)

same_number : (m n : ℕ) → m ≡ n → (m == n) ≡ true
same_number m n is = grind (arith, nat_tests)

other_number : (m n : ℕ) → m ≢ n → (m == n) ≡ false
other_number m n differ = grind (arith, nat_tests)

-- a lane is kept for each command of a group that is there
pub fit : (service : SettingsView) (groups : GroupsView) (lanes : Lanes) (course : Course) → IsWatched service groups lanes course
    → (g : ℕ) (like : List ℕ × GroupProps) (own : Vec Lane Global) → like_at service course.entries g ≡ Some like → slice_get lanes g ≡ Some own → length own.items ≡ command_count like.1
fit service groups lanes course watched g like own likes found = elim (read (slice_get course.entries g)) [
  | inl none ↦ absurd (let both : None ≡ Some like = sym (ap (λ o. option_and_then of (option_and_then unless_retired o)) none) ∙ likes in cc)
  | inr at ↦ watched.each g own found ∙ ap count (ap (option_and_then of) at.1 ∙ there at.0 at.0.live refl (sym (ap (λ o. option_and_then of (option_and_then unless_retired o)) at.1) ∙ likes))
]
  where
    of : Entry → Option (List ℕ × GroupProps)
    of e = slice_get service.groups e.like

    count : Option (List ℕ × GroupProps) → ℕ
    count o = option_map_or (λ (l : List ℕ × GroupProps). command_count l.1) o 0

    there : (e : Entry) (live : Bool) → e.live ≡ live → option_and_then of (unless_retired e) ≡ Some like → of e ≡ Some like
    there e true is at = sym (ap (λ b. option_and_then of (if b then Some e else None)) is) ∙ at
    there e false is at = absurd (let both : None ≡ Some like = sym (ap (λ b. option_and_then of (if b then Some e else None)) is) ∙ at in cc)

-- ---- a step

module _ (service : SettingsView) (was now : GroupsView) (l0 l1 : Lanes) (before : Course) (x : Step) (r : Reply) (old new : Vec Lane Global)
    (watched : IsWatched service was l0 before) (stepped : IsStep was.core x r now.core) (same : now.entries ≡ was.entries) (there : IsSome (entry_at was.entries x.group.0))
    (at : slice_get l0 x.group.0 ≡ Some old) (is : l1 ≡ set l0 x.group.0 new) (many : length new.items ≡ length old.items) where
  here : slice_get l1 x.group.0 ≡ Some new
  here = ap (λ ls. slice_get ls x.group.0) is ∙ set_here l0 x.group.0 new (slice_get_within l0 x.group.0 old at)

  elsewhere : (k : ℕ) → k ≢ x.group.0 → slice_get l1 k ≡ slice_get l0 k
  elsewhere k differ = ap (λ ls. slice_get ls k) is ∙ set_other l0 x.group.0 k new differ

  pub watched_step : IsWatched service now l1 (with_act service before (act.Step x))
  watched_step = record {
    shows = agrees-step service was now before x r watched.shows stepped same there;
    count = ap length is ∙ length-set l0 x.group.0 new ∙ watched.count;
    each = λ g own found. elim (either g x.group.0) [
      | inl own_group ↦ (
          let both : Some new ≡ Some own = sym here ∙ ap (slice_get l1) (sym own_group) ∙ found in
          let own_is : new ≡ own = cc in
          ap (λ (v : Vec Lane Global). length v.items) (sym own_is) ∙ many ∙ watched.each g old (ap (slice_get l0) own_group ∙ at))
      | inr differ ↦ watched.each g own (sym (elsewhere g differ) ∙ found)
    ];
  }

  -- each tally is that of the step
  pub tallies_step : (s : State) → state_at service before x.group.0 ≡ Some s → length old.items ≡ command_count s.present.props
      → EachLane old.items new.items (λ k lane next. next.tally ≡ tally_with (view s) x.op x.now k lane.tally)
      → (g k : ℕ) → tally_at l1 g k ≡ tally_done service before (act.Step x) g k (tally_at l0 g k)
  tallies_step s state count each g k = elim (either g x.group.0) [
    | inl own_group ↦ (
        let before_is : tally_at l0 g k ≡ tally_in_lanes old.items k = ap (λ n. tally_at l0 n k) own_group ∙ ap (λ o. option_map_or (λ (lane : Lane). lane.tally) (option_and_then (λ (v : Vec Lane Global). slice_get v.items k) o) no_tally) at in
        let after_is : tally_at l1 g k ≡ tally_in_lanes new.items k = ap (λ n. tally_at l1 n k) own_group ∙ ap (λ o. option_map_or (λ (lane : Lane). lane.tally) (option_and_then (λ (v : Vec Lane Global). slice_get v.items k) o) no_tally) here in
        let tested : (x.group.0 == g) ≡ true = same_number x.group.0 g (sym own_group) in
        after_is
        ∙ lane_tallies s x old.items new.items k count many each
        ∙ ap (tally_in (Some s) x k) (sym before_is)
        ∙ ap (λ o. tally_in o x k (tally_at l0 g k)) (sym state ∙ ap (state_at service before) (sym own_group))
        ∙ sym (ap (λ b. if b then tally_in (state_at service before g) x k (tally_at l0 g k) else tally_at l0 g k) tested))
    | inr differ ↦ (
        let tested : (x.group.0 == g) ≡ false = other_number x.group.0 g (λ e. differ (sym e)) in
        ap (λ o. option_map_or (λ (lane : Lane). lane.tally) (option_and_then (λ (v : Vec Lane Global). slice_get v.items k) o) no_tally) (elsewhere g differ)
        ∙ sym (ap (λ b. if b then tally_in (state_at service before g) x k (tally_at l0 g k) else tally_at l0 g k) tested))
  ]

-- the group that makes a step is in a state
pub state_there : (service : SettingsView) (groups : GroupsView) (course : Course) (group : ℕ) → GroupsShow service groups course → is_some (view_at groups.core group) ≡ is_some (entry_at groups.entries group) → IsSome (entry_at groups.entries group)
    → (s : State) × (state_at service course group ≡ Some s)
state_there service groups course group shows both there = elim (read (state_at service course group)) [
  | inl none ↦ absurd (
      let gone : is_some (view_at groups.core group) ≡ false = ap is_some (shows.others group none) in
      let no : false ≡ true = sym gone ∙ both ∙ there in cc)
  | inr at ↦ at
]

-- ---- one group more

-- lanes without a tally
no_tallies : (lanes : List Lane) (k : ℕ) → All (λ (lane : Lane). lane.tally ≡ no_tally) lanes → tally_in_lanes lanes k ≡ no_tally
no_tallies lanes k none = elim (read (slice_get lanes k)) [
  | inl gone ↦ ap (λ o. option_map_or (λ (lane : Lane). lane.tally) o no_tally) gone
  | inr at ↦ ap (λ o. option_map_or (λ (lane : Lane). lane.tally) o no_tally) at.1 ∙ every_at (λ (lane : Lane). lane.tally ≡ no_tally) lanes k at.0 none at.1
]

abbrev shown_at : Option (Vec Lane Global) → ℕ → Tally
shown_at o k = option_map_or (λ (lane : Lane). lane.tally) (option_and_then (λ (v : Vec Lane Global). slice_get v.items k) o) no_tally

tally_push : (lanes : Lanes) (own : Vec Lane Global) → All (λ (lane : Lane). lane.tally ≡ no_tally) own.items → (g k : ℕ) → tally_at (lanes ++ own ∷ []) g k ≡ tally_at lanes g k
tally_push lanes own none g k = elim (either g (length lanes)) [
  | inl last ↦ (
      ap (λ o. shown_at o k) (ap (slice_get (lanes ++ own ∷ [])) last ∙ push_here lanes own)
      ∙ no_tallies own.items k none
      ∙ sym (ap (λ o. shown_at o k) (slice_get_past lanes g (omega (arith, last)))))
  | inr differ ↦ elim (within g (length lanes)) [
    | inl inside ↦ ap (λ o. shown_at o k) (push_before lanes own g inside)
    | inr past ↦ ap (λ o. shown_at o k) (push_past lanes own g (omega (arith, past, differ)) ∙ sym (slice_get_past lanes g past))
  ]
]

-- lanes for one group more
pub new_more : (done : List (List ℕ × GroupProps)) (e : List ℕ × GroupProps) (lanes : Lanes) (own : Vec Lane Global) → AreNewLanes done lanes → length own.items ≡ command_count e.1 → All (λ (lane : Lane). lane.tally ≡ no_tally) own.items
    → AreNewLanes (done ++ e ∷ []) (lanes ++ own ∷ [])
new_more done e lanes own new count none = record {
  count = length-append lanes (own ∷ []) ∙ (λ i. new.count i + 1) ∙ sym (length-append done (e ∷ []));
  fit = λ place like mine listed found. elim (either place (length done)) [
    | inl last ↦ (
        let is_like : Some e ≡ Some like = sym (ap (slice_get (done ++ e ∷ [])) last ∙ push_here done e) ∙ listed in
        let is_own : Some own ≡ Some mine = sym (ap (slice_get (lanes ++ own ∷ [])) (last ∙ sym new.count) ∙ push_here lanes own) ∙ found in
        let like_is : e ≡ like = cc in
        let own_is : own ≡ mine = cc in
        ap (λ (v : Vec Lane Global). length v.items) (sym own_is) ∙ count ∙ ap (λ (l : List ℕ × GroupProps). command_count l.1) like_is)
    | inr differ ↦ (
        let all : place < length (done ++ e ∷ []) = slice_get_within (done ++ e ∷ []) place like listed in
        let inside : place < length done = omega (arith, all, differ, length-append done (e ∷ [])) in
        new.fit place like mine (sym (push_before done e place inside) ∙ listed) (sym (push_before lanes own place (omega (arith, inside, new.count))) ∙ found))
  ];
  none = λ g k. tally_push lanes own none g k ∙ new.none g k;
}

-- how many commands a group has
abbrev count_like : SettingsView → Option Entry → ℕ
count_like service o = option_map_or (λ (like : List ℕ × GroupProps). command_count like.1) (option_and_then (λ (e : Entry). slice_get service.groups e.like) o) 0

-- a run that begins
listed_count : (service : SettingsView) (number : ℕ) (like : List ℕ × GroupProps) → slice_get service.groups number ≡ Some like
    → commands_at service (listed_entries service) number ≡ command_count like.1
listed_count service number like at =
    let entry : ℕ → List ℕ × GroupProps → Entry = λ place group. new_entry group.0 place in
    let is : slice_get (listed_entries service) number ≡ Some (new_entry like.0 number) =
    each_at 0 entry service.groups number ∙ ap (option_map (entry (0 + number))) at ∙ ap (λ n. Some (entry n like)) (omega arith) in
    ap (count_like service) is ∙ ap (λ o. option_map_or (λ (l : List ℕ × GroupProps). command_count l.1) o 0) at

pub watched_new : (service : SettingsView) (groups : GroupsView) (lanes : Lanes) → GroupsShow service groups (new_course service) → AreNewLanes service.groups lanes → IsWatched service groups lanes (new_course service)
watched_new service groups lanes shows new = record {
  shows = shows;
  count = new.count ∙ sym (length-each_from 0 (λ place (group : List ℕ × GroupProps). new_entry group.0 place) service.groups);
  each = λ g own found. (
      let inside : g < length service.groups = omega (arith, slice_get_within lanes g own found, new.count) in
      let (like, at) = read_within service.groups g inside in
      new.fit g like own at found ∙ sym (listed_count service g like at));
}

module _ (service : SettingsView) (was now : GroupsView) (l0 l1 : Lanes) (before : Course) (name : List ℕ) (place : ℕ) (like : List ℕ × GroupProps) (own : Vec Lane Global)
    (watched : IsWatched service was l0 before) (is : l1 ≡ l0 ++ own ∷ []) (listed : slice_get service.groups place ≡ Some like) (count : length own.items ≡ command_count like.1) (none : All (λ (lane : Lane). lane.tally ≡ no_tally) own.items) where
  later : Course
  later = with_act service before (act.Register name place)

  pub watched_registered : GroupsShow service now (with_act service before (act.Register name place)) → IsWatched service now l1 (with_act service before (act.Register name place))
  watched_registered shows = record {
    shows = shows;
    count = ap length is ∙ length-append l0 (own ∷ []) ∙ (λ i. watched.count i + 1) ∙ sym (length-append before.entries (new_entry name place ∷ []));
    each = λ g lanes found. elim (either g (length l0)) [
      | inl last ↦ (
          let own_is : Some own ≡ Some lanes = sym (ap (λ ls. slice_get ls g) is ∙ ap (slice_get (l0 ++ own ∷ [])) last ∙ push_here l0 own) ∙ found in
          let mine : own ≡ lanes = cc in
          let entry : slice_get (before.entries ++ new_entry name place ∷ []) g ≡ Some (new_entry name place) =
          ap (slice_get (before.entries ++ new_entry name place ∷ [])) (last ∙ watched.count) ∙ push_here before.entries (new_entry name place) in
          let many : commands_at service (before.entries ++ new_entry name place ∷ []) g ≡ command_count like.1 =
          ap (count_like service) entry ∙ ap (λ o. option_map_or (λ (l : List ℕ × GroupProps). command_count l.1) o 0) listed in
          ap (λ (v : Vec Lane Global). length v.items) (sym mine) ∙ count ∙ sym many)
      | inr differ ↦ (
          let within : g < length l0 = (let all : g < length l1 = slice_get_within l1 g lanes found in let many = ap length is ∙ length-append l0 (own ∷ []) in omega (arith, all, many, differ)) in
          let old : commands_at service (before.entries ++ new_entry name place ∷ []) g ≡ commands_at service before.entries g =
          ap (count_like service) (push_before before.entries (new_entry name place) g (omega (arith, within, watched.count))) in
          watched.each g lanes (sym (ap (λ ls. slice_get ls g) is ∙ push_before l0 own g within) ∙ found) ∙ sym old)
    ];
  }

  pub tallies_registered : (g k : ℕ) → tally_at l1 g k ≡ tally_at l0 g k
  tallies_registered g k = ap (λ ls. tally_at ls g k) is ∙ tally_push l0 own none g k

-- ---- one group fewer

-- a group that was retired has as many commands as it had
count_without : (service : SettingsView) (es : List Entry) (n g : ℕ) → commands_at service (without n es) g ≡ commands_at service es g
count_without service es n g = elim (read (slice_get es n)) [
  | inl none ↦ ap (λ l. commands_at service l g) (ap (λ o. option_map_or (λ (k : Entry). set es n (record k { live = false })) o es) none)
  | inr at ↦ (
      let is = without_is es n at.0 at.1 in
      let gone : Entry = record at.0 { live = false } in elim (either g n) [
        | inl here ↦ ap (λ l. commands_at service l g) is ∙ ap (commands_at service (set es n gone)) here ∙ ap (count_like service) (slice_get-set_same es n at.0 gone at.1)
            ∙ sym (ap (commands_at service es) here ∙ ap (count_like service) at.1)
        | inr differ ↦ ap (λ l. commands_at service l g) is ∙ ap (count_like service) (slice_get-set_other es n gone g differ)
      ])
]

pub watched_retired : (service : SettingsView) (now : GroupsView) (was : GroupsView) (lanes : Lanes) (before : Course) (n : ℕ) → IsWatched service was lanes before
    → GroupsShow service now (with_act service before (act.Retire (record { 0 = n }))) → IsWatched service now lanes (with_act service before (act.Retire (record { 0 = n })))
watched_retired service now was lanes before n watched = at (held_at service before n)
  where
    fewer : Course
    fewer = record before { entries = without n before.entries }

    at : (held : Bool) → GroupsShow service now (if held then before else record before { entries = without n before.entries }) → IsWatched service now lanes (if held then before else record before { entries = without n before.entries })
    at true shows = record { shows = shows; count = watched.count; each = watched.each }
    at false shows = record {
      shows = shows;
      count = watched.count ∙ sym (length-without before.entries n);
      each = λ g own found. watched.each g own found ∙ sym (count_without service before.entries n g);
    }

-- what holds whatever came of it
pub always : {T E P : Type 0} (r : Result T E) → P → OnOk r P
always (Ok x) p = p
always (Err e) p = tt

-- the lanes that were written over those of a group
pub items_are : (v : Vec Lane Global) (ws : List Lane) → length ws ≡ length v.items → (with_items v ws).items ≡ ws
items_are v ws same =
    ap (λ d. take v.len (ws ++ d)) (drop_all (length ws) v.items (omega (arith, same))) ∙ ap (take v.len) (append-nil ws) ∙ take_all v.len ws (omega (arith, v.ok.0, same))
