-- What is kept of a run with one step more.
use Rattle.std.proofs.Common.{◌≡◌, ◌≢◌, ◌∙◌, inl, inr, ◌≤◌, ℕ, Bool, true, false, All, List, length, Option, Some, None, Ok, sym, ap, refl, subst, arith}
use Rattle.std.specs.Prelude.{◌==◌, Vec, is_some, option_and_then, slice_get, if◌then◌else◌}
use Rattle.std.specs.declared.alloc.Global.{Global}
use Rattle.std.proofs.lemmas.Bool.Decides.{nat_tests}
use Rattle.std.proofs.lemmas.Option.{slice_get_within}
use Rattle.bh_base.specs.Commands.{command_count}
use Rattle.bh_base.specs.Props.{GroupProps}
use Rattle.bh_base.specs.Ranges.{IsInRange}
use Rattle.bh_base.specs.Runs.{State, View, step, view}
use Rattle.bh_base.specs.Seen.{view_after}
use Rattle.bh_base.specs.declared.reply.Reply.{Reply}
use Rattle.bh_base.specs.declared.step.Step.{Step}
use Rattle.bh_core.specs.CoreView.{Shows, shown_by, view_at}
use Rattle.bh_core.specs.Step.{IsStep}
use Rattle.bh_port.specs.declared.act.LineAct.TheVariants as act
use Rattle.bh_port.specs.declared.groups.Entry.{Entry}
use Rattle.bh_port.specs.Course.{Course, state_at}
use Rattle.bh_port.specs.Entries.{entry_at, number_of}
use Rattle.bh_port.specs.GroupsView.{GroupsView}
use Rattle.bh_port.specs.Script.{GroupsShow}
use Rattle.bh_port.specs.Text.{with_act}
use Rattle.bh_port.proofs.Keeping.{either, read}
use Rattle.bh_port.proofs.Showing.{agrees-step}
use Rattle.bh_props.specs.SettingsView.{SettingsView}
use Rattle.bh_look.proofs.Adding.{count_kept}
use Rattle.bh_look.proofs.Watching.{IsLike, like_in_range, like_of, state_there}
use Rattle.bh_columns.specs.Columns.{no_column}
use Rattle.bh_columns.specs.Filled.{AreFilled, AreFills, AreWithin, Fills, Stands, fills_with}
use Rattle.bh_columns.specs.Layouts.{keeps}
use Rattle.bh_columns.specs.Named.{KeptRun, NamedFills, fills_in, is_of, run_said}
use Rattle.bh_columns.specs.Panels.{EachAt}
use Rattle.bh_columns.specs.Placed.{IsAsked, IsStepped}
use Rattle.bh_columns.specs.Recorded.{FitsLike, IsKept, IsPanelOf, IsRecorded}
use Rattle.bh_columns.specs.Spans.{Fill, IsFill}
use Rattle.bh_columns.specs.Steps.{filled_with}
use Rattle.bh_columns.specs.Tracks.{IsFilled, IsWithin}
use Rattle.bh_columns.specs.declared.kept.Kept.{Kept}
use Rattle.bh_columns.specs.declared.panel.KeptPanel.{KeptPanel}
use Rattle.bh_columns.specs.declared.selection.Selection.{Selection}
use Rattle.bh_columns.proofs.Filling.{fills_stay_fills}
use Rattle.bh_columns.proofs.Laying.{laid_then}
use Rattle.bh_columns.proofs.Lists.{each_back, each_weaker}
use Rattle.bh_columns.proofs.Placing.{IsNamed, SameName, group_named, of_false, of_true, placed_then, stands_same}

abbrev Places : Type 0
Places = Vec (Option ℕ) Global

same_number : (m n : ℕ) → m ≡ n → (m == n) ≡ true
same_number m n is = grind (arith, nat_tests)

other_number : (m n : ℕ) → m ≢ n → (m == n) ≡ false
other_number m n differ = grind (arith, nat_tests)

-- what is kept of the panel's groups
abbrev named_fill : NamedFills → Option KeptPanel → ℕ → Fill
named_fill fs None command = λ a b. no_column
named_fill fs (Some panel) command = fs panel.group panel.like command

fill_at : (fs : NamedFills) → ((name : List ℕ) (like command : ℕ) → IsFill (fs name like command)) → (o : Option KeptPanel) (command : ℕ) → IsFill (named_fill fs o command)
fill_at fs fills None command = fills_stay_fills.none
fill_at fs fills (Some panel) command = fills panel.group panel.like command

-- what stays a fill, whether a step is added or not
fill_if : (b : Bool) (f g : Fill) → IsFill f → IsFill g → IsFill (if b then f else g)
fill_if true f g one two = one
fill_if false f g one two = two

module _ (service : SettingsView) (sel : Selection) (was now : GroupsView) (old : Kept) (run : KeptRun) (x : Step) (r : Reply) (all : All (λ (group : List ℕ × GroupProps). IsInRange group.1) service.groups)
    (asked : IsAsked was.entries (act.Step x)) (recorded : IsRecorded service sel was old run) (stepped : IsStep was.core x r now.core) (same : now.entries ≡ was.entries)
    (there : (number : ℕ) → is_some (view_at was.core number) ≡ is_some (entry_at was.entries number)) where
  abbrev g : ℕ
  g = x.group.0

  abbrev course : Course
  course = run.course

  abbrev later : Course
  later = with_act service run.course (act.Step x)

  shows : GroupsShow service was course
  shows = recorded.shows

  kept : IsKept service sel old course run.fills
  kept = recorded.columns

  number : number_of course.entries asked.0 ≡ Some g
  number = ap (λ es. number_of es asked.0) (sym shows.entries) ∙ asked.1

  own_group : IsNamed course.entries asked.0 g
  own_group = group_named course.entries asked.0 g number

  abbrev e : Entry
  e = own_group.entry

  is_there : is_some (entry_at was.entries g) ≡ true
  is_there = ap is_some (ap (λ es. entry_at es g) shows.entries ∙ own_group.at)

  found : (s : State) × (state_at service course g ≡ Some s)
  found = state_there service was course g shows (there g) is_there

  abbrev s : State
  s = found.0

  abbrev v : View
  v = view s

  shown : Shows was.core g s
  shown = shows.shows g s found.1

  liked : IsLike service course g s
  liked = like_of service course g s found.1

  in_range : IsInRange s.present.props
  in_range = liked.ranges (like_in_range service (entry_at course.entries g) liked.like all liked.is)

  shows_later : GroupsShow service now later
  shows_later = agrees-step service was now course x r shows stepped same is_there

  -- what is kept of the names with the step
  abbrev ns : NamedFills
  ns = fills_in sel.from sel.to (Some e) (Some s) x run.fills

  ns_is : ns ≡ fills_in sel.from sel.to (entry_at course.entries g) (state_at service course g) x run.fills
  ns_is =
      let entries = sym own_group.at in
      let states = sym found.1 in
      λ i. fills_in sel.from sel.to (entries i) (states i) x run.fills

  ns_fills : (name : List ℕ) (like command : ℕ) → IsFill (ns name like command)
  ns_fills name like command =
      fill_if (is_of (Some e) name like) (filled_with sel.from sel.to v x.op x.now command (run.fills name like command)) (run.fills name like command)
      (fills_stay_fills.step (run.fills name like command) sel.from sel.to v x.op x.now command (kept.sound name like command)) (kept.sound name like command)

  ns_own : (name : List ℕ) (like command : ℕ) → e.name ≡ name → e.like ≡ like → ns name like command ≡ filled_with sel.from sel.to v x.op x.now command (run.fills name like command)
  ns_own name like command named likes = ap (λ b. if b then filled_with sel.from sel.to v x.op x.now command (run.fills name like command) else run.fills name like command) (of_true e name like named likes)

  ns_other : (name : List ℕ) (like command : ℕ) → (e.name ≡ name → e.like ≡ like → ⊥) → ns name like command ≡ run.fills name like command
  ns_other name like command differ = ap (λ b. if b then filled_with sel.from sel.to v x.op x.now command (run.fills name like command) else run.fills name like command) (of_false e name like differ)

  -- a group that made no step is in the state that it was in
  state_kept : (group : ℕ) (t : State) → group ≢ g → state_at service later group ≡ Some t → (u : State) × (state_at service course group ≡ Some u) × (view u ≡ view t)
  state_kept group t differ is = elim (read (state_at service course group)) [
    | inl none ↦ absurd (
        let gone : view_at now.core group ≡ None = ap shown_by (stepped.others group differ) ∙ shows.others group none in
        let both : None ≡ Some (view t) = sym gone ∙ (shows_later.shows group t is).view_is in cc)
    | inr at ↦ (
      at.0,
      at.1,
      (let both : Some (view at.0) ≡ Some (view t) = sym (shows.shows group at.0 at.1).view_is ∙ sym (ap shown_by (stepped.others group differ)) ∙ (shows_later.shows group t is).view_is in cc),
    )
  ]

  -- the group that made it stands as behind it
  state_own : (t : State) → state_at service later g ≡ Some t → view_after v x.op x.now ≡ view t
  state_own t is =
      let both : Some (view_after v x.op x.now) ≡ Some (view t) = sym (stepped.seen v shown.view_is).1 ∙ (shows_later.shows g t is).view_is in cc

  -- it has as many commands as before
  count_after : command_count (view_after v x.op x.now).present.props ≡ command_count s.present.props
  count_after =
      let both : Some (view (step s x.op x.now).state) ≡ Some (view_after v x.op x.now) = sym (stepped.own s shown).view_is ∙ (stepped.seen v shown.view_is).1 in
      let is : view (step s x.op x.now).state ≡ view_after v x.op x.now = cc in
      ap (λ (u : View). command_count u.present.props) (sym is) ∙ count_kept s x.op x.now

  -- ---- a group that is not kept

  module _ (nowhere : (p : ℕ) → slice_get old.places.items g ≡ Some (Some p) → length old.panels.items ≤ p) where
    not_at : (p : ℕ) (panel : KeptPanel) → slice_get old.panels.items p ≡ Some panel → slice_get old.places.items g ≡ Some (Some p) → ⊥
    not_at p panel found stands = let inside = slice_get_within old.panels.items p panel found in let past = nowhere p stands in omega (arith, inside, past)

    left_kept : IsKept service sel old later ns
    left_kept = record {
      selection = kept.selection;
      laid_out = kept.laid_out;
      placed = kept.placed;
      fit = kept.fit;
      stands = λ name group p t panel named is stands at.
          let differ : group ≢ g = λ own. not_at p panel at (ap (slice_get old.places.items) (sym own) ∙ stands) in
          let (u, state, views) = state_kept group t differ is in
          subst (λ w. Stands w panel) views (kept.stands name group p u panel named state stands at);
      sound = ns_fills;
      filled = λ p command panel lane at had.
          let other = ns_other panel.group panel.like command (λ named likes. not_at p panel at (kept.placed.placed g p e panel own_group.at at (record { group = sym named; like = sym likes }))) in
          subst (λ (f : Fill). IsFilled lane.track old.grid.width f) (sym other) (kept.filled p command panel lane at had);
      within = λ p command panel at.
          let other = ns_other panel.group panel.like command (λ named likes. not_at p panel at (kept.placed.placed g p e panel own_group.at at (record { group = sym named; like = sym likes }))) in
          subst (λ (f : Fill). IsWithin old.grid.extent old.grid.width f) (sym other) (kept.within p command panel at);
      fresh = λ name like command selected none_left none.
          ns_other name like command (λ named likes.
          let (p, stands) = kept.placed.whole g e own_group.at (ap (keeps sel) named ∙ selected) none_left in
          let (panel, at, is) = kept.placed.at g p e stands own_group.at in
          none p panel at (record { group = is.group ∙ named; like = is.like ∙ likes }))
          ∙ kept.fresh name like command selected none_left none;
    }

    pub left_recorded : IsRecorded service sel now old (run_said service sel.from sel.to (Ok (act.Step x)) run)
    left_recorded = record { shows = shows_later; columns = subst (IsKept service sel old later) ns_is left_kept }

  -- ---- a group that is kept

  module _ (new : Kept) (n : ℕ) (stands_at : slice_get old.places.items g ≡ Some (Some n)) (each : EachAt old.panels.items new.panels.items (λ p a b. IsStepped n p a b))
      (places : new.places ≡ old.places) (selection : new.selection ≡ old.selection) (lanes : new.lanes ≡ old.lanes) (left_out : new.left_out ≡ old.left_out)
      (does : (s : State) (fs : Fills) (own : KeptPanel) → Shows was.core g s → IsInRange s.present.props → slice_get old.panels.items n ≡ Some own → Stands (view s) own → AreFills fs → AreFilled old.panels.items old.grid.width fs
      → AreFilled new.panels.items new.grid.width (fills_with old.selection.from old.selection.to n (view s) x.op x.now fs) × ((next : KeptPanel) × (slice_get new.panels.items n ≡ Some next) × Stands (view_after (view s) x.op x.now) next))
      (reaches : (s : State) (fs : Fills) → Shows was.core g s → AreFills fs → AreWithin old.grid.extent old.grid.width fs → AreWithin new.grid.extent new.grid.width (fills_with old.selection.from old.selection.to n (view s) x.op x.now fs)) where
    was_at : (group p : ℕ) → slice_get new.places.items group ≡ Some (Some p) → slice_get old.places.items group ≡ Some (Some p)
    was_at group p is = sym (ap (λ (w : Places). slice_get w.items group) places) ∙ is

    back : (p : ℕ) (panel : KeptPanel) → slice_get new.panels.items p ≡ Some panel → (one : KeptPanel) × (slice_get old.panels.items p ≡ Some one) × IsStepped n p one panel
    back p panel at = each_back old.panels.items new.panels.items (λ q a b. IsStepped n q a b) p panel each at

    home : (panel : KeptPanel) × (slice_get old.panels.items n ≡ Some panel) × IsPanelOf e.name e.like panel
    home = kept.placed.at g n e stands_at own_group.at

    abbrev fs : Fills
    fs p command = named_fill run.fills (slice_get old.panels.items p) command

    did : AreFilled new.panels.items new.grid.width (fills_with old.selection.from old.selection.to n v x.op x.now fs) × ((next : KeptPanel) × (slice_get new.panels.items n ≡ Some next) × Stands (view_after v x.op x.now) next)
    did = does s fs home.0 shown in_range home.1 (kept.stands asked.0 g n s home.0 number found.1 stands_at home.1)
        (λ p command. fill_at run.fills kept.sound (slice_get old.panels.items p) command)
        (λ p command panel lane at had. subst (λ (f : Fill). IsFilled lane.track old.grid.width f) (sym (ap (λ o. named_fill run.fills o command) at)) (kept.filled p command panel lane at had))

    filled : AreFilled new.panels.items new.grid.width (fills_with sel.from sel.to n v x.op x.now fs)
    filled = subst (λ (q : Selection). AreFilled new.panels.items new.grid.width (fills_with q.from q.to n v x.op x.now fs)) kept.selection did.0

    within : AreWithin new.grid.extent new.grid.width (fills_with sel.from sel.to n v x.op x.now fs)
    within = subst (λ (q : Selection). AreWithin new.grid.extent new.grid.width (fills_with q.from q.to n v x.op x.now fs)) kept.selection
        (reaches s fs shown (λ p command. fill_at run.fills kept.sound (slice_get old.panels.items p) command) (λ p command. was_within p command (slice_get old.panels.items p) refl))
      where
        was_within : (p command : ℕ) (o : Option KeptPanel) → slice_get old.panels.items p ≡ o → IsWithin old.grid.extent old.grid.width (named_fill run.fills o command)
        was_within p command None at = λ i out. refl
        was_within p command (Some panel) at = kept.within p command panel at

    one_own : (p : ℕ) (one : KeptPanel) → p ≡ n → slice_get old.panels.items p ≡ Some one → home.0 ≡ one
    one_own p one is at = let both : Some home.0 ≡ Some one = sym home.1 ∙ ap (slice_get old.panels.items) (sym is) ∙ at in cc

    fill_is : (p command : ℕ) (one panel : KeptPanel) → slice_get old.panels.items p ≡ Some one → IsStepped n p one panel → fills_with sel.from sel.to n v x.op x.now fs p command ≡ ns panel.group panel.like command
    fill_is p command one panel at st = elim (either p n) [
      | inl is ↦ (
          let mine = one_own p one is at in
          let group : e.name ≡ panel.group = sym home.2.group ∙ ap (λ (q : KeptPanel). q.group) mine ∙ sym st.group in
          let like : e.like ≡ panel.like = sym home.2.like ∙ ap (λ (q : KeptPanel). q.like) mine ∙ sym st.like in
          ap (λ b. if b then filled_with sel.from sel.to v x.op x.now command (fs p command) else fs p command) (same_number p n is)
          ∙ ap (filled_with sel.from sel.to v x.op x.now command) (before ∙ names)
          ∙ sym (ns_own panel.group panel.like command group like))
      | inr differ ↦ (
          ap (λ b. if b then filled_with sel.from sel.to v x.op x.now command (fs p command) else fs p command) (other_number p n differ)
          ∙ before
          ∙ names
          ∙ sym (ns_other panel.group panel.like command (λ named likes.
          differ (sym (kept.placed.apart n p home.0 one home.1 at (record { group = sym st.group ∙ sym named ∙ sym home.2.group; like = sym st.like ∙ sym likes ∙ sym home.2.like }))))))
    ]
      where
        before : fs p command ≡ run.fills one.group one.like command
        before = ap (λ o. named_fill run.fills o command) at

        names : run.fills one.group one.like command ≡ run.fills panel.group panel.like command
        names =
            let groups = sym st.group in
            let likes = sym st.like in
            λ i. run.fills (groups i) (likes i) command

    stands_later : (name : List ℕ) (group p : ℕ) (t : State) (panel : KeptPanel) → number_of later.entries name ≡ Some group → state_at service later group ≡ Some t
        → slice_get new.places.items group ≡ Some (Some p) → slice_get new.panels.items p ≡ Some panel → Stands (view t) panel
    stands_later name group p t panel named is stands at = elim (either p n) [
      | inl same ↦ (
          let mine = group_named course.entries name group named in
          let (q, q_at, q_is) = kept.placed.at group p mine.entry (was_at group p stands) mine.at in
          let one = one_own p q same q_at in
          let alike : name ≡ asked.0 = sym mine.named ∙ sym q_is.group ∙ ap (λ (k : KeptPanel). k.group) (sym one) ∙ home.2.group ∙ own_group.named in
          let numbers : Some group ≡ Some g = sym named ∙ ap (number_of course.entries) alike ∙ number in
          let is_own : group ≡ g = cc in
          let panels : Some did.1.0 ≡ Some panel = sym did.1.1 ∙ ap (slice_get new.panels.items) (sym same) ∙ at in
          let panel_is : did.1.0 ≡ panel = cc in
          subst (Stands (view t)) panel_is (subst (λ w. Stands w did.1.0) (state_own t (ap (state_at service later) (sym is_own) ∙ is)) did.1.2))
      | inr differ ↦ (
          let apart : group ≢ g = λ same. differ (let both : Some (Some p) ≡ Some (Some n) = sym (was_at group p stands) ∙ ap (slice_get old.places.items) same ∙ stands_at in cc) in
          let (u, state, views) = state_kept group t apart is in
          let (one, one_at, st) = back p panel at in
          subst (λ w. Stands w panel) views (stands_same (view u) one panel (st.other differ) (kept.stands name group p u one named state (was_at group p stands) one_at)))
    ]

    fit_later : (p : ℕ) (panel : KeptPanel) (like : List ℕ × GroupProps) → slice_get new.panels.items p ≡ Some panel → slice_get service.groups panel.like ≡ Some like → FitsLike like panel
    fit_later p panel like at listed = elim (either p n) [
      | inl same ↦ (
          let (one, one_at, st) = back p panel at in
          let mine = one_own p one same one_at in
          let panels : Some did.1.0 ≡ Some panel = sym did.1.1 ∙ ap (slice_get new.panels.items) (sym same) ∙ at in
          let panel_is : did.1.0 ≡ panel = cc in
          let e_like : e.like ≡ panel.like = sym home.2.like ∙ ap (λ (q : KeptPanel). q.like) mine ∙ sym st.like in
          let likes : Some liked.like ≡ Some like = sym liked.is ∙ ap (option_and_then (λ (d : Entry). slice_get service.groups d.like)) own_group.at ∙ ap (slice_get service.groups) e_like ∙ listed in
          let like_is : liked.like ≡ like = cc in
          let count : command_count (view_after v x.op x.now).present.props ≡ command_count like.1 = count_after ∙ liked.count ∙ ap (λ (l : List ℕ × GroupProps). command_count l.1) like_is in
          let stands : Stands (view_after v x.op x.now) panel = subst (Stands (view_after v x.op x.now)) panel_is did.1.2 in
          record { lanes = stands.count ∙ count; steps = stands.steps ∙ count })
      | inr differ ↦ (
          let (one, one_at, st) = back p panel at in
          let same = st.other differ in
          let fits = kept.fit p one like one_at (ap (slice_get service.groups) (sym st.like) ∙ listed) in
          record { lanes = same.lanes.count ∙ fits.lanes; steps = ap length (ap (λ q. q.items) same.steps) ∙ fits.steps })
    ]

    names : EachAt old.panels.items new.panels.items (λ p a b. SameName a b)
    names = each_weaker old.panels.items new.panels.items (λ p a b. IsStepped n p a b) (λ p a b. SameName a b) (λ p a b ab. record { group = ab.group; like = ab.like }) each

    kept_later : IsKept service sel new later ns
    kept_later = record {
      selection = selection ∙ kept.selection;
      laid_out = laid_then _ old new names lanes left_out kept.laid_out;
      placed = placed_then sel old new course.entries course.entries kept.placed names places left_out refl (λ k d is. is);
      fit = fit_later;
      stands = stands_later;
      sound = ns_fills;
      filled = λ p command panel lane at had.
          let (one, one_at, st) = back p panel at in
          subst (λ (f : Fill). IsFilled lane.track new.grid.width f) (fill_is p command one panel one_at st) (filled p command panel lane at had);
      within = λ p command panel at.
          let (one, one_at, st) = back p panel at in
          subst (λ (f : Fill). IsWithin new.grid.extent new.grid.width f) (fill_is p command one panel one_at st) (within p command);
      fresh = λ name like command selected none_left none.
          ns_other name like command (λ named likes.
          let (next, at, st) = each.each n home.0 home.1 in
          none n next at (record { group = st.group ∙ home.2.group ∙ named; like = st.like ∙ home.2.like ∙ likes }))
          ∙ kept.fresh name like command selected (sym left_out ∙ none_left) (λ p panel at is.
          let (next, next_at, st) = each.each p panel at in
          none p next next_at (record { group = st.group ∙ is.group; like = st.like ∙ is.like }));
    }

    pub step_recorded : IsRecorded service sel now new (run_said service sel.from sel.to (Ok (act.Step x)) run)
    step_recorded = record { shows = shows_later; columns = subst (IsKept service sel new later) ns_is kept_later }
