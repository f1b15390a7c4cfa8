-- What is kept of a run with one group fewer.
use Rattle.std.proofs.Common.{◌≡◌, ◌≢◌, ◌∙◌, inl, inr, ℕ, Bool, true, false, List, length, Option, Some, None, Ok, sym, ap, refl, subst}
use Rattle.std.specs.Prelude.{Vec, option_and_then, option_map, slice_get, if◌then◌else◌}
use Rattle.std.specs.Str.{bytes_eq}
use Rattle.std.specs.declared.alloc.Global.{Global}
use Rattle.bh_base.specs.Props.{GroupProps}
use Rattle.bh_base.specs.Runs.{State, view}
use Rattle.bh_port.specs.declared.act.LineAct.TheVariants as act
use Rattle.bh_port.specs.declared.groups.Entry.{Entry}
use Rattle.bh_port.specs.Course.{Course, group_after, state_at}
use Rattle.bh_port.specs.Entries.{entry_at, number_of, without}
use Rattle.bh_port.specs.GroupsView.{GroupsView}
use Rattle.bh_port.specs.Script.{GroupsShow}
use Rattle.bh_port.specs.Text.{held_at, with_act}
use Rattle.bh_port.proofs.Keeping.{either}
use Rattle.bh_port.proofs.Naming.{entry-without_other, entry-without_same, length-without}
use Rattle.bh_props.specs.SettingsView.{SettingsView}
use Rattle.bh_cut.proofs.Numbers.{equal, number-without_other, number-without_same, numbers-apart}
use Rattle.bh_columns.specs.Filled.{Stands}
use Rattle.bh_columns.specs.Named.{KeptRun, NamedFills, run_said}
use Rattle.bh_columns.specs.Panels.{EachAt}
use Rattle.bh_columns.specs.Placed.{IsAsked, SameKept}
use Rattle.bh_columns.specs.Recorded.{HasLayout, IsKept, IsRecorded}
use Rattle.bh_columns.specs.Spans.{Fill}
use Rattle.bh_columns.specs.Tracks.{IsFilled, IsWithin}
use Rattle.bh_columns.specs.declared.kept.Kept.{Kept}
use Rattle.bh_columns.specs.declared.lane.KeptLane.{KeptLane}
use Rattle.bh_columns.specs.declared.panel.KeptPanel.{KeptPanel}
use Rattle.bh_columns.specs.declared.selection.Selection.{Selection}
use Rattle.bh_columns.proofs.Laying.{laid_then, layout_without}
use Rattle.bh_columns.proofs.Lists.{each_back, each_same, each_weaker}
use Rattle.bh_columns.proofs.Placing.{SameName, placed_then}

abbrev Lanes : Type 0
Lanes = Vec KeptLane Global

-- all that is told of a panel but of its lives
abbrev pub SamePanelBut : KeptPanel → KeptPanel → Type 0
SamePanelBut panel next = (next.lanes ≡ panel.lanes) × (next.steps ≡ panel.steps) × (next.group ≡ panel.group) × (next.like ≡ panel.like)

pub same_kept : (kept : Kept) → SameKept kept kept
same_kept kept = record {
  panels = each_same kept.panels.items (λ p panel next. SamePanelBut panel next) (λ p panel. (refl, refl, refl, refl));
  places = refl;
  selection = refl;
  width = refl;
  extent = refl;
  lanes = refl;
  left_out = refl;
}

-- what is kept is the same but for what is told of lives
kept_same : (service : SettingsView) (sel : Selection) (old new : Kept) (course : Course) (fills : NamedFills) → SameKept old new → IsKept service sel old course fills → IsKept service sel new course fills
kept_same service sel old new course fills same kept = record {
  selection = same.selection ∙ kept.selection;
  laid_out = laid_then _ old new names same.lanes same.left_out kept.laid_out;
  placed = placed_then sel old new course.entries course.entries kept.placed names same.places same.left_out refl (λ g e is. is);
  fit = λ p panel props at has.
      let (one, one_at, ab) = back p panel at in
      let fits = kept.fit p one props one_at (ap (slice_get service.groups) (sym ab.3) ∙ has) in
      record { lanes = ap (λ (v : Lanes). length v.items) ab.0 ∙ fits.lanes; steps = ap (λ q. length q.items) ab.1 ∙ fits.steps };
  stands = λ name group p t panel named is stands at.
      let (one, one_at, ab) = back p panel at in
      let was = kept.stands name group p t one named is (sym (ap (λ (w : Vec (Option ℕ) Global). slice_get w.items group) same.places) ∙ stands) one_at in
      record {
        count = ap (λ (v : Lanes). length v.items) ab.0 ∙ was.count;
        steps = ap (λ q. length q.items) ab.1 ∙ was.steps;
        circuits = λ command lane had. was.circuits command lane (ap (λ (v : Lanes). slice_get v.items command) (sym ab.0) ∙ had);
      };
  sound = kept.sound;
  filled = λ p command panel lane at had.
      let (one, one_at, ab) = back p panel at in
      let was = kept.filled p command one lane one_at (ap (λ (v : Lanes). slice_get v.items command) (sym ab.0) ∙ had) in
      let groups = sym ab.2 in
      let likes = sym ab.3 in
      subst (λ w. IsFilled lane.track w (fills panel.group panel.like command)) (sym same.width)
      (subst (λ (f : Fill). IsFilled lane.track old.grid.width f) (λ i. fills (groups i) (likes i) command) was);
  within = λ p command panel at.
      let (one, one_at, ab) = back p panel at in
      let groups = sym ab.2 in
      let likes = sym ab.3 in
      subst (λ e. IsWithin e new.grid.width (fills panel.group panel.like command)) (sym same.extent)
      (subst (λ w. IsWithin old.grid.extent w (fills panel.group panel.like command)) (sym same.width)
      (subst (λ (f : Fill). IsWithin old.grid.extent old.grid.width f) (λ i. fills (groups i) (likes i) command) (kept.within p command one one_at)));
  fresh = λ name like command selected none_left none. kept.fresh name like command selected (sym same.left_out ∙ none_left) (λ p panel at is.
      let (next, next_at, ab) = same.panels.each p panel at in
      none p next next_at (record { group = ab.2 ∙ is.group; like = ab.3 ∙ is.like }));
}
  where
    names : EachAt old.panels.items new.panels.items (λ p a b. SameName a b)
    names = each_weaker old.panels.items new.panels.items (λ p panel next. SamePanelBut panel next) (λ p a b. SameName a b) (λ p a b ab. record { group = ab.2; like = ab.3 }) same.panels

    back : (p : ℕ) (panel : KeptPanel) → slice_get new.panels.items p ≡ Some panel → (one : KeptPanel) × (slice_get old.panels.items p ≡ Some one) × SamePanelBut one panel
    back p panel at = each_back old.panels.items new.panels.items (λ q a b. SamePanelBut a b) p panel same.panels at

module _ (service : SettingsView) (sel : Selection) (kept : Kept) (course : Course) (fills : NamedFills) (own : List ℕ) (n : ℕ) (found : number_of course.entries own ≡ Some n) (was : IsKept service sel kept course fills) where
  abbrev fewer : Course
  fewer = record course { entries = without n course.entries }

  left_there : (g : ℕ) (e : Entry) → entry_at fewer.entries g ≡ Some e → entry_at course.entries g ≡ Some e
  left_there g e there = elim (either g n) [
    | inl here ↦ absurd (let both : None ≡ Some e = sym (ap (entry_at fewer.entries) here ∙ entry-without_same course.entries n) ∙ there in cc)
    | inr differ ↦ sym (entry-without_other course.entries n g differ) ∙ there
  ]

  -- a group that is there still
  stands_left : (name : List ℕ) (group p : ℕ) (t : State) (panel : KeptPanel) → (b : Bool) → bytes_eq own name ≡ b → number_of fewer.entries name ≡ Some group → state_at service fewer group ≡ Some t
      → slice_get kept.places.items group ≡ Some (Some p) → slice_get kept.panels.items p ≡ Some panel → Stands (view t) panel
  stands_left name group p t panel true same named is stands at = absurd (
      let alike : own ≡ name = equal own name same in
      let gone : number_of fewer.entries name ≡ None = ap (number_of fewer.entries) (sym alike) ∙ number-without_same course.entries n own found in
      let both : None ≡ Some group = sym gone ∙ named in cc)
  stands_left name group p t panel false differs named is stands at =
      let number : number_of course.entries name ≡ Some group = sym (number-without_other course.entries n own name found differs) ∙ named in
      let differ : group ≢ n = λ same. numbers-apart course.entries n group own name found number differs (sym same) in
      let state : state_at service course group ≡ Some t =
      sym (ap (λ (o : Option Entry). option_map (λ (q : List ℕ × GroupProps). group_after service q.1 group course.steps) (option_and_then (λ (d : Entry). slice_get service.groups d.like) o)) (entry-without_other course.entries n group differ)) ∙ is in
      was.stands name group p t panel number state stands at

  kept_fewer : IsKept service sel kept fewer fills
  kept_fewer = record {
    selection = was.selection;
    laid_out = subst (λ l. HasLayout l kept) (sym (layout_without service sel course.entries n)) was.laid_out;
    placed = placed_then sel kept kept course.entries fewer.entries was.placed (each_same kept.panels.items (λ p a b. SameName a b) (λ p a. record { group = refl; like = refl })) refl refl (length-without course.entries n) left_there;
    fit = was.fit;
    stands = λ name group p t panel. stands_left name group p t panel (bytes_eq own name) refl;
    sound = was.sound;
    filled = was.filled;
    within = was.within;
    fresh = was.fresh;
  }

-- a group was retired, unless it is in use
pub recorded_retired : (service : SettingsView) (sel : Selection) (was now : GroupsView) (old new : Kept) (run : KeptRun) (n : ℕ) → IsAsked was.entries (act.Retire (record { 0 = n })) → IsRecorded service sel was old run → SameKept old new
    → GroupsShow service now (with_act service run.course (act.Retire (record { 0 = n }))) → IsRecorded service sel now new (run_said service sel.from sel.to (Ok (act.Retire (record { 0 = n }))) run)
recorded_retired service sel was now old new run n asked recorded same shows = record { shows = shows; columns = at (held_at service run.course n) }
  where
    found : number_of run.course.entries asked.0 ≡ Some n
    found = ap (λ es. number_of es asked.0) (sym recorded.shows.entries) ∙ asked.1

    at : (held : Bool) → IsKept service sel new (if held then run.course else record run.course { entries = without n run.course.entries }) run.fills
    at true = kept_same service sel old new run.course run.fills same recorded.columns
    at false = kept_same service sel old new (record run.course { entries = without n run.course.entries }) run.fills same (kept_fewer service sel old run.course run.fills asked.0 n found recorded.columns)
