-- What is kept of a run with one group more.
use Rattle.std.proofs.Common.{◌≡◌, ◌≢◌, ◌∙◌, ◌⊎◌, inl, inr, ◌+◌, ◌<◌, ℕ, zero, suc, Bool, true, false, List, ◌++◌, ◌∷◌, [], length, Option, Some, None, map, sym, ap, refl, subst, arith, length-append}
use Rattle.std.specs.Prelude.{◌==◌, Vec, is_some, option_and_then, option_map, slice_get, slice_index_or, if◌then◌else◌}
use Rattle.std.specs.List.{AllByRecursion}
use Rattle.std.specs.Cmp.Lexicographic.{bytes_decides}
use Rattle.std.specs.Str.{bytes_eq}
use Rattle.std.specs.declared.alloc.Global.{Global}
use Rattle.std.proofs.lemmas.Bool.Decides.{nat_tests}
use Rattle.bh_base.specs.Commands.{command_count}
use Rattle.bh_base.specs.Circuit.{new_circuit}
use Rattle.bh_base.specs.Machine.{circuit_of}
use Rattle.bh_base.specs.Props.{GroupProps}
use Rattle.bh_base.specs.declared.props.CommandProps.{CommandProps}
use Rattle.bh_base.specs.Runs.{State, own, state_after, view}
use Rattle.bh_base.specs.declared.step.Step.{Step}
use Rattle.bh_port.specs.declared.act.LineAct.TheVariants as act
use Rattle.bh_port.specs.declared.groups.Entry.{Entry}
use Rattle.bh_port.specs.Course.{Course, group_after, opened_group, state_at}
use Rattle.bh_port.specs.Entries.{entry_at, new_entry, number_of}
use Rattle.bh_port.specs.Text.{with_act}
use Rattle.bh_port.proofs.Keeping.{either}
use Rattle.bh_port.proofs.Lists.{every_at, push_before, push_here}
use Rattle.bh_port.proofs.Naming.{entry-push, entry-pushed, entry_within}
use Rattle.bh_props.specs.SettingsView.{SettingsView}
use Rattle.bh_cut.proofs.Numbers.{equal, number-push_other, number-pushed}
use Rattle.bh_look.proofs.Watching.{IsLike, like_of}
use Rattle.bh_columns.specs.Columns.{bare, no_column}
use Rattle.bh_columns.specs.Filled.{Stands}
use Rattle.bh_columns.specs.Layouts.{Layout, keeps, layout_of, no_layout, with_group}
use Rattle.bh_columns.specs.Named.{NamedFills}
use Rattle.bh_columns.specs.Panels.{EachAt, IsNewLife}
use Rattle.bh_columns.specs.Placed.{IsBegunAt, IsEmptyLane, IsNewPanel, IsPlaceFor}
use Rattle.bh_columns.specs.Recorded.{ArePlaced, FitsLike, HasLayout, HasNone, IsKept, IsPanelOf}
use Rattle.bh_columns.specs.Spans.{Fill}
use Rattle.bh_columns.specs.Tracks.{IsFilled, IsWithin, column_at}
use Rattle.bh_columns.specs.declared.kept.Kept.{Kept}
use Rattle.bh_columns.specs.declared.lane.KeptLane.{KeptLane}
use Rattle.bh_columns.specs.declared.panel.KeptPanel.{KeptPanel}
use Rattle.bh_columns.specs.declared.selection.Selection.{Selection}
use Rattle.bh_columns.specs.declared.track.Track.{Track}
use Rattle.bh_columns.proofs.Laying.{laid_then, layout_push}
use Rattle.bh_columns.proofs.Lists.{each_back, each_weaker}
use Rattle.bh_columns.proofs.Placing.{SameName, group_named}

-- ---- a group that made no step

-- no step is of a group that comes behind those that made some
none_own : (group : ℕ) (xs : List Step) → AllByRecursion (λ x. x.group.0 < group) xs → own group xs ≡ []
none_own group [] before = refl
none_own group (x ∷ xs) before =
    let differs : (x.group.0 == group) ≡ false = other x.group.0 group before.0 in
    ap (λ b. if b then x ∷ own group xs else own group xs) differs ∙ none_own group xs before.1
  where
    other : (m n : ℕ) → m < n → (m == n) ≡ false
    other m n less = grind (arith, nat_tests)

state_new : (service : SettingsView) (props : GroupProps) (group : ℕ) (xs : List Step) → AllByRecursion (λ x. x.group.0 < group) xs → group_after service props group xs ≡ opened_group service props
unfolding group_after
state_new service props group xs before = ap (state_after (opened_group service props)) (none_own group xs before)

-- its circuits are closed
all_new : (ps : List CommandProps) (command : ℕ) → slice_index_or (map (λ c. new_circuit) ps) command new_circuit ≡ new_circuit
all_new [] command = refl
all_new (p ∷ ps) zero = refl
all_new (p ∷ ps) (suc command) = all_new ps command

empty_filled : (t : Track) (width : ℕ) → ((index : ℕ) → column_at t index ≡ no_column) → IsFilled t width (λ a b. no_column)
empty_filled t width empty = λ index. ap bare (empty index)

pub some_same : {X : Type 0} (x y : X) → Some x ≡ Some y → x ≡ y
some_same x y is = cc

not_both : (b : Bool) → b ≡ false → b ≡ true → ⊥
not_both b is_not is = let both : false ≡ true = sym is_not ∙ is in absurd cc

module _ (service : SettingsView) (sel : Selection) (old mid new : Kept) (course : Course) (fills : NamedFills) (name : List ℕ) (like : ℕ) (place : Option ℕ)
    (listed : like < length service.groups) (before : AllByRecursion (λ x. x.group.0 < length course.entries) course.steps) (kept : IsKept service sel old course fills)
    (for_it : IsPlaceFor service name like old mid place) (each : EachAt mid.panels.items new.panels.items (λ p panel next. IsBegunAt place p panel next))
    (places : new.places.items ≡ mid.places.items ++ place ∷ []) (selection : new.selection ≡ mid.selection) (width : new.grid.width ≡ mid.grid.width) (extent : new.grid.extent ≡ mid.grid.extent)
    (lanes : new.lanes ≡ mid.lanes) (left_out : new.left_out ≡ mid.left_out) where
  abbrev es : List Entry
  es = course.entries

  abbrev later : Course
  later = with_act service course (act.Register name like)

  places_is : new.places.items ≡ old.places.items ++ place ∷ []
  places_is = places ∙ ap (λ (w : Vec (Option ℕ) Global). w.items ++ place ∷ []) for_it.places

  here : slice_get new.places.items (length es) ≡ Some place
  here = ap (λ ps. slice_get ps (length es)) places_is ∙ ap (slice_get (old.places.items ++ place ∷ [])) (sym kept.placed.count) ∙ push_here old.places.items place

  elsewhere : (group : ℕ) → group < length es → slice_get new.places.items group ≡ slice_get old.places.items group
  elsewhere group inside = ap (λ ps. slice_get ps group) places_is ∙ push_before old.places.items place group (omega (arith, inside, kept.placed.count))

  count_is : length new.places.items ≡ length later.entries
  count_is = ap length places_is ∙ length-append old.places.items (place ∷ []) ∙ (λ i. kept.placed.count i + 1) ∙ sym (length-append es (new_entry name like ∷ []))

  none_before : new.left_out ≡ 0 → old.left_out ≡ 0
  none_before none = for_it.left (sym left_out ∙ none)

  chosen_is : keeps sel name ≡ true → keeps old.selection name ≡ true
  chosen_is selected = ap (λ q. keeps q name) kept.selection ∙ selected

  place_found : (p : ℕ) → slice_get new.places.items (length es) ≡ Some (Some p) → place ≡ Some p
  place_found p stands = let both : Some place ≡ Some (Some p) = sym here ∙ stands in cc

  -- ---- the entry of a number

  last_entry : (group : ℕ) (e : Entry) → group ≡ length es → entry_at later.entries group ≡ Some e → new_entry name like ≡ e
  last_entry group e last there =
      let both : Some (new_entry name like) ≡ Some e = sym (ap (entry_at later.entries) last ∙ entry-pushed es name like) ∙ there in cc

  old_entry : (group : ℕ) (e : Entry) → group ≢ length es → entry_at later.entries group ≡ Some e → entry_at es group ≡ Some e
  old_entry group e differ there = sym (entry-push es (new_entry name like) group differ) ∙ there

  inside_of : (group : ℕ) (e : Entry) → entry_at es group ≡ Some e → group < length es
  inside_of group e there = entry_within es group (ap is_some there)

  -- ---- the panels

  -- a panel that was there is there still
  go_on : (p : ℕ) (panel : KeptPanel) → slice_get old.panels.items p ≡ Some panel → (next : KeptPanel) × (slice_get new.panels.items p ≡ Some next) × IsBegunAt place p panel next
  go_on p panel at = each.each p panel (for_it.stay p panel at)

  back : (p : ℕ) (next : KeptPanel) → slice_get new.panels.items p ≡ Some next → (panel : KeptPanel) × (slice_get mid.panels.items p ≡ Some panel) × IsBegunAt place p panel next
  back p next at = each_back mid.panels.items new.panels.items (λ q panel n. IsBegunAt place q panel n) p next each at

  none_old : (other : List ℕ) (number : ℕ) → HasNone new.panels.items other number → HasNone old.panels.items other number
  none_old other number none p panel at is =
      let (next, next_at, begun) = go_on p panel at in
      none p next next_at (record { group = begun.group ∙ is.group; like = begun.like ∙ is.like })

  -- where the group is not kept, no panel is of it
  none_for : place ≡ None → (p : ℕ) (panel : KeptPanel) → slice_get mid.panels.items p ≡ Some panel → IsPanelOf name like panel → ⊥
  none_for nothing p panel at is = (for_it.none listed nothing (chosen_is (selected (for_it.more p panel at)))).1 p panel at is
    where
      selected : (slice_get old.panels.items p ≡ Some panel) ⊎ ((place ≡ Some p) × IsNewPanel service name like old p panel) → keeps sel name ≡ true
      selected (inl was) = ap (keeps sel) (sym is.group) ∙ kept.placed.chosen p panel was
      selected (inr is_new) = absurd (let both : None ≡ Some p = sym nothing ∙ is_new.0 in cc)

  apart_by : (q p : ℕ) (a b : KeptPanel) → IsPanelOf a.group a.like b
      → (slice_get old.panels.items q ≡ Some a) ⊎ ((place ≡ Some q) × IsNewPanel service name like old q a)
      → (slice_get old.panels.items p ≡ Some b) ⊎ ((place ≡ Some p) × IsNewPanel service name like old p b) → q ≡ p
  apart_by q p a b alike (inl x) (inl y) = kept.placed.apart q p a b x y alike
  apart_by q p a b alike (inl x) (inr y) = absurd (y.1.none q a x (record { group = sym alike.group ∙ y.1.named.group; like = sym alike.like ∙ y.1.named.like }))
  apart_by q p a b alike (inr x) (inl y) = absurd (x.1.none p b y (record { group = alike.group ∙ x.1.named.group; like = alike.like ∙ x.1.named.like }))
  apart_by q p a b alike (inr x) (inr y) = x.1.last ∙ sym y.1.last

  mid_apart : (q p : ℕ) (a b : KeptPanel) → slice_get mid.panels.items q ≡ Some a → slice_get mid.panels.items p ≡ Some b → IsPanelOf a.group a.like b → q ≡ p
  mid_apart q p a b at_q at_p alike = apart_by q p a b alike (for_it.more q a at_q) (for_it.more p b at_p)

  placed_last : (p : ℕ) (panel : KeptPanel) → slice_get mid.panels.items p ≡ Some panel → IsPanelOf name like panel → (q : Option ℕ) → place ≡ q → place ≡ Some p
  placed_last p panel at is None nothing = absurd (none_for nothing p panel at is)
  placed_last p panel at is (Some q) found =
      let (other, other_at, other_is) = for_it.found q found in
      found ∙ ap (λ k. Some k) (mid_apart q p other panel other_at at (record { group = is.group ∙ sym other_is.group; like = is.like ∙ sym other_is.like }))

  mid_fit : (p : ℕ) (panel : KeptPanel) (props : List ℕ × GroupProps) → slice_get mid.panels.items p ≡ Some panel → slice_get service.groups panel.like ≡ Some props → FitsLike props panel
  mid_fit p panel props at has = by (for_it.more p panel at)
    where
      by : (slice_get old.panels.items p ≡ Some panel) ⊎ ((place ≡ Some p) × IsNewPanel service name like old p panel) → FitsLike props panel
      by (inl was) = kept.fit p panel props was has
      by (inr is_new) = is_new.1.fit props (ap (slice_get service.groups) (sym is_new.1.named.like) ∙ has)

  mid_chosen : (p : ℕ) (panel : KeptPanel) → slice_get mid.panels.items p ≡ Some panel → keeps sel panel.group ≡ true
  mid_chosen p panel at = by (for_it.more p panel at)
    where
      by : (slice_get old.panels.items p ≡ Some panel) ⊎ ((place ≡ Some p) × IsNewPanel service name like old p panel) → keeps sel panel.group ≡ true
      by (inl was) = kept.placed.chosen p panel was
      by (inr is_new) = ap (keeps sel) is_new.1.named.group ∙ ap (λ q. keeps q name) (sym kept.selection) ∙ is_new.1.chosen

  -- a group that was there has its panel still
  placed_old : (group p : ℕ) (e : Entry) (panel : KeptPanel) → entry_at es group ≡ Some e → slice_get mid.panels.items p ≡ Some panel → IsPanelOf e.name e.like panel → slice_get old.places.items group ≡ Some (Some p)
  placed_old group p e panel there at is = by (for_it.more p panel at)
    where
      by : (slice_get old.panels.items p ≡ Some panel) ⊎ ((place ≡ Some p) × IsNewPanel service name like old p panel) → slice_get old.places.items group ≡ Some (Some p)
      by (inl was) = kept.placed.placed group p e panel there was is
      by (inr is_new) = absurd (
          let named : e.name ≡ name = sym is.group ∙ is_new.1.named.group in
          let likes : e.like ≡ like = sym is.like ∙ is_new.1.named.like in
          let selected : keeps sel e.name ≡ true = ap (keeps sel) (sym is.group) ∙ mid_chosen p panel at in
          let (q, stands) = kept.placed.whole group e there selected is_new.1.none_left in
          let (other, other_at, other_is) = kept.placed.at group q e stands there in
          is_new.1.none q other other_at (record { group = other_is.group ∙ named; like = other_is.like ∙ likes }))

  whole_last : (q : Option ℕ) → place ≡ q → keeps sel name ≡ true → new.left_out ≡ 0 → (p : ℕ) × (place ≡ Some p)
  whole_last None nothing selected none = absurd ((for_it.none listed nothing (chosen_is selected)).0 (sym left_out ∙ none))
  whole_last (Some p) found selected none = (p, found)

  placed_later : ArePlaced sel new later.entries
  placed_later = record {
    count = count_is;
    at = λ group p e stands there. elim (either group (length es)) [
      | inl last ↦ (
          let is = last_entry group e last there in
          let (m, m_at, m_is) = for_it.found p (place_found p (ap (slice_get new.places.items) (sym last) ∙ stands)) in
          let (next, next_at, begun) = each.each p m m_at in
          (next, next_at, record { group = begun.group ∙ m_is.group ∙ ap (λ (d : Entry). d.name) is; like = begun.like ∙ m_is.like ∙ ap (λ (d : Entry). d.like) is }))
      | inr differ ↦ (
          let was = old_entry group e differ there in
          let (panel, at, is) = kept.placed.at group p e (sym (elsewhere group (inside_of group e was)) ∙ stands) was in
          let (next, next_at, begun) = go_on p panel at in
          (next, next_at, record { group = begun.group ∙ is.group; like = begun.like ∙ is.like }))
    ];
    placed = λ group p e panel there at is.
        let (m, m_at, begun) = back p panel at in
        elim (either group (length es)) [
          | inl last ↦ (
              let same = last_entry group e last there in
              let m_is : IsPanelOf name like m = record { group = sym begun.group ∙ is.group ∙ ap (λ (d : Entry). d.name) (sym same); like = sym begun.like ∙ is.like ∙ ap (λ (d : Entry). d.like) (sym same) } in
              ap (slice_get new.places.items) last ∙ here ∙ ap (λ k. Some k) (placed_last p m m_at m_is place refl))
          | inr differ ↦ (
              let was = old_entry group e differ there in
              elsewhere group (inside_of group e was) ∙ placed_old group p e m was m_at (record { group = sym begun.group ∙ is.group; like = sym begun.like ∙ is.like }))
        ];
    apart = λ p q a b at_p at_q alike.
        let (x, x_at, x_begun) = back p a at_p in
        let (y, y_at, y_begun) = back q b at_q in
        mid_apart p q x y x_at y_at (record { group = sym y_begun.group ∙ alike.group ∙ x_begun.group; like = sym y_begun.like ∙ alike.like ∙ x_begun.like });
    chosen = λ p panel at.
        let (m, m_at, begun) = back p panel at in
        ap (keeps sel) begun.group ∙ mid_chosen p m m_at;
    whole = λ group e there selected none. elim (either group (length es)) [
      | inl last ↦ (
          let is = last_entry group e last there in
          let (p, found) = whole_last place refl (ap (λ (d : Entry). keeps sel d.name) is ∙ selected) none in
          (p, ap (slice_get new.places.items) last ∙ here ∙ ap (λ k. Some k) found))
      | inr differ ↦ (
          let was = old_entry group e differ there in
          let (p, stands) = kept.placed.whole group e was selected (none_before none) in
          (p, elsewhere group (inside_of group e was) ∙ stands))
    ];
  }

  -- ---- which panels there are

  laid_later : HasLayout (layout_of service sel later.entries) new
  laid_later =
      let l : Layout = layout_of service sel es in
      let is : layout_of service sel later.entries ≡ with_group service old.selection name like l =
      layout_push service sel es (new_entry name like) no_layout ∙ ap (λ (q : Selection). with_group service q name like l) (sym kept.selection) in
      subst (λ k. HasLayout k new) (sym is)
      (laid_then (with_group service old.selection name like l) mid new
      (each_weaker mid.panels.items new.panels.items (λ p panel next. IsBegunAt place p panel next) (λ p a b. SameName a b) (λ p a b ab. record { group = ab.group; like = ab.like }) each)
      lanes left_out (for_it.laid_out l listed kept.laid_out))

  -- ---- how the panels stand

  abbrev state_like : ℕ → Option Entry → Option State
  state_like group o = option_map (λ (q : List ℕ × GroupProps). group_after service q.1 group course.steps) (option_and_then (λ (d : Entry). slice_get service.groups d.like) o)

  -- the group that is new
  stands_new : (p : ℕ) (t : State) (panel : KeptPanel) → state_at service later (length es) ≡ Some t → place ≡ Some p → slice_get new.panels.items p ≡ Some panel → Stands (view t) panel
  stands_new p t panel is found at =
      let liked : IsLike service later (length es) t = like_of service later (length es) t is in
      let has : slice_get service.groups like ≡ Some liked.like = sym (ap (option_and_then (λ (d : Entry). slice_get service.groups d.like)) (entry-pushed es name like)) ∙ liked.is in
      let states : Some (group_after service liked.like.1 (length es) course.steps) ≡ Some t = sym (ap (option_map (λ (q : List ℕ × GroupProps). group_after service q.1 (length es) course.steps)) liked.is) ∙ is in
      let after : group_after service liked.like.1 (length es) course.steps ≡ t = cc in
      let new_state : opened_group service liked.like.1 ≡ t = sym (state_new service liked.like.1 (length es) course.steps before) ∙ after in
      let (m, m_at, m_is) = for_it.found p found in
      let (next, next_at, begun) = each.each p m m_at in
      let panels : Some next ≡ Some panel = sym next_at ∙ at in
      let panel_is : next ≡ panel = cc in
      let fits = mid_fit p m liked.like m_at (ap (slice_get service.groups) m_is.like ∙ has) in
      let lives = begun.begun found in
      subst (Stands (view t)) panel_is (record {
        count = lives.count ∙ fits.lanes ∙ sym liked.count;
        steps = ap (λ q. length q.items) begun.steps ∙ fits.steps ∙ sym liked.count;
        circuits = λ command lane had.
            let (one, one_at, life) = each_back m.lanes.items next.lanes.items (λ k a b. IsNewLife a b) command lane lives had in
            life.circuit ∙ sym (ap (λ c. c.state) (ap (λ (u : State). circuit_of command u.present) (sym new_state) ∙ all_new liked.like.1.commands command));
      })

  -- a group that was there
  stands_old : (other : List ℕ) (group p : ℕ) (t : State) (panel : KeptPanel) → bytes_eq name other ≡ false → number_of later.entries other ≡ Some group → state_at service later group ≡ Some t
      → slice_get new.places.items group ≡ Some (Some p) → slice_get new.panels.items p ≡ Some panel → Stands (view t) panel
  stands_old other group p t panel differs named is stands at =
      let was : number_of es other ≡ Some group = sym (number-push_other es name other like differs) ∙ named in
      let mine = group_named es other group was in
      let inside = inside_of group mine.entry mine.at in
      let differ : group ≢ length es = λ same. absurd (omega (arith, inside, same)) in
      let state : state_at service course group ≡ Some t = sym (ap (state_like group) (entry-push es (new_entry name like) group differ)) ∙ is in
      let place_is = sym (elsewhere group inside) ∙ stands in
      let (q, q_at, q_is) = kept.placed.at group p mine.entry place_is mine.at in
      let (next, next_at, begun) = go_on p q q_at in
      let panel_is : next ≡ panel = some_same next panel (sym next_at ∙ at) in
      let not_here : place ≡ Some p → ⊥ = λ found.
      let (m, m_at, m_is) = for_it.found p found in
      let one : m ≡ q = some_same m q (sym m_at ∙ for_it.stay p q q_at) in
      let alike : name ≡ other = sym m_is.group ∙ ap (λ (k : KeptPanel). k.group) one ∙ q_is.group ∙ mine.named in
      not_both (bytes_eq name other) differs ((bytes_decides name other).1 alike) in
      subst (Stands (view t)) (sym (begun.other not_here) ∙ panel_is) (kept.stands other group p t q was state place_is q_at)

  stands_later : (other : List ℕ) (group p : ℕ) (t : State) (panel : KeptPanel) → number_of later.entries other ≡ Some group → state_at service later group ≡ Some t
      → slice_get new.places.items group ≡ Some (Some p) → slice_get new.panels.items p ≡ Some panel → Stands (view t) panel
  stands_later other group p t panel named is stands at = by (bytes_eq name other) refl
    where
      by : (b : Bool) → bytes_eq name other ≡ b → Stands (view t) panel
      by false differs = stands_old other group p t panel differs named is stands at
      by true same =
          let alike : name ≡ other = equal name other same in
          let numbers : Some group ≡ Some (length es) = sym named ∙ ap (number_of later.entries) (sym alike) ∙ number-pushed es name like in
          let last : group ≡ length es = cc in
          stands_new p t panel (ap (state_at service later) (sym last) ∙ is) (place_found p (ap (slice_get new.places.items) (sym last) ∙ stands)) at

  -- ---- the columns

  -- nothing is kept of a new panel's groups
  nothing_new : (p command : ℕ) (panel : KeptPanel) → IsNewPanel service name like old p panel → fills panel.group panel.like command ≡ (λ a b. no_column)
  nothing_new p command panel is_new =
      let named = is_new.named in
      (λ i. fills (named.group i) (named.like i) command)
      ∙ kept.fresh name like command (ap (λ q. keeps q name) (sym kept.selection) ∙ is_new.chosen) is_new.none_left is_new.none

  mid_within : (p command : ℕ) (panel : KeptPanel) → slice_get mid.panels.items p ≡ Some panel → IsWithin old.grid.extent old.grid.width (fills panel.group panel.like command)
  mid_within p command panel at = by (for_it.more p panel at)
    where
      by : (slice_get old.panels.items p ≡ Some panel) ⊎ ((place ≡ Some p) × IsNewPanel service name like old p panel) → IsWithin old.grid.extent old.grid.width (fills panel.group panel.like command)
      by (inl was) = kept.within p command panel was
      by (inr is_new) = subst (λ (f : Fill). IsWithin old.grid.extent old.grid.width f) (sym (nothing_new p command panel is_new.1)) (λ i out. refl)

  mid_filled : (p command : ℕ) (panel : KeptPanel) (lane : KeptLane) → slice_get mid.panels.items p ≡ Some panel → slice_get panel.lanes.items command ≡ Some lane → IsFilled lane.track old.grid.width (fills panel.group panel.like command)
  mid_filled p command panel lane at had = by (for_it.more p panel at)
    where
      by : (slice_get old.panels.items p ≡ Some panel) ⊎ ((place ≡ Some p) × IsNewPanel service name like old p panel) → IsFilled lane.track old.grid.width (fills panel.group panel.like command)
      by (inl was) = kept.filled p command panel lane was had
      by (inr is_new) =
          subst (λ (f : Fill). IsFilled lane.track old.grid.width f) (sym (nothing_new p command panel is_new.1)) (empty_filled lane.track old.grid.width (every_at IsEmptyLane panel.lanes.items command lane is_new.1.empty had))

  pub kept_more : IsKept service sel new later fills
  kept_more = record {
    selection = selection ∙ for_it.selection ∙ kept.selection;
    laid_out = laid_later;
    placed = placed_later;
    fit = λ p panel props at has.
        let (m, m_at, begun) = back p panel at in
        let fits = mid_fit p m props m_at (ap (slice_get service.groups) (sym begun.like) ∙ has) in
        record { lanes = begun.tracks.count ∙ fits.lanes; steps = ap (λ q. length q.items) begun.steps ∙ fits.steps };
    stands = stands_later;
    sound = kept.sound;
    filled = λ p command panel lane at had.
        let (m, m_at, begun) = back p panel at in
        let (one, one_at, track) = each_back m.lanes.items panel.lanes.items (λ k a b. b.track ≡ a.track) command lane begun.tracks had in
        let was = mid_filled p command m one m_at one_at in
        let wide : old.grid.width ≡ new.grid.width = sym (width ∙ for_it.width) in
        let groups = sym begun.group in
        let likes = sym begun.like in
        let tracks = sym track in
        subst (λ w. IsFilled lane.track w (fills panel.group panel.like command)) wide
        (subst (λ (t : Track). IsFilled t old.grid.width (fills panel.group panel.like command)) tracks
        (subst (λ (f : Fill). IsFilled one.track old.grid.width f) (λ i. fills (groups i) (likes i) command) was));
    within = λ p command panel at.
        let (m, m_at, begun) = back p panel at in
        let wide : old.grid.width ≡ new.grid.width = sym (width ∙ for_it.width) in
        let reaches : old.grid.extent ≡ new.grid.extent = sym (extent ∙ for_it.extent) in
        let groups = sym begun.group in
        let likes = sym begun.like in
        subst (λ e. IsWithin e new.grid.width (fills panel.group panel.like command)) reaches
        (subst (λ w. IsWithin old.grid.extent w (fills panel.group panel.like command)) wide
        (subst (λ (f : Fill). IsWithin old.grid.extent old.grid.width f) (λ i. fills (groups i) (likes i) command) (mid_within p command m m_at)));
    fresh = λ other number command selected none_left none. kept.fresh other number command selected (none_before none_left) (none_old other number none);
  }
