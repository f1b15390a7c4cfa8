-- Which panels are kept, as groups come and go.
use Rattle.std.proofs.Common.{◌≡◌, ◌∙◌, ◌⊎◌, inl, inr, ◌+◌, ◌<◌, ◌≤◌, ℕ, zero, suc, Bool, true, false, List, ◌++◌, ◌∷◌, [], length, set, Some, sym, ap, refl, subst, arith, length-append}
use Rattle.std.specs.Prelude.{not, ◌&&◌, ◌||◌, ◌==◌, nat_lt, slice_get, if◌then◌else◌}
use Rattle.std.specs.Option.{option_map_or}
use Rattle.std.specs.Str.{bytes_eq}
use Rattle.std.proofs.lemmas.Bool.Decides.{nat_tests}
use Rattle.std.proofs.lemmas.List.Folds.{Any-from_list_any, list_any_at}
use Rattle.std.proofs.lemmas.Option.{get_or_from_slice_get, slice_get_read, slice_get_within}
use Rattle.bh_port.specs.declared.groups.Entry.{Entry}
use Rattle.bh_port.specs.Entries.{new_entry, without}
use Rattle.bh_port.proofs.Keeping.{either, read}
use Rattle.bh_port.proofs.Lists.{push_before, push_here, read_within}
use Rattle.bh_port.proofs.Naming.{without_is}
use Rattle.bh_props.specs.SettingsView.{SettingsView}
use Rattle.bh_look.specs.Tallies.{sum_up_to}
use Rattle.bh_columns.specs.Layouts.{Layout, PanelName, has_panel, is_full, keeps, lanes_of, layout_of, most_lanes, no_layout, with_group, with_groups, with_panel}
use Rattle.bh_columns.specs.Panels.{EachAt}
use Rattle.bh_columns.specs.Recorded.{HasLayout, HasNone, IsPanelOf}
use Rattle.bh_columns.specs.declared.kept.Kept.{Kept}
use Rattle.bh_columns.specs.declared.panel.KeptPanel.{KeptPanel}
use Rattle.bh_columns.specs.declared.selection.Selection.{Selection}
use Rattle.bh_columns.proofs.Lists.{each_back}
use Rattle.bh_columns.proofs.Placing.{SameName, of_equal, of_true}

-- ---- the groups of a run

module _ (service : SettingsView) (sel : Selection) where
  -- the group that comes last
  pub layout_push : (es : List Entry) (e : Entry) (l : Layout) → with_groups service sel (es ++ e ∷ []) l ≡ with_group service sel e.name e.like (with_groups service sel es l)
  layout_push [] e l = refl
  layout_push (d ∷ es) e l = layout_push es e (with_group service sel d.name d.like l)

  -- a group that goes keeps its name and its properties
  layout_set : (es : List Entry) (n : ℕ) (e : Entry) (l : Layout) → slice_get es n ≡ Some e → with_groups service sel (set es n (record e { live = false })) l ≡ with_groups service sel es l
  layout_set [] n e l at = absurd cc
  layout_set (d ∷ es) zero e l at = let same : d ≡ e = cc in ap (λ (k : Entry). with_groups service sel es (with_group service sel k.name k.like l)) (sym same)
  layout_set (d ∷ es) (suc n) e l at = layout_set es n e (with_group service sel d.name d.like l) at

  pub layout_without : (es : List Entry) (n : ℕ) → layout_of service sel (without n es) ≡ layout_of service sel es
  layout_without es n = elim (read (slice_get es n)) [
    | inl none ↦ ap (λ o. layout_of service sel (option_map_or (λ (k : Entry). set es n (record k { live = false })) o es)) none
    | inr at ↦ ap (layout_of service sel) (without_is es n at.0 at.1) ∙ layout_set es n at.0 no_layout at.1
  ]

-- ---- whether the panel of a name and properties is there

has_it : (panels : List PanelName) (p : ℕ) (one : PanelName) (name : List ℕ) (like : ℕ) → slice_get panels p ≡ Some one → one.name ≡ name → one.like ≡ like → has_panel panels name like ≡ true
has_it panels p one name like at named likes =
    let test : PanelName → Bool = λ k. bytes_eq k.name name && k.like == like in
    list_any_at test panels p one (slice_get_within panels p one at) (ap test (get_or_from_slice_get panels p one one at) ∙ of_true (new_entry one.name one.like) name like named likes)

has_not : (panels : List PanelName) (name : List ℕ) (like : ℕ) → ((p : ℕ) (one : PanelName) → slice_get panels p ≡ Some one → one.name ≡ name → one.like ≡ like → ⊥) → has_panel panels name like ≡ false
has_not panels name like none = by (has_panel panels name like) refl
  where
    by : (b : Bool) → has_panel panels name like ≡ b → has_panel panels name like ≡ false
    by false is = is
    by true is = absurd (
        let (p, one, inside, at, holds) = Any-from_list_any (λ (k : PanelName). bytes_eq k.name name && k.like == like) panels is in
        let same = of_equal (new_entry one.name one.like) name like holds in
        none p one (slice_get_read panels (length panels) p one refl inside (sym at)) same.0 same.1)

-- ---- a group that comes

neither : (a b : Bool) (x y : Layout) → (a ≡ false) ⊎ (b ≡ true) → (if a && not b then x else y) ≡ y
neither false b x y is = refl
neither true true x y is = refl
neither true false x y (inl is) = absurd cc
neither true false x y (inr is) = absurd cc

both : (a b : Bool) (x y : Layout) → a ≡ true → b ≡ false → (if a && not b then x else y) ≡ x
both true false x y one two = refl
both true true x y one two = absurd cc
both false b x y one two = absurd cc

room : (most n k : ℕ) → n ≤ most → k ≡ 0 → (nat_lt most n || nat_lt 0 k) ≡ false
room most n k few none = grind (arith, nat_tests)

no_room : (most n k : ℕ) → (most < n) ⊎ (0 < k) → (nat_lt most n || nat_lt 0 k) ≡ true
no_room most n k (inl past) = let is : nat_lt most n ≡ true = grind (arith, nat_tests) in ap (λ b. b || nat_lt 0 k) is
no_room most n k (inr some) = let is : nat_lt 0 k ≡ true = grind (arith, nat_tests) in ap (λ b. nat_lt most n || b) is ∙ last (nat_lt most n)
  where
    last : (b : Bool) → (b || true) ≡ true
    last true = refl
    last false = refl

module _ (service : SettingsView) (sel : Selection) (name : List ℕ) (like : ℕ) (l : Layout) (old : Kept) (laid : HasLayout l old) where
  -- it has no panel, or one that was there
  pub laid_unselected : keeps sel name ≡ false → HasLayout (with_group service sel name like l) old
  laid_unselected is = subst (λ k. HasLayout k old) (sym (neither (keeps sel name) (has_panel l.panels name like) (with_panel service name like l) l (inl is))) laid

  pub laid_found : (p : ℕ) (panel : KeptPanel) → slice_get old.panels.items p ≡ Some panel → IsPanelOf name like panel → HasLayout (with_group service sel name like l) old
  laid_found p panel at is =
      let inside : p < length l.panels = omega (arith, slice_get_within old.panels.items p panel at, laid.count) in
      let (one, there) = read_within l.panels p inside in
      let own = laid.named p one panel there at in
      let has = has_it l.panels p one name like there (sym own.group ∙ is.group) (sym own.like ∙ is.like) in
      subst (λ k. HasLayout k old) (sym (neither (keeps sel name) (has_panel l.panels name like) (with_panel service name like l) l (inr has))) laid

  -- it has a panel of its own, or is left out
  new_is : keeps sel name ≡ true → HasNone old.panels.items name like → with_group service sel name like l ≡ with_panel service name like l
  new_is selected none =
      both (keeps sel name) (has_panel l.panels name like) (with_panel service name like l) l selected
      (has_not l.panels name like (λ p one there named likes.
      let inside : p < length old.panels.items = omega (arith, slice_get_within l.panels p one there, laid.count) in
      let (panel, at) = read_within old.panels.items p inside in
      let own = laid.named p one panel there at in
      none p panel at (record { group = own.group ∙ named; like = own.like ∙ likes })))

  pub laid_left_out : (new : Kept) → keeps sel name ≡ true → HasNone old.panels.items name like → (most_lanes < old.lanes + lanes_of service like) ⊎ (0 < old.left_out)
      → new.panels ≡ old.panels → new.lanes ≡ old.lanes → new.left_out ≡ sum_up_to old.left_out 1 → HasLayout (with_group service sel name like l) new
  laid_left_out new selected none past panels lanes left_out =
      let full : is_full service like l ≡ true = no_room most_lanes (l.lanes + lanes_of service like) l.left_out (subst (λ m. (most_lanes < m + lanes_of service like) ⊎ (0 < l.left_out)) laid.lanes (subst (λ m. (most_lanes < old.lanes + lanes_of service like) ⊎ (0 < m)) laid.left_out past)) in
      let is : with_group service sel name like l ≡ record l { left_out = sum_up_to l.left_out 1 } =
      new_is selected none ∙ ap (λ b. if b then record l { left_out = sum_up_to l.left_out 1 } else record l { panels = l.panels ++ record { name = name; like = like } ∷ []; lanes = l.lanes + lanes_of service like }) full in
      subst (λ k. HasLayout k new) (sym is) (record {
        count = ap (λ v. length v.items) panels ∙ laid.count;
        named = λ p one panel there at. laid.named p one panel there (sym (ap (λ v. slice_get v.items p) panels) ∙ at);
        lanes = lanes ∙ laid.lanes;
        left_out = left_out ∙ ap (λ n. sum_up_to n 1) laid.left_out;
      })

  pub laid_more : (new : Kept) (panel : KeptPanel) → keeps sel name ≡ true → HasNone old.panels.items name like → old.lanes + lanes_of service like ≤ most_lanes → old.left_out ≡ 0
      → new.panels.items ≡ old.panels.items ++ panel ∷ [] → IsPanelOf name like panel → new.lanes ≡ old.lanes + lanes_of service like → new.left_out ≡ old.left_out → HasLayout (with_group service sel name like l) new
  laid_more new panel selected none few empty items own lanes left_out =
      let one : PanelName = record { name = name; like = like } in
      let full : is_full service like l ≡ false = room most_lanes (l.lanes + lanes_of service like) l.left_out (subst (λ m. m + lanes_of service like ≤ most_lanes) laid.lanes few) (sym laid.left_out ∙ empty) in
      let is : with_group service sel name like l ≡ record l { panels = l.panels ++ one ∷ []; lanes = l.lanes + lanes_of service like } =
      new_is selected none ∙ ap (λ b. if b then record l { left_out = sum_up_to l.left_out 1 } else record l { panels = l.panels ++ one ∷ []; lanes = l.lanes + lanes_of service like }) full in
      subst (λ k. HasLayout k new) (sym is) (record {
        count = ap length items ∙ length-append old.panels.items (panel ∷ []) ∙ (λ i. laid.count i + 1) ∙ sym (length-append l.panels (one ∷ []));
        named = λ p k next there at. elim (either p (length l.panels)) [
          | inl last ↦ (
              let names : Some one ≡ Some k = sym (push_here l.panels one) ∙ ap (slice_get (l.panels ++ one ∷ [])) (sym last) ∙ there in
              let name_is : one ≡ k = cc in
              let nexts : Some panel ≡ Some next =
              sym (push_here old.panels.items panel) ∙ ap (slice_get (old.panels.items ++ panel ∷ [])) (laid.count ∙ sym last) ∙ sym (ap (λ ps. slice_get ps p) items) ∙ at in
              let next_is : panel ≡ next = cc in
              subst (λ (m : PanelName). IsPanelOf m.name m.like next) name_is (subst (IsPanelOf name like) next_is own))
          | inr differ ↦ (
              let all : p < length (l.panels ++ one ∷ []) = slice_get_within (l.panels ++ one ∷ []) p k there in
              let inside : p < length l.panels = omega (arith, all, differ, length-append l.panels (one ∷ [])) in
              let before : p < length old.panels.items = omega (arith, inside, laid.count) in
              laid.named p k next (sym (push_before l.panels one p inside) ∙ there) (sym (push_before old.panels.items panel p before) ∙ sym (ap (λ ps. slice_get ps p) items) ∙ at))
        ];
        lanes = lanes ∙ ap (λ n. n + lanes_of service like) laid.lanes;
        left_out = left_out ∙ laid.left_out;
      })

-- panels that are as they were
pub laid_then : (l : Layout) (old new : Kept) → EachAt old.panels.items new.panels.items (λ p a b. SameName a b) → new.lanes ≡ old.lanes → new.left_out ≡ old.left_out → HasLayout l old → HasLayout l new
laid_then l old new each lanes left_out laid = record {
  count = each.count ∙ laid.count;
  named = λ p one panel there at.
      let (was, had, same) = each_back old.panels.items new.panels.items (λ q a b. SameName a b) p panel each at in
      let own = laid.named p one was there had in
      record { group = same.group ∙ own.group; like = same.like ∙ own.like };
  lanes = lanes ∙ laid.lanes;
  left_out = left_out ∙ laid.left_out;
}
