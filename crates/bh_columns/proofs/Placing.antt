-- The panels of groups, as these come, step and go.
use Rattle.std.proofs.Common.{◌≡◌, ◌∙◌, ℕ, Bool, true, false, List, length, Option, Some, None, sym, ap, refl, arith}
use Rattle.std.specs.Prelude.{◌&&◌, ◌==◌, Vec, option_and_then, slice_get, if◌then◌else◌}
use Rattle.std.specs.Cmp.Lexicographic.{bytes_decides}
use Rattle.std.specs.Str.{bytes_eq}
use Rattle.std.specs.declared.alloc.Global.{Global}
use Rattle.std.proofs.lemmas.Bool.Decides.{nat_tests}
use Rattle.bh_base.specs.Runs.{View}
use Rattle.bh_port.specs.declared.groups.Entry.{Entry}
use Rattle.bh_port.specs.Entries.{entry_at, number_of, unless_retired}
use Rattle.bh_cut.proofs.Numbers.{equal, number-there}
use Rattle.bh_columns.specs.Filled.{SamePanel, Stands}
use Rattle.bh_columns.specs.Layouts.{keeps}
use Rattle.bh_columns.specs.Named.{is_of}
use Rattle.bh_columns.specs.Panels.{EachAt, SameStanding}
use Rattle.bh_columns.specs.Recorded.{ArePlaced}
use Rattle.bh_columns.specs.declared.kept.Kept.{Kept}
use Rattle.bh_columns.specs.declared.panel.KeptPanel.{KeptPanel}
use Rattle.bh_columns.specs.declared.selection.Selection.{Selection}
use Rattle.bh_columns.proofs.Lists.{each_back}
use Rattle.bh_look.specs.declared.lane.Lane.{Lane}

-- ---- the name and the properties of a group

nat_equal : (m n : ℕ) → (m == n) ≡ true → m ≡ n
nat_equal m n is = grind (arith, nat_tests)

nat_same : (m n : ℕ) → m ≡ n → (m == n) ≡ true
nat_same m n is = grind (arith, nat_tests)

both_true : (a b : Bool) → (a && b) ≡ true → (a ≡ true) × (b ≡ true)
both_true true true is = (refl, refl)
both_true true false is = absurd cc
both_true false b is = absurd cc

pub of_equal : (e : Entry) (name : List ℕ) (like : ℕ) → is_of (Some e) name like ≡ true → (e.name ≡ name) × (e.like ≡ like)
of_equal e name like is =
    let tests = both_true (bytes_eq e.name name) (e.like == like) is in
    (equal e.name name tests.0, nat_equal e.like like tests.1)

pub of_true : (e : Entry) (name : List ℕ) (like : ℕ) → e.name ≡ name → e.like ≡ like → is_of (Some e) name like ≡ true
of_true e name like named likes =
    let one : bytes_eq e.name name ≡ true = (bytes_decides e.name name).1 named in
    let two : (e.like == like) ≡ true = nat_same e.like like likes in
    λ i. one i && two i

pub of_false : (e : Entry) (name : List ℕ) (like : ℕ) → (e.name ≡ name → e.like ≡ like → ⊥) → is_of (Some e) name like ≡ false
of_false e name like differ = at (is_of (Some e) name like) refl
  where
    at : (b : Bool) → is_of (Some e) name like ≡ b → is_of (Some e) name like ≡ false
    at true is = absurd (let same = of_equal e name like is in differ same.0 same.1)
    at false is = is

unless_is : (b : Bool) (d e : Entry) → (if b then Some d else None) ≡ Some e → d ≡ e
unless_is true d e is = cc
unless_is false d e is = absurd cc

-- the group of a name that is there
pub record IsNamed (es : List Entry) (name : List ℕ) (group : ℕ) : Type 0 where
  pub entry : Entry
  pub at : entry_at es group ≡ Some entry
  pub named : entry.name ≡ name

pub group_named : (es : List Entry) (name : List ℕ) (group : ℕ) → number_of es name ≡ Some group → IsNamed es name group
group_named es name group is =
    let there = number-there es name group is in
    let first : (if there.named.entry.live then Some there.named.entry else None) ≡ Some there.entry = sym (ap (option_and_then unless_retired) there.named.at) ∙ there.at in
    let same : there.named.entry ≡ there.entry = unless_is there.named.entry.live there.named.entry there.entry first in
    record { entry = there.entry; at = there.at; named = ap (λ (e : Entry). e.name) (sym same) ∙ equal there.named.entry.name name there.named.name_is }

-- ---- panels that are as they were

-- the panel is of the same groups
pub record SameName (old new : KeptPanel) : Type 0 where
  pub group : new.group ≡ old.group
  pub like : new.like ≡ old.like

abbrev Places : Type 0
Places = Vec (Option ℕ) Global

pub placed_then : (sel : Selection) (old new : Kept) (es fs : List Entry) → ArePlaced sel old es → EachAt old.panels.items new.panels.items (λ p a b. SameName a b) → new.places ≡ old.places → new.left_out ≡ old.left_out
    → length fs ≡ length es → ((g : ℕ) (e : Entry) → entry_at fs g ≡ Some e → entry_at es g ≡ Some e) → ArePlaced sel new fs
placed_then sel old new es fs was each places left_out count fewer = record {
  count = ap (λ (v : Places). length v.items) places ∙ was.count ∙ sym count;
  at = λ g p e stands there.
      let (panel, found, named) = was.at g p e (sym (ap (λ (v : Places). slice_get v.items g) places) ∙ stands) (fewer g e there) in
      let (next, is, same) = each.each p panel found in
      (next, is, record { group = same.group ∙ named.group; like = same.like ∙ named.like });
  placed = λ g p e panel there found named.
      let (one, had, same) = each_back old.panels.items new.panels.items (λ q a b. SameName a b) p panel each found in
      ap (λ (v : Places). slice_get v.items g) places ∙ was.placed g p e one (fewer g e there) had (record { group = sym same.group ∙ named.group; like = sym same.like ∙ named.like });
  apart = λ p q a b at_p at_q named.
      let (x, had_p, same_p) = each_back old.panels.items new.panels.items (λ k c d. SameName c d) p a each at_p in
      let (y, had_q, same_q) = each_back old.panels.items new.panels.items (λ k c d. SameName c d) q b each at_q in
      was.apart p q x y had_p had_q (record { group = sym same_q.group ∙ named.group ∙ same_p.group; like = sym same_q.like ∙ named.like ∙ same_p.like });
  chosen = λ p panel found.
      let (one, had, same) = each_back old.panels.items new.panels.items (λ q a b. SameName a b) p panel each found in
      ap (keeps sel) same.group ∙ was.chosen p one had;
  whole = λ g e there kept none.
      let (p, is) = was.whole g e (fewer g e there) kept (sym left_out ∙ none) in
      (p, ap (λ (v : Places). slice_get v.items g) places ∙ is);
}

-- a panel that is as it was stands as it did
pub stands_same : (v : View) (one panel : KeptPanel) → SamePanel one panel → Stands v one → Stands v panel
stands_same v one panel same stands = record {
  count = same.lanes.count ∙ stands.count;
  steps = ap (λ (ss : Vec Lane Global). length ss.items) same.steps ∙ stands.steps;
  circuits = λ command lane found.
      let (was, had, standing) = each_back one.lanes.items panel.lanes.items (λ k a b. SameStanding a b) command lane same.lanes found in
      standing.circuit ∙ stands.circuits command was had;
}
