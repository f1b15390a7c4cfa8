-- The rows of what is kept of a script are those of its lines.
use Rattle.std.proofs.Common.{◌≡◌, inl, inr, ℕ, ◌+◌, ◌<◌, ◌≤◌, List, [], ◌∷◌, length, map, Option, Some, None, refl, sym, ap, ◌∙◌, arith, suc}
use Rattle.std.specs.Prelude.{Vec, option_and_then, option_map, slice_get}
use Rattle.std.specs.Option.{option_map_or}
use Rattle.std.specs.declared.alloc.Global.{Global}
use Rattle.std.proofs.lemmas.Option.{slice_get-map, slice_get_past, slice_get_within}
use Rattle.bh_base.specs.Commands.{command_count}
use Rattle.bh_base.specs.Props.{GroupProps}
use Rattle.bh_base.specs.declared.props.CommandProps.{CommandProps}
use Rattle.bh_lines.specs.Lines.{Cut}
use Rattle.bh_port.specs.Course.{new_course}
use Rattle.bh_port.specs.GroupsView.{GroupsView}
use Rattle.bh_port.specs.declared.groups.Entry.{Entry}
use Rattle.bh_port.proofs.Keeping.{read}
use Rattle.bh_port.proofs.Lists.{each_at, read_within}
use Rattle.bh_props.specs.SettingsView.{SettingsView}
use Rattle.bh_look.specs.declared.lane.Lane.{Lane}
use Rattle.bh_look.specs.declared.rows.Row.{Row}
use Rattle.bh_look.specs.declared.tally.Tally.{Tally}
use Rattle.bh_look.specs.Rows.{row_said, rows_of, tallies_in}
use Rattle.bh_look.specs.Scripts.{course_after}
use Rattle.bh_look.specs.Summaries.{each_tally, script_entries, script_tallies, script_tally, summary_rows}
use Rattle.bh_look.specs.Tallies.{no_tally}
use Rattle.bh_look.specs.Watched.{IsWatched, Lanes, tally_at}
use Rattle.bh_look.proofs.Watching.{not_within}

-- lists are the same that have the same at each place
same_lists : {X : Type 0} (xs ys : List X) → ((i : ℕ) → slice_get xs i ≡ slice_get ys i) → xs ≡ ys
same_lists [] [] at = refl
same_lists [] (y ∷ ys) at = absurd (let differ : None ≡ Some y = at 0 in cc)
same_lists (x ∷ xs) [] at = absurd (let differ : Some x ≡ None = at 0 in cc)
same_lists (x ∷ xs) (y ∷ ys) at =
    let both : Some x ≡ Some y = at 0 in
    let here : x ≡ y = cc in
    ap (λ z. z ∷ xs) here ∙ ap (λ zs. y ∷ zs) (same_lists xs ys (λ i. at (suc i)))

abbrev tally_shown : Option Lane → Tally
tally_shown o = option_map_or (λ (lane : Lane). lane.tally) o no_tally

-- the tallies of a group's lanes
own_tallies : (own : List Lane) (like : Option (List ℕ × GroupProps)) (tally : ℕ → Tally)
    → length own ≡ option_map_or (λ (l : List ℕ × GroupProps). command_count l.1) like 0 → ((k : ℕ) → tally_shown (slice_get own k) ≡ tally k) → map (λ (lane : Lane). lane.tally) own ≡ each_tally tally like
own_tallies [] None tally count shown = refl
own_tallies (x ∷ xs) None tally count shown = absurd (omega (arith, count))
own_tallies own (Some like) tally count shown = same_lists _ _ (λ k. elim (read (slice_get own k)) [
  | inl none ↦ (
      let past : length like.1.commands ≤ k = omega (arith, not_within own k none, count) in
      slice_get-map (λ (lane : Lane). lane.tally) own k ∙ ap (option_map (λ (lane : Lane). lane.tally)) none
      ∙ sym (each_at 0 told like.1.commands k ∙ ap (option_map (told (0 + k))) (slice_get_past like.1.commands k past)))
  | inr at ↦ (
      let inside : k < length like.1.commands = omega (arith, slice_get_within own k at.0 at.1, count) in
      let (props, there) = read_within like.1.commands k inside in
      slice_get-map (λ (lane : Lane). lane.tally) own k ∙ ap (option_map (λ (lane : Lane). lane.tally)) at.1
      ∙ ap Some (sym (ap tally_shown at.1) ∙ shown k ∙ ap tally (omega arith))
      ∙ sym (each_at 0 told like.1.commands k ∙ ap (option_map (told (0 + k))) there))
])
  where
    told : ℕ → CommandProps → Tally
    told number props = tally number

-- what is kept at the end of a script
kept_tallies : (service : SettingsView) (groups : GroupsView) (lanes : Lanes) (c : Cut) → IsWatched service groups lanes (course_after service (new_course service) c)
    → ((g k : ℕ) → tally_at lanes g k ≡ script_tally service c g k) → tallies_in lanes ≡ script_tallies service c (script_entries service c)
kept_tallies service groups lanes c watched shown = same_lists _ _ (λ g. elim (read (slice_get lanes g)) [
  | inl none ↦ (
      let past : length entries ≤ g = omega (arith, not_within lanes g none, watched.count) in
      slice_get-map own_of lanes g ∙ ap (option_map own_of) none ∙ sym (each_at 0 told entries g ∙ ap (option_map (told (0 + g))) (slice_get_past entries g past)))
  | inr at ↦ (
      let inside : g < length entries = omega (arith, slice_get_within lanes g at.0 at.1, watched.count) in
      let (entry, there) = read_within entries g inside in
      let count : length at.0.items ≡ option_map_or (λ (l : List ℕ × GroupProps). command_count l.1) (slice_get service.groups entry.like) 0 =
      watched.each g at.0 at.1 ∙ ap (λ o. option_map_or (λ (l : List ℕ × GroupProps). command_count l.1) (option_and_then (λ (e : Entry). slice_get service.groups e.like) o) 0) there in
      let own : own_of at.0 ≡ each_tally (script_tally service c g) (slice_get service.groups entry.like) =
      own_tallies at.0.items (slice_get service.groups entry.like) (script_tally service c g) count
      (λ k. sym (ap (λ o. tally_shown (option_and_then (λ (v : Vec Lane Global). slice_get v.items k) o)) at.1) ∙ shown g k) in
      slice_get-map own_of lanes g ∙ ap (option_map own_of) at.1
      ∙ ap Some (own ∙ ap (λ n. told n entry) (omega arith))
      ∙ sym (each_at 0 told entries g ∙ ap (option_map (told (0 + g))) there))
])
  where
    entries : List Entry
    entries = script_entries service c

    own_of : Vec Lane Global → List Tally
    own_of own = map (λ (lane : Lane). lane.tally) own.items

    told : ℕ → Entry → List Tally
    told group entry = each_tally (script_tally service c group) (slice_get service.groups entry.like)

-- the rows of what is kept at the end of a script are those of its lines
pub rows_are : (service : SettingsView) (groups : GroupsView) (lanes : Lanes) (rows : List Row) (c : Cut) → IsWatched service groups lanes (course_after service (new_course service) c)
    → ((g k : ℕ) → tally_at lanes g k ≡ script_tally service c g k) → map row_said rows ≡ rows_of service groups.entries (tallies_in lanes) → map row_said rows ≡ summary_rows service c
unfolding summary_rows
rows_are service groups lanes rows c watched shown are =
    are ∙ ap (λ es. rows_of service es (tallies_in lanes)) watched.shows.entries ∙ ap (rows_of service (script_entries service c)) (kept_tallies service groups lanes c watched shown)
