use Rattle.std.proofs.Common.{◌≡◌, List, [], ◌∷◌, ◌⊎◌, inl, inr, refl, sym, ◌∙◌}
use Rattle.std.proofs.lemmas.Slice.Zip.{either_empty_from_Zip}
use Rattle.bh_port.specs.declared.groups.Entry.{Entry}
use Rattle.bh_props.specs.SettingsView.{SettingsView}
use Rattle.bh_props.specs.Shown.{settings_view}
use Rattle.bh_look.specs.Rows.{RowSaid, row_said, tallies_in, with_groups}
use Rattle.bh_look.specs.Watched.{Lanes}
use Rattle.std.specs.Iterator.Adapters.{zip_first, zip_second}
use Rattle.std.specs.Slice.Iter.{iter_rest}
use Rattle.std.proofs.Common.{map}
use Rattle.bh_look.proofs.rows.rows.Goals as goal

-- no groups or no lanes are left
ended : (service : SettingsView) (entries : List Entry) (lanes : Lanes) (rows : List RowSaid) → (entries ≡ []) ⊎ (lanes ≡ []) → with_groups service entries (tallies_in lanes) rows ≡ rows
ended service [] lanes rows none = refl
ended service (entry ∷ entries) [] rows none = refl
ended service (entry ∷ entries) (own ∷ lanes) rows (inl none) = absurd cc
ended service (entry ∷ entries) (own ∷ lanes) rows (inr none) = absurd cc

pub returns : goal.returns
returns c =
    let left = c.loop-entry.entry-iterator in
    let none = either_empty_from_Zip left c.next.new.self c.next.result c.in-None.is c.next.ensures.steps in
    sym (ended (settings_view c.args.settings.now) (iter_rest (zip_first left)) (iter_rest (zip_second left)) (map row_said c.loop-entry.rows.items) none) ∙ c.loop-entry.invariant.rows
