use Rattle.std.proofs.Common.{◌≡◌, ◌∙◌, None, Bor, List, ℕ, Option, length, map, sym, ap, arith}
use Rattle.std.proofs.lemmas.List.{length-map, length-set, get_or-map}
use Rattle.std.proofs.lemmas.Simd.{map-map}
use Rattle.bh_look.proofs.Tables.{written-more, written-all}
use Rattle.bh_look.proofs.table.cells.Goals as goal

-- what a member tells, and its number
abbrev told : Bor (List ℕ) × Option ℕ → List ℕ × Option ℕ
told m = (m.0.now, m.1)

abbrev number : Bor (List ℕ) × Option ℕ → Option ℕ
number m = m.1

pub loop-column-preserved : goal.loop-column-preserved
loop-column-preserved c =
    let column = c.loop-column.column in
    let members = c.members-members.result in
    let long : length (map number members) ≡ 20 = length-map members number ∙ sym (length-map members told) ∙ ap length c.members-members.ensures in
    record {
      count = length-set c.loop-column.cells column _ ∙ c.loop-column.invariant.count;
      done = written-more c.loop-column.cells (map number members) column _ None (omega arith) (omega (arith, long)) c.loop-column.invariant.done (sym (get_or-map number members column _ None (omega (arith, long, length-map members number))));
    }

pub returns : goal.returns
returns c =
    let members = c.members-members.result in
    let long : length (map number members) ≡ 20 = length-map members number ∙ sym (length-map members told) ∙ ap length c.members-members.ensures in
    written-all c.loop-column.cells (map number members) c.loop-column.column (omega arith) (omega (arith, long)) c.loop-column.invariant.done
    ∙ sym (map-map (λ m. m.1) told members) ∙ ap (map (λ (m : List ℕ × Option ℕ). m.1)) c.members-members.ensures
