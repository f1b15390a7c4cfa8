use Rattle.std.proofs.Common.{◌≡◌, ◌++◌, ◌∙◌, List, ℕ, OnOk, sym, subst, ap}
use Rattle.std.specs.List.{flat_map}
use Rattle.std.proofs.lemmas.List.Folds.{flat_map-map}
use Rattle.bh_look.specs.Objects.{member_text, numbers_text}
use Rattle.bh_look.proofs.table.put_numbers.Goals as goal

pub returns : goal.returns
unfolding numbers_text
returns c =
    subst (λ (text : List ℕ). OnOk c.put_members.result (c.put_members.new.out.items ≡ c.args.out.now.items ++ text))
    (sym (flat_map-map member_text (λ m. (m.0.now, m.1)) c.members.result) ∙ ap (flat_map member_text) c.members.ensures)
    c.put_members.ensures
