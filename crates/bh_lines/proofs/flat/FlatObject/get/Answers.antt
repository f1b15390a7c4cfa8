use Rattle.std.proofs.Common.{◌≡◌, ◌∷◌, ◌++◌, [], sym, ap, ◌∙◌}
use Rattle.std.specs.Iterator.Adapters.{rev_source}
use Rattle.std.specs.Slice.Iter.{iter_rest}
use Rattle.serde_json.specs.Data.{no_members}
use Rattle.serde_json.specs.Find.{get_member}
use Rattle.bh_lines.specs.Flat.{put_all}
use Rattle.bh_lines.proofs.FlatReading.{found_last, found_before}
use Rattle.bh_lines.proofs.flat.FlatObject.get.Goals as goal

pub returns-then-eq : goal.returns-then-eq
returns-then-eq c =
    let last : iter_rest (rev_source c.loop-member.member-iterator) ≡ iter_rest (rev_source c.next.new.self) ++ c.in-Some.member.now ∷ [] = c.in-Some.ensures.steps in
    sym (c.loop-member.invariant ∙ ap (λ ms. get_member c.args.name.now (put_all ms no_members)) last ∙ found_last c.args.name.now (iter_rest (rev_source c.next.new.self)) c.in-Some.member.now (sym c.if-eq.ensures))

pub loop-member-preserved : goal.loop-member-preserved
loop-member-preserved c =
    let last : iter_rest (rev_source c.loop-member.member-iterator) ≡ iter_rest (rev_source c.next.new.self) ++ c.in-Some.member.now ∷ [] = c.in-Some.ensures.steps in
    c.loop-member.invariant ∙ ap (λ ms. get_member c.args.name.now (put_all ms no_members)) last ∙ found_before c.args.name.now (iter_rest (rev_source c.next.new.self)) c.in-Some.member.now (sym c.if-eq.ensures)
