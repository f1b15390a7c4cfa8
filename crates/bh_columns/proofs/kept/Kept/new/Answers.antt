use Rattle.std.proofs.Common.{◌≡◌, ◌+◌, ◌<◌, ◌∙◌, ◌++◌, ◌∷◌, [], ℕ, List, ap, append_assoc, arith, length, length-append, sym}
use Rattle.std.proofs.lemmas.Grind.{common_steps}
use Rattle.std.specs.declared.iter.Enumerate.{Enumerate}
use Rattle.bh_base.specs.Commands.{each_from}
use Rattle.bh_base.specs.Props.{GroupProps}
use Rattle.bh_base.proofs.Kept.{length-each_from}
use Rattle.bh_props.specs.Shown.{settings_view}
use Rattle.bh_port.specs.declared.groups.Entry.{Entry}
use Rattle.bh_port.specs.Course.{listed_entries}
use Rattle.bh_port.specs.Entries.{new_entry}
use Rattle.bh_port.proofs.Lists.{each-map}
use Rattle.bh_columns.specs.Named.{no_fills}
use Rattle.bh_columns.proofs.kept.Kept.new.Goals as goal

-- the groups whose names an iterator has left
abbrev left : Enumerate (List (List ℕ)) → List Entry
left items = each_from items.count (λ place name. new_entry name place) items.iter

pub loop-place-init : goal.loop-place-init
loop-place-init c =
    let names = c.enumerate-place-items.ensures.source ∙ c.keys.ensures.rest in (
      [],
      c.none-kept.ensures (settings_view c.args.settings.now),
      ap (λ it. it.count) c.into_iter-place-iterator.ensures.into_iter_gives ∙ c.enumerate-place-items.ensures.count,
      ap left c.into_iter-place-iterator.ensures.into_iter_gives
          ∙ ap (λ n. each_from n (λ place name. new_entry name place) c.enumerate-place-items.result.iter) c.enumerate-place-items.ensures.count
          ∙ ap (each_from 0 (λ place name. new_entry name place)) names
          ∙ each-map 0 (λ place name. new_entry name place) (λ group. group.0) c.args.settings.now.groups.entries,
    )

pub loop-place-preserved : goal.loop-place-preserved
loop-place-preserved c =
    let (done, kept, count, listed) = c.loop-place.invariant in
    let service = settings_view c.args.settings.now in
    let f : ℕ → List ℕ → Entry = λ place name. new_entry name place in
    let name : List ℕ = c.in-Some.name.now in
    let was = c.loop-place.place-iterator in
    let next = c.next.new.self in
    let iter : was.iter ≡ name ∷ next.iter = grind (arith, common_steps) in
    let number : c.in-Some.place ≡ was.count = grind (arith, common_steps) in
    let further : next.count ≡ was.count + 1 = grind (arith, common_steps) in
    let e : Entry = new_entry name c.in-Some.place in
    let rest : e ∷ each_from next.count f next.iter ≡ each_from was.count f was.iter = (λ i. new_entry name (number i) ∷ each_from (further i) f next.iter) ∙ sym (ap (each_from was.count f) iter) in
    let all : done ++ (e ∷ each_from next.count f next.iter) ≡ listed_entries service = ap (λ xs. done ++ xs) rest ∙ listed in
    let many = ap length all ∙ length-each_from 0 (λ place (group : List ℕ × GroupProps). new_entry group.0 place) service.groups in
    let inside : c.in-Some.place < length service.groups = omega (arith, many, number, count, length-append done (e ∷ each_from next.count f next.iter)) in (
      done ++ e ∷ [],
      c.in_ok-add_group.ensures c.args.selection (record { entries = done; steps = [] }) no_fills inside tt kept,
      further ∙ (λ i. count i + 1) ∙ sym (length-append done (e ∷ [])),
      append_assoc done (e ∷ []) (each_from next.count f next.iter) ∙ all,
    )
