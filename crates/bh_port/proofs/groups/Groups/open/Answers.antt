use Rattle.std.proofs.Common.{◌≡◌, ◌++◌, ◌∙◌, ℕ, List, [], ap, sym, subst, append-nil, arith}
use Rattle.std.proofs.lemmas.Grind.{common_steps}
use Rattle.std.specs.declared.iter.Enumerate.{Enumerate}
use Rattle.bh_base.specs.Commands.{each_from}
use Rattle.bh_props.specs.Shown.{settings_view}
use Rattle.bh_port.specs.declared.groups.Entry.{Entry}
use Rattle.bh_port.specs.Course.{listed_entries, opened_core}
use Rattle.bh_port.specs.Entries.{new_entry}
use Rattle.bh_port.specs.Kept.{AreNumbered, AreOf}
use Rattle.bh_port.specs.Latest.{AreLatest}
use Rattle.bh_port.proofs.Keeping.{of_listed}
use Rattle.bh_port.proofs.Lists.{each-map}
use Rattle.bh_port.proofs.Naming.{numbered-none}
use Rattle.bh_port.proofs.Noting.{latest-none}
use Rattle.bh_port.proofs.Showing.{agrees-opened}
use Rattle.bh_port.proofs.groups.Groups.open.Goals as goal

-- the groups whose names an iterator has left
abbrev left : Enumerate (List (List ℕ)) → List Entry
left items = each_from items.count (λ place name. new_entry name place) items.iter

pub loop-place-init : goal.loop-place-init
loop-place-init c =
    let names = c.enumerate-place-items.ensures.source ∙ c.keys.ensures.rest in record {
      numbered = subst (λ es. AreNumbered es c.new-numbers.result) (sym c.new-entries.ensures.items) (numbered-none c.new-numbers.result c.new-numbers.ensures.empty);
      latest = subst (λ es. AreLatest es c.in_ok-latest.latest) (sym c.new-entries.ensures.items) (latest-none c.in_ok-latest.latest);
      listed =
          ap (λ es. es ++ left c.into_iter-place-iterator.result) c.new-entries.ensures.items
          ∙ ap left c.into_iter-place-iterator.ensures.into_iter_gives
          ∙ ap (λ n. each_from n (λ place name. new_entry name place) c.enumerate-place-items.result.iter) c.enumerate-place-items.ensures.count
          ∙ ap (each_from 0 (λ place name. new_entry name place)) names
          ∙ each-map 0 (λ place name. new_entry name place) (λ group. group.0) c.args.settings.now.groups.entries;
    }

pub invariant_of-result : goal.invariant_of-result
invariant_of-result c =
    let service = settings_view c.args.settings.now in
    let iter : c.loop-place.place-iterator.iter ≡ [] = grind (arith, common_steps) in
    let all : c.loop-place.entries.items ≡ listed_entries service =
    sym (append-nil c.loop-place.entries.items) ∙ sym (ap (λ ns. c.loop-place.entries.items ++ each_from c.loop-place.place-iterator.count (λ place name. new_entry name place) ns) iter) ∙ c.loop-place.invariant.listed in
    (c.loop-place.invariant.numbered, subst (λ k. AreOf k c.loop-place.entries.items) (sym c.in_ok-core.ensures.opened) (subst (AreOf (opened_core service)) (sym all) (of_listed service)), c.loop-place.invariant.latest)

pub returns-clause-agrees : goal.returns-clause-agrees
returns-clause-agrees c =
    let service = settings_view c.args.settings.now in
    let iter : c.loop-place.place-iterator.iter ≡ [] = grind (arith, common_steps) in
    let all : c.loop-place.entries.items ≡ listed_entries service =
    sym (append-nil c.loop-place.entries.items) ∙ sym (ap (λ ns. c.loop-place.entries.items ++ each_from c.loop-place.place-iterator.count (λ place name. new_entry name place) ns) iter) ∙ c.loop-place.invariant.listed in
    agrees-opened service _ all c.in_ok-core.ensures.opened
