use Rattle.std.proofs.Common.{rules}
use Rattle.std.proofs.lemmas.List.Sorted.{answers_always}
use Rattle.bh_serials.specs.declared.entries.Entry.{Entry}
use Rattle.bh_serials.proofs.Searched.{search_found, search_none}
use Rattle.bh_serials.proofs.entries.place_of.Goals as goal

-- the closure gives an entry's serial
pub returns-clause-found : goal.returns-clause-found
returns-clause-found c =
    let facts = c.binary_search_by_key.ensures in
    let by_serial = facts.position (λ (e : Entry). e.serial) (answers_always _ _ _ (λ f a r g called. search rules)) in
    rw c.ok.ensures.value (search_found c.args.latest c.args.entries.now c.requires c.args.serial c.binary_search_by_key.result facts.bound by_serial)

pub returns-clause-none : goal.returns-clause-none
returns-clause-none c =
    let facts = c.binary_search_by_key.ensures in
    let by_serial = facts.position (λ (e : Entry). e.serial) (answers_always _ _ _ (λ f a r g called. search rules)) in
    rw c.ok.ensures.value (search_none c.args.latest c.args.entries.now c.requires c.args.serial c.binary_search_by_key.result facts.bound by_serial)
