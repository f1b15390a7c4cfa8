use Rattle.std.proofs.Common.{Result, Ok, Err, IsOk, OnOk, Some, ◌∷◌, [], ◌++◌, length, set, ◌<◌, ap, ◌∙◌, sym, subst, true, false, ◌≡◌}
use Rattle.std.specs.HashMap.{Updates}
use Rattle.std.specs.String.{string_eq}
use Rattle.bh_port.specs.Entries.{new_entry}
use Rattle.bh_port.specs.Kept.{AreNumbered}
use Rattle.bh_port.specs.Latest.{AreLatest, noted, place_of}
use Rattle.bh_port.proofs.Naming.{numbered-push}
use Rattle.bh_port.proofs.Noting.{latest-push}
use Rattle.bh_port.proofs.groups.list.Goals as goal

-- what holds where there is a value
with_value : {T E P : Type 0} (r : Result T E) → IsOk r → OnOk r P → P
with_value (Ok x) is p = p
with_value (Err e) is p = absurd (let none : false ≡ true = is in cc)

pub returns-clause-numbered : goal.returns-clause-numbered
returns-clause-numbered c =
    let updates = with_value c.insert.result (c.insert.ensures.succeeds c.requires.key) c.insert.ensures.updates in
    subst (λ es. AreNumbered es c.insert.new.self) (sym c.push_reserved.ensures.items)
    (numbered-push c.args.entries.now.items c.args.numbers.now c.insert.new.self c.args.key c.args.name c.args.like c.requires.numbered
    (subst (λ n. Updates string_eq c.args.numbers.now c.insert.new.self c.args.key (Some n)) (c.len-number.ensures ∙ c.args.entries.now.ok.0) updates) c.requires.name)

pub returns-clause-latest : goal.returns-clause-latest
returns-clause-latest c =
    let es = c.args.entries.now.items in
    let count : c.len-number.result ≡ length es = c.len-number.ensures ∙ c.args.entries.now.ok.0 in
    let text = c.as_str.ensures.text in
    let noted_is : c.note.new.self ≡ set c.args.latest.now (place_of c.args.name) (noted (length es)) =
    c.note.ensures.noted ∙ ap (λ n. set c.args.latest.now (place_of n) (noted c.len-number.result)) text ∙ ap (λ k. set c.args.latest.now (place_of c.args.name) (noted k)) count in
    subst (λ ks. AreLatest ks c.note.new.self) (sym c.push_reserved.ensures.items)
    (subst (λ ns. AreLatest (es ++ new_entry c.args.name c.args.like ∷ []) ns) (sym noted_is)
    (latest-push es c.args.latest.now c.args.name c.args.like c.requires.latest (subst (λ n. place_of n < length c.args.latest.now) text c.note.ensures.within)))
