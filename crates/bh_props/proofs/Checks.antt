-- The checks at one subject of the list.
use Rattle.std.proofs.Common.{◌≡◌, ℕ, suc, ◌+◌, ◌<◌, List, ◌∷◌, drop, length, get_or, Option, Some, None, Ok, Err, sym, ap, ◌∙◌, refl, add-one, drop-cons}
use Rattle.std.specs.Result.{result_and}
use Rattle.toml.specs.Data.{Data}
use Rattle.bh_props.specs.declared.property.Property.{Property}
use Rattle.bh_props.specs.declared.subject.Subject.{Subject}
use Rattle.bh_props.specs.declared.value.Fault.{Fault}
use Rattle.bh_props.specs.Refusals.{Checked, first_at_fault, refusal, refused_at, checked_values}

drop-here : (some : List Subject) (i : ℕ) (s : Subject) → i < length some → s ≡ get_or some i s → drop i some ≡ s ∷ drop (i + 1) some
drop-here some i s within is =
    let split : drop i some ≡ get_or some i s ∷ drop (suc i) some = drop-cons some i s within in
    split ∙ ap (λ x. x ∷ drop (suc i) some) (sym is) ∙ ap (λ n. s ∷ drop n some) (sym (add-one i))

values-at : (fault : Fault) (d : Data) (some : List Subject) (i : ℕ) (s : Subject) (found : Option Property) → i < length some → s ≡ get_or some i s
    → found ≡ first_at_fault fault d s
    → checked_values fault d (drop i some) ≡ refused_at fault s.name found (checked_values fault d (drop (i + 1) some))
values-at fault d some i s found within is finds =
    ap (checked_values fault d) (drop-here some i s within is)
    ∙ ap (λ o. refused_at fault s.name o (checked_values fault d (drop (i + 1) some))) (sym finds)

-- the check of values at a subject with a property at fault
pub checked_values-refused : (fault : Fault) (d : Data) (some : List Subject) (i : ℕ) (s : Subject) (found : Option Property) (p : Property) → i < length some → s ≡ get_or some i s
    → found ≡ first_at_fault fault d s → found ≡ Some p
    → checked_values fault d (drop i some) ≡ Err (refusal fault s.name p)
checked_values-refused fault d some i s found p within is finds has =
    values-at fault d some i s found within is finds
    ∙ ap (λ o. refused_at fault s.name o (checked_values fault d (drop (i + 1) some))) has

-- and at one without
pub checked_values-passed : (fault : Fault) (d : Data) (some : List Subject) (i : ℕ) (s : Subject) (found : Option Property) → i < length some → s ≡ get_or some i s
    → found ≡ first_at_fault fault d s → found ≡ None
    → checked_values fault d (drop i some) ≡ checked_values fault d (drop (i + 1) some)
checked_values-passed fault d some i s found within is finds none =
    values-at fault d some i s found within is finds
    ∙ ap (λ o. refused_at fault s.name o (checked_values fault d (drop (i + 1) some))) none

-- of two checks that pass together the first does
pub first-passes : (a b : Checked) → Ok tt ≡ result_and a b → a ≡ Ok tt
first-passes (Ok u) b h = refl
first-passes (Err e) b h = sym h

-- and so does the second
pub second-passes : (a b : Checked) → Ok tt ≡ result_and a b → b ≡ Ok tt
second-passes (Ok u) b h = sym h
second-passes (Err e) b h = cc
