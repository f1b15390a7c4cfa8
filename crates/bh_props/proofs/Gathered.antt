-- The further commands so far, counted by their groups, and one more.
use Rattle.std.proofs.Common.{◌≡◌, ◌==◌, ◌≢◌, ℕ, ◌+◌, ◌<◌, nat_lt, List, [], ◌∷◌, ◌++◌, length, get_or, Bool, true, false, Option, Some, None, option_and_then, if◌then◌else◌, refl, sym, ap, subst, arith}
use Rattle.std.proofs.Math.ListN.{set, length-set}
use Rattle.std.proofs.lemmas.Bool.Decides.{nat_tests}
use Rattle.std.proofs.lemmas.Bool.{eqb-true}
use Rattle.std.proofs.lemmas.List.{get_or-set_same, get_or-set_other}
use Rattle.toml.specs.Data.{Data}
use Rattle.bh_props.specs.Commands.{Commands, commands_in, is_free, place_named, numbered, next_command}
use Rattle.bh_props.specs.Gathered.{AreCounted}
use Rattle.bh_props.proofs.Known.{count-last, place-within}

-- the counts with one more command
pub counted-next : (cs : Commands) (counts : List ℕ) (name : List ℕ) (place number : ℕ) → AreCounted cs counts → place < length counts → number ≡ length (commands_in place cs) + 1
    → AreCounted (cs ++ (name, (place, number)) ∷ []) (set counts place number)
counted-next cs counts name place number h within is q below = by (place == q) refl
  where
    by : (b : Bool) → (place == q) ≡ b → get_or (set counts place number) q 0 ≡ length (commands_in q (cs ++ (name, (place, number)) ∷ []))
    by true e =
        let same : place ≡ q = eqb-true place q e in
        let here : get_or (set counts place number) q 0 ≡ number = subst (λ k. get_or (set counts place number) k 0 ≡ number) same (get_or-set_same counts place number 0 within) in
        let count : length (commands_in q cs) ≡ length (commands_in place cs) = ap (λ k. length (commands_in k cs)) (sym same) in
        rw (count-last q cs (name, (place, number)), e) (omega arith)
    by false e =
        let other : q ≢ place = λ is_place. not_itself is_place e in
        let old : get_or counts q 0 ≡ length (commands_in q cs) = h q (let long : length (set counts place number) ≡ length counts = length-set counts place number in omega arith) in
        let here : get_or (set counts place number) q 0 ≡ get_or counts q 0 = get_or-set_other counts place q number 0 other in
        rw (count-last q cs (name, (place, number)), e) (omega arith)
      where
        not_itself : q ≡ place → (place == q) ≡ false → ⊥
        not_itself is_place is_not = grind (arith, nat_tests)

-- a command that is not bad is of one of the groups, and has the next number there
pub next_command-numbered : (groups : List (List ℕ)) (before : Commands) (name : List ℕ) (d : Data) (c : ℕ × ℕ) → next_command groups before name d ≡ Some c
    → (c.0 < length groups) × (c.1 ≡ length (commands_in c.0 before) + 1)
next_command-numbered groups before name d c is = by_name (is_free groups name) refl
  where
    by_room : (place : ℕ) → place < length groups → (b : Bool) → (if b then Some (place, length (commands_in place before) + 1) else None) ≡ Some c
        → (c.0 < length groups) × (c.1 ≡ length (commands_in c.0 before) + 1)
    by_room place within true e =
        let same : (place, length (commands_in place before) + 1) ≡ c = cc in
        subst (λ x. (x.0 < length groups) × (x.1 ≡ length (commands_in x.0 before) + 1)) same (within, refl)
    by_room place within false e = let bad : None ≡ Some c = e in cc

    by_place : (o : Option ℕ) → place_named groups d ≡ o → option_and_then (numbered before) o ≡ Some c → (c.0 < length groups) × (c.1 ≡ length (commands_in c.0 before) + 1)
    by_place None e some = let bad : None ≡ Some c = some in cc
    by_place (Some place) e some = by_room place (place-within groups d place e) (nat_lt (length (commands_in place before)) 15) some

    by_name : (b : Bool) → is_free groups name ≡ b → (c.0 < length groups) × (c.1 ≡ length (commands_in c.0 before) + 1)
    by_name true e = by_place (place_named groups d) refl (rw e at is)
    by_name false e = let bad : None ≡ Some c = rw e at is in cc
