-- Texts that stand in a string as they are.
use Rattle.std.proofs.Common.{◌≡◌, ◌+◌, ◌<◌, ℕ, ◌==◌, ◌||◌, Bool, false, List, [], ◌∷◌, ◌++◌, length, take, get_or, ap, ap₂, ◌∙◌, sym, append-nil}
use Rattle.std.proofs.lemmas.Bool.{or_parts, eqb-false, ltb-false}
use Rattle.std.proofs.lemmas.List.{take_more}
use Rattle.std.proofs.lemmas.Grind.{flat_map-append}
use Rattle.json.specs.Print.{escape_byte, escape}
use Rattle.json.specs.Run.{is_stop}
use Rattle.json.proofs.Printed.Strings.{escape_byte_plain}

escape-none : (x : ℕ) → is_stop x ≡ false → escape_byte x ≡ x ∷ []
escape-none x none =
    let parts = or_parts ((x == 34) || (x == 92)) _ none in
    let tests = or_parts (x == 34) _ parts.0 in
    escape_byte_plain x (eqb-false x 34 tests.0) (eqb-false x 92 tests.1) (ltb-false x 32 parts.1)

-- one more byte that needs no escape
pub plain-more : (text : List ℕ) (i : ℕ) (stops stop : Bool) → i < length text → (stops ≡ false → escape (take i text) ≡ take i text)
    → stop ≡ is_stop (get_or text i 0) → (stops || stop) ≡ false → escape (take (i + 1) text) ≡ take (i + 1) text
plain-more text i stops stop inside so_far is none =
    let parts = or_parts stops stop none in
    let x = get_or text i 0 in
    let more = take_more text i 0 inside in
    ap escape more ∙ flat_map-append escape_byte (take i text) (x ∷ [])
    ∙ ap₂ (λ bs cs. bs ++ cs) (so_far parts.0) (append-nil (escape_byte x) ∙ escape-none x (sym is ∙ parts.1)) ∙ sym more
