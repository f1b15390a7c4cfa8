-- What the getters of a parse tell of an argument, by its rows.
use Rattle.std.proofs.Common.{◌≡◌, ◌∙◌, ◌^◌, ◌<◌, ℕ, Bool, true, false, List, [], Option, Some, None, Result, codes, ap, refl}
use Rattle.std.specs.Prelude.{map, option_map, unwrap_or}
use Rattle.std.specs.Borrow.{Bor}
use Rattle.std.specs.declared.num.ParseIntError.{ParseIntError}
use Rattle.std.specs.Str.Parse.{IsNumeral, ParsesUnsigned, ExplainsUnsignedError, HasUnsignedDigitsIfOk, digits_value, without_leading_plus}
use Rattle.clap.specs.Words.{ReadsOne, all_of, first_value, one_text, raw_values, matched_of, rows_of}
use Rattle.clap.specs.Walk.{Text}
use Rattle.clap.specs.declared.parser.matches.Found.{Found}
use Rattle.clap.proofs.WalkLemmas.{first_value-rows, one_text-rows, raw_values-rows}
use Rattle.bh_arguments.specs.Invocations.{IsFlag, IsNumber, IsText}

-- a text that was given
pub text-given : (f : Found) (id : Text) (s : Bor Text) → Some s.now ≡ first_value f id → IsText id (rows_of f) s.now
text-given f id s given = ap (λ (o : Option Text). unwrap_or o []) (given ∙ first_value-rows f id)

-- none was
pub text-missing : (f : Found) (id : Text) (s : Text) → None ≡ first_value f id → s ≡ [] → IsText id (rows_of f) s
text-missing f id s none empty = empty ∙ ap (λ (o : Option Text). unwrap_or o []) (none ∙ first_value-rows f id)

-- a flag
pub flag-told : (f : Found) (id : Text) (b : Bool) → (one_text f id ≡ None → b ≡ false) → (one_text f id ≡ Some (codes "true") → b ≡ true)
    → (one_text f id ≡ Some (codes "false") → b ≡ false) → IsFlag id (rows_of f) b
flag-told f id b none given not_given = record {
  given = λ is. given (one_text-rows f id ∙ is);
  not_given = λ is. not_given (one_text-rows f id ∙ is);
  none = λ is. none (one_text-rows f id ∙ is);
}

names-given : (f : Found) (id : Text) (names : List Text) → Some names ≡ option_map raw_values (matched_of f id) → names ≡ unwrap_or (all_of id (rows_of f)) []
names-given f id names given = ap (λ (o : Option (List Text)). unwrap_or o []) (given ∙ raw_values-rows f id)

names-missing : (f : Found) (id : Text) (names : List Text) → None ≡ option_map raw_values (matched_of f id) → names ≡ [] → names ≡ unwrap_or (all_of id (rows_of f)) []
names-missing f id names none empty = empty ∙ ap (λ (o : Option (List Text)). unwrap_or o []) (none ∙ raw_values-rows f id)

-- the names that were given, or none
pub names-told : (f : Found) (id : Text) (r : Option (Bor (List (Bor Text)))) (d names : Bor (List (Bor Text))) → option_map (λ s. map (λ v. v.now) s.now) r ≡ option_map raw_values (matched_of f id)
    → names ≡ unwrap_or r d → d.now ≡ [] → map (λ name. name.now) names.now ≡ unwrap_or (all_of id (rows_of f)) []
names-told f id (Some given) d names told is empty = ap (λ (b : Bor (List (Bor Text))). map (λ v. v.now) b.now) is ∙ names-given f id _ told
names-told f id None d names told is empty = ap (λ (b : Bor (List (Bor Text))). map (λ v. v.now) b.now) is ∙ ap (map (λ (v : Bor Text). v.now)) empty ∙ names-missing f id [] told refl

-- what the reading of a text as a number of so many bits gives
abbrev pub Reads : ℕ → Text → Result ℕ ParseIntError → Type 0
Reads bits text r = ParsesUnsigned bits 10 text r × ExplainsUnsignedError 10 text r × HasUnsignedDigitsIfOk text r

number-read : (bits : ℕ) (text : Text) (r : Option ℕ) (usual : ℕ) → IsNumeral 10 (without_leading_plus text) → digits_value 10 (without_leading_plus text) < 2 ^ bits
    → ReadsOne (Reads bits) text r → unwrap_or r usual ≡ digits_value 10 (without_leading_plus text)
number-read bits text (Some v) usual numeral fits read = read.0.1
number-read bits text None usual numeral fits failed = absurd (failed.1.0 (numeral, fits))

-- a number
pub number-told : (bits : ℕ) (f : Found) (id : Text) (r : Option ℕ) (usual n : ℕ) → n ≡ unwrap_or r usual → (one_text f id ≡ None → r ≡ None)
    → ((text : Text) → one_text f id ≡ Some text → ReadsOne (Reads bits) text r) → IsNumber bits id (rows_of f) usual n
number-told bits f id r usual n is none value = record {
  given = λ text told numeral fits. is ∙ number-read bits text r usual numeral fits (value text (one_text-rows f id ∙ told));
  none = λ told. is ∙ ap (λ (o : Option ℕ). unwrap_or o usual) (none (one_text-rows f id ∙ told));
}
