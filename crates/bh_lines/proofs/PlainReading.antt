-- Plain lines: the tokens that their bytes are, and the members of these.
use Rattle.std.proofs.Common.{◌≡◌, ℕ, Bool, ◌+◌, ◌-◌, ◌^◌, ◌<◌, ◌≤◌, true, false, cond, ◌==◌, List, [], ◌∷◌, ◌++◌, length, take, drop, get_or, Some, refl, sym, ap, ap₂, ◌∙◌, subst, arith, take-append-drop, length-take-le, get_or-take, append-nil, lt-ltb, ne_eqb, length-append, length-drop, IsUtf8, IsCharBoundary}
use Rattle.std.proofs.Common.{zero, suc, ◌*◌, ◌%◌, leb-true, inl, inr, eq-eqb, Option, option_and_then, None}
use Rattle.std.proofs.lemmas.Bool.{false≢true, cases_eq}
use Rattle.std.proofs.lemmas.List.{drop_all, drop_more, drop-drop, take_all, get_or-drop, get_or_default}
use Rattle.std.proofs.lemmas.Slice.Eq.{starts_is}
use Rattle.std.proofs.lemmas.Str.{IsCharBoundary-after_ascii, IsCharBoundary-before_ascii}
use Rattle.std.proofs.lemmas.Bool.Decides.{Decides-eqb}
use Rattle.std.specs.List.{starts_with}
use Rattle.std.proofs.lemmas.List.Sums.{prefix_len-le-length}
use Rattle.std.specs.Prelude.{◌&&◌, nat_le}
use Rattle.std.proofs.lemmas.Str.Parse.{digit_from_value}
use Rattle.std.specs.Borrow.{Bor}
use Rattle.std.specs.List.{prefix_len}
use Rattle.std.specs.Char.{digit_value, is_ascii_digit}
use Rattle.std.specs.Str.Parse.{AllDigits, digits_value}
use Rattle.std.specs.Float.Numeral.{digits_len}
use Rattle.std.proofs.Math.Nat.{mod-eq_of_lt, pow-le-pow_right}
use Rattle.std.proofs.lemmas.Int.Digits.{digits_value-lt}
use Rattle.std.proofs.lemmas.Str.{digit_value_digit}
use Rattle.std.proofs.lemmas.Bool.{and_parts}
use Rattle.json.specs.Token.{Token}
use Rattle.json.specs.Text.{content, plain}
use Rattle.json.specs.Word.{ends_word, head, after_digits, after_minus, after_whole, after_fraction, after_exponent, after_number, word}
use Rattle.json.specs.Lex.{Lexeme, token, comma, colon, string_token, Place, fresh, after_value, after_comma, after_key, may_begin, begins_colon, place_token, between, in_string, lex, punctuate, tokens}
use Rattle.json.specs.Print.{IsNumber}
use Rattle.json.specs.Json as json
use Rattle.json.proofs.Grammar.{value_is}
use Rattle.json.proofs.Printed.Numbers.{in_word-ended, lex-number}
use Rattle.fast_float.specs.Text.{Parts, IsWellFormed, scan, digits_of}
use Rattle.fast_float.proofs.Writing.{scan-text_of}
use Rattle.fast_float.proofs.Integers.{digits_len_all}
use Rattle.serde_json.specs.Data.{unsigned}
use Rattle.serde_json.specs.Read.{number_of, is_integer, read}
use Rattle.bh_lines.specs.Flat.{is_flat, flat_data, is_scalar, is_whole, IsBegun, ReadsScalar}
use Rattle.bh_lines.specs.Plain.{AreSignsThen, IsAmid, GoesOn, IsFollowing, IsInsideThen, IsNamed, IsSignThen, IsTaken, IsTextThen, IsKeyThen, IsNumberThen, IsScalarThen, IsMemberThen, IsReadTo}
use Rattle.bh_lines.specs.declared.plain.Follows.{Follows}
use Rattle.bh_lines.specs.declared.plain.Follows.TheVariants as follows
use Rattle.bh_lines.specs.declared.flat.Scalar.{Scalar}
use Rattle.bh_lines.specs.declared.flat.Scalar.TheVariants as scalars
use Rattle.bh_lines.specs.declared.flat.FlatMember.{FlatMember}
use Rattle.bh_lines.proofs.FlatReading.{begun_after, begun_over, read_flat}

-- ---- bytes that stand by themselves

-- a space in front plays no part
pub lex-space : (xs : List ℕ) → lex between (32 ∷ xs) ≡ lex between xs
unfolding lex
lex-space xs = refl

lex-comma : (xs : List ℕ) → lex between (44 ∷ xs) ≡ comma ∷ lex between xs
unfolding lex
lex-comma xs = refl

lex-colon : (xs : List ℕ) → lex between (58 ∷ xs) ≡ colon ∷ lex between xs
unfolding lex
lex-colon xs = refl

lex-end : (xs : List ℕ) → lex between (125 ∷ xs) ≡ token Token.end_object ∷ lex between xs
unfolding lex
lex-end xs = refl

-- an opening bracket in front begins an object
pub tokens-open : (xs : List ℕ) → tokens (123 ∷ xs) ≡ Token.begin_object ∷ punctuate fresh (lex between xs)
unfolding lex punctuate
tokens-open xs = refl

-- nothing is no token
pub no_tokens : punctuate after_value (lex between []) ≡ []
unfolding lex punctuate
no_tokens = refl

-- ---- signs

-- a sign at the place, with no space in front
pub sign_stands : (line : List ℕ) (place sign : ℕ) → drop place line ≡ sign ∷ drop (place + 1) line → place < length line → IsSignThen line place sign (place + 1)
sign_stands line place sign stands within = record {
  same = ap (lex between) stands;
  word = λ ended. ap ends_word stands ∙ ended;
  behind = omega arith;
  stands = ap (λ k. drop k line) (omega arith) ∙ stands;
  within = omega (arith, within);
}

-- a sign behind the space at the place
pub sign_behind_space : (line : List ℕ) (place sign : ℕ) → drop place line ≡ 32 ∷ drop (place + 1) line → drop (place + 1) line ≡ sign ∷ drop (place + 1 + 1) line
    → place + 1 < length line → IsSignThen line place sign (place + 2)
sign_behind_space line place sign space stands within =
    let next : place + 1 + 1 ≡ place + 2 = omega arith in
    let follows : drop (place + 1) line ≡ sign ∷ drop (place + 2) line = stands ∙ ap (λ k. sign ∷ drop k line) next in
    record {
      same = ap (lex between) space ∙ lex-space (drop (place + 1) line) ∙ ap (lex between) follows;
      word = λ ended. ap ends_word space;
      behind = omega arith;
      stands = ap (λ k. drop k line) (omega arith) ∙ follows;
      within = omega (arith, within);
    }

-- two signs, one behind the other
pub signs_stand : (line : List ℕ) (place first second : ℕ) → drop place line ≡ first ∷ second ∷ drop (place + 2) line → place + 1 < length line → AreSignsThen line place first second (place + 2)
signs_stand line place first second stand within =
    let after : drop (place + 1) line ≡ second ∷ drop (place + 2) line = ap (λ k. drop k line) (omega arith) ∙ sym (drop-drop 1 place line) ∙ ap (drop 1) stand in
    let behind : place + 2 ≡ place + 1 + 1 = omega arith in
    (place + 1, sign_stands line place first (stand ∙ ap (λ l. first ∷ l) (sym after)) (omega arith), subst (IsSignThen line (place + 1) second) (sym behind) (sign_stands line (place + 1) second (after ∙ ap (λ k. second ∷ drop k line) behind) within))

-- ---- texts

lex-text : (inside found rest : List ℕ) → content plain inside ≡ Some found → lex in_string inside ≡ lex between rest
    → lex between (34 ∷ inside) ≡ token (Token.string found) ∷ lex between rest
unfolding lex
lex-text inside found rest read passed = ap₂ (λ o l. token (string_token o) ∷ l) read passed

-- the byte that stands at a place
pub byte_there : (line : List ℕ) (place byte : ℕ) → drop place line ≡ byte ∷ drop (place + 1) line → get_or line place 0 ≡ byte
byte_there line place byte stands =
    let at_place : place + 0 ≡ place = omega arith in
    ap (λ k. get_or line k 0) (sym at_place) ∙ sym (get_or-drop place line 0 0) ∙ ap (λ l. get_or l 0 0) stands

-- behind its quote a text is what its inside says
pub text_inside : (line : List ℕ) (place start : ℕ) (found rest : List ℕ) → IsSignThen line place 34 start → IsInsideThen (drop start line) found rest → IsTextThen (drop place line) found rest
text_inside line place start found rest opens inside = opens.same ∙ lex-text (drop start line) found rest inside.said inside.passed

-- a sign is a letter of its own, behind which a text may be cut
pub sign_is_boundary : (line : List ℕ) (place sign next : ℕ) → sign < 128 → IsUtf8 line → IsSignThen line place sign next → IsCharBoundary line next
sign_is_boundary line place sign next small utf8 there =
    let behind : next - 1 + 1 ≡ next = omega (arith, there.behind) in
    let byte = byte_there line (next - 1) sign (there.stands ∙ ap (λ k. sign ∷ drop k line) (sym behind)) in
    subst (λ k. IsCharBoundary line k) behind (IsCharBoundary-after_ascii line (next - 1) utf8 (omega (arith, there.behind, there.within)) (omega (arith, byte, small)))

-- ---- keys

punctuate-key : (p : Place) (s : List ℕ) (ls : List Lexeme) → may_begin p ≡ true → punctuate p (token (Token.string s) ∷ colon ∷ ls) ≡ Token.key s ∷ punctuate fresh ls
unfolding punctuate
punctuate-key fresh s ls may = refl
punctuate-key after_value s ls may = absurd (false≢true may)
punctuate-key after_comma s ls may = refl
punctuate-key after_key s ls may = absurd (false≢true may)

-- a text in quotes and a colon are a key
pub key_is : (text name behind rest : List ℕ) → IsTextThen text name behind → lex between behind ≡ lex between (58 ∷ rest) → IsKeyThen text name rest
key_is text name behind rest found colon_follows p may =
    let lexed : lex between text ≡ token (Token.string name) ∷ colon ∷ lex between rest =
    found ∙ ap (λ l. token (Token.string name) ∷ l) (colon_follows ∙ lex-colon rest) in
    ap (punctuate p) lexed ∙ punctuate-key p name (lex between rest) may

-- ---- scalars

pub text_scalar : (text rest : List ℕ) (s : Bor (List ℕ)) → IsTextThen text s.now rest → IsScalarThen text (scalars.Text s) rest
text_scalar text rest s found = record {
  token = Token.string s.now;
  scalar = refl;
  reads = λ ts. (json.string s.now, λ depth. value_is depth _, refl);
  lexed = λ ended. found;
}

pub number_scalar : (text rest : List ℕ) (n : ℕ) → IsNumberThen text n rest → IsScalarThen text (scalars.Number n) rest
number_scalar text rest n found = record {
  token = Token.number found.digits;
  scalar = ap is_whole found.is_found;
  reads = λ ts. (json.number found.digits, λ depth. value_is depth _, rw found.is_found);
  lexed = λ ended. ap (lex between) found.split ∙ lex-number found.digits rest found.is_number ended;
}

-- a space in front of a scalar plays no part
pub scalar_behind : (text start rest : List ℕ) (s : Scalar) → lex between start ≡ lex between text → IsScalarThen start s rest → IsScalarThen text s rest
scalar_behind text start rest s same found = record {
  token = found.token;
  scalar = found.scalar;
  reads = found.reads;
  lexed = λ ended. sym same ∙ found.lexed ended;
}

lex-true : (rest : List ℕ) → ends_word rest ≡ true → lex between (116 ∷ 114 ∷ 117 ∷ 101 ∷ rest) ≡ token (Token.boolean true) ∷ lex between rest
unfolding lex word
lex-true rest ended = ap₂ (λ b l. token (cond b (Token.boolean true) Token.bad) ∷ l) ended (in_word-ended rest ended)

lex-false : (rest : List ℕ) → ends_word rest ≡ true → lex between (102 ∷ 97 ∷ 108 ∷ 115 ∷ 101 ∷ rest) ≡ token (Token.boolean false) ∷ lex between rest
unfolding lex word
lex-false rest ended = ap₂ (λ b l. token (cond b (Token.boolean false) Token.bad) ∷ l) ended (in_word-ended rest ended)

lex-null : (rest : List ℕ) → ends_word rest ≡ true → lex between (110 ∷ 117 ∷ 108 ∷ 108 ∷ rest) ≡ token Token.null ∷ lex between rest
unfolding lex word
lex-null rest ended = ap₂ (λ b l. token (cond b Token.null Token.bad) ∷ l) ended (in_word-ended rest ended)

-- a word that the bytes from a place on begin with, as the code cuts them
pub word_stands : (line bytes word letters : List ℕ) (place : ℕ) (found : Bool) → bytes ≡ line → letters ≡ word
    → found ≡ starts_with (λ a b. a == b) (take (length bytes - place) (drop place bytes)) letters → found ≡ true → drop place line ≡ word ++ drop (place + length word) line
word_stands line bytes word letters place found same spelt is there =
    let part = take (length bytes - place) (drop place bytes) in
    let whole : part ≡ drop place bytes = take_all (length bytes - place) (drop place bytes) (omega (arith, length-drop place bytes)) in
    let begins : part ≡ letters ++ drop (length letters) part = (starts_is Decides-eqb part letters found is).0 there in
    let cut : drop place bytes ≡ letters ++ drop (length letters) (drop place bytes) = subst (λ t. t ≡ letters ++ drop (length letters) t) whole begins in
    let split : drop place bytes ≡ letters ++ drop (place + length letters) bytes = cut ∙ ap (λ t. letters ++ t) (drop-drop (length letters) place bytes) in
    subst (λ ls. drop place line ≡ ls ++ drop (place + length ls) line) spelt (subst (λ bs. drop place bs ≡ letters ++ drop (place + length letters) bs) same split)

pub true_scalar : (text rest : List ℕ) → text ≡ 116 ∷ 114 ∷ 117 ∷ 101 ∷ rest → IsScalarThen text (scalars.Truth true) rest
true_scalar text rest is = record {
  token = Token.boolean true;
  scalar = refl;
  reads = λ ts. (json.boolean true, λ depth. value_is depth _, refl);
  lexed = λ ended. ap (lex between) is ∙ lex-true rest ended;
}

pub false_scalar : (text rest : List ℕ) → text ≡ 102 ∷ 97 ∷ 108 ∷ 115 ∷ 101 ∷ rest → IsScalarThen text (scalars.Truth false) rest
false_scalar text rest is = record {
  token = Token.boolean false;
  scalar = refl;
  reads = λ ts. (json.boolean false, λ depth. value_is depth _, refl);
  lexed = λ ended. ap (lex between) is ∙ lex-false rest ended;
}

pub null_scalar : (text rest : List ℕ) → text ≡ 110 ∷ 117 ∷ 108 ∷ 108 ∷ rest → IsScalarThen text scalars.Null rest
null_scalar text rest is = record {
  token = Token.null;
  scalar = refl;
  reads = λ ts. (json.null, λ depth. value_is depth _, refl);
  lexed = λ ended. ap (lex between) is ∙ lex-null rest ended;
}

-- ---- members

scalar_comma : (t : Token) (ls : List Lexeme) → is_scalar t ≡ true → punctuate fresh (token t ∷ comma ∷ ls) ≡ t ∷ punctuate after_comma ls
unfolding punctuate
scalar_comma Token.begin_object ls h = absurd (false≢true h)
scalar_comma Token.end_object ls h = absurd (false≢true h)
scalar_comma Token.begin_array ls h = absurd (false≢true h)
scalar_comma Token.end_array ls h = absurd (false≢true h)
scalar_comma (Token.key s) ls h = absurd (false≢true h)
scalar_comma (Token.string s) ls h = refl
scalar_comma (Token.number s) ls h = refl
scalar_comma (Token.boolean b) ls h = refl
scalar_comma Token.null ls h = refl
scalar_comma Token.bad ls h = absurd (false≢true h)

scalar_end : (t : Token) (ls : List Lexeme) → is_scalar t ≡ true
    → punctuate fresh (token t ∷ token Token.end_object ∷ ls) ≡ t ∷ Token.end_object ∷ punctuate after_value ls
unfolding punctuate
scalar_end Token.begin_object ls h = absurd (false≢true h)
scalar_end Token.end_object ls h = absurd (false≢true h)
scalar_end Token.begin_array ls h = absurd (false≢true h)
scalar_end Token.end_array ls h = absurd (false≢true h)
scalar_end (Token.key s) ls h = absurd (false≢true h)
scalar_end (Token.string s) ls h = refl
scalar_end (Token.number s) ls h = refl
scalar_end (Token.boolean b) ls h = refl
scalar_end Token.null ls h = refl
scalar_end Token.bad ls h = absurd (false≢true h)

module _
    (text name behind_name behind_value rest : List ℕ) (value : Scalar)
    (key : IsKeyThen text name behind_name) (found : IsScalarThen behind_name value behind_value)
  where
    comma_follows : lex between behind_value ≡ lex between (44 ∷ rest) → ends_word behind_value ≡ true
        → (p : Place) → may_begin p ≡ true → punctuate p (lex between text) ≡ Token.key name ∷ found.token ∷ punctuate after_comma (lex between rest)
    comma_follows follows ended p may =
        let lexed = found.lexed ended ∙ ap (λ l. token found.token ∷ l) (follows ∙ lex-comma rest) in
        key p may ∙ ap (λ l. Token.key name ∷ l) (ap (punctuate fresh) lexed ∙ scalar_comma found.token (lex between rest) found.scalar)

    end_follows : lex between behind_value ≡ lex between (125 ∷ rest) → ends_word behind_value ≡ true
        → (p : Place) → may_begin p ≡ true → punctuate p (lex between text) ≡ Token.key name ∷ found.token ∷ Token.end_object ∷ punctuate after_value (lex between rest)
    end_follows follows ended p may =
        let lexed = found.lexed ended ∙ ap (λ l. token found.token ∷ l) (follows ∙ lex-end rest) in
        key p may ∙ ap (λ l. Token.key name ∷ l) (ap (punctuate fresh) lexed ∙ scalar_end found.token (lex between rest) found.scalar)

-- a name, a colon and a scalar are a member
pub member_there : (line : List ℕ) (found : List FlatMember) (m : FlatMember) (place start behind_name value behind : ℕ) → IsAmid line found place → IsSignThen line place 34 start
    → IsInsideThen (drop start line) m.name.now (drop behind_name line) → IsSignThen line behind_name 58 value → IsScalarThen (drop value line) m.value (drop behind line)
    → IsMemberThen line found m behind
member_there line found m place start behind_name value behind so_far quote name there scalar =
    let text = text_inside line place start m.name.now (drop behind_name line) quote name in
    (place, drop value line, so_far, key_is (drop place line) m.name.now (drop behind_name line) (drop value line) text there.same, scalar)

-- a member is put behind the others
after_member : (first : List Token) (found all : List FlatMember) (line : List ℕ) (place : ℕ) (m : FlatMember) (t : Token) (rest : List Token)
    → ((p : Place) × (may_begin p ≡ true) × IsBegun first found (punctuate p (lex between (drop place line))))
    → ((p : Place) → may_begin p ≡ true → punctuate p (lex between (drop place line)) ≡ Token.key m.name.now ∷ t ∷ rest)
    → is_scalar t ≡ true → ((ts : List Token) → ReadsScalar m.value (t ∷ ts) ts) → length found < 8 → all ≡ found ++ m ∷ [] → IsBegun first all rest
after_member first found all line place m t rest so_far tokens scalar reads room pushed =
    subst (λ x. IsBegun first x rest) (sym pushed) (
    begun_after first found m (Token.key m.name.now ∷ t ∷ rest) (t ∷ rest) rest (subst (IsBegun first found) (tokens so_far.0 so_far.1) so_far.2) refl (reads rest)
    (λ more. ap (λ b. b && more rest) scalar) (omega arith) room
    )

-- one more, by what follows it
pub taken_by : (line : List ℕ) (found all : List FlatMember) (m : FlatMember) (behind : ℕ) (f : Follows) → IsMemberThen line found m behind → IsFollowing line behind f → length found < 8 → all ≡ found ++ m ∷ []
    → IsTaken line found all f
taken_by line found all m behind f (place, value, so_far, key, scalar) following room pushed = (size, omega (arith, size), goes_on f following)
  where
    first : List Token
    first = punctuate fresh (lex between (drop 1 line))

    size : length all ≡ length found + 1
    size = ap length pushed ∙ length-append found (m ∷ [])

    goes_on : (f : Follows) → IsFollowing line behind f → GoesOn line all f
    goes_on (follows.Member name) (next, there, quote) =
        let tokens = comma_follows (drop place line) m.name.now value (drop behind line) (drop next line) m.value key scalar there.same (there.word refl) in
        (next, (after_comma, refl, after_member first found all line place m scalar.token _ so_far tokens scalar.scalar scalar.reads room pushed), quote)
    goes_on (follows.End end) bracket = λ ended.
        let tokens = end_follows (drop place line) m.name.now value (drop behind line) (drop end line) m.value key scalar bracket.same (bracket.word refl) in
        let over = ap (λ l. Token.end_object ∷ punctuate after_value (lex between l)) ended ∙ ap (λ l. Token.end_object ∷ l) no_tokens in
        begun_over first all (subst (IsBegun first all) over (after_member first found all line place m scalar.token _ so_far tokens scalar.scalar scalar.reads room pushed))

-- where the line ends behind the bracket it is one object of these members
pub whole_line : (line : List ℕ) (before found : List FlatMember) (f : Follows) (end : ℕ) → drop 0 line ≡ 123 ∷ drop 1 line → IsTaken line before found f → f ≡ follows.End end → end ≡ length line
    → (is_flat (tokens line) ≡ true) × (read line ≡ Some (flat_data found))
whole_line line before found f end opens taken closed ended =
    let first = punctuate fresh (lex between (drop 1 line)) in
    let goes_on = subst (GoesOn line found) closed taken.2 in
    let all = goes_on (drop_all end line (omega (arith, ended))) in
    let begins : tokens line ≡ Token.begin_object ∷ first = ap tokens opens ∙ tokens-open (drop 1 line) in
    (ap is_flat begins ∙ all.1, read_flat line found first begins all.0)

-- a quote begins the same token wherever one may begin
text_or_fault : (p : Place) (o : Option (List ℕ)) (ls : List Lexeme) → may_begin p ≡ true → punctuate p (token (string_token o) ∷ ls) ≡ punctuate fresh (token (string_token o) ∷ ls)
unfolding punctuate
text_or_fault fresh o ls may = refl
text_or_fault after_value o ls may = absurd (false≢true may)
text_or_fault after_comma None ls may = refl
text_or_fault after_comma (Some s) ls may = elim (begins_colon ls) as (λ b. place_token after_comma (Token.string s) b (λ next. punctuate next ls) ≡ place_token fresh (Token.string s) b (λ next. punctuate next ls)) [ true ↦ refl | false ↦ refl ]
text_or_fault after_key o ls may = absurd (false≢true may)

quote_begins : (p : Place) (inside : List ℕ) → may_begin p ≡ true → punctuate p (lex between (34 ∷ inside)) ≡ tokens (34 ∷ inside)
unfolding lex
quote_begins p inside may = text_or_fault p (content plain inside) (lex in_string inside) may

-- where a name may begin, what is left of the line can be read by itself
pub read_to : (line : List ℕ) (found : List FlatMember) (place next : ℕ) → drop 0 line ≡ 123 ∷ drop 1 line
    → ((p : Place) × (may_begin p ≡ true) × IsBegun (punctuate fresh (lex between (drop 1 line))) found (punctuate p (lex between (drop place line)))) → IsSignThen line place 34 next
    → IsReadTo line found (next - 1)
read_to line found place next opens so_far name =
    let first = punctuate fresh (lex between (drop 1 line)) in
    let behind : next - 1 + 1 ≡ next = omega (arith, name.behind) in
    let byte : get_or line (next - 1) 0 ≡ 34 = byte_there line (next - 1) 34 (name.stands ∙ ap (λ k. 34 ∷ drop k line) (sym behind)) in
    let left : punctuate so_far.0 (lex between (drop place line)) ≡ tokens (drop (next - 1) line) =
    ap (punctuate so_far.0) name.same ∙ quote_begins so_far.0 (drop next line) so_far.1 ∙ ap tokens (sym name.stands) in
    record {
      first = first;
      opens = ap tokens opens ∙ tokens-open (drop 1 line);
      begun = subst (IsBegun first found) left so_far.2;
      boundary = IsCharBoundary-before_ascii line (next - 1) (omega (arith, name.behind, name.within)) (omega (arith, byte));
    }

-- the same, by the place behind the quote of that name
pub front_named : (line : List ℕ) (found : List FlatMember) (start : ℕ) → drop 0 line ≡ 123 ∷ drop 1 line → IsNamed line found start → (0 < start) × IsReadTo line found (start - 1)
front_named line found start opens (place, so_far, quote) = (quote.behind, read_to line found place start opens so_far quote)

-- ---- numbers

digits_first : (ds : List ℕ) → AllDigits 10 ds → 0 < length ds → get_or ds 0 0 ≡ 45 → ⊥
digits_first [] h some e = omega arith
digits_first (d ∷ ds) h some e = let r = digit_from_value d h.0 in omega (arith, r.0, e)

-- digits alone are no other part of a number
digits_only : List ℕ → Parts
digits_only ds = record { whole = ds; point = false; fraction = []; exponent_negative = false; exponent = []; len = length (ds ++ []) }

-- digits are read as the number that they write
digits_read : (ds : List ℕ) → AllDigits 10 ds → 0 < length ds → digits_value 10 ds < 2 ^ 64 → number_of ds ≡ Some (unsigned (digits_value 10 ds))
unfolding number_of digits_only
digits_read ds h some fits =
    let p = digits_only ds in
    let formed : IsWellFormed p = record { whole_digits = h; fraction_digits = tt; exponent_digits = tt; no_point = λ _. refl; no_exponent = λ _. refl; len_is = refl } in
    let scanned : scan ds ≡ p = ap scan (sym (append-nil ds)) ∙ scan-text_of p formed in
    let plain_sign : (get_or ds 0 0 == 45) ≡ false = ne_eqb (get_or ds 0 0) 45 (digits_first ds h some) in
    let integer : is_integer p ≡ true = rw (lt-ltb _ _ some) in
    let value : digits_of p ≡ digits_value 10 ds = rw append-nil in
    rw (plain_sign, scanned) (rw (integer, value) (rw (lt-ltb _ _ fits)))

one_digit : (ds : List ℕ) → length ds ≡ 1 → drop 1 ds ≡ []
one_digit [] e = absurd (omega arith)
one_digit (d ∷ []) e = refl
one_digit (d ∷ c ∷ ds) e = absurd (omega arith)

all_digits : (t : List ℕ) → prefix_len is_ascii_digit t ≡ length t → 0 < length t → after_digits t ≡ Some []
all_digits t e some =
    (λ i. cond (e i == 0) None (Some (drop (e i) t))) ∙ (λ i. cond (ne_eqb (length t) 0 (λ z. omega arith) i) None (Some (drop (length t) t))) ∙ ap Some (drop_all (length t) t (omega arith))

all_whole : (t : List ℕ) → AllDigits 10 t → 0 < length t → (head t ≡ 48 → length t ≡ 1) → after_whole t ≡ Some []
all_whole t h some zero_alone =
    elim (cases_eq (head t) 48) [
      | inl e ↦ (λ i. cond (eq-eqb (head t) 48 e i) (Some (drop 1 t)) (after_digits t)) ∙ ap Some (one_digit t (zero_alone e))
      | inr n ↦ (λ i. cond (ne_eqb (head t) 48 n i) (Some (drop 1 t)) (after_digits t)) ∙ all_digits t (digits_len_all t h) some
    ]

-- digits are a number of JSON, where no zero stands before others
digits_number : (ds : List ℕ) → AllDigits 10 ds → 0 < length ds → (get_or ds 0 0 ≡ 48 → length ds ≡ 1) → IsNumber ds
unfolding after_number
digits_number ds h some zero_alone =
    let first : head ds ≡ get_or ds 0 0 = get_or_default ds 0 32 0 some in
    let unsigned_text : after_minus ds ≡ ds = λ i. cond (ne_eqb (head ds) 45 (λ e. digits_first ds h some (sym first ∙ e)) i) (drop 1 ds) ds in
    let whole : after_whole (after_minus ds) ≡ Some [] = ap after_whole unsigned_text ∙ all_whole ds h some (λ e. zero_alone (sym first ∙ e)) in
    ap (λ o. option_and_then after_exponent (option_and_then after_fraction o)) whole

-- of the digits that some bytes begin with each is a digit
digits_ahead : (t : List ℕ) (n : ℕ) → n ≤ digits_len t → AllDigits 10 (take n t)
digits_ahead t zero h = tt
digits_ahead [] (suc n) h = tt
digits_ahead (x ∷ xs) (suc n) h = go (digits_ahead xs n) (is_ascii_digit x) refl h
  where
    go : (n ≤ digits_len xs → AllDigits 10 (take n xs)) → (b : Bool) → is_ascii_digit x ≡ b → suc n ≤ cond b (1 + digits_len xs) 0 → (digit_value x < 10) × AllDigits 10 (take n xs)
    go rest true e k =
        let range = and_parts (nat_le 48 x) (nat_le x 57) e in
        (omega (arith, leb-true x 57 range.1, digit_value_digit x (leb-true 48 x range.0, leb-true x 57 range.1)), rest (omega arith))
    go rest false e k = absurd (omega arith)

-- digits from one place to another are a number
pub number_between : (line : List ℕ) (place end n : ℕ) → place ≤ end → end ≤ length line → (end ≡ place → ⊥) → AllDigits 10 (take (end - place) (drop place line))
    → n ≡ digits_value 10 (take (end - place) (drop place line)) → n < 2 ^ 64 → (get_or line place 0 ≡ 48 → ⊥)
    → IsNumberThen (drop place line) n (drop end line)
number_between line place end n after within some h value fits no_zero =
    let text = drop place line in
    let count = end - place in
    let ds = take count text in
    let long : length ds ≡ count = length-take-le count text (omega (arith, length-drop place line)) in
    let filled : 0 < length ds = omega arith in
    let at_place : place + 0 ≡ place = omega arith in
    let first : get_or ds 0 0 ≡ get_or line place 0 = get_or-take count text 0 0 (omega arith) ∙ get_or-drop place line 0 0 ∙ ap (λ k. get_or line k 0) at_place in
    let behind : place + count ≡ end = omega arith in
    record {
      digits = ds;
      split = sym (take-append-drop count text) ∙ ap (λ l. ds ++ l) (drop-drop count place line ∙ ap (λ k. drop k line) behind);
      is_number = digits_number ds h filled (λ e. absurd (no_zero (sym first ∙ e)));
      is_found = subst (λ v. number_of ds ≡ Some (unsigned v)) (sym value) (digits_read ds h filled (omega arith));
    }

-- the digits that stand from a place on, so few that their number has 64 bits
pub number_there : (line : List ℕ) (place end n : ℕ) → place ≤ length line → end ≡ place + digits_len (drop place line) → (end ≡ place → ⊥) → end - place ≤ 19
    → n ≡ (0 * 10 ^ (end - place) + digits_value 10 (take (end - place) (drop place line))) % 2 ^ 64 → (get_or line place 0 ≡ 48 → ⊥) → IsNumberThen (drop place line) n (drop end line)
number_there line place end n here is some few value no_zero =
    let text = drop place line in
    let count : end - place ≡ digits_len text = omega arith in
    let within : end ≤ length line = omega (arith, prefix_len-le-length is_ascii_digit text, length-drop place line) in
    let digits : AllDigits 10 (take (end - place) text) = digits_ahead text (end - place) (omega (arith, count)) in
    let long : length (take (end - place) text) ≡ end - place = length-take-le (end - place) text (omega (arith, within, length-drop place line)) in
    let raised : 10 ^ (end - place) ≤ 10 ^ 19 = pow-le-pow_right {n = 10} (omega arith) few in
    let small : digits_value 10 (take (end - place) text) < 10 ^ 19 = omega (arith, digits_value-lt 10 (take (end - place) text) digits, ap (λ k. 10 ^ k) long, raised) in
    let alone : 0 * 10 ^ (end - place) + digits_value 10 (take (end - place) text) ≡ digits_value 10 (take (end - place) text) = omega arith in
    let same : n ≡ digits_value 10 (take (end - place) text) = value ∙ ap (λ x. x % 2 ^ 64) alone ∙ mod-eq_of_lt (omega (arith, small)) in
    number_between line place end n (omega (arith, is)) within some digits same (omega (arith, same, small)) no_zero

-- a zero in front is a number by itself
zero_in_front : (text rest : List ℕ) → text ≡ 48 ∷ rest → IsNumberThen text 0 rest
zero_in_front text rest is =
    let digit : AllDigits 10 (48 ∷ []) = (omega arith, tt) in
    record {
      digits = 48 ∷ [];
      split = is;
      is_number = digits_number (48 ∷ []) digit (omega arith) (λ _. refl);
      is_found = digits_read (48 ∷ []) digit (omega arith) (omega arith);
    }

-- the same at a place of the line, as the code looks at its bytes
pub zero_at : (line bytes : List ℕ) (place : ℕ) → bytes ≡ line → place < length bytes → get_or bytes place 0 ≡ 48 → IsNumberThen (drop place line) 0 (drop (place + 1) line)
zero_at line bytes place same inside first =
    subst (λ t. IsNumberThen (drop place t) 0 (drop (place + 1) t)) same (zero_in_front (drop place bytes) (drop (place + 1) bytes) (drop_more bytes place 0 inside ∙ ap (λ b. b ∷ drop (place + 1) bytes) first))
