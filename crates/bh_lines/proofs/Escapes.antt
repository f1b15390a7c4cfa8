-- Texts with escapes: what their bytes say, and where they end.
use Rattle.std.proofs.Common.{◌≡◌, ℕ, Bool, ◌+◌, ◌-◌, ◌*◌, ◌<◌, ◌≤◌, true, false, cond, ◌==◌, ◌||◌, inl, inr, List, [], ◌∷◌, ◌++◌, length, take, drop, get_or, Option, option_and_then, Some, None, refl, sym, ap, ap₂, ◌∙◌, subst, arith, append-nil, lt-ltb, ne_eqb, suc}
use Rattle.std.proofs.lemmas.Bool.{or_parts, not-true}
use Rattle.std.proofs.lemmas.List.{append_assoc, drop_more, drop-drop}
use Rattle.std.specs.Prelude.{IfSome, MatchOption, nat_lt}
use Rattle.std.specs.Option.{SomeIff}
use Rattle.std.specs.Char.{encode_utf8, IsScalar, InScalarRange, OutOfScalarRange}
use Rattle.std.proofs.lemmas.Bool.Decides.{nat_tests}
use Rattle.std.specs.List.{prefix_len}
use Rattle.json.specs.Text.{code_unit, short_escape, is_high_surrogate, is_low_surrogate, content, plain, after_backslash, after_u, after_high, prepend}
use Rattle.json.specs.Word.{is_operator, is_space}
use Rattle.json.specs.Lex.{quote, backslash, operator, space, other, in_string, between, lex, lex_byte}
use Rattle.json.specs.Run.{is_plain}
use Rattle.bh_lines.specs.Plain.{IsHexDigit, IsInsideThen, IsUnicodeEscapeAt, SaysTo}

-- ---- what is said one behind the other

prepend-nil : (rest : Option (List ℕ)) → prepend [] rest ≡ rest
prepend-nil None = refl
prepend-nil (Some s) = refl

prepend-both : (xs ys : List ℕ) (rest : Option (List ℕ)) → prepend (xs ++ ys) rest ≡ prepend xs (prepend ys rest)
prepend-both xs ys None = refl
prepend-both xs ys (Some s) = ap Some (append_assoc xs ys s)

-- ---- plain bytes

-- a plain byte is no quote, no backslash and no control byte
plain_byte : (x : ℕ) → is_plain x ≡ true → ((x == 34) ≡ false) × ((x == 92) ≡ false) × (nat_lt x 32 ≡ false)
plain_byte x is =
    let none = or_parts ((x == 34) || (x == 92)) (nat_lt x 32) (not-true _ is) in
    let marks = or_parts (x == 34) (x == 92) none.0 in
    (marks.0, marks.1, none.1)

content-plain : (x : ℕ) (xs : List ℕ) → is_plain x ≡ true → content plain (x ∷ xs) ≡ prepend (x ∷ []) (content plain xs)
unfolding content
content-plain x xs is =
    let no = plain_byte x is in
    λ i. cond (no.0 i) (Some []) (cond (no.1 i) (content after_backslash xs) (cond (no.2 i) None (prepend (x ∷ []) (content plain xs))))

lex-other : (a b : Bool) (x : ℕ) (xs : List ℕ) → lex_byte in_string (cond a operator (cond b space other)) x xs (λ next. lex next xs) ≡ lex in_string xs
lex-other true b x xs = refl
lex-other false true x xs = refl
lex-other false false x xs = refl

lex-plain : (x : ℕ) (xs : List ℕ) → is_plain x ≡ true → lex in_string (x ∷ xs) ≡ lex in_string xs
unfolding lex
lex-plain x xs is =
    let no = plain_byte x is in
    (λ i. lex_byte in_string (cond (no.0 i) quote (cond (no.1 i) backslash (cond (is_operator x) operator (cond (is_space x) space other)))) x xs (λ next. lex next xs))
    ∙ lex-other (is_operator x) (is_space x) x xs

-- so many bytes say themselves, and are passed over
abbrev IsSpoken : List ℕ → ℕ → Type 0
IsSpoken xs n = (content plain xs ≡ prepend (take n xs) (content plain (drop n xs))) × (lex in_string xs ≡ lex in_string (drop n xs))

spoken_more : (p : Bool) (x n : ℕ) (xs : List ℕ) → is_plain x ≡ p → IsSpoken xs n → IsSpoken (x ∷ xs) (cond p (1 + n) 0)
spoken_more false x n xs is rest = (sym (prepend-nil _), refl)
spoken_more true x n xs is rest =
    let next : suc n ≡ 1 + n = omega arith in
    subst (IsSpoken (x ∷ xs)) next (
      content-plain x xs is ∙ ap (prepend (x ∷ [])) rest.0 ∙ sym (prepend-both (x ∷ []) (take n xs) _),
      lex-plain x xs is ∙ rest.1,
    )

spoken_run : (xs : List ℕ) → IsSpoken xs (prefix_len is_plain xs)
spoken_run [] = (sym (prepend-nil _), refl)
spoken_run (x ∷ xs) = spoken_more (is_plain x) x (prefix_len is_plain xs) xs refl (spoken_run xs)

-- ---- where a text goes on

-- a backslash and the byte behind it are passed over
lex-backslash : (x : ℕ) (xs : List ℕ) → lex in_string (92 ∷ x ∷ xs) ≡ lex in_string xs
unfolding lex
lex-backslash x xs = refl

lex-quote : (xs : List ℕ) → lex in_string (34 ∷ xs) ≡ lex between xs
unfolding lex
lex-quote xs = refl

-- ---- what an escape says

u_is_no_letter : short_escape 117 ≡ None
unfolding short_escape
u_is_no_letter = refl

escape_said : (x byte : ℕ) (xs : List ℕ) → short_escape x ≡ Some byte → content plain (92 ∷ x ∷ xs) ≡ prepend (byte ∷ []) (content plain xs)
unfolding content
escape_said x byte xs short =
    let not_u : x ≡ 117 → ⊥ = λ e. grind (arith, u_is_no_letter, ap short_escape e, short) in
    λ i. cond (ne_eqb x 117 not_u i) (content after_u xs) (option_and_then (λ c. prepend (c ∷ []) (content plain xs)) (short i))

-- ---- from place to place

pub says_nothing : (line : List ℕ) (place : ℕ) → SaysTo line place [] place
says_nothing line place = record { said = sym (prepend-nil _); passed = refl }

-- one after the other
pub says_more : (line x y : List ℕ) (a b c : ℕ) → SaysTo line a x b → SaysTo line b y c → SaysTo line a (x ++ y) c
says_more line x y a b c first second = record {
  said = first.said ∙ ap (prepend x) second.said ∙ sym (prepend-both x y _);
  passed = first.passed ∙ second.passed;
}

-- plain bytes say themselves
pub says_run : (line : List ℕ) (place stop : ℕ) → stop ≡ place + prefix_len is_plain (drop place line) → SaysTo line place (take (stop - place) (drop place line)) stop
says_run line place stop is = record {
  said = spoken.0 ∙ ap (λ l. prepend (take (stop - place) (drop place line)) (content plain l)) there;
  passed = spoken.1 ∙ ap (lex in_string) there;
}
  where
    count : prefix_len is_plain (drop place line) ≡ stop - place
    count = omega (arith, is)

    spoken : IsSpoken (drop place line) (stop - place)
    spoken = subst (IsSpoken (drop place line)) count (spoken_run (drop place line))

    there : drop (stop - place) (drop place line) ≡ drop stop line
    there = drop-drop (stop - place) place line ∙ ap (λ k. drop k line) (omega (arith, is))

-- ---- escapes by a number

after_u-is : (p q r s : ℕ) (rest : List ℕ) (unit : ℕ) → code_unit p q r s ≡ Some unit → is_high_surrogate unit ≡ false → is_low_surrogate unit ≡ false
    → content after_u (p ∷ q ∷ r ∷ s ∷ rest) ≡ prepend (encode_utf8 unit) (content plain rest)
unfolding content
after_u-is p q r s rest unit is no_high no_low =
    ap (option_and_then (λ u. cond (is_high_surrogate u) (content (after_high u) rest) (cond (is_low_surrogate u) None (prepend (encode_utf8 u) (content plain rest))))) is
    ∙ (λ i. cond (no_high i) (content (after_high unit) rest) (cond (no_low i) None (prepend (encode_utf8 unit) (content plain rest))))

unit_of : (p q r s a b c d : ℕ) → IsHexDigit p a → IsHexDigit q b → IsHexDigit r c → IsHexDigit s d → code_unit p q r s ≡ Some (a * 4096 + b * 256 + c * 16 + d)
unfolding code_unit
unit_of p q r s a b c d x y z w = rw (← x.is, ← y.is, ← z.is, ← w.is) (rw (lt-ltb a 16 x.small, lt-ltb b 16 y.small, lt-ltb c 16 z.small, lt-ltb d 16 w.small) refl)

no_half : (unit : ℕ) → InScalarRange unit → (is_high_surrogate unit ≡ false) × (is_low_surrogate unit ≡ false)
no_half unit (inl low) = (grind (arith, nat_tests), grind (arith, nat_tests))
no_half unit (inr high) = (grind (arith, nat_tests), grind (arith, nat_tests))

four : (bytes : List ℕ) (place : ℕ) → place + 4 ≤ length bytes → drop place bytes ≡ get_or bytes place 0 ∷ get_or bytes (place + 1) 0 ∷ get_or bytes (place + 2) 0 ∷ get_or bytes (place + 3) 0 ∷ drop (place + 4) bytes
four bytes place within =
    let one : (at next : ℕ) → next ≡ at + 1 → at < length bytes → drop at bytes ≡ get_or bytes at 0 ∷ drop next bytes = λ at next e inside. drop_more bytes at 0 inside ∙ ap (λ k. get_or bytes at 0 ∷ drop k bytes) (sym e) in
    one place (place + 1) refl (omega arith)
    ∙ ap (λ l. get_or bytes place 0 ∷ l) (one (place + 1) (place + 2) (omega arith) (omega arith)
    ∙ ap (λ l. get_or bytes (place + 1) 0 ∷ l) (one (place + 2) (place + 3) (omega arith) (omega arith)
    ∙ ap (λ l. get_or bytes (place + 2) 0 ∷ l) (one (place + 3) (place + 4) (omega arith) (omega arith))))

-- four digits say the character of their number, where there is one
pub unicode_escape_by : (bytes : List ℕ) (place a b c d : ℕ) (found : Option ℕ) → place + 4 ≤ length bytes
    → IsHexDigit (get_or bytes place 0) a → IsHexDigit (get_or bytes (place + 1) 0) b → IsHexDigit (get_or bytes (place + 2) 0) c → IsHexDigit (get_or bytes (place + 3) 0) d
    → SomeIff found (IsScalar (a * 4096 + b * 256 + c * 16 + d)) (a * 4096 + b * 256 + c * 16 + d) → MatchOption found (OutOfScalarRange (a * 4096 + b * 256 + c * 16 + d)) (λ _. InScalarRange (a * 4096 + b * 256 + c * 16 + d))
    → IfSome found (IsUnicodeEscapeAt bytes place)
unicode_escape_by bytes place a b c d None within x y z w is range = tt
unicode_escape_by bytes place a b c d (Some unit) within x y z w is range =
    let rest = drop (place + 4) bytes in
    let half = no_half _ range in
    let there = four bytes place within in
    record {
      said = ap (content after_u) there ∙ after_u-is _ _ _ _ rest _ (unit_of _ _ _ _ a b c d x y z w) half.0 half.1 ∙ ap (λ u. prepend (encode_utf8 u) (content plain rest)) (sym is.1);
      passed = ap (lex in_string) there ∙ lex-plain _ _ x.plain ∙ lex-plain _ _ y.plain ∙ lex-plain _ _ z.plain ∙ lex-plain _ _ w.plain;
      within = within;
    }

-- ---- escapes where they stand

ascii_alone : (byte : ℕ) → byte < 128 → encode_utf8 byte ≡ byte ∷ []
unfolding encode_utf8
ascii_alone byte small = grind (arith, nat_tests)

pub says_letter : (line bytes : List ℕ) (place byte : ℕ) → bytes ≡ line → drop place line ≡ 92 ∷ drop (place + 1) line → place + 1 < length bytes → Some byte ≡ short_escape (get_or bytes (place + 1) 0) → byte < 128
    → SaysTo line place (encode_utf8 byte) (place + 2)
says_letter line bytes place byte same stands within short small =
    let next : place + 1 + 1 ≡ place + 2 = omega arith in
    let letter = get_or line (place + 1) 0 in
    let rest = drop (place + 2) line in
    let meant : short_escape letter ≡ Some byte = ap (λ l. short_escape (get_or l (place + 1) 0)) (sym same) ∙ sym short in
    let inside : place + 1 < length line = omega (arith, ap length same) in
    let there : drop place line ≡ 92 ∷ letter ∷ rest = stands ∙ ap (λ l. 92 ∷ l) (drop_more line (place + 1) 0 inside ∙ ap (λ k. letter ∷ drop k line) next) in
    record {
      said = ap (content plain) there ∙ escape_said letter byte rest meant ∙ ap (λ s. prepend s (content plain rest)) (sym (ascii_alone byte small));
      passed = ap (lex in_string) there ∙ lex-backslash letter rest;
    }

content-u : (xs : List ℕ) → content plain (92 ∷ 117 ∷ xs) ≡ content after_u xs
unfolding content
content-u xs = refl

pub says_number : (line bytes : List ℕ) (place character : ℕ) → bytes ≡ line → drop place line ≡ 92 ∷ drop (place + 1) line → place + 1 < length bytes → get_or bytes (place + 1) 0 ≡ 117 → IsUnicodeEscapeAt bytes (place + 2) character
    → SaysTo line place (encode_utf8 character) (place + 6)
says_number line bytes place character same stands within u numbered =
    let next : place + 1 + 1 ≡ place + 2 = omega arith in
    let behind : place + 2 + 4 ≡ place + 6 = omega arith in
    let rest = drop (place + 2) line in
    let inside : place + 1 < length line = omega (arith, ap length same) in
    let letter : get_or line (place + 1) 0 ≡ 117 = ap (λ l. get_or l (place + 1) 0) (sym same) ∙ u in
    let there : drop place line ≡ 92 ∷ 117 ∷ rest = stands ∙ ap (λ l. 92 ∷ l) (drop_more line (place + 1) 0 inside ∙ ap₂ (λ x k. x ∷ drop k line) letter next) in
    let in_line = subst (λ l. IsUnicodeEscapeAt l (place + 2) character) same numbered in
    record {
      said = ap (content plain) there ∙ content-u rest ∙ in_line.said ∙ ap (λ k. prepend (encode_utf8 character) (content plain (drop k line))) behind;
      passed = ap (lex in_string) there ∙ lex-backslash 117 rest ∙ in_line.passed ∙ ap (λ k. lex in_string (drop k line)) behind;
    }

-- what is put behind what was put, as the code cuts it out of the bytes
pub says_put : (line bytes room more : List ℕ) (start place stop len after : ℕ) → bytes ≡ line → SaysTo line start (take len room) place → stop ≡ place + prefix_len is_plain (drop place bytes)
    → take after more ≡ take len room ++ take (stop - place) (drop place bytes) → SaysTo line start (take after more) stop
says_put line bytes room more start place stop len after same before is put =
    let run : stop ≡ place + prefix_len is_plain (drop place line) = is ∙ ap (λ l. place + prefix_len is_plain (drop place l)) same in
    let both : take after more ≡ take len room ++ take (stop - place) (drop place line) = put ∙ ap (λ l. take len room ++ take (stop - place) (drop place l)) same in
    subst (λ x. SaysTo line start x stop) (sym both) (says_more line _ _ start place stop before (says_run line place stop run))

content-quote : (xs : List ℕ) → content plain (34 ∷ xs) ≡ Some []
unfolding content
content-quote xs = refl

-- up to the quote
pub says_all : (line found : List ℕ) (start stop : ℕ) → SaysTo line start found stop → stop < length line → drop stop line ≡ 34 ∷ drop (stop + 1) line → IsInsideThen (drop start line) found (drop (stop + 1) line)
says_all line found start stop says within closes = record {
  said = says.said ∙ ap (prepend found) (ap (content plain) closes ∙ content-quote (drop (stop + 1) line)) ∙ ap Some (append-nil found);
  passed = says.passed ∙ ap (lex in_string) closes ∙ lex-quote (drop (stop + 1) line);
}
