-- What stands in front of a text, and the tokens that it is.
use Rattle.std.specs.Prelude.{◌≡◌, ◌⊎◌, ℕ, ◌+◌, ◌-◌, ◌<◌, ◌≤◌, List, [], ◌∷◌, ◌++◌, length, drop, true, Some}
use Rattle.json.specs.Token.{Token}
use Rattle.json.specs.Word.{ends_word}
use Rattle.std.specs.Char.{digit_value, encode_utf8}
use Rattle.std.specs.Str.{IsCharBoundary}
use Rattle.json.specs.Run.{is_plain}
use Rattle.json.specs.Text.{after_u, content, plain, prepend}
use Rattle.json.specs.Lex.{Place, fresh, after_value, after_comma, may_begin, between, in_string, lex, punctuate, tokens}
use Rattle.json.specs.Lex as lexer
use Rattle.json.specs.Print.{IsNumber}
use Rattle.serde_json.specs.Data.{unsigned}
use Rattle.serde_json.specs.Read.{number_of}
use Rattle.bh_lines.specs.Flat.{are_members, is_scalar, ReadsMembers, ReadsScalar, IsBegun}
use Rattle.bh_lines.specs.declared.flat.Scalar.{Scalar}
use Rattle.bh_lines.specs.declared.flat.FlatMember.{FlatMember}
use Rattle.bh_lines.specs.declared.flat.FlatObject.{FlatObject}
use Rattle.bh_lines.specs.declared.plain.Follows.{Follows}
use Rattle.bh_lines.specs.declared.plain.Follows.TheVariants as follows

-- behind a space at most stands this sign, and `next` is the place behind it
pub record IsSignThen (line : List ℕ) (place : ℕ) (sign : ℕ) (next : ℕ) : Type 0 where
  pub same : lex between (drop place line) ≡ lex between (sign ∷ drop next line)
  pub word : ends_word (sign ∷ drop next line) ≡ true → ends_word (drop place line) ≡ true
  pub behind : 0 < next
  pub stands : drop (next - 1) line ≡ sign ∷ drop next line
  pub within : next ≤ length line

-- behind a space at most stands the first sign, and so does the second behind it; `next` is the place behind both
abbrev pub AreSignsThen : List ℕ → ℕ → ℕ → ℕ → ℕ → Type 0
AreSignsThen line place first second next = (behind : ℕ) × IsSignThen line place first behind × IsSignThen line behind second next

-- the inside of a text says this, up to its quote, and `rest` follows
pub record IsInsideThen (inside : List ℕ) (found : List ℕ) (rest : List ℕ) : Type 0 where
  pub said : content plain inside ≡ Some found
  pub passed : lex in_string inside ≡ lex between rest

-- from the place on the inside of a text says this up to `next`, and goes on there
pub record SaysTo (line : List ℕ) (place : ℕ) (found : List ℕ) (next : ℕ) : Type 0 where
  pub said : content plain (drop place line) ≡ prepend found (content plain (drop next line))
  pub passed : lex in_string (drop place line) ≡ lex in_string (drop next line)

-- the byte is a digit of this value, to the base of sixteen
pub record IsHexDigit (byte : ℕ) (value : ℕ) : Type 0 where
  pub is : value ≡ digit_value byte
  pub small : value < 16
  pub plain : is_plain byte ≡ true

-- behind a backslash and a `u` four digits at the place say this character
pub record IsUnicodeEscapeAt (bytes : List ℕ) (place : ℕ) (character : ℕ) : Type 0 where
  pub said : content after_u (drop place bytes) ≡ prepend (encode_utf8 character) (content plain (drop (place + 4) bytes))
  pub passed : lex in_string (drop place bytes) ≡ lex in_string (drop (place + 4) bytes)
  pub within : place + 4 ≤ length bytes

-- the text begins with a string of this content, and `rest` follows
abbrev pub IsTextThen : List ℕ → List ℕ → List ℕ → Type 0
IsTextThen text found rest = lex between text ≡ lexer.token (Token.string found) ∷ lex between rest

-- the text begins with a key of this name and its colon, and `rest` follows
abbrev pub IsKeyThen : List ℕ → List ℕ → List ℕ → Type 0
IsKeyThen text name rest = (p : Place) → may_begin p ≡ true → punctuate p (lex between text) ≡ Token.key name ∷ punctuate fresh (lex between rest)

-- the text begins with a number that is whole and of 64 bits, and `rest` follows
pub record IsNumberThen (text : List ℕ) (found : ℕ) (rest : List ℕ) : Type 0 where
  pub digits : List ℕ
  pub split : text ≡ digits ++ rest
  pub is_number : IsNumber digits
  pub is_found : number_of digits ≡ Some (unsigned found)

-- the text begins with a token that is this scalar, and `rest` follows, if a word ends there
pub record IsScalarThen (text : List ℕ) (found : Scalar) (rest : List ℕ) : Type 0 where
  pub token : Token
  pub scalar : is_scalar token ≡ true
  pub reads : (ts : List Token) → ReadsScalar found (token ∷ ts) ts
  pub lexed : ends_word rest ≡ true → lex between text ≡ lexer.token token ∷ lex between rest

-- of the members of the object that the line begins these have been read, and at the place another one may begin
abbrev pub IsAmid : List ℕ → List FlatMember → ℕ → Type 0
IsAmid line found place = (p : Place) × (may_begin p ≡ true) × IsBegun (punctuate fresh (lex between (drop 1 line))) found (punctuate p (lex between (drop place line)))

-- the same, and the name of that one begins at `start`, behind its quote
abbrev pub IsNamed : List ℕ → List FlatMember → ℕ → Type 0
IsNamed line found start = (place : ℕ) × IsAmid line found place × IsSignThen line place 34 start

-- these have been read, and the member stands in front of the place
abbrev pub IsMemberThen : List ℕ → List FlatMember → FlatMember → ℕ → Type 0
IsMemberThen line found member behind =
    (place : ℕ) × (value : List ℕ) × IsAmid line found place × IsKeyThen (drop place line) member.name.now value × IsScalarThen value member.value (drop behind line)

-- at the place stands what follows a member: a comma and the quote of a name, or the bracket that closes the object
abbrev pub IsFollowing : List ℕ → ℕ → Follows → Type 0
IsFollowing line place (follows.Member name) = AreSignsThen line place 44 34 name
IsFollowing line place (follows.End end) = IsSignThen line place 125 end

-- another member begins, or these are all of the object
abbrev pub GoesOn : List ℕ → List FlatMember → Follows → Type 0
GoesOn line found (follows.Member name) = IsNamed line found name
GoesOn line found (follows.End end) =
    drop end line ≡ [] → ReadsMembers found (punctuate fresh (lex between (drop 1 line))) [] × (are_members 8 (punctuate fresh (lex between (drop 1 line))) ≡ true)

-- one member more has been read
abbrev pub IsTaken : List ℕ → List FlatMember → List FlatMember → Follows → Type 0
IsTaken line before found next = (length found ≡ length before + 1) × (length found ≤ 8) × GoesOn line found next

-- the line begins an object with these members, and from the place on it goes on with others
pub record IsReadTo (line : List ℕ) (found : List FlatMember) (place : ℕ) : Type 0 where
  pub first : List Token
  pub opens : tokens line ≡ Token.begin_object ∷ first
  pub begun : IsBegun first found (tokens (drop place line))
  pub boundary : IsCharBoundary line place

-- the object is the front of the one that the line is, up to the place where the rest stands, or nothing was read of it
abbrev pub IsFrontOf : List ℕ → FlatObject → Type 0
IsFrontOf line object = (object.rest ≡ 0) ⊎ IsReadTo line object.members.items object.rest
