-- The data of an object whose members hold no others.
use Rattle.std.specs.Prelude.{◌≡◌, ℕ, zero, suc, ◌-◌, ◌≤◌, List, [], ◌∷◌, length, Bool, true, false, ◌&&◌, Option, None, Some}
use Rattle.json.specs.Token.{Token}
use Rattle.json.specs.Json as json
use Rattle.serde_json.specs.Data.{Num, unsigned, negative, float, Data, null, boolean, number, string, object, Members, no_members, put}
use Rattle.serde_json.specs.Read.{number_of, of_json, of_members}
use Rattle.serde_json.specs.View.{view}
use Rattle.bh_lines.specs.declared.flat.Scalar.{Scalar}
use Rattle.bh_lines.specs.declared.flat.Scalar.TheVariants as scalars
use Rattle.bh_lines.specs.declared.flat.FlatMember.{FlatMember}
use Rattle.bh_lines.specs.declared.members.Members.{Members as Looked}
use Rattle.bh_lines.specs.declared.members.Members.TheVariants as looked

-- the data of a value that holds no others
abbrev pub scalar_data : Scalar → Data
scalar_data scalars.Null = null
scalar_data (scalars.Truth b) = boolean b
scalar_data (scalars.Number n) = number (unsigned n)
scalar_data (scalars.Text s) = string s.now

-- the members go in one after another, so the last value of a name stays
abbrev pub put_all : List FlatMember → Members → Members
put_all [] found = found
put_all (m ∷ ms) found = put_all ms (put m.name.now (scalar_data m.value) found)

-- the data of the object with these members
abbrev pub flat_data : List FlatMember → Data
flat_data ms = object (put_all ms no_members)

-- a number that is whole and of 64 bits
abbrev pub is_whole : Option Num → Bool
is_whole None = false
is_whole (Some (unsigned n)) = true
is_whole (Some (negative z)) = false
is_whole (Some (float x)) = false

-- a token that is a value which holds no others; a number is to be whole and of 64 bits
abbrev pub is_scalar : Token → Bool
is_scalar Token.begin_object = false
is_scalar Token.end_object = false
is_scalar Token.begin_array = false
is_scalar Token.end_array = false
is_scalar (Token.key s) = false
is_scalar (Token.string s) = true
is_scalar (Token.number s) = is_whole (number_of s)
is_scalar (Token.boolean b) = true
is_scalar Token.null = true
is_scalar Token.bad = false

-- a scalar comes first, and the test holds of what follows
abbrev pub is_scalar_then : (List Token → Bool) → List Token → Bool
is_scalar_then rest [] = false
is_scalar_then rest (t ∷ ts) = is_scalar t && rest ts

-- no token is left
abbrev pub is_over : List Token → Bool
is_over [] = true
is_over (t ∷ ts) = false

-- the last bracket, or a key and what the test holds of
abbrev pub is_key_then : (List Token → Bool) → Option (Option (List ℕ) × List Token) → Bool
is_key_then rest None = false
is_key_then rest (Some (None, ts)) = is_over ts
is_key_then rest (Some (Some k, ts)) = rest ts

-- the tokens are members, each a scalar and no more than so many, and the bracket that closes their object
unfoldable pub are_members : ℕ → List Token → Bool
are_members zero ts = is_key_then (λ rest. false) (json.read_key ts)
are_members (suc n) ts = is_key_then (is_scalar_then (are_members n)) (json.read_key ts)

-- the tokens are one object of at most eight members, each a scalar
abbrev pub is_flat : List Token → Bool
is_flat [] = false
is_flat (Token.begin_object ∷ ts) = are_members 8 ts
is_flat (Token.end_object ∷ ts) = false
is_flat (Token.begin_array ∷ ts) = false
is_flat (Token.end_array ∷ ts) = false
is_flat (Token.key s ∷ ts) = false
is_flat (Token.string s ∷ ts) = false
is_flat (Token.number s ∷ ts) = false
is_flat (Token.boolean b ∷ ts) = false
is_flat (Token.null ∷ ts) = false
is_flat (Token.bad ∷ ts) = false

-- the tokens begin with a value that is the scalar, and `new` follows
abbrev pub ReadsScalar : Scalar → List Token → List Token → Type 0
ReadsScalar s old new = (j : json.Json) × ((depth : ℕ) → json.value depth old ≡ Some (j, new)) × (of_json j ≡ Some (scalar_data s))

-- the tokens begin with the members and the bracket that closes their object, which stands by itself, and `new` follows
abbrev pub ReadsMembers : List FlatMember → List Token → List Token → Type 0
ReadsMembers found old new =
    (ms : json.Members) × (json.members (json.value 126) (length old) old ≡ Some (ms, new)) × (of_members ms no_members ≡ Some (put_all found no_members))

-- of an object whose members begin at `first` these have been read, and `left` is left: whatever is read of that, all members
-- are these and what was read
pub record IsBegun (first : List Token) (found : List FlatMember) (left : List Token) : Type 0 where
  pub turns : ℕ
  pub enough : length left ≤ turns
  pub reads : (rest : json.Members) (after : List Token) → json.members (json.value 126) turns left ≡ Some (rest, after)
      → (ms : json.Members) × (json.members (json.value 126) (length first) first ≡ Some (ms, after)) × (of_members ms no_members ≡ of_members rest (put_all found no_members))
  pub few : length found ≤ 8
  pub flat : are_members 8 first ≡ are_members (8 - length found) left

-- what is looked into
abbrev pub members_data : Looked → Data
members_data (looked.Flat o) = flat_data o.now.members.items
members_data (looked.Tree v) = view v.now
