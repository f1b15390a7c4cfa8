-- How the line is put.
use Rattle.std.specs.Prelude.{◌≡◌, ℕ, List, [], ◌∷◌, ◌++◌, codes, decimal, Result, OnOk}
use Rattle.std.specs.declared.vec.Vec.{Vec}
use Rattle.std.specs.declared.alloc.AllocError.{AllocError}
use Rattle.serde_json.specs.Written.{number_text}
use Rattle.json.specs.Token.{Token, begin_object, end_object, key, string, number, boolean}
use Rattle.json.specs.Written.{Written}
use Rattle.bh_in_force.specs.PropertiesLine.{queue_number}
use Rattle.bh_in_force.specs.declared.writing.Member.{Member}
use Rattle.bh_in_force.specs.declared.writing.Member.TheVariants as members

-- what stood there stays; where all went well, the text stands behind it
pub record PutsObject {A : Type 0} (result : Result (Unit {0}) AllocError) (old new : Vec ℕ A) (text : List ℕ) : Type 0 where
  pub kept : (more : List ℕ) × (new.items ≡ old.items ++ more)
  pub items : OnOk result (new.items ≡ old.items ++ text)

-- what stood before the tokens stays; where all went well, these tokens were sent behind those sent before
pub record Sends (result : Result (Unit {0}) AllocError) (old new : Written) (sent : List Token) : Type 0 where
  pub before : new.before ≡ old.before
  pub tokens : OnOk result (new.tokens ≡ old.tokens ++ sent)

-- the tokens of members, in their order
abbrev pub member_tokens : List Member → List Token
member_tokens [] = []
member_tokens (members.Number name n ∷ rest) = key name.now ∷ number (decimal n) ∷ member_tokens rest
member_tokens (members.Truth name truth ∷ rest) = key name.now ∷ boolean truth ∷ member_tokens rest
member_tokens (members.Word name word ∷ rest) = key name.now ∷ string word.now ∷ member_tokens rest
member_tokens (members.Size name size ∷ rest) = key name.now ∷ number (number_text (queue_number size)) ∷ member_tokens rest

-- the same between the brackets of their object
abbrev pub inner_tokens : List Member → List Token
inner_tokens ms = begin_object ∷ (member_tokens ms ++ end_object ∷ [])

-- the tokens of the object that tells the properties
abbrev pub object_tokens : List Member → List Token
object_tokens ms = begin_object ∷ key (codes "properties") ∷ (inner_tokens ms ++ key (codes "reply") ∷ string (codes "properties") ∷ end_object ∷ [])
