-- What is sent to a writer of JSON.
use Rattle.std.specs.Prelude.{◌≡◌, ◌+◌, ◌<◌, ◌≤◌, List, [], ◌∷◌, ◌++◌, decimal, Result, OnOk, OnErr}
use Rattle.std.specs.declared.alloc.AllocError.{AllocError}
use Rattle.json.specs.Token.{Token, begin_object, end_object, key, string, number}
use Rattle.json.specs.Tree.{room}
use Rattle.json.specs.Written.{Written}
use Rattle.bh_replies.specs.declared.writing.Member.{Member}
use Rattle.bh_replies.specs.declared.writing.Member.TheVariants as members

-- what stood before the tokens stays; where all went well, these tokens were sent behind those sent before, within the room
-- that they take; and it failed only where there was not that room
pub record Sends (result : Result (Unit {0}) AllocError) (old new : Written) (sent : List Token) : Type 0 where
  pub before : new.before ≡ old.before
  pub tokens : OnOk result (new.tokens ≡ old.tokens ++ sent)
  pub spare : OnOk result (old.spare ≤ new.spare + room sent)
  pub full : OnErr result (old.spare < room sent)

-- the tokens of members, in their order
abbrev pub member_tokens : List Member → List Token
member_tokens [] = []
member_tokens (members.Text name text ∷ rest) = key name.now ∷ string text.now ∷ member_tokens rest
member_tokens (members.Number name n ∷ rest) = key name.now ∷ number (decimal n) ∷ member_tokens rest

-- the same between the brackets of their object
abbrev pub object_tokens : List Member → List Token
object_tokens ms = begin_object ∷ (member_tokens ms ++ end_object ∷ [])
