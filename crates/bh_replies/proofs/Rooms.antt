-- The room that objects with texts of any bytes take.
use Rattle.std.proofs.Common.{◌≡◌, ◌+◌, ◌*◌, ◌≤◌, ◌<◌, ◌^◌, ℕ, true, false, Bool, cond, List, [], ◌∷◌, ◌++◌, length, arith, length-append, subst, codes, Some, None, decimal, Result}
use Rattle.std.specs.declared.vec.Vec.{Vec}
use Rattle.std.specs.declared.alloc.AllocError.{AllocError}
use Rattle.std.proofs.lemmas.Fmt.{length-decimal-le}
use Rattle.json.specs.Token.{Token}
use Rattle.json.specs.Print.{escape_byte, escape, print}
use Rattle.json.specs.Tree.{json_tokens, room}
use Rattle.serde_json.specs.Data.{Data, object, no_members}
use Rattle.serde_json.specs.Written.{outline, compact_text}
use Rattle.serde_json.proofs.Texts.{print-outline}
use Rattle.bh_base.specs.declared.reply.Cause.{Cause}
use Rattle.bh_base.specs.declared.reply.Cause.TheVariants as cause
use Rattle.bh_replies.specs.Puts.{PutsObject}
use Rattle.bh_replies.specs.ReplyLine.{cause_word, text_member, assigned_data, value_data, fallback_value_data}
use Rattle.bh_replies.specs.FaultLine.{error_data}
use Rattle.bh_replies.specs.ToldLine.{registered_data}
use Rattle.bh_replies.proofs.Putting.{object-same}

length-escapes : (short hex : Bool) (letter high low x : ℕ) → length (cond short (92 ∷ letter ∷ []) (cond hex (92 ∷ 117 ∷ 48 ∷ 48 ∷ high ∷ low ∷ []) (x ∷ []))) ≤ 6
length-escapes true hex letter high low x = omega arith
length-escapes false true letter high low x = omega arith
length-escapes false false letter high low x = omega arith

length-escape_byte : (x : ℕ) → length (escape_byte x) ≤ 6
unfolding escape_byte
length-escape_byte x = length-escapes _ _ _ _ _ _

-- JSON writes at most six bytes for one
length-escape : (s : List ℕ) → length (escape s) ≤ 6 * length s
length-escape [] = omega arith
length-escape (x ∷ s) = omega (arith, length-append (escape_byte x) (escape s), length-escape_byte x, length-escape s)

-- with its quotes
length-quoted : (s : List ℕ) → length (escape s ++ 34 ∷ []) ≤ 6 * length s + 1
length-quoted s = omega (arith, length-append (escape s) (34 ∷ []), length-escape s)

cause-short : (c : Cause) → length (cause_word c) ≤ 20
cause-short cause.ShortCircuited = omega arith
cause-short cause.PoolRejected = omega arith
cause-short cause.SemaphoreRejected = omega arith
cause-short cause.Failure = omega arith
cause-short cause.Timeout = omega arith

-- a number of 64 bits has at most twenty digits
number-short : (n : ℕ) → n < 2 ^ 64 → length (decimal n) ≤ 20
number-short n small = length-decimal-le 20 n (omega arith) (omega arith) small

-- the room of the tokens of an object
abbrev pub data_room : Data → ℕ
data_room d = room (json_tokens (outline d))

pub error-room : (why : List ℕ) → data_room (error_data why) ≤ 100 + 6 * length why
unfolding escape_byte
error-room why = omega (arith, length-quoted why)

pub own_run-room : (ticket : ℕ) (arg : List ℕ) → ticket < 2 ^ 64 → data_room (assigned_data ticket None arg) ≤ 100 + 6 * length arg
unfolding escape_byte
own_run-room ticket arg small = omega (arith, length-quoted arg, number-short ticket small)

pub run-room : (ticket : ℕ) (name arg : List ℕ) → ticket < 2 ^ 64 → data_room (assigned_data ticket (Some name) arg) ≤ 100 + 6 * length arg + 6 * length name
unfolding escape_byte
run-room ticket name arg small = omega (arith, length-quoted arg, length-quoted name, number-short ticket small)

pub value-room : (body : List ℕ) → data_room (value_data body) ≤ 100 + 6 * length body
unfolding escape_byte
value-room body = omega (arith, length-quoted body)

fallback_value-room : (cause : Cause) (body : List ℕ) → data_room (fallback_value_data cause body) ≤ 200 + 6 * length body
unfolding escape_byte
fallback_value-room cause body = omega (arith, length-quoted body, length-quoted (cause_word cause), cause-short cause)

-- the object of a fallback's value, with the word of the cause as the code finds it
abbrev caused_tokens : List ℕ → List ℕ → List Token
caused_tokens body word =
    json_tokens (outline (object (text_member (codes "body") body (text_member (codes "cause") word (text_member (codes "reply") (codes "fallback-value") no_members)))))

pub fallback_value-sent : {A : Type 0} (r : Result (Unit {0}) AllocError) (a b : Vec ℕ A) (cause : Cause) (body word : List ℕ) → word ≡ cause_word cause
    → PutsObject r a b (print (caused_tokens body word)) (room (caused_tokens body word)) → PutsObject r a b (compact_text (fallback_value_data cause body)) (200 + 6 * length body)
fallback_value-sent r a b cause body word is put =
    object-same r a b _ _ _ _ (subst (λ w. PutsObject r a b (print (caused_tokens body w)) (room (caused_tokens body w))) is put) (print-outline (fallback_value_data cause body)) (fallback_value-room cause body)

pub registered-room : (name : List ℕ) → data_room (registered_data name) ≤ 100 + 6 * length name
unfolding escape_byte
registered-room name = omega (arith, length-quoted name)
