-- What is printed of the tokens that were sent.
use Rattle.std.proofs.Common.{◌≡◌, ◌+◌, ◌-◌, ◌<◌, ◌≤◌, ℕ, ◌&&◌, true, false, Bool, cond, List, [], ◌∷◌, ◌++◌, length, refl, ap, ap₂, ◌∙◌, arith, Result, Ok, Err, IsErr, append_assoc, append-nil, length-append, drop, get_or, sym, vec_len, vec_capacity}
use Rattle.std.specs.declared.vec.Vec.{Vec}
use Rattle.std.specs.declared.alloc.AllocError.{AllocError}
use Rattle.std.proofs.lemmas.List.{drop_more}
use Rattle.json.specs.Token.{Token}
use Rattle.json.specs.Tree.{room}
use Rattle.json.specs.Print.{print, print_from, separator, begins, ends, token_text}
use Rattle.json.specs.Written.{Written, Writes}
use Rattle.json.proofs.Printed.Trees.{room-append}
use Rattle.bh_replies.specs.declared.writing.Member.{Member}
use Rattle.bh_replies.specs.declared.writing.Member.TheVariants as members
use Rattle.bh_replies.specs.Puts.{PutsObject}
use Rattle.bh_replies.specs.Sent.{Sends, member_tokens}

-- what was sent first, and then perhaps the rest
pub sent-first : (x : Unit {0}) (r : Result (Unit {0}) AllocError) (a b c : Written) (first rest : List Token) → Sends (Ok x) a b first → Sends r b c rest → Sends r a c (first ++ rest)
sent-first x (Ok y) a b c first rest one other = record {
  before = other.before ∙ one.before;
  tokens = other.tokens ∙ ap (λ ts. ts ++ rest) one.tokens ∙ append_assoc a.tokens first rest;
  spare = omega (arith, one.spare, other.spare, room-append first rest);
  full = tt;
}
sent-first x (Err e) a b c first rest one other = record {
  before = other.before ∙ one.before;
  tokens = tt;
  spare = tt;
  full = omega (arith, one.spare, other.full, room-append first rest);
}

-- what was to be sent first could not be
pub sent-none : (e : AllocError) (r : Result (Unit {0}) AllocError) (a b : Written) (first rest : List Token) → Sends (Err e) a b first → IsErr r → Sends r a b (first ++ rest)
sent-none e (Ok x) a b first rest one failed = let none : false ≡ true = failed in cc
sent-none e (Err d) a b first rest one failed = record { before = one.before; tokens = tt; spare = tt; full = omega (arith, one.full, room-append first rest) }

-- nothing was sent yet of no tokens
pub sent-nothing : (x : Unit {0}) (a : Written) → Sends (Ok x) a a []
sent-nothing x a = record { before = refl; tokens = sym (append-nil a.tokens); spare = omega arith; full = tt }

-- what becomes of the rest becomes of the whole
abbrev pub Leaves : Written → Written → List Token → List Token → Type 0
Leaves start now rest whole = (r : Result (Unit {0}) AllocError) (end : Written) → Sends r now end rest → Sends r start end whole

-- the next of what was left was sent
pub next-sent : (x : Unit {0}) (start now next : Written) (left one rest whole : List Token) → Leaves start now left whole → left ≡ one ++ rest → Sends (Ok x) now next one → Leaves start next rest whole
next-sent x start now next left one rest whole leaves split sent = λ r end more. leaves r end (rw split (sent-first x r now next end one rest sent more))

-- the next of what was left could not be sent
pub next-not_sent : (e : AllocError) (r : Result (Unit {0}) AllocError) (start now next : Written) (left one rest whole : List Token) → Leaves start now left whole → left ≡ one ++ rest → Sends (Err e) now next one → IsErr r → Sends r start next whole
next-not_sent e r start now next left one rest whole leaves split sent failed = leaves r next (rw split (sent-none e r now next one rest sent failed))

members-more : (m : Member) (ms : List Member) → member_tokens (m ∷ ms) ≡ member_tokens (m ∷ []) ++ member_tokens ms
members-more (members.Text name text) ms = refl
members-more (members.Number name n) ms = refl

-- a member is sent before those behind it
pub members-left : (ms : List Member) (i : ℕ) (d : Member) → i < length ms → member_tokens (drop i ms) ≡ member_tokens (get_or ms i d ∷ []) ++ member_tokens (drop (i + 1) ms)
members-left ms i d inside = ap member_tokens (drop_more ms i d inside) ∙ members-more (get_or ms i d) (drop (i + 1) ms)

-- one token was sent, or there was no room for it
pub sent-one : (r : Result (Unit {0}) AllocError) (a b : Written) (t : Token) → Writes r a b t → Sends r a b (t ∷ [])
sent-one (Ok x) a b t one = record { before = one.room.0; tokens = one.ok; spare = omega (arith, one.room.1); full = tt }
sent-one (Err e) a b t one = record { before = one.room.0; tokens = tt; spare = tt; full = omega (arith, one.room.1) }

length-comma : (b : Bool) → length {A = ℕ} (cond b (44 ∷ []) []) ≤ 1
length-comma true = omega arith
length-comma false = omega arith

-- what is printed of tokens fits into their room
length-print : (after : Bool) (ts : List Token) → length (print_from after ts) ≤ room ts
unfolding print_from
length-print after [] = omega arith
length-print after (t ∷ ts) =
    omega (arith, length-append (separator after t) (token_text t ++ print_from (ends t) ts), length-append (token_text t) (print_from (ends t) ts), length-comma (after && begins t), length-print (ends t) ts)

-- as the code takes the bytes back from the writer
pub object-sent : {A : Type 0} (r : Result (Unit {0}) AllocError) (made sent : Written) (old new : Vec ℕ A) (tokens : List Token)
    → Sends r made sent tokens → made.before ≡ old.items → made.tokens ≡ [] → made.spare ≡ vec_capacity old - vec_len old
    → new.items ≡ sent.before ++ print sent.tokens → PutsObject r old new (print tokens) (room tokens)
object-sent (Ok x) made sent old new tokens h before none spare is =
    let all : sent.tokens ≡ tokens = h.tokens ∙ ap (λ ts. ts ++ tokens) none in
    let items : new.items ≡ old.items ++ print tokens = is ∙ ap₂ (λ bs ts. bs ++ print ts) (h.before ∙ before) all in
    record { kept = (print tokens, items); items = items; size = length-print false tokens; full = tt }
object-sent (Err e) made sent old new tokens h before none spare is = record {
  kept = (print sent.tokens, is ∙ ap (λ bs. bs ++ print sent.tokens) (h.before ∙ before));
  items = tt;
  size = tt;
  full = omega (arith, spare, h.full);
}
