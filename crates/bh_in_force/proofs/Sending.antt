-- What is printed of the tokens that were sent.
use Rattle.std.proofs.Common.{◌≡◌, ◌+◌, ◌<◌, ℕ, false, true, List, [], ◌∷◌, ◌++◌, length, refl, ap, ap₂, ◌∙◌, sym, subst, Result, Ok, Err, IsErr, IsOk, OnOk, append_assoc, append-nil, drop, get_or}
use Rattle.std.specs.declared.vec.Vec.{Vec}
use Rattle.std.specs.declared.alloc.AllocError.{AllocError}
use Rattle.std.proofs.lemmas.List.{drop_more}
use Rattle.json.specs.Token.{Token}
use Rattle.json.specs.Print.{print}
use Rattle.json.specs.Written.{Written, Writes}
use Rattle.bh_in_force.specs.declared.writing.Member.{Member}
use Rattle.bh_in_force.specs.declared.writing.Member.TheVariants as members
use Rattle.bh_in_force.specs.Sent.{PutsObject, Sends, member_tokens}

-- what was sent first, and then perhaps the rest
pub sent-first : (x : Unit {0}) (r : Result (Unit {0}) AllocError) (a b c : Written) (first rest : List Token) → Sends (Ok x) a b first → Sends r b c rest → Sends r a c (first ++ rest)
sent-first x (Ok y) a b c first rest one other = record {
  before = other.before ∙ one.before;
  tokens = other.tokens ∙ ap (λ ts. ts ++ rest) one.tokens ∙ append_assoc a.tokens first rest;
}
sent-first x (Err e) a b c first rest one other = record { before = other.before ∙ one.before; tokens = tt }

-- what was to be sent first could not be
pub sent-none : (e : AllocError) (r : Result (Unit {0}) AllocError) (a b : Written) (first all : List Token) → Sends (Err e) a b first → IsErr r → Sends r a b all
sent-none e (Ok x) a b first all one failed = let none : false ≡ true = failed in cc
sent-none e (Err d) a b first all one failed = record { before = one.before; tokens = tt }

-- nothing was sent yet of no tokens
pub sent-nothing : (x : Unit {0}) (a : Written) → Sends (Ok x) a a []
sent-nothing x a = record { before = refl; tokens = sym (append-nil a.tokens) }

-- one token was sent, or there was no room for it
pub sent-one : (r : Result (Unit {0}) AllocError) (a b : Written) (t : Token) → Writes r a b t → Sends r a b (t ∷ [])
sent-one (Ok x) a b t one = record { before = one.room.0; tokens = one.ok }
sent-one (Err e) a b t one = record { before = one.room.0; tokens = tt }

-- what becomes of the rest becomes of the whole
abbrev pub Leaves : Written → Written → List Token → List Token → Type 0
Leaves start now rest whole = (r : Result (Unit {0}) AllocError) (end : Written) → Sends r now end rest → Sends r start end whole

-- the next of what was left was sent
pub next-sent : (x : Unit {0}) (start now next : Written) (left one rest whole : List Token) → Leaves start now left whole → left ≡ one ++ rest → Sends (Ok x) now next one → Leaves start next rest whole
next-sent x start now next left one rest whole leaves split sent = λ r end more. leaves r end (rw split (sent-first x r now next end one rest sent more))

-- the next of what was left could not be sent
pub next-not_sent : (e : AllocError) (r : Result (Unit {0}) AllocError) (start now next : Written) (left one whole : List Token) → Leaves start now left whole → Sends (Err e) now next one → IsErr r → Sends r start next whole
next-not_sent e r start now next left one whole leaves sent failed = leaves r next (sent-none e r now next one left sent failed)

members-more : (m : Member) (ms : List Member) → member_tokens (m ∷ ms) ≡ member_tokens (m ∷ []) ++ member_tokens ms
members-more (members.Number name n) ms = refl
members-more (members.Truth name truth) ms = refl
members-more (members.Word name word) ms = refl
members-more (members.Size name size) ms = refl

-- a member is sent before those behind it
pub members-left : (ms : List Member) (i : ℕ) (d : Member) → i < length ms → member_tokens (drop i ms) ≡ member_tokens (get_or ms i d ∷ []) ++ member_tokens (drop (i + 1) ms)
members-left ms i d inside = ap member_tokens (drop_more ms i d inside) ∙ members-more (get_or ms i d) (drop (i + 1) ms)

-- as the code takes the bytes back from the writer
pub object-sent : {A : Type 0} (r : Result (Unit {0}) AllocError) (made sent : Written) (old new : Vec ℕ A) (tokens : List Token)
    → Sends r made sent tokens → made.before ≡ old.items → made.tokens ≡ [] → new.items ≡ sent.before ++ print sent.tokens → PutsObject r old new (print tokens)
object-sent (Ok x) made sent old new tokens h before none is =
    let all : sent.tokens ≡ tokens = h.tokens ∙ ap (λ ts. ts ++ tokens) none in
    let items : new.items ≡ old.items ++ print tokens = is ∙ ap₂ (λ bs ts. bs ++ print ts) (h.before ∙ before) all in
    record { kept = (print tokens, items); items = items }
object-sent (Err e) made sent old new tokens h before none is = record { kept = (print sent.tokens, is ∙ ap (λ bs. bs ++ print sent.tokens) (h.before ∙ before)); items = tt }

-- the same object by another definition of its text
pub object-same : {A : Type 0} (r : Result (Unit {0}) AllocError) (a b : Vec ℕ A) (text same : List ℕ) → PutsObject r a b text → text ≡ same → PutsObject r a b same
object-same r a b text same put is = subst (λ t. PutsObject r a b t) is put

-- as the code ends the line
pub line-put : {A : Type 0} (ended put : Result (Unit {0}) AllocError) (a b c : Vec ℕ A) (text line : List ℕ) → PutsObject put a b text
    → OnOk ended (c.items ≡ b.items ++ 10 ∷ []) → OnOk ended (IsOk put) → text ++ 10 ∷ [] ≡ line → OnOk ended (c.items ≡ a.items ++ line)
line-put (Ok y) (Ok x) a b c text line one new ok is = new ∙ ap (λ bs. bs ++ 10 ∷ []) one.items ∙ append_assoc a.items text (10 ∷ []) ∙ ap (λ bs. a.items ++ bs) is
line-put (Ok y) (Err e) a b c text line one new ok is = let none : false ≡ true = ok in cc
line-put (Err e) put a b c text line one new ok is = tt
