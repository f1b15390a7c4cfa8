-- Pieces that are put behind bytes, one after the other.
use Rattle.std.proofs.Common.{◌≡◌, ◌+◌, ◌<◌, ◌≤◌, ℕ, true, false, List, [], ◌∷◌, ◌++◌, length, ap, ◌∙◌, sym, arith, Result, Ok, Err, IsOk, IsErr, OnOk, OnErr, is_ok, if◌then◌else◌, append_assoc, append-nil, length-append, vec_len, vec_capacity}
use Rattle.std.specs.declared.vec.Vec.{Vec}
use Rattle.std.specs.declared.alloc.AllocError.{AllocError}
use Rattle.bh_replies.specs.Puts.{Puts, PutsObject}

-- the piece was put, or there was no room for it
pub put-one : {A : Type 0} (r : Result (Unit {0}) AllocError) (a b : Vec ℕ A) (text : List ℕ)
    → b.items ≡ (if is_ok r then a.items ++ text else a.items) → vec_len b ≡ (if is_ok r then vec_len a + length text else vec_len a)
    → vec_capacity a ≤ vec_capacity b → OnErr r (vec_capacity a < vec_len a + length text) → Puts r a b text (length text)
put-one (Ok x) a b text items len capacity full = record {
  kept = (text, items);
  items = items;
  size = omega arith;
  spare = omega (arith, len, capacity);
  full = tt;
}
put-one (Err e) a b text items len capacity full = record { kept = ([], items ∙ sym (append-nil a.items)); items = tt; size = tt; spare = tt; full = full }

-- a first piece was put, and then perhaps the rest
pub put-first : {A : Type 0} (x : Unit {0}) (r : Result (Unit {0}) AllocError) (a b c : Vec ℕ A) (first rest : List ℕ) (m n : ℕ)
    → Puts (Ok x) a b first m → Puts r b c rest n → Puts r a c (first ++ rest) (m + n)
put-first x (Ok y) a b c first rest m n one other =
    let both = other.items ∙ ap (λ bs. bs ++ rest) one.items ∙ append_assoc a.items first rest in
    record {
      kept = (first ++ rest, both);
      items = both;
      size = omega (arith, one.size, other.size, length-append first rest);
      spare = omega (arith, one.spare, other.spare);
      full = tt;
    }
put-first x (Err e) a b c first rest m n one other = record {
  kept = (first ++ other.kept.0, other.kept.1 ∙ ap (λ bs. bs ++ other.kept.0) one.items ∙ append_assoc a.items first other.kept.0);
  items = tt;
  size = tt;
  spare = tt;
  full = omega (arith, one.spare, other.full);
}

-- a first piece could not be put, and so not all
pub put-none : {A : Type 0} (e : AllocError) (r : Result (Unit {0}) AllocError) (a b : Vec ℕ A) (first all : List ℕ) (m n : ℕ)
    → Puts (Err e) a b first m → m ≤ n → IsErr r → Puts r a b all n
put-none e (Ok x) a b first all m n one within failed = let none : false ≡ true = failed in cc
put-none e (Err d) a b first all m n one within failed = record { kept = one.kept; items = tt; size = tt; spare = tt; full = omega (arith, one.full, within) }

-- the same text, which may take more
pub put-same : {A : Type 0} (r : Result (Unit {0}) AllocError) (a b : Vec ℕ A) (text same : List ℕ) (m n : ℕ)
    → Puts r a b text m → text ≡ same → m ≤ n → Puts r a b same n
put-same (Ok x) a b text same m n one is within = record {
  kept = one.kept;
  items = one.items ∙ ap (λ bs. a.items ++ bs) is;
  size = omega (arith, one.size, ap length is, within);
  spare = omega (arith, one.spare, within);
  full = tt;
}
put-same (Err e) a b text same m n one is within = record { kept = one.kept; items = tt; size = tt; spare = tt; full = omega (arith, one.full, within) }

-- nothing is to be put
pub put-nothing : {A : Type 0} (x : Unit {0}) (a : Vec ℕ A) → Puts (Ok x) a a [] 0
put-nothing x a = record { kept = ([], sym (append-nil a.items)); items = sym (append-nil a.items); size = omega arith; spare = omega arith; full = tt }

-- what becomes of the rest becomes of the whole
abbrev pub Leaves : {A : Type 0} → Vec ℕ A → Vec ℕ A → List ℕ → ℕ → List ℕ → ℕ → Type 0
Leaves {A} start now rest m whole n = (r : Result (Unit {0}) AllocError) (end : Vec ℕ A) → Puts r now end rest m → Puts r start end whole n

-- the next of what was left was put
pub next-put : {A : Type 0} (x : Unit {0}) (start now next : Vec ℕ A) (left one rest whole : List ℕ) (m k j n : ℕ)
    → Leaves start now left m whole n → left ≡ one ++ rest → m ≡ k + j → Puts (Ok x) now next one k → Leaves start next rest j whole n
next-put x start now next left one rest whole m k j n leaves split most put = λ r end more. leaves r end (rw (split, most) (put-first x r now next end one rest k j put more))

-- the next of what was left could not be put
pub next-not_put : {A : Type 0} (e : AllocError) (r : Result (Unit {0}) AllocError) (start now next : Vec ℕ A) (left one whole : List ℕ) (m k j n : ℕ)
    → Leaves start now left m whole n → m ≡ k + j → Puts (Err e) now next one k → IsErr r → Puts r start next whole n
next-not_put e r start now next left one whole m k j n leaves most put failed = leaves r next (put-none e r now next one left k m put (omega (arith, most)) failed)

-- the pieces that were put are the object
pub object-put : {A : Type 0} (r : Result (Unit {0}) AllocError) (a b : Vec ℕ A) (text same : List ℕ) (m n : ℕ)
    → Puts r a b text m → text ≡ same → m ≤ n → PutsObject r a b same n
object-put (Ok x) a b text same m n one is within = record {
  kept = one.kept;
  items = one.items ∙ ap (λ bs. a.items ++ bs) is;
  size = omega (arith, one.size, ap length is, within);
  full = tt;
}
object-put (Err e) a b text same m n one is within = record { kept = one.kept; items = tt; size = tt; full = omega (arith, one.full, within) }

-- a first piece of the object could not be put
pub object-none : {A : Type 0} (e : AllocError) (r : Result (Unit {0}) AllocError) (a b : Vec ℕ A) (first all : List ℕ) (m n : ℕ)
    → Puts (Err e) a b first m → m ≤ n → IsErr r → PutsObject r a b all n
object-none e (Ok x) a b first all m n one within failed = let none : false ≡ true = failed in cc
object-none e (Err d) a b first all m n one within failed = record { kept = one.kept; items = tt; size = tt; full = omega (arith, one.full, within) }

-- the same object, which may take more
pub object-same : {A : Type 0} (r : Result (Unit {0}) AllocError) (a b : Vec ℕ A) (text same : List ℕ) (m n : ℕ)
    → PutsObject r a b text m → text ≡ same → m ≤ n → PutsObject r a b same n
object-same (Ok x) a b text same m n one is within = record {
  kept = one.kept;
  items = one.items ∙ ap (λ bs. a.items ++ bs) is;
  size = omega (arith, one.size, ap length is, within);
  full = tt;
}
object-same (Err e) a b text same m n one is within = record { kept = one.kept; items = tt; size = tt; full = omega (arith, one.full, within) }

-- as the code ends the line
pub line-put : {A : Type 0} (ended put : Result (Unit {0}) AllocError) (a b c : Vec ℕ A) (text line : List ℕ) (m : ℕ) → PutsObject put a b text m
    → OnOk ended (c.items ≡ b.items ++ 10 ∷ []) → OnOk ended (IsOk put) → text ++ 10 ∷ [] ≡ line → OnOk ended (c.items ≡ a.items ++ line)
line-put (Ok y) (Ok x) a b c text line m one new ok is = new ∙ ap (λ bs. bs ++ 10 ∷ []) one.items ∙ append_assoc a.items text (10 ∷ []) ∙ ap (λ bs. a.items ++ bs) is
line-put (Ok y) (Err e) a b c text line m one new ok is = let none : false ≡ true = ok in cc
line-put (Err e) put a b c text line m one new ok is = tt

-- where all was put, the text stands there whole
pub put-whole : {A : Type 0} (put : Result (Unit {0}) AllocError) (a b : Vec ℕ A) (text : List ℕ) (m : ℕ) (x : Unit {0}) → PutsObject put a b text m → put ≡ Ok x
    → (b.items ++ 10 ∷ [] ≡ a.items ++ (text ++ 10 ∷ [])) × (length (text ++ 10 ∷ []) ≤ m + 1)
put-whole (Ok y) a b text m x one is = (ap (λ bs. bs ++ 10 ∷ []) one.items ∙ append_assoc a.items text (10 ∷ []), omega (arith, one.size, length-append text (10 ∷ [])))
put-whole (Err e) a b text m x one is = cc
