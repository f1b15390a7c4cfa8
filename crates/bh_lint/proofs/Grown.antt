-- A list that grows by what each item of another gives.
use Rattle.std.proofs.Common.{◌≡◌, ℕ, ◌+◌, ◌<◌, Result, Ok, Err, OnOk, List, [], ◌∷◌, ◌++◌, length, take, get_or, sym, ap, ◌∙◌, append_assoc}
use Rattle.std.proofs.lemmas.List.{append-nil, take_more}
use Rattle.std.proofs.lemmas.Grind.{flat_map-append}
use Rattle.std.specs.List.{flat_map}

-- the rows of the items so far, and that of one more
rows-taken : {X A : Type 0} (f : X → List A) (xs : List X) (i : ℕ) (x : X) → i < length xs → x ≡ get_or xs i x
    → flat_map f (take i xs) ++ f x ≡ flat_map f (take (i + 1) xs)
rows-taken f xs i x within is =
    let more : take (i + 1) xs ≡ take i xs ++ x ∷ [] = take_more xs i x within ∙ ap (λ n. take i xs ++ n ∷ []) (sym is) in
    sym (ap (flat_map f) more ∙ flat_map-append f (take i xs) (x ∷ []) ∙ ap (λ row. flat_map f (take i xs) ++ row) (append-nil (f x)))

-- a list that has grown by the rows so far grows by one more
pub grown : {X A : Type 0} (f : X → List A) (xs : List X) (i : ℕ) (x : X) (first before after : List A) → i < length xs → x ≡ get_or xs i x
    → before ≡ first ++ flat_map f (take i xs) → after ≡ before ++ f x → after ≡ first ++ flat_map f (take (i + 1) xs)
grown f xs i x first before after within is so_far more =
    more ∙ ap (λ rows. rows ++ f x) so_far ∙ append_assoc first (flat_map f (take i xs)) (f x) ∙ ap (λ rows. first ++ rows) (rows-taken f xs i x within is)

-- three rows in a row
pub three-rows : {A : Type 0} (m0 m1 m2 m3 a b c : List A) → m0 ≡ [] → m1 ≡ m0 ++ a → m2 ≡ m1 ++ b → m3 ≡ m2 ++ c → m3 ≡ a ++ b ++ c
three-rows m0 m1 m2 m3 a b c none first second third =
    third ∙ ap (λ rows. rows ++ c) (second ∙ ap (λ rows. rows ++ b) (first ∙ ap (λ rows. rows ++ a) none))

-- one row behind another
pub behind : {A E : Type 0} (o : Result (Unit {0}) E) (m0 m1 m2 a b : List A) → m1 ≡ m0 ++ a → OnOk o (m2 ≡ m1 ++ b) → OnOk o (m2 ≡ m0 ++ (a ++ b))
behind (Ok u) m0 m1 m2 a b first second = second ∙ ap (λ rows. rows ++ b) first ∙ append_assoc m0 a b
behind (Err e) m0 m1 m2 a b first second = second
