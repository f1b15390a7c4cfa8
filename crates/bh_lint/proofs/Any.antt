-- Whether one of a list passes a test.
use Rattle.std.proofs.Common.{◌≡◌, ℕ, List, [], ◌∷◌, ◌++◌, filter, Bool, true, false, ◌&&◌, ◌||◌, cond, refl, sym, ap, subst, ◌∙◌, inl, inr}
use Rattle.std.proofs.lemmas.Bool.{and_parts, or_cases, or_left, or_right, false≢true}
use Rattle.std.proofs.lemmas.List.Folds.{list_any-append}
use Rattle.std.proofs.lemmas.Slice.Eq.{bytes_eq-Decides}
use Rattle.std.specs.List.{AllByRecursion, list_all, list_any, flat_map}
use Rattle.std.specs.Str.{bytes_eq}

-- two tests that pass together have one answer
pub together : (a b : Bool) → (a ≡ true → b ≡ true) → (b ≡ true → a ≡ true) → a ≡ b
together true b f g = sym (f refl)
together false true f g = g refl
together false false f g = refl

pub same-bytes : (s : List ℕ) → bytes_eq s s ≡ true
same-bytes s = (bytes_eq-Decides s s).1 refl

pub other-way : (s t : List ℕ) → bytes_eq s t ≡ bytes_eq t s
other-way s t = together (bytes_eq s t) (bytes_eq t s) (one s t) (one t s)
  where
    one : (x y : List ℕ) → bytes_eq x y ≡ true → bytes_eq y x ≡ true
    one x y e = (bytes_eq-Decides y x).1 (sym ((bytes_eq-Decides x y).0 e))

pub or-comm : (a b : Bool) → (a || b) ≡ (b || a)
or-comm true true = refl
or-comm true false = refl
or-comm false true = refl
or-comm false false = refl

pub and-dist : (a r l : Bool) → ((a && l) || (r && l)) ≡ ((a || r) && l)
and-dist true true true = refl
and-dist true true false = refl
and-dist true false true = refl
and-dist true false false = refl
and-dist false r l = refl

or-last : (a b : Bool) → ((a || b) || false) ≡ ((a || false) || b)
or-last true b = refl
or-last false true = refl
or-last false false = refl

or-dist : (a r b : Bool) → ((a || b) || (r || b)) ≡ ((a || r) || b)
or-dist true r b = refl
or-dist false true true = refl
or-dist false true false = refl
or-dist false false true = refl
or-dist false false false = refl

pub each-append : {X : Type 0} (P : X → Type 0) (xs ys : List X) → AllByRecursion P xs → AllByRecursion P ys → AllByRecursion P (xs ++ ys)
each-append P [] ys h g = g
each-append P (x ∷ xs) ys h g = (h.0, each-append P xs ys h.1 g)

module _ {X : Type 0} where
  pub any-front : (p : X → Bool) (xs ys : List X) → list_any p xs ≡ true → list_any p (xs ++ ys) ≡ true
  any-front p xs ys h = list_any-append p xs ys ∙ or_left (list_any p xs) (list_any p ys) h

  pub any-back : (p : X → Bool) (xs ys : List X) → list_any p ys ≡ true → list_any p (xs ++ ys) ≡ true
  any-back p xs ys h = list_any-append p xs ys ∙ or_right (list_any p xs) (list_any p ys) h

  pub any-more : (p q : X → Bool) → ((x : X) → p x ≡ true → q x ≡ true) → (xs : List X) → list_any p xs ≡ true → list_any q xs ≡ true
  any-more p q more [] h = absurd (false≢true h)
  any-more p q more (x ∷ xs) h =
      elim (or_cases (p x) (list_any p xs) h) [ inl here ↦ or_left (q x) (list_any q xs) (more x here) | inr later ↦ or_right (q x) (list_any q xs) (any-more p q more xs later) ]

  pub any-filter : (p g : X → Bool) (xs : List X) → list_any g (filter p xs) ≡ true → list_any g xs ≡ true
  any-filter p g [] h = h
  any-filter p g (x ∷ xs) h = by (p x) refl (any-filter p g xs)
    where
      by : (b : Bool) → p x ≡ b → (list_any g (filter p xs) ≡ true → list_any g xs ≡ true) → (g x || list_any g xs) ≡ true
      by true e later =
          elim (or_cases (g x) (list_any g (filter p xs)) (rw e at h)) [ inl here ↦ or_left (g x) (list_any g xs) here | inr rest ↦ or_right (g x) (list_any g xs) (later rest) ]
      by false e later = or_right (g x) (list_any g xs) (later (rw e at h))

  pub filter-any : (p g : X → Bool) (xs : List X) → list_any (λ x. p x && g x) xs ≡ true → list_any g (filter p xs) ≡ true
  filter-any p g [] h = h
  filter-any p g (x ∷ xs) h = by (p x) refl (filter-any p g xs)
    where
      by : (b : Bool) → p x ≡ b → (list_any (λ y. p y && g y) xs ≡ true → list_any g (filter p xs) ≡ true) → list_any g (cond (p x) (x ∷ filter p xs) (filter p xs)) ≡ true
      by true e later =
          let passed : (g x || list_any (λ y. p y && g y) xs) ≡ true = rw e at h in
          rw e (elim (or_cases (g x) (list_any (λ y. p y && g y) xs) passed) [
            | inl here ↦ or_left (g x) (list_any g (filter p xs)) here
            | inr rest ↦ or_right (g x) (list_any g (filter p xs)) (later rest)
          ])
      by false e later = rw e (later (rw e at h))

  -- a test beside one that does not depend on the item
  pub any-and : (g : X → Bool) (l : Bool) (xs : List X) → list_any (λ x. g x && l) xs ≡ (list_any g xs && l)
  any-and g l [] = refl
  any-and g l (x ∷ xs) = ap (λ later. (g x && l) || later) (any-and g l xs) ∙ and-dist (g x) (list_any g xs) l

  pub any-or : (g : X → Bool) (b : Bool) (x : X) (xs : List X) → list_any (λ y. g y || b) (x ∷ xs) ≡ (list_any g (x ∷ xs) || b)
  any-or g b x [] = or-last (g x) b
  any-or g b x (y ∷ ys) = ap (λ later. (g x || b) || later) (any-or g b y ys) ∙ or-dist (g x) (list_any g (y ∷ ys)) b

  -- each item of a list is in it
  pub each-within : (same : X → X → Bool) → ((x : X) → same x x ≡ true) → (all xs : List X) → ((x : X) → list_any (same x) xs ≡ true → list_any (same x) all ≡ true)
      → AllByRecursion (λ x. list_any (same x) all ≡ true) xs
  each-within same itself all [] up = tt
  each-within same itself all (x ∷ xs) up =
      (up x (or_left (same x x) (list_any (same x) xs) (itself x)), each-within same itself all xs (λ y h. up y (or_right (same y x) (list_any (same y) xs) h)))

  pub each-more : (P Q : X → Type 0) → ((x : X) → P x → Q x) → (xs : List X) → AllByRecursion P xs → AllByRecursion Q xs
  each-more P Q more [] h = tt
  each-more P Q more (x ∷ xs) h = (more x h.0, each-more P Q more xs h.1)

module _ {X Y : Type 0} where
  -- in rows
  pub any-rows : (test : Y → Bool) (f : X → List Y) (xs : List X) → list_any test (flat_map f xs) ≡ list_any (λ x. list_any test (f x)) xs
  any-rows test f [] = refl
  any-rows test f (x ∷ xs) = list_any-append test (f x) (flat_map f xs) ∙ ap (λ later. list_any test (f x) || later) (any-rows test f xs)

  pub same-rows : (f g : X → List Y) (xs : List X) → AllByRecursion (λ x. f x ≡ g x) xs → flat_map f xs ≡ flat_map g xs
  same-rows f g [] h = refl
  same-rows f g (x ∷ xs) h = λ i. h.0 i ++ same-rows f g xs h.1 i

-- each of some texts is among others
abbrev pub is_within : List (List ℕ) → List (List ℕ) → Bool
is_within xs ys = list_all (λ x. list_any (λ y. bytes_eq y x) ys) xs

among : (test : List ℕ → Bool) (x : List ℕ) (ys : List (List ℕ)) → list_any (λ y. bytes_eq y x) ys ≡ true → test x ≡ true → list_any test ys ≡ true
among test x [] h passes = absurd (false≢true h)
among test x (y ∷ ys) h passes =
    elim (or_cases (bytes_eq y x) (list_any (λ z. bytes_eq z x) ys) h) [
      | inl here ↦ or_left (test y) (list_any test ys) (subst (λ (z : List ℕ). test z ≡ true) (sym ((bytes_eq-Decides y x).0 here)) passes)
      | inr later ↦ or_right (test y) (list_any test ys) (among test x ys later passes)
    ]

pub any-within : (test : List ℕ → Bool) (xs ys : List (List ℕ)) → is_within xs ys ≡ true → list_any test xs ≡ true → list_any test ys ≡ true
any-within test [] ys h some = absurd (false≢true some)
any-within test (x ∷ xs) ys h some =
    let parts = and_parts (list_any (λ y. bytes_eq y x) ys) (is_within xs ys) h in
    elim (or_cases (test x) (list_any test xs) some) [ inl here ↦ among test x ys parts.0 here | inr later ↦ any-within test xs ys parts.1 later ]

-- the same texts, however often
pub any-same : (test : List ℕ → Bool) (xs ys : List (List ℕ)) → is_within xs ys ≡ true → is_within ys xs ≡ true → list_any test xs ≡ list_any test ys
any-same test xs ys there back = together (list_any test xs) (list_any test ys) (any-within test xs ys there) (any-within test ys xs back)
