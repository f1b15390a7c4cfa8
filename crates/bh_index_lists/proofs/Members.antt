-- Members of a list, lists without repetition, and how long those can be.
use Rattle.std.proofs.Common.{◌≡◌, ℕ, zero, suc, ◌<◌, ◌≤◌, ◌⊎◌, inl, inr, not, cond, List, [], ◌∷◌, ◌++◌, length, get_or, refl, sym, ap, subst, ◌∙◌, arith, length-append}
use Rattle.std.specs.List.{Contains}
use Rattle.std.proofs.lemmas.Bool.{cases_eq, eq-eqb, ne_eqb}
use Rattle.bh_index_lists.specs.Lists.{without}

-- x is one of the list, by recursion
abbrev pub IsIn : ℕ → List ℕ → Type 0
IsIn x [] = ⊥
IsIn x (y ∷ ys) = (y ≡ x) ⊎ IsIn x ys

-- what a list contains is one of it
pub IsIn-from_Contains : (x : ℕ) (xs : List ℕ) → Contains xs x → IsIn x xs
IsIn-from_Contains x [] h = absurd (omega (arith, h.1))
IsIn-from_Contains x (y ∷ ys) h = at h.0 h.1 h.2 (λ k lt e. IsIn-from_Contains x ys (k, lt, e))
  where
    at : (k : ℕ) → k < suc (length ys) → get_or (y ∷ ys) k x ≡ x → ((k : ℕ) → k < length ys → get_or ys k x ≡ x → IsIn x ys) → IsIn x (y ∷ ys)
    at zero lt e rest = inl e
    at (suc k) lt e rest = inr (rest k (omega arith) e)

-- and what is one of it, it contains
pub Contains-from_IsIn : (x : ℕ) (xs : List ℕ) → IsIn x xs → Contains xs x
Contains-from_IsIn x [] h = absurd h
Contains-from_IsIn x (y ∷ ys) (inl e) = (0, omega arith, e)
Contains-from_IsIn x (y ∷ ys) (inr h) = let r = Contains-from_IsIn x ys h in (suc r.0, omega (arith, r.1), r.2)

-- one of the first list is one of both together
pub IsIn-append_left : (x : ℕ) (xs ys : List ℕ) → IsIn x xs → IsIn x (xs ++ ys)
IsIn-append_left x [] ys h = absurd h
IsIn-append_left x (y ∷ xs) ys (inl e) = inl e
IsIn-append_left x (y ∷ xs) ys (inr h) = inr (IsIn-append_left x xs ys h)

-- one of the second list is one of both together
pub IsIn-append_right : (x : ℕ) (xs ys : List ℕ) → IsIn x ys → IsIn x (xs ++ ys)
IsIn-append_right x [] ys h = h
IsIn-append_right x (y ∷ xs) ys h = inr (IsIn-append_right x xs ys h)

-- one of two lists together is one of the first or one of the second
pub IsIn-append_cases : (x : ℕ) (xs ys : List ℕ) → IsIn x (xs ++ ys) → IsIn x xs ⊎ IsIn x ys
IsIn-append_cases x [] ys h = inr h
IsIn-append_cases x (y ∷ xs) ys (inl e) = inl (inl e)
IsIn-append_cases x (y ∷ xs) ys (inr h) = elim (IsIn-append_cases x xs ys h) [ inl k ↦ inl (inr k) | inr k ↦ inr k ]

-- a list is cut at one of it
pub IsIn-split : (x : ℕ) (xs : List ℕ) → IsIn x xs → (ls : List ℕ) × (rs : List ℕ) × (xs ≡ ls ++ x ∷ rs)
IsIn-split x [] h = absurd h
IsIn-split x (y ∷ ys) (inl e) = ([], ys, ap (λ z. z ∷ ys) e)
IsIn-split x (y ∷ ys) (inr h) = let r = IsIn-split x ys h in (y ∷ r.0, r.1, ap (λ z. y ∷ z) r.2)

is_in_cases : (x : ℕ) (xs : List ℕ) → IsIn x xs ⊎ (IsIn x xs → ⊥)
is_in_cases x [] = inr (λ h. h)
is_in_cases x (y ∷ ys) = elim (cases_eq y x) [
  | inl e ↦ inl (inl e)
  | inr ne ↦ elim (is_in_cases x ys) [ inl k ↦ inl (inr k) | inr out ↦ inr (λ h. elim h [ inl e ↦ ne e | inr k ↦ out k ]) ]
]

-- ---- a list with one place taken out

-- to take out what is not there changes nothing
pub without-out : (x : ℕ) (xs : List ℕ) → (IsIn x xs → ⊥) → without x xs ≡ xs
without-out x [] out = refl
without-out x (y ∷ ys) out = ap (λ b. cond (not b) (y ∷ without x ys) (without x ys)) (ne_eqb y x (λ e. out (inl e))) ∙ ap (λ zs. y ∷ zs) (without-out x ys (λ i. out (inr i)))

-- what is there once is taken out of its place
pub without-in : (x : ℕ) (ls rs : List ℕ) → (IsIn x ls → ⊥) → (IsIn x rs → ⊥) → without x (ls ++ x ∷ rs) ≡ ls ++ rs
without-in x [] rs out out' = ap (λ b. cond (not b) (x ∷ without x rs) (without x rs)) (eq-eqb x x refl) ∙ without-out x rs out'
without-in x (y ∷ ls) rs out out' = ap (λ b. cond (not b) (y ∷ without x (ls ++ x ∷ rs)) (without x (ls ++ x ∷ rs))) (ne_eqb y x (λ e. out (inl e))) ∙ ap (λ zs. y ∷ zs) (without-in x ls rs (λ i. out (inr i)) out')

-- what is left was there, and is not what was taken out
pub IsIn-without : (s x : ℕ) (xs : List ℕ) → IsIn x (without s xs) → IsIn x xs × (x ≡ s → ⊥)
IsIn-without s x [] h = absurd h
IsIn-without s x (y ∷ ys) h = elim (cases_eq y s) [
  | inl e ↦ let r = IsIn-without s x ys (subst (λ b. IsIn x (cond (not b) (y ∷ without s ys) (without s ys))) (eq-eqb y s e) h) in (inr r.0, r.1)
  | inr ne ↦ elim (head (subst (λ b. IsIn x (cond (not b) (y ∷ without s ys) (without s ys))) (ne_eqb y s ne) h)) [
    | inl e ↦ (inl e, λ z. ne (e ∙ z))
    | inr k ↦ let r = IsIn-without s x ys k in (inr r.0, r.1)
  ]
]
  where
    head : (y ≡ x) ⊎ IsIn x (without s ys) → (y ≡ x) ⊎ IsIn x (without s ys)
    head h = h

-- all else is left
pub IsIn-kept : (s x : ℕ) (xs : List ℕ) → (x ≡ s → ⊥) → IsIn x xs → IsIn x (without s xs)
IsIn-kept s x [] ne h = h
IsIn-kept s x (y ∷ ys) ne h = elim (cases_eq y s) [
  | inl e ↦ subst (λ b. IsIn x (cond (not b) (y ∷ without s ys) (without s ys))) (sym (eq-eqb y s e)) (elim h [ inl z ↦ absurd (ne (sym z ∙ e)) | inr k ↦ IsIn-kept s x ys ne k ])
  | inr nd ↦ subst (λ b. IsIn x (cond (not b) (y ∷ without s ys) (without s ys))) (sym (ne_eqb y s nd)) (elim h [ inl z ↦ inl z | inr k ↦ inr (IsIn-kept s x ys ne k) ])
]

-- ---- no place twice

-- none of the list stands in it again
abbrev pub NoRepeat : List ℕ → Type 0
NoRepeat [] = Unit {0}
NoRepeat (x ∷ xs) = (IsIn x xs → ⊥) × NoRepeat xs

-- two parts of such a list are such lists, and have nothing in common
pub NoRepeat-parts : (ls rs : List ℕ) → NoRepeat (ls ++ rs) → NoRepeat ls × NoRepeat rs × ((x : ℕ) → IsIn x ls → IsIn x rs → ⊥)
NoRepeat-parts [] rs h = (tt, h, λ x i j. absurd i)
NoRepeat-parts (a ∷ ls) rs h =
    let rest = NoRepeat-parts ls rs h.1 in (
      (λ i. h.0 (IsIn-append_left a ls rs i), rest.0),
      rest.1,
      λ x i j. elim i [
        | inl e ↦ h.0 (IsIn-append_right a ls rs (subst (λ z. IsIn z rs) (sym e) j))
        | inr k ↦ rest.2 x k j
      ],
    )

NoRepeat-drop : (ls rs : List ℕ) (x : ℕ) → NoRepeat (ls ++ x ∷ rs) → NoRepeat (ls ++ rs)
NoRepeat-drop [] rs x h = h.1
NoRepeat-drop (a ∷ ls) rs x h = ((λ i. h.0 (elim (IsIn-append_cases a ls rs i) [ inl k ↦ IsIn-append_left a ls (x ∷ rs) k | inr k ↦ IsIn-append_right a ls (x ∷ rs) (inr k) ])), NoRepeat-drop ls rs x h.1)

once_there : (ls rs : List ℕ) (x : ℕ) → NoRepeat (ls ++ x ∷ rs) → IsIn x (ls ++ rs) → ⊥
once_there [] rs x h i = h.0 i
once_there (a ∷ ls) rs x h i = elim i [ inl e ↦ h.0 (IsIn-append_right a ls (x ∷ rs) (inl (sym e))) | inr k ↦ once_there ls rs x h.1 k ]

-- numbers below n, none of them twice, are at most n
pub length-le : (n : ℕ) (xs : List ℕ) → NoRepeat xs → ((x : ℕ) → IsIn x xs → x < n) → length xs ≤ n
length-le zero [] once below = omega arith
length-le zero (x ∷ xs) once below = absurd (omega (arith, below x (inl refl)))
length-le (suc n) xs once below = elim (is_in_cases n xs) [
  | inl i ↦
      let r = IsIn-split n xs i in
      let once' : NoRepeat (r.0 ++ n ∷ r.1) = subst NoRepeat r.2 once in
      let fewer = length-le n (r.0 ++ r.1) (NoRepeat-drop r.0 r.1 n once') (λ x k.
      let ne : x ≡ n → ⊥ = λ e. once_there r.0 r.1 n once' (subst (λ z. IsIn z (r.0 ++ r.1)) e k) in
      let lt : x < suc n = below x (subst (IsIn x) (sym r.2) (elim (IsIn-append_cases x r.0 r.1 k) [ inl a ↦ IsIn-append_left x r.0 (n ∷ r.1) a | inr b ↦ IsIn-append_right x r.0 (n ∷ r.1) (inr b) ])) in
      omega arith) in
      omega (arith, fewer, ap length r.2, length-append r.0 (n ∷ r.1), length-append r.0 r.1)
  | inr out ↦
      let fewer = length-le n xs once (λ x k.
      let ne : x ≡ n → ⊥ = λ e. out (subst (λ z. IsIn z xs) e k) in
      let lt : x < suc n = below x k in
      omega arith) in
      omega (arith, fewer)
]
