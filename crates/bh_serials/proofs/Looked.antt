-- What is looked up once a ticket came or left.
use Rattle.std.proofs.Common.{◌≡◌, ◌≢◌, ◌⊎◌, inl, inr, ℕ, Bool, true, false, not, List, [], ◌∷◌, ◌++◌, Some, None, filter, refl, sym, ap, ◌∙◌}
use Rattle.std.specs.Prelude.{eqb, if◌then◌else◌}
use Rattle.std.proofs.lemmas.Bool.{eq-eqb, eqb-true, ne_eqb}
use Rattle.bh_serials.specs.TableView.{slot_of}
use Rattle.bh_serials.proofs.Alive.{is_other}

module _ (serial slot : ℕ) where
  abbrev came : List (ℕ × ℕ) → List (ℕ × ℕ)
  came es = es ++ (serial, slot) ∷ []

  -- what was found is found still
  pub still_found : (es : List (ℕ × ℕ)) (s x : ℕ) → slot_of es s ≡ Some x → slot_of (came es) s ≡ Some x
  still_found [] s x e = absurd cc
  still_found (p ∷ es) s x e = by (eqb p.0 s) e (still_found es s x)
    where
      by : (b : Bool) → (if b then Some p.1 else slot_of es s) ≡ Some x → (slot_of es s ≡ Some x → slot_of (came es) s ≡ Some x) → (if b then Some p.1 else slot_of (came es) s) ≡ Some x
      by true f rest = f
      by false f rest = rest f

  -- the new one is found, where its serial was not there
  pub new_found : (es : List (ℕ × ℕ)) → slot_of es serial ≡ None → slot_of (came es) serial ≡ Some slot
  new_found [] e = ap (λ b. if b then Some slot else None) (eq-eqb serial serial refl)
  new_found (p ∷ es) e = by (eqb p.0 serial) e (new_found es)
    where
      by : (b : Bool) → (if b then Some p.1 else slot_of es serial) ≡ None → (slot_of es serial ≡ None → slot_of (came es) serial ≡ Some slot) → (if b then Some p.1 else slot_of (came es) serial) ≡ Some slot
      by true f rest = absurd cc
      by false f rest = rest f

  -- what is found was found before, or is the new one
  pub found_or_new : (es : List (ℕ × ℕ)) (s x : ℕ) → slot_of (came es) s ≡ Some x → (slot_of es s ≡ Some x) ⊎ ((serial ≡ s) × (slot ≡ x))
  found_or_new [] s x e = by (eqb serial s) refl e
    where
      by : (b : Bool) → eqb serial s ≡ b → (if b then Some slot else None) ≡ Some x → (None ≡ Some x) ⊎ ((serial ≡ s) × (slot ≡ x))
      by true is f = inr (eqb-true serial s is, cc)
      by false is f = inl f
  found_or_new (p ∷ es) s x e = by (eqb p.0 s) e (found_or_new es s x)
    where
      by : (b : Bool) → (if b then Some p.1 else slot_of (came es) s) ≡ Some x → (slot_of (came es) s ≡ Some x → (slot_of es s ≡ Some x) ⊎ ((serial ≡ s) × (slot ≡ x))) → ((if b then Some p.1 else slot_of es s) ≡ Some x) ⊎ ((serial ≡ s) × (slot ≡ x))
      by true f rest = inl f
      by false f rest = rest f

module _ (serial : ℕ) where
  -- the one that left is found no more
  pub left_none : (es : List (ℕ × ℕ)) → slot_of (filter (is_other serial) es) serial ≡ None
  left_none [] = refl
  left_none (p ∷ es) = by (eqb p.0 serial) refl (left_none es)
    where
      by : (b : Bool) → eqb p.0 serial ≡ b → slot_of (filter (is_other serial) es) serial ≡ None → slot_of (if not b then p ∷ filter (is_other serial) es else filter (is_other serial) es) serial ≡ None
      by true is rest = rest
      by false is rest = ap (λ b. if b then Some p.1 else slot_of (filter (is_other serial) es) serial) is ∙ rest

  -- all others are found as before
  pub others_found : (es : List (ℕ × ℕ)) (s : ℕ) → s ≢ serial → slot_of (filter (is_other serial) es) s ≡ slot_of es s
  others_found [] s ne = refl
  others_found (p ∷ es) s ne = by (eqb p.0 serial) refl (others_found es s ne)
    where
      by : (b : Bool) → eqb p.0 serial ≡ b → slot_of (filter (is_other serial) es) s ≡ slot_of es s → slot_of (if not b then p ∷ filter (is_other serial) es else filter (is_other serial) es) s ≡ (if eqb p.0 s then Some p.1 else slot_of es s)
      by true is rest = rest ∙ sym (ap (λ b. if b then Some p.1 else slot_of es s) (ne_eqb p.0 s (λ e. ne (sym e ∙ eqb-true p.0 serial is))))
      by false is rest = ap (λ o. if eqb p.0 s then Some p.1 else o) rest
