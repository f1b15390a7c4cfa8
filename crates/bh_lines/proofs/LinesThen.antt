-- Lines in front of others, and what is left behind a line feed.
use Rattle.std.proofs.Common.{◌≡◌, ℕ, List, [], ◌∷◌, ◌++◌, refl, sym, ◌∙◌, ap, append_assoc, inl, inr}
use Rattle.bh_lines.specs.Lines.{Cut, line, lines_then}
use Rattle.bh_lines.specs.Taken.{IsBehind, IsBehindFeed}

-- two lists of lines, one in front of the other, are one list
pub lines_then-append : (ks ls : List (List ℕ)) (c : Cut) → lines_then (ks ++ ls) c ≡ lines_then ks (lines_then ls c)
lines_then-append [] ls c = refl
lines_then-append (k ∷ ks) ls c = ap (λ x. line k x) (lines_then-append ks ls c)

-- what is behind a line feed of the bytes that are left, is behind one of all bytes
pub IsBehind-more : (all mid new : List ℕ) → IsBehind all mid → IsBehindFeed mid new → IsBehind all new
IsBehind-more all mid new h f = elim h [
  | inl e ↦ inr (f.0, sym e ∙ f.1)
  | inr g ↦ inr (g.0 ++ 10 ∷ f.0, g.1 ∙ (ap (λ ys. g.0 ++ 10 ∷ ys) f.1 ∙ sym (append_assoc g.0 (10 ∷ f.0) (10 ∷ new))))
]
