-- Bytes in pieces, each with its line feed, and the lines that these are.
use Rattle.std.proofs.Common.{◌≡◌, ℕ, ◌==◌, Bool, true, false, cond, List, [], ◌∷◌, ◌++◌, length, refl, sym, ap, ◌∙◌, ◌⊎◌, inl, inr, append-nil, append_assoc}
use Rattle.std.specs.List.{AllByRecursion}
use Rattle.std.specs.Prelude.{◌&&◌, nat_le}
use Rattle.std.specs.Str.{is_utf8}
use Rattle.bh_lines.specs.Lines.{Cut, line, ended, stopped, cut, cut_from, last_line, less_return, whole_line}
use Rattle.bh_cut.specs.Kept.{kept, kept_of, last_piece, lines_of, own_piece, pieces, pieces_from, with_piece}
use Rattle.bh_cut.specs.Named.{names_one}

-- no line feed stands in the bytes
abbrev pub NoFeed : List ℕ → Type 0
NoFeed bytes = AllByRecursion (λ b. (b == 10) ≡ false) bytes

no_feed-push : (bytes : List ℕ) (b : ℕ) → NoFeed bytes → (b == 10) ≡ false → NoFeed (bytes ++ b ∷ [])
no_feed-push [] b none is = (is, tt)
no_feed-push (x ∷ xs) b none is = (none.0, no_feed-push xs b none.1 is)

-- ---- the lines of bytes

-- a line ends at the first line feed
cut_from-feed : (front bytes more : List ℕ) → NoFeed bytes → cut_from front (bytes ++ 10 ∷ more) ≡ whole_line (front ++ bytes) (cut more)
unfolding cut_from
cut_from-feed front [] more none = ap (λ ys. whole_line ys (cut more)) (sym (append-nil front))
cut_from-feed front (b ∷ bs) more none =
    ap (λ v. cond v (whole_line front (cut_from [] (bs ++ 10 ∷ more))) (cut_from (front ++ b ∷ []) (bs ++ 10 ∷ more))) none.0
    ∙ cut_from-feed (front ++ b ∷ []) bs more none.1 ∙ ap (λ ys. whole_line ys (cut more)) (append_assoc front (b ∷ []) bs)

cut_from-none : (front bytes : List ℕ) → NoFeed bytes → cut_from front bytes ≡ last_line (front ++ bytes)
unfolding cut_from
cut_from-none front [] none = ap last_line (sym (append-nil front))
cut_from-none front (b ∷ bs) none =
    ap (λ v. cond v (whole_line front (cut_from [] bs)) (cut_from (front ++ b ∷ []) bs)) none.0
    ∙ cut_from-none (front ++ b ∷ []) bs none.1 ∙ ap last_line (append_assoc front (b ∷ []) bs)

pub cut-feed : (bytes more : List ℕ) → NoFeed bytes → cut (bytes ++ 10 ∷ more) ≡ whole_line bytes (cut more)
cut-feed bytes more none = cut_from-feed [] bytes more none

cut-none : (bytes : List ℕ) → NoFeed bytes → cut bytes ≡ last_line bytes
cut-none bytes none = cut_from-none [] bytes none

pub cut-empty : cut [] ≡ ended
unfolding cut_from last_line
cut-empty = refl

-- the bytes are neither too many nor other than UTF-8
abbrev pub is_good : List ℕ → Bool
is_good bytes = nat_le (length bytes) 1024 && is_utf8 (less_return bytes)

pub whole-good : (bytes : List ℕ) (rest : Cut) → is_good bytes ≡ true → whole_line bytes rest ≡ line (less_return bytes) rest
unfolding whole_line
whole-good bytes rest good = ap (λ v. cond v (line (less_return bytes) rest) stopped) good

pub whole-bad : (bytes : List ℕ) (rest : Cut) → is_good bytes ≡ false → whole_line bytes rest ≡ stopped
unfolding whole_line
whole-bad bytes rest bad = ap (λ v. cond v (line (less_return bytes) rest) stopped) bad

pub bool_cases : (b : Bool) → (b ≡ true) ⊎ (b ≡ false)
bool_cases true = inl refl
bool_cases false = inr refl

-- what the last line is
abbrev pub IsLastLine : List ℕ → Cut → Type 0
IsLastLine bytes c = (c ≡ ended) ⊎ ((c ≡ line (less_return bytes) ended) ⊎ (c ≡ stopped))

last-is : (bytes : List ℕ) → IsLastLine bytes (last_line bytes)
unfolding last_line
last-is bytes = elim (length (less_return bytes) == 0) as (λ v. IsLastLine bytes (cond v ended (whole_line bytes ended))) [
  | true ↦ inl refl
  | false ↦ inr (elim (bool_cases (is_good bytes)) [
    | inl good ↦ inl (whole-good bytes ended good)
    | inr bad ↦ inr (whole-bad bytes ended bad)
  ])
]

-- ---- the pieces of bytes

pieces_from-feed : (front bytes more : List ℕ) → NoFeed bytes → pieces_from front (bytes ++ 10 ∷ more) ≡ ((front ++ bytes) ++ 10 ∷ []) ∷ pieces more
unfolding pieces_from
pieces_from-feed front [] more none = ap (λ ys. (ys ++ 10 ∷ []) ∷ pieces more) (sym (append-nil front))
pieces_from-feed front (b ∷ bs) more none =
    ap (λ v. cond v ((front ++ 10 ∷ []) ∷ pieces_from [] (bs ++ 10 ∷ more)) (pieces_from (front ++ b ∷ []) (bs ++ 10 ∷ more))) none.0
    ∙ pieces_from-feed (front ++ b ∷ []) bs more none.1 ∙ ap (λ ys. (ys ++ 10 ∷ []) ∷ pieces more) (append_assoc front (b ∷ []) bs)

pieces_from-none : (front bytes : List ℕ) → NoFeed bytes → pieces_from front bytes ≡ last_piece (front ++ bytes)
unfolding pieces_from
pieces_from-none front [] none = ap last_piece (sym (append-nil front))
pieces_from-none front (b ∷ bs) none =
    ap (λ v. cond v ((front ++ 10 ∷ []) ∷ pieces_from [] bs) (pieces_from (front ++ b ∷ []) bs)) none.0
    ∙ pieces_from-none (front ++ b ∷ []) bs none.1 ∙ ap last_piece (append_assoc front (b ∷ []) bs)

-- what is kept of a first line, and then of what follows
pub kept-feed : (names : List (List ℕ)) (bytes more : List ℕ) → NoFeed bytes
    → kept names (bytes ++ 10 ∷ more) ≡ with_piece names (cut (bytes ++ 10 ∷ [])) (bytes ++ 10 ∷ []) (kept names more)
unfolding kept kept_of
kept-feed names bytes more none = ap (kept_of names) (pieces_from-feed [] bytes more none)

kept_of-last : (names : List (List ℕ)) (bytes : List ℕ) → kept_of names (last_piece bytes) ≡ with_piece names (cut bytes) bytes []
unfolding kept_of
kept_of-last names [] = ap (λ c. with_piece names c [] []) (sym cut-empty)
kept_of-last names (b ∷ bs) = refl

-- what is kept of a last line
pub kept-none : (names : List (List ℕ)) (bytes : List ℕ) → NoFeed bytes → kept names bytes ≡ with_piece names (cut bytes) bytes []
unfolding kept
kept-none names bytes none = ap (kept_of names) (pieces_from-none [] bytes none) ∙ kept_of-last names bytes

-- ---- what is kept is cut into the lines that name one of the groups

-- a first line, with a line feed
lines-feed : (names : List (List ℕ)) (front later more : List ℕ) → NoFeed front → cut later ≡ lines_of names (cut more)
    → cut (with_piece names (cut (front ++ 10 ∷ [])) (front ++ 10 ∷ []) later) ≡ lines_of names (whole_line front (cut more))
lines-feed names front later more none same = elim (bool_cases (is_good front)) [
  | inl good ↦
      let t = less_return front in
      let is : cut (front ++ 10 ∷ []) ≡ line t (cut []) = cut-feed front [] none ∙ whole-good front (cut []) good in
      let whole : cut ((front ++ 10 ∷ []) ++ later) ≡ line t (cut later) =
      ap cut (append_assoc front (10 ∷ []) later) ∙ cut-feed front later none ∙ whole-good front (cut later) good in
      let chosen : cut (own_piece names t (front ++ 10 ∷ []) ++ later) ≡ cond (names_one names t) (line t (lines_of names (cut more))) (lines_of names (cut more)) =
      elim (names_one names t) as (λ v. cut (cond v (front ++ 10 ∷ []) [] ++ later) ≡ cond v (line t (lines_of names (cut more))) (lines_of names (cut more))) [
        | true ↦ whole ∙ ap (λ c. line t c) same
        | false ↦ same
      ] in
      ap (λ c. cut (with_piece names c (front ++ 10 ∷ []) later)) is ∙ chosen ∙ ap (lines_of names) (sym (whole-good front (cut more) good))
  | inr bad ↦
      let is : cut (front ++ 10 ∷ []) ≡ stopped = cut-feed front [] none ∙ whole-bad front (cut []) bad in
      ap (λ c. cut (with_piece names c (front ++ 10 ∷ []) later)) is ∙ cut-empty ∙ ap (lines_of names) (sym (whole-bad front (cut more) bad))
]

-- the last line, with none
lines-last : (names : List (List ℕ)) (front : List ℕ) → NoFeed front → cut (kept_of names (last_piece front)) ≡ lines_of names (last_line front)
lines-last names front none =
    let is : cut front ≡ last_line front = cut-none front none in
    ap cut (kept_of-last names front) ∙ elim (last-is front) [
      | inl none_left ↦ ap (λ c. cut (with_piece names c front [])) (is ∙ none_left) ∙ cut-empty ∙ ap (lines_of names) (sym none_left)
      | inr some ↦ elim some [
        | inl found ↦
            let t = less_return front in
            let all : cut (front ++ []) ≡ line t ended = ap cut (append-nil front) ∙ is ∙ found in
            let chosen : cut (own_piece names t front ++ []) ≡ cond (names_one names t) (line t ended) ended =
            elim (names_one names t) as (λ v. cut (cond v front [] ++ []) ≡ cond v (line t ended) ended) [ true ↦ all | false ↦ cut-empty ] in
            ap (λ c. cut (with_piece names c front [])) (is ∙ found) ∙ chosen ∙ ap (lines_of names) (sym found)
        | inr bad ↦ ap (λ c. cut (with_piece names c front [])) (is ∙ bad) ∙ cut-empty ∙ ap (lines_of names) (sym bad)
      ]
    ]

lines-from : (names : List (List ℕ)) (front bytes : List ℕ) → NoFeed front → cut (kept_of names (pieces_from front bytes)) ≡ lines_of names (cut_from front bytes)
unfolding pieces_from cut_from kept_of
lines-from names front [] none = lines-last names front none
lines-from names front (b ∷ bs) none =
    elim (b == 10) as (λ v. (b == 10) ≡ v → cut (kept_of names (cond v ((front ++ 10 ∷ []) ∷ pieces_from [] bs) (pieces_from (front ++ b ∷ []) bs)))
    ≡ lines_of names (cond v (whole_line front (cut_from [] bs)) (cut_from (front ++ b ∷ []) bs))) [
      | true ↦ λ _. lines-feed names front (kept_of names (pieces_from [] bs)) bs none (lines-from names [] bs tt)
      | false ↦ λ is. lines-from names (front ++ b ∷ []) bs (no_feed-push front b none is)
    ] refl

pub kept-lines : (names : List (List ℕ)) (bytes : List ℕ) → cut (kept names bytes) ≡ lines_of names (cut bytes)
unfolding kept
kept-lines names bytes = lines-from names [] bytes tt

-- ---- a line that is refused

kept-refused : (names : List (List ℕ)) (front bytes : List ℕ) → NoFeed front → cut_from front bytes ≡ stopped → kept_of names (pieces_from front bytes) ≡ []
unfolding pieces_from cut_from kept_of
kept-refused names front [] none is =
    kept_of-last names front ∙ ap (λ c. with_piece names c front []) (cut-none front none ∙ is)
kept-refused names front (b ∷ bs) none is =
    elim (b == 10) as (λ v. (b == 10) ≡ v → cond v (whole_line front (cut_from [] bs)) (cut_from (front ++ b ∷ []) bs) ≡ stopped
    → kept_of names (cond v ((front ++ 10 ∷ []) ∷ pieces_from [] bs) (pieces_from (front ++ b ∷ []) bs)) ≡ []) [
      | true ↦ λ _ h. elim (bool_cases (is_good front)) [
        | inl good ↦ absurd (let bad : line (less_return front) (cut bs) ≡ stopped = sym (whole-good front (cut bs) good) ∙ h in cc)
        | inr bad ↦ ap (λ c. with_piece names c (front ++ 10 ∷ []) (kept_of names (pieces_from [] bs))) (cut-feed front [] none ∙ whole-bad front (cut []) bad)
      ]
      | false ↦ λ differs h. kept-refused names (front ++ b ∷ []) bs (no_feed-push front b none differs) h
    ] refl is

-- nothing is kept where the first line is refused
pub kept-stopped : (names : List (List ℕ)) (bytes : List ℕ) → cut bytes ≡ stopped → kept names bytes ≡ []
unfolding kept
kept-stopped names bytes is = kept-refused names [] bytes tt is
