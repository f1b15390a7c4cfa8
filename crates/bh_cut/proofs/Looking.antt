-- What is written of lines that were looked at one after the other.
use Rattle.std.proofs.Common.{◌≡◌, ℕ, ◌+◌, true, false, List, [], ◌∷◌, take, drop, ◌++◌, Option, Some, None, Result, Ok, Err, String, string_bytes, refl, sym, ◌∙◌, subst, ap, inl, inr, append-nil, append_assoc}
use Rattle.std.specs.declared.alloc.Global.{Global}
use Rattle.std.proofs.KnownBytes.{Appends-trans, Appends-nil}
use Rattle.std.specs.Io.KnownBytes.{Appends}
use Rattle.memchr.specs.Find.{IsFirstByte, is_byte}
use Rattle.bh_lines.specs.declared.port_error.PortError.{PortError}
use Rattle.bh_lines.specs.declared.port_error.PortError.TheVariants.{Read, Write, Line, Memory}
use Rattle.bh_lines.specs.declared.front.FrontLine.{FrontLine}
use Rattle.bh_lines.specs.Front.{IsFront}
use Rattle.bh_lines.specs.Lines.{Cut, line, ended, stopped, cut, has_line, less_return, stops, whole_line}
use Rattle.bh_lines.specs.Taken.{IsLast, IsMemoryOrLine}
use Rattle.bh_streams.specs.Watched.{WritesFront}
use Rattle.bh_streams.proofs.Fronts.{front-after}
use Rattle.bh_cut.specs.Kept.{KeepsPiece, kept, own_piece, with_piece}
use Rattle.bh_cut.specs.Outcome.{CutOutcome, IsCutUpTo}
use Rattle.bh_cut.proofs.Feeds.{SplitsAt, found-splits, no_line-none}
use Rattle.bh_cut.proofs.Pieces.{bool_cases, cut-feed, is_good, kept-feed, kept-none, kept-stopped, whole-bad, whole-good}

-- nothing was looked at yet
pub cut-start : (a : Option (List ℕ)) (names : List (List ℕ)) (old : List ℕ) → IsCutUpTo a a names old old
cut-start a names old = record { out = []; wrote = Appends-nil a; kept_is = λ more. refl; stops_is = λ more. refl }

-- lines were looked at, and then those that follow them
pub cut-then : (a b c : Option (List ℕ)) (names : List (List ℕ)) (old mid new : List ℕ) → IsCutUpTo a b names old mid → IsCutUpTo b c names mid new → IsCutUpTo a c names old new
cut-then a b c names old mid new done next = record {
  out = done.out ++ next.out;
  wrote = Appends-trans a b c done.out next.out done.wrote next.wrote;
  kept_is = λ more. done.kept_is more ∙ ap (λ ys. done.out ++ ys) (next.kept_is more) ∙ sym (append_assoc done.out next.out _);
  stops_is = λ more. done.stops_is more ∙ next.stops_is more;
}

-- ---- one piece

-- the bytes in front of the line feed, by what its piece is cut into
piece-cut : (xs : List ℕ) (place : ℕ) → SplitsAt xs place → cut (take (place + 1) xs) ≡ whole_line (take place xs) (cut [])
piece-cut xs place s = ap cut s.front ∙ cut-feed (take place xs) [] s.none

piece-good : (xs bytes : List ℕ) (rest : Cut) (place : ℕ) → SplitsAt xs place → cut (take (place + 1) xs) ≡ line bytes rest → is_good (take place xs) ≡ true
piece-good xs bytes rest place s is = elim (bool_cases (is_good (take place xs))) [
  | inl good ↦ good
  | inr bad ↦ absurd (let both : line bytes rest ≡ stopped = sym is ∙ piece-cut xs place s ∙ whole-bad (take place xs) (cut []) bad in cc)
]

piece-bad : (xs : List ℕ) (place : ℕ) → SplitsAt xs place → cut (take (place + 1) xs) ≡ stopped → is_good (take place xs) ≡ false
piece-bad xs place s is = elim (bool_cases (is_good (take place xs))) [
  | inl good ↦ absurd (let both : line (less_return (take place xs)) (cut []) ≡ stopped = sym (piece-cut xs place s ∙ whole-good (take place xs) (cut []) good) ∙ is in cc)
  | inr bad ↦ bad
]

-- all bytes by their first line
split-more : (xs : List ℕ) (place : ℕ) (more : List ℕ) → SplitsAt xs place → xs ++ more ≡ take place xs ++ 10 ∷ (drop (place + 1) xs ++ more)
split-more xs place more s = ap (λ ys. ys ++ more) s.whole ∙ append_assoc (take place xs) (10 ∷ drop (place + 1) xs) more

split-cut : (xs : List ℕ) (place : ℕ) (more : List ℕ) → SplitsAt xs place → cut (xs ++ more) ≡ whole_line (take place xs) (cut (drop (place + 1) xs ++ more))
split-cut xs place more s = ap cut (split-more xs place more s) ∙ cut-feed (take place xs) _ s.none

-- the line in front was looked at, and taken from the bytes
pub piece-kept : (o n : List ℕ) (names : List (List ℕ)) (xs : List ℕ) (place : ℕ) → SplitsAt xs place → KeepsPiece names (take (place + 1) xs) o n → IsCutUpTo (Some o) (Some n) names xs (drop (place + 1) xs)
piece-kept o n names xs place s keeps =
    let piece = take (place + 1) xs in
    let front = take place xs in
    let rest = drop (place + 1) xs in
    let good = piece-good xs keeps.bytes keeps.rest place s keeps.is_line in record {
      out = own_piece names keeps.bytes piece;
      wrote = keeps.wrote;
      kept_is = λ more.
          ap (kept names) (split-more xs place more s) ∙ kept-feed names front (rest ++ more) s.none
          ∙ ap (λ p. with_piece names (cut p) p (kept names (rest ++ more))) (sym s.front)
          ∙ ap (λ c. with_piece names c piece (kept names (rest ++ more))) keeps.is_line;
      stops_is = λ more. ap stops (split-cut xs place more s ∙ whole-good front (cut (rest ++ more)) good);
    }

-- the line in front is refused
pub piece-stopped : (xs : List ℕ) (place : ℕ) (more : List ℕ) → SplitsAt xs place → cut (take (place + 1) xs) ≡ stopped → cut (xs ++ more) ≡ stopped
piece-stopped xs place more s is = split-cut xs place more s ∙ whole-bad (take place xs) _ (piece-bad xs place s is)

-- what the line in front is by the bytes of its piece
pub front-keeps : (names : List (List ℕ)) (piece old new : List ℕ) (front : FrontLine) → IsFront piece (Some front)
    → new ≡ old ++ own_piece names front.text.now piece → KeepsPiece names piece old new
front-keeps names piece old new front is wrote = record {
  bytes = front.text.now;
  rest = cut (drop front.taken piece ++ []);
  is_line = ap cut (sym (append-nil piece)) ∙ is.2 [];
  wrote = wrote;
}

pub front-refused : (piece : List ℕ) → IsFront piece None → has_line piece ≡ true → cut piece ≡ stopped
front-refused piece is some = elim is [
  | inl none ↦ absurd (let both : true ≡ false = sym some ∙ none in cc)
  | inr stops ↦ ap cut (sym (append-nil piece)) ∙ stops []
]

-- ---- how a cut stops

pub stopped-outcome : (o : List ℕ) (names : List (List ℕ)) (bytes : List ℕ) → cut bytes ≡ stopped → CutOutcome (Some o) (Some o) names bytes (Err Line)
stopped-outcome o names bytes is = (subst (λ (ys : List ℕ). Appends (Some o) (Some o) ys) (sym (kept-stopped names bytes is)) (Appends-nil (Some o)), ap stops is)

pub memory-outcome : (o n : List ℕ) (names : List (List ℕ)) (bytes : List ℕ) → n ≡ o → CutOutcome (Some o) (Some n) names bytes (Err Memory)
memory-outcome o n names bytes same = (0, same ∙ sym (append-nil o))

-- the piece was refused, or there was no memory for it
pub piece-ends : (e : PortError) (o n : List ℕ) (names : List (List ℕ)) (xs : List ℕ) (place : ℕ) (more : List ℕ) → SplitsAt xs place → IsMemoryOrLine e
    → (e ≡ Line → cut (take (place + 1) xs) ≡ stopped) → n ≡ o → CutOutcome (Some o) (Some n) names (xs ++ more) (Err e)
piece-ends Line o n names xs place more s kind refused same =
    subst (λ (k : List ℕ). CutOutcome (Some o) (Some k) names (xs ++ more) (Err Line)) (sym same) (stopped-outcome o names (xs ++ more) (piece-stopped xs place more s (refused refl)))
piece-ends Memory o n names xs place more s kind refused same = memory-outcome o n names (xs ++ more) same
piece-ends Read o n names xs place more s kind refused same = absurd kind
piece-ends Write o n names xs place more s kind refused same = absurd kind

-- the same where the line feed was found in bytes that were lent
pub next-stopped : (e : PortError) (o n : List ℕ) (names : List (List ℕ)) (lent old piece : List ℕ) (place : ℕ) → lent ≡ old → IsFirstByte (is_byte 10) lent (Some place) → piece ≡ take (place + 1) lent
    → IsMemoryOrLine e → (e ≡ Line → cut piece ≡ stopped) → n ≡ o → (more : List ℕ) → CutOutcome (Some o) (Some n) names (old ++ more) (Err e)
next-stopped e o n names lent old piece place lends found is kind refused same more =
    subst (λ (ys : List ℕ). CutOutcome (Some o) (Some n) names (ys ++ more) (Err e)) lends
    (piece-ends e o n names lent place more (found-splits lent place found) kind (λ line. ap cut (sym is) ∙ refused line) same)

pub next-kept : (o n : List ℕ) (names : List (List ℕ)) (lent old piece new : List ℕ) (place : ℕ) → lent ≡ old → IsFirstByte (is_byte 10) lent (Some place) → piece ≡ take (place + 1) lent
    → KeepsPiece names piece o n → new ≡ drop (place + 1) old → IsCutUpTo (Some o) (Some n) names old new
next-kept o n names lent old piece new place lends found is keeps left =
    let one = piece-kept o n names lent place (found-splits lent place found) (subst (λ (ys : List ℕ). KeepsPiece names ys o n) is keeps) in
    subst (λ (ys : List ℕ). IsCutUpTo (Some o) (Some n) names old ys) (sym left)
    (subst (λ (ys : List ℕ). IsCutUpTo (Some o) (Some n) names ys (drop (place + 1) ys)) lends one)

-- what a cut comes to that has looked at some lines
pub outcome-after : (a b c : Option (List ℕ)) (names : List (List ℕ)) (out all rest : List ℕ) (r : Result (Unit {0}) PortError)
    → Appends a b out → kept names all ≡ out ++ kept names rest → stops (cut all) ≡ stops (cut rest) → CutOutcome b c names rest r → CutOutcome a c names all r
outcome-after a b c names out all rest (Ok x) h e s o = (subst (λ (ys : List ℕ). Appends a c ys) (sym e) (Appends-trans a b c _ _ h o.0), s ∙ o.1)
outcome-after a b c names out all rest (Err Line) h e s o = (subst (λ (ys : List ℕ). Appends a c ys) (sym e) (Appends-trans a b c _ _ h o.0), s ∙ o.1)
outcome-after a b c names out all rest (Err Memory) h e s o = subst (λ (ys : List ℕ). WritesFront a c ys) (sym e) (front-after a b c _ _ h o)
outcome-after a b c names out all rest (Err Read) h e s o = subst (λ (ys : List ℕ). WritesFront a c ys) (sym e) (front-after a b c _ _ h o)
outcome-after a b c names out all rest (Err Write) h e s o = subst (λ (ys : List ℕ). WritesFront a c ys) (sym e) (front-after a b c _ _ h o)

-- lines were looked at, and then the cut stopped
pub stopped-then : (a b c : Option (List ℕ)) (names : List (List ℕ)) (old mid more : List ℕ) (r : Result (Unit {0}) PortError)
    → IsCutUpTo a b names old mid → CutOutcome b c names (mid ++ more) r → CutOutcome a c names (old ++ more) r
stopped-then a b c names old mid more r done stops = outcome-after a b c names done.out (old ++ more) (mid ++ more) r done.wrote (done.kept_is more) (done.stops_is more) stops

-- ---- the last line

last-is : (names : List (List ℕ)) (rest : List ℕ) (c : Cut) → has_line rest ≡ false → cut rest ≡ c → kept names rest ≡ with_piece names c rest []
last-is names rest c none is = kept-none names rest (no_line-none rest none) ∙ ap (λ k. with_piece names k rest []) is

-- it was looked at
pub last-kept : (o n : List ℕ) (names : List (List ℕ)) (rest bytes : List ℕ) (found : Option (String Global)) (cut_off : String Global) (x : Unit {0})
    → has_line rest ≡ false → found ≡ Some cut_off → IsLast rest (Ok found) → bytes ≡ string_bytes cut_off
    → n ≡ o ++ own_piece names bytes rest → CutOutcome (Some o) (Some n) names rest (Ok x)
last-kept o n names rest bytes found cut_off x none is last spelt wrote =
    let cuts : cut rest ≡ line (string_bytes cut_off) ended = subst (λ (f : Option (String Global)). IsLast rest (Ok f)) is last in
    let is_line : cut rest ≡ line bytes ended = cuts ∙ ap (λ ys. line ys ended) (sym spelt) in
    let all : kept names rest ≡ own_piece names bytes rest = last-is names rest (line bytes ended) none is_line ∙ append-nil _ in
    (wrote ∙ ap (λ ys. o ++ ys) (sym all), ap stops is_line)

-- there is none
pub last-none : (o : List ℕ) (names : List (List ℕ)) (rest : List ℕ) (found : Option (String Global)) (x : Unit {0})
    → has_line rest ≡ false → found ≡ None → IsLast rest (Ok found) → CutOutcome (Some o) (Some o) names rest (Ok x)
last-none o names rest found x none is last =
    let is_end : cut rest ≡ ended = subst (λ (f : Option (String Global)). IsLast rest (Ok f)) is last in
    (subst (λ (ys : List ℕ). Appends (Some o) (Some o) ys) (sym (last-is names rest ended none is_end)) (Appends-nil (Some o)), ap stops is_end)

-- it is refused, or there was no memory for it
pub last-refused : (o : List ℕ) (names : List (List ℕ)) (rest : List ℕ) (e : PortError) → IsLast rest (Err e) → CutOutcome (Some o) (Some o) names rest (Err e)
last-refused o names rest Line last = stopped-outcome o names rest last
last-refused o names rest Memory last = memory-outcome o o names rest refl
last-refused o names rest Read last = absurd last
last-refused o names rest Write last = absurd last

pub last-kind : (rest : List ℕ) (e : PortError) → IsLast rest (Err e) → IsMemoryOrLine e
last-kind rest Line last = tt
last-kind rest Memory last = tt
last-kind rest Read last = last
last-kind rest Write last = last
