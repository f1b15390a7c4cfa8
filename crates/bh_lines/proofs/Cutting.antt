-- The codec's scan agrees with `cut`.
use Rattle.std.proofs.Common.{◌≡◌, ℕ, suc, ◌+◌, ◌-◌, ◌<◌, ◌≤◌, ◌==◌, Bool, true, false, cond, not, List, [], ◌∷◌, ◌++◌, length, take, drop, refl, sym, ap, ◌∙◌, subst, inl, inr, arith, length-append, length-drop, length-take, append-nil, append_assoc}
use Rattle.std.specs.List.{position_or_len, list_any}
use Rattle.std.specs.Prelude.{slice_index, ◌||◌, nat_lt, nat_le, if◌then◌else◌}
use Rattle.std.specs.Str.{is_utf8}
use Rattle.std.proofs.lemmas.Bool.{cases_lt}
use Rattle.std.proofs.lemmas.Bool.Decides.{nat_tests}
use Rattle.std.proofs.lemmas.List.{take-append-le, drop-append-le}
use Rattle.std.proofs.Common.{String, string_bytes, Ok, Err, Some, None}
use Rattle.std.specs.declared.alloc.Global.{Global}
use Rattle.std.proofs.lemmas.Str.{is_utf8-from_IsUtf8, IsUtf8-from_is_utf8, IsUtf8-string_bytes, IsUtf8-nil}
use Rattle.tokio_util.specs.declared.codec.lines_codec.LinesCodec.{LinesCodec}
use Rattle.tokio_util.specs.declared.codec.lines_codec.LinesCodecError.{LinesCodecError}
use Rattle.tokio_util.specs.declared.codec.lines_codec.LinesCodecError.TheVariants.{MaxLineLengthExceeded, Io}
use Rattle.tokio_util.specs.Codec.Next.{decoded, partial, at_end}
use Rattle.tokio_util.specs.Codec.Lines.{without_carriage_return, newline_from, read_line, Scan, at_line_start, gives_lines, Answers, AnswersAtEnd, AnswersLast, IsOutOfMemory, IsTextOf, IsUnfinished}
use Rattle.tokio_util.specs.Codec.Lines as scans
use Rattle.tokio_util.specs.Codec.LinesLaws.{read_line_found, read_line_long, read_line_short, newline_from-append_found, newline_from-append_missing}
use Rattle.bh_lines.specs.Taken.{IsBehindFeed}
use Rattle.bh_lines.specs.Lines.{Cut, line, ended, stopped, less_return, whole_line, last_line, cut_from, cut, has_line}

-- the first line feed
abbrev pub feed : List ℕ → ℕ
feed xs = position_or_len (λ b. b == 10) xs

-- where a line feed follows, a line ends there
pub cut_from-found : (front xs : List ℕ) → feed xs < length xs → cut_from front xs ≡ whole_line (front ++ take (feed xs) xs) (cut (drop (feed xs + 1) xs))
unfolding cut_from
cut_from-found front [] h = absurd (omega (arith, h))
cut_from-found front (b ∷ bs) h =
    elim (b == 10) as (λ v. cond (not v) (1 + feed bs) 0 < suc (length bs)
    → cond v (whole_line front (cut_from [] bs)) (cut_from (front ++ b ∷ []) bs)
    ≡ whole_line (front ++ take (cond (not v) (1 + feed bs) 0) (b ∷ bs)) (cut (drop (cond (not v) (1 + feed bs) 0 + 1) (b ∷ bs)))) [
      | true ↦ λ _. rw append-nil refl
      | false ↦ λ k.
          let one : 1 + feed bs ≡ suc (feed bs) = omega arith in
          let two : suc (feed bs) + 1 ≡ suc (feed bs + 1) = omega arith in
          let low : feed bs < length bs = omega arith in
          rw (one, two) (cut_from-found (front ++ b ∷ []) bs low ∙ rw append_assoc refl)
    ] h

-- where none follows, all that is left is the last line
pub cut_from-missing : (front xs : List ℕ) → length xs ≤ feed xs → cut_from front xs ≡ last_line (front ++ xs)
unfolding cut_from
cut_from-missing front [] h = rw append-nil refl
cut_from-missing front (b ∷ bs) h =
    elim (b == 10) as (λ v. suc (length bs) ≤ cond (not v) (1 + feed bs) 0
    → cond v (whole_line front (cut_from [] bs)) (cut_from (front ++ b ∷ []) bs) ≡ last_line (front ++ b ∷ bs)) [
      | true ↦ λ k. absurd (omega (arith, k))
      | false ↦ λ k.
          let low : length bs ≤ feed bs = omega arith in
          cut_from-missing (front ++ b ∷ []) bs low ∙ rw append_assoc refl
    ] h

-- at one byte or more the codec looks at the last byte
without-is : (x : ℕ) (xs : List ℕ) → without_carriage_return (x ∷ xs) ≡ cond (slice_index (x ∷ xs) (length xs) == 13) (take (length xs) (x ∷ xs)) (x ∷ xs)
unfolding without_carriage_return
without-is x xs =
    let one : suc (length xs) - 1 ≡ length xs = omega arith in
    let some : nat_lt 0 (suc (length xs)) ≡ true = grind (arith, nat_tests) in
    rw (one, some) refl

-- the definition by cases takes what the codec takes
pub less_return-is : (xs : List ℕ) → less_return xs ≡ without_carriage_return xs
less_return-is [] = unfold without_carriage_return in refl
less_return-is (b ∷ []) = sym (without-is b [])
less_return-is (b ∷ c ∷ bs) =
    ap (λ ys. b ∷ ys) (less_return-is (c ∷ bs) ∙ without-is c bs)
    ∙ (elim (slice_index (c ∷ bs) (length bs) == 13) as (λ v. b ∷ cond v (take (length bs) (c ∷ bs)) (c ∷ bs) ≡ cond v (b ∷ take (length bs) (c ∷ bs)) (b ∷ c ∷ bs)) [ true ↦ refl | false ↦ refl ])
    ∙ sym (without-is b (c ∷ bs))

-- the first line feed, what stands before it and what follows
feed-splits : (xs : List ℕ) → feed xs < length xs → xs ≡ take (feed xs) xs ++ 10 ∷ drop (feed xs + 1) xs
feed-splits [] h = absurd (omega (arith, h))
feed-splits (b ∷ bs) h =
    elim (b == 10) as (λ v. (b == 10) ≡ v → cond (not v) (1 + feed bs) 0 < suc (length bs)
    → b ∷ bs ≡ take (cond (not v) (1 + feed bs) 0) (b ∷ bs) ++ 10 ∷ drop (cond (not v) (1 + feed bs) 0 + 1) (b ∷ bs)) [
      | true ↦ λ e _. let is : b ≡ 10 = grind (arith, nat_tests) in ap (λ k. k ∷ bs) is
      | false ↦ λ _ k.
          let one : 1 + feed bs ≡ suc (feed bs) = omega arith in
          let two : suc (feed bs) + 1 ≡ suc (feed bs + 1) = omega arith in
          let low : feed bs < length bs = omega (arith, k) in
          rw (one, two) (ap (λ ys. b ∷ ys) (feed-splits bs low))
    ] refl h

-- what a scan from the start of a line says of the lines, whatever bytes follow
abbrev pub Finds : List ℕ → Scan → Type 0
Finds xs (scans.line found rest) =
    (length rest < length xs) × ((more : List ℕ) → cut (xs ++ more) ≡ (if is_utf8 found then line found (cut (rest ++ more)) else stopped))
    × IsBehindFeed xs rest
Finds xs (scans.too_long rest) = (more : List ℕ) → cut (xs ++ more) ≡ stopped
Finds xs (scans.unfinished is_dropped kept) = (is_dropped ≡ false) × (kept ≡ xs) × (cut xs ≡ last_line xs) × (length xs ≤ feed xs) × (length xs ≤ 1024)

feed-is : (xs : List ℕ) → newline_from 0 xs ≡ feed xs
unfolding newline_from
feed-is xs = omega arith

newline-splits : (xs : List ℕ) → newline_from 0 xs < length xs → xs ≡ take (newline_from 0 xs) xs ++ 10 ∷ drop (newline_from 0 xs + 1) xs
newline-splits xs h = rw (feed-is xs) (feed-splits xs (rw (feed-is xs) at h))

-- the same by the place at which the codec finds the line feed
pub cut-found : (xs : List ℕ) → newline_from 0 xs < length xs → cut xs ≡ whole_line (take (newline_from 0 xs) xs) (cut (drop (newline_from 0 xs + 1) xs))
cut-found xs h = rw (feed-is xs) (cut_from-found [] xs (rw (feed-is xs) at h))

-- the same where the codec finds none
pub cut-missing : (xs : List ℕ) → length xs ≤ newline_from 0 xs → cut xs ≡ last_line xs
cut-missing xs h = cut_from-missing [] xs (rw (feed-is xs) at h)

accepts : (bytes : List ℕ) (rest : Cut) → length bytes ≤ 1024 → whole_line bytes rest ≡ (if is_utf8 (without_carriage_return bytes) then line (without_carriage_return bytes) rest else stopped)
unfolding whole_line
accepts bytes rest h =
    let fits : nat_le (length bytes) 1024 ≡ true = grind (arith, nat_tests) in
    rw (fits, less_return-is bytes) refl

refuses : (bytes : List ℕ) (rest : Cut) → 1024 < length bytes → whole_line bytes rest ≡ stopped
unfolding whole_line
refuses bytes rest h =
    let long : nat_le (length bytes) 1024 ≡ false = grind (arith, nat_tests) in
    rw long refl

less_return-length : (xs : List ℕ) → length xs ≤ length (less_return xs) + 1
less_return-length [] = omega arith
less_return-length (b ∷ []) = elim (b == 13) as (λ v. 1 ≤ length (cond v [] (b ∷ [])) + 1) [ true ↦ omega arith | false ↦ omega arith ]
less_return-length (b ∷ c ∷ bs) = omega (arith, less_return-length (c ∷ bs))

refuses-last : (xs : List ℕ) → 1024 < length xs → last_line xs ≡ stopped
unfolding last_line
refuses-last xs h =
    let some : (length (less_return xs) == 0) ≡ false = grind (arith, nat_tests, less_return-length xs) in
    rw some (refuses xs ended h)

finds-line : (xs : List ℕ) → newline_from 0 xs < length xs → newline_from 0 xs ≤ 1024 → Finds xs (read_line 1024 0 xs)
finds-line xs h low =
    let n = newline_from 0 xs in
    let within : n ≤ length xs = omega arith in
    let back : n + 1 ≤ length xs = omega arith in
    rw (read_line_found 1024 0 xs h low) (
      omega (arith, length-drop (n + 1) xs),
      λ more.
          let longer : newline_from 0 (xs ++ more) ≡ n = newline_from-append_found 0 xs more h in
          cut-found (xs ++ more) (omega (arith, length-append xs more))
          ∙ rw (longer, take-append-le n xs more within, drop-append-le (n + 1) xs more back) (accepts (take n xs) (cut (drop (n + 1) xs ++ more)) (omega (arith, length-take n xs))),
      (take n xs, newline-splits xs h),
    )

finds-long : (xs : List ℕ) → 1024 < newline_from 0 xs → 1024 < length xs → Finds xs (read_line 1024 0 xs)
finds-long xs far long =
    rw (read_line_long 1024 0 xs far long)
    (λ more.
    let all = xs ++ more in
    let past : 1024 < newline_from 0 all = elim (cases_lt (newline_from 0 xs) (length xs)) [
      | inl f ↦ omega (arith, newline_from-append_found 0 xs more f)
      | inr m ↦ omega (arith, newline_from-append_missing 0 xs more (omega arith) m)
    ] in
    elim (cases_lt (newline_from 0 all) (length all)) [
      | inl found ↦ cut-found all found ∙ refuses (take (newline_from 0 all) all) _ (omega (arith, length-take (newline_from 0 all) all))
      | inr missing ↦ cut-missing all missing ∙ refuses-last all (omega (arith, length-append xs more))
    ])

finds-short : (xs : List ℕ) → length xs ≤ newline_from 0 xs → length xs ≤ 1024 → Finds xs (read_line 1024 0 xs)
finds-short xs h short =
    rw (read_line_short 1024 0 xs h short) (refl, refl, cut-missing xs h, rw (feed-is xs) at h, short)

-- the codec finds of every text what `cut` says
pub finds : (xs : List ℕ) → Finds xs (read_line 1024 0 xs)
finds xs =
    elim (cases_lt 1024 (newline_from 0 xs)) [
      | inl far ↦ elim (cases_lt 1024 (length xs)) [
        | inl long ↦ finds-long xs far long
        | inr short ↦ finds-short xs (omega arith) short
      ]
      | inr near ↦ elim (cases_lt (newline_from 0 xs) (length xs)) [
        | inl found ↦ finds-line xs found near
        | inr missing ↦ finds-short xs missing (omega arith)
      ]
    ]

-- a codec that has read nothing of its line
abbrev pub start : LinesCodec
start = at_line_start 1024

-- what a decoded line says of the bytes that it was taken from
pub decoded-line : (rest : List ℕ) (s : String Global) (codec : LinesCodec) (left : List ℕ)
    → gives_lines start rest (decoded (Ok s) codec left)
    → (codec ≡ start) × (length left < length rest) × ((more : List ℕ) → cut (rest ++ more) ≡ line (string_bytes s) (cut (left ++ more))) × IsBehindFeed rest left
decoded-line rest s codec left h =
    elim (read_line 1024 0 rest) as (λ found. Finds rest found → Answers 1024 found (Ok s) codec left → (codec ≡ start) × (length left < length rest) × ((more : List ℕ) → cut (rest ++ more) ≡ line (string_bytes s) (cut (left ++ more))) × IsBehindFeed rest left) [
      | scans.line bytes after ↦ λ f a. elim a [
        | inl r ↦
            let valid : is_utf8 bytes ≡ true = rw (← r.0) (is_utf8-from_IsUtf8 _ (IsUtf8-string_bytes s)) in
            (r.1, rw r.2 f.0, λ more. f.1 more ∙ rw (valid, r.0, r.2) refl, rw r.2 f.2)
        | inr bad ↦ absurd bad.0
      ]
      | scans.too_long after ↦ λ _ a. let e = a.0 in cc
      | scans.unfinished is_dropped kept ↦ λ _ a. absurd a
    ] (finds rest) h

false_unless : (b : Bool) → ¬ (b ≡ true) → b ≡ false
false_unless true h = absurd (h refl)
false_unless false h = refl

not_text : (bytes : List ℕ) (e : LinesCodecError) → IsTextOf bytes (Err e) → is_utf8 bytes ≡ false
not_text bytes (Io e) h = false_unless _ (λ t. h.1 (IsUtf8-from_is_utf8 bytes t))
not_text bytes MaxLineLengthExceeded h = absurd h

-- an error other than want of memory is a line that is refused
pub decoded-error : (rest : List ℕ) (e : LinesCodecError) (codec : LinesCodec) (left : List ℕ)
    → gives_lines start rest (decoded (Err e) codec left) → ¬ (IsOutOfMemory {T = String Global} (Err e))
    → (more : List ℕ) → cut (rest ++ more) ≡ stopped
decoded-error rest e codec left h other =
    elim (read_line 1024 0 rest) as (λ found. Finds rest found → Answers 1024 found (Err e) codec left → (more : List ℕ) → cut (rest ++ more) ≡ stopped) [
      | scans.line bytes after ↦ λ f a. elim a [
        | inl r ↦ λ more.
            let invalid : is_utf8 bytes ≡ false = not_text bytes e r.0 in
            f.1 more ∙ rw invalid refl
        | inr bad ↦ absurd (other bad.0)
      ]
      | scans.too_long after ↦ λ f _. f
      | scans.unfinished is_dropped kept ↦ λ _ a. absurd a
    ] (finds rest) h

any-below : (xs : List ℕ) → list_any (λ b. b == 10) xs ≡ true → feed xs < length xs
any-below [] h = let e : false ≡ true = h in cc
any-below (b ∷ bs) h =
    elim (b == 10) as (λ v. (v || list_any (λ x. x == 10) bs) ≡ true → cond (not v) (1 + feed bs) 0 < suc (length bs)) [
      | true ↦ λ _. omega arith
      | false ↦ λ k. omega (arith, any-below bs k)
    ] h

-- where a line can be told, the codec answers
pub has_line-answers : (xs : List ℕ) → has_line xs ≡ true → ¬ (gives_lines start xs partial)
has_line-answers xs h =
    elim (read_line 1024 0 xs) as (λ found. Finds xs found → IsUnfinished found → ⊥) [
      | scans.line bytes after ↦ λ _ a. a
      | scans.too_long after ↦ λ _ a. a
      | scans.unfinished is_dropped kept ↦ λ f _.
          let short : nat_lt 1024 (length xs) ≡ false = grind (arith, nat_tests, f.4) in
          let some : list_any (λ b. b == 10) xs ≡ true = rw short at h in
          omega (arith, any-below xs some, f.3)
    ] (finds xs)

-- the last line, where its bytes are few and some are left without the carriage return
pub last-is : (xs : List ℕ) → 0 < length (without_carriage_return xs) → length xs ≤ 1024 → last_line xs ≡ (if is_utf8 (without_carriage_return xs) then line (without_carriage_return xs) ended else stopped)
unfolding last_line
last-is xs h short =
    let long : 0 < length (less_return xs) = rw less_return-is h in
    let some : (length (less_return xs) == 0) ≡ false = grind (arith, nat_tests) in
    rw some (accepts xs ended short)

-- no byte is left without the carriage return, so there is no last line
pub last-empty : (xs : List ℕ) → without_carriage_return xs ≡ [] → last_line xs ≡ ended
unfolding last_line
last-empty xs h =
    let none : less_return xs ≡ [] = less_return-is xs ∙ h in
    rw none refl

-- what is not UTF-8 has bytes
pub some_bytes : (xs : List ℕ) → is_utf8 xs ≡ false → 0 < length xs
some_bytes [] h = let e : is_utf8 [] ≡ true = is_utf8-from_IsUtf8 [] IsUtf8-nil in let both : true ≡ false = sym e ∙ h in cc
some_bytes (x ∷ xs) h = omega arith

-- at the end of the input
pub last-line : (rest : List ℕ) (s : String Global) (codec : LinesCodec) (left : List ℕ)
    → gives_lines start rest (at_end (Ok (Some s)) codec left) → cut rest ≡ line (string_bytes s) ended
last-line rest s codec left h =
    elim (read_line 1024 0 rest) as (λ found. Finds rest found → AnswersAtEnd 1024 found (Ok (Some s)) codec left → cut rest ≡ line (string_bytes s) ended) [
      | scans.line bytes after ↦ λ _ a. absurd a
      | scans.too_long after ↦ λ _ a. absurd a
      | scans.unfinished is_dropped kept ↦ λ f a.
          let answer : AnswersLast rest (Ok (Some s)) left = rw f.1 at a.0 in
          let valid : is_utf8 (without_carriage_return rest) ≡ true = rw (← answer.1) (is_utf8-from_IsUtf8 _ (IsUtf8-string_bytes s)) in
          f.2 ∙ last-is rest answer.0 f.4 ∙ rw (valid, answer.1) refl
    ] (finds rest) h

-- at the end of the input no byte of a line is left
pub last-none : (rest : List ℕ) (codec : LinesCodec) (left : List ℕ)
    → gives_lines start rest (at_end (Ok None) codec left) → cut rest ≡ ended
last-none rest codec left h =
    elim (read_line 1024 0 rest) as (λ found. Finds rest found → AnswersAtEnd 1024 found (Ok None) codec left → cut rest ≡ ended) [
      | scans.line bytes after ↦ λ _ a. absurd a
      | scans.too_long after ↦ λ _ a. absurd a
      | scans.unfinished is_dropped kept ↦ λ f a.
          let answer : AnswersLast rest (Ok None) left = rw f.1 at a.0 in
          f.2 ∙ last-empty rest answer.0
    ] (finds rest) h

-- at the end of the input the last line is refused, unless memory was wanting
pub last-error : (rest : List ℕ) (e : LinesCodecError) (codec : LinesCodec) (left : List ℕ)
    → gives_lines start rest (at_end (Err e) codec left) → ¬ (IsOutOfMemory {T = ℕ} (Err e)) → cut rest ≡ stopped
last-error rest e codec left h other =
    elim (read_line 1024 0 rest) as (λ found. Finds rest found → AnswersAtEnd 1024 found (Err e) codec left → cut rest ≡ stopped) [
      | scans.line bytes after ↦ λ _ a. absurd a
      | scans.too_long after ↦ λ _ a. absurd a
      | scans.unfinished is_dropped kept ↦ λ f a.
          let answer : AnswersLast rest (Err e) left = subst (λ (k : List ℕ). AnswersLast k (Err e) left) f.1 a.0 in
          elim answer [
            | inl r ↦
                let invalid : is_utf8 (without_carriage_return rest) ≡ false = not_text _ e r.0 in
                f.2 ∙ last-is rest (some_bytes _ invalid) f.4 ∙ rw invalid refl
            | inr bad ↦ absurd (other bad.0)
          ]
    ] (finds rest) h

-- where no byte is a line feed, none is found
pub any-above : (xs : List ℕ) → list_any (λ b. b == 10) xs ≡ false → length xs ≤ feed xs
any-above [] h = omega arith
any-above (b ∷ bs) h =
    elim (b == 10) as (λ v. (v || list_any (λ x. x == 10) bs) ≡ false → suc (length bs) ≤ cond (not v) (1 + feed bs) 0) [
      | true ↦ λ k. let e : true ≡ false = k in cc
      | false ↦ λ k. omega (arith, any-above bs k)
    ] h

no_line-unfinished : (xs : List ℕ) → has_line xs ≡ false → read_line 1024 0 xs ≡ scans.unfinished false xs
no_line-unfinished xs h =
    elim (nat_lt 1024 (length xs)) as (λ v. nat_lt 1024 (length xs) ≡ v → (v || list_any (λ b. b == 10) xs) ≡ false → read_line 1024 0 xs ≡ scans.unfinished false xs) [
      | true ↦ λ _ k. let e : true ≡ false = k in cc
      | false ↦ λ is k.
          let short : length xs ≤ 1024 = grind (arith, nat_tests) in
          read_line_short 1024 0 xs (rw feed-is (any-above xs k)) short
    ] refl h

-- where no line can be told, the codec has no answer yet
pub no_line-partial : (xs : List ℕ) → has_line xs ≡ false → gives_lines start xs partial
no_line-partial xs h = subst (λ (found : Scan). IsUnfinished found) (sym (no_line-unfinished xs h)) tt

-- where no line can be told, the codec refuses none
pub no_line-no_error : (xs : List ℕ) (e : LinesCodecError) (codec : LinesCodec) (left : List ℕ) → has_line xs ≡ false → ¬ (gives_lines start xs (decoded (Err e) codec left))
no_line-no_error xs e codec left h d = subst (λ (found : Scan). Answers 1024 found (Err e) codec left) (no_line-unfinished xs h) d
