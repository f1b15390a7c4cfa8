-- The line in front, found by its line feed.
use Rattle.std.proofs.Common.{◌≡◌, ℕ, suc, ◌+◌, ◌-◌, ◌<◌, ◌≤◌, ◌==◌, Bool, true, false, cond, not, List, [], ◌∷◌, ◌++◌, length, take, drop, refl, sym, ap, ◌∙◌, subst, arith, Some, None, Bor, ◌⊎◌, inl, inr}
use Rattle.std.specs.List.{list_any}
use Rattle.std.specs.Prelude.{slice_index, ◌||◌, ◌&&◌, nat_lt, nat_eq}
use Rattle.std.specs.Str.{is_utf8, IsUtf8, IsAscii}
use Rattle.std.proofs.lemmas.Str.{is_utf8-from_IsUtf8, IsUtf8-from_is_utf8, IsUtf8-from_ascii, IsAscii-take}
use Rattle.std.specs.Cmp.Lexicographic.{pointwise}
use Rattle.std.proofs.lemmas.Bool.Decides.{nat_tests}
use Rattle.std.proofs.lemmas.List.Sums.{position_or_len_is}
use Rattle.memchr.specs.Find.{IsFirstByte, is_byte}
use Rattle.tokio_util.specs.Codec.Lines.{without_carriage_return, newline_from, read_line, Scan}
use Rattle.tokio_util.specs.Codec.Lines as scans
use Rattle.tokio_util.specs.Codec.LinesLaws.{read_line_found, read_line_long}
use Rattle.bh_lines.specs.Lines.{stopped, less_return, cut, has_line}
use Rattle.bh_lines.specs.Front.{IsFront}
use Rattle.bh_lines.proofs.Cutting.{feed, Finds, finds, less_return-is}

false_unless : (b : Bool) → ¬ (b ≡ true) → b ≡ false
false_unless true h = absurd (h refl)
false_unless false h = refl

newline-is : (xs : List ℕ) → newline_from 0 xs ≡ feed xs
unfolding newline_from
newline-is xs = omega arith

-- the byte that was found is the first line feed
feed-at : (xs : List ℕ) (end : ℕ) → IsFirstByte (is_byte 10) xs (Some end) → feed xs ≡ end
feed-at xs end found =
    position_or_len_is (λ b. b == 10) xs end 0 (omega (arith, found.0.high)) (λ k h. false_unless (slice_index xs k == 10) (found.0.before k (omega arith) h)) (λ _. found.1)

-- none was found
feed-none : (xs : List ℕ) → IsFirstByte (is_byte 10) xs None → feed xs ≡ length xs
feed-none xs none =
    position_or_len_is (λ b. b == 10) xs (length xs) 0 (omega arith) (λ k h. false_unless (slice_index xs k == 10) (none k (omega arith) h)) (λ bad. absurd (omega (arith, bad)))

scan-is : (xs : List ℕ) (found : Scan) → read_line 1024 0 xs ≡ found → Finds xs found
scan-is xs found is = subst (λ (s : Scan). Finds xs s) is (finds xs)

found-scan : (xs : List ℕ) (end : ℕ) → IsFirstByte (is_byte 10) xs (Some end) → end ≤ 1024 → Finds xs (scans.line (without_carriage_return (take end xs)) (drop (end + 1) xs))
found-scan xs end found near =
    let at : newline_from 0 xs ≡ end = newline-is xs ∙ feed-at xs end found in
    let low : newline_from 0 xs < length xs = omega (arith, found.0.high) in
    let close : newline_from 0 xs ≤ 1024 = omega arith in
    scan-is xs _ (read_line_found 1024 0 xs low close ∙ ap (λ n. scans.line (without_carriage_return (take n xs)) (drop (n + 1) xs)) at)

-- the line in front, of so few bytes and UTF-8
pub front-found : (xs : List ℕ) (end : ℕ) (text : Bor (List ℕ)) → IsFirstByte (is_byte 10) xs (Some end) → end ≤ 1024
    → text.now ≡ less_return (take end xs) → is_utf8 (less_return (take end xs)) ≡ true → IsFront xs (Some (record { text = text; taken = end + 1 }))
front-found xs end text found near is valid =
    let f = found-scan xs end found near in
    let same : without_carriage_return (take end xs) ≡ text.now = sym (is ∙ less_return-is (take end xs)) in
    let good : is_utf8 (without_carriage_return (take end xs)) ≡ true = ap is_utf8 (sym (less_return-is (take end xs))) ∙ valid in (
      omega arith,
      omega (arith, found.0.high),
      λ more. f.1 more ∙ rw (good, same) refl,
      f.2,
    )

-- the line in front is not UTF-8
pub front-invalid : (xs : List ℕ) (end : ℕ) → IsFirstByte (is_byte 10) xs (Some end) → end ≤ 1024 → is_utf8 (less_return (take end xs)) ≡ false → IsFront xs None
front-invalid xs end found near invalid = inr (λ more.
    let f = found-scan xs end found near in
    let bad : is_utf8 (without_carriage_return (take end xs)) ≡ false = ap is_utf8 (sym (less_return-is (take end xs))) ∙ invalid in
    f.1 more ∙ rw bad refl)

-- the line in front has ended, with too many bytes
pub front-far : (xs : List ℕ) (end : ℕ) → IsFirstByte (is_byte 10) xs (Some end) → 1024 < end → IsFront xs None
front-far xs end found far = inr (
    let at : newline_from 0 xs ≡ end = newline-is xs ∙ feed-at xs end found in
    let past : 1024 < newline_from 0 xs = omega arith in
    let long : 1024 < length xs = omega (arith, found.0.high) in
    scan-is xs _ (read_line_long 1024 0 xs past long))

-- the line in front has not ended, with too many bytes
front-long : (xs : List ℕ) → IsFirstByte (is_byte 10) xs None → 1024 < length xs → (more : List ℕ) → cut (xs ++ more) ≡ stopped
front-long xs none long =
    let at : newline_from 0 xs ≡ length xs = newline-is xs ∙ feed-none xs none in
    let past : 1024 < newline_from 0 xs = omega arith in
    scan-is xs _ (read_line_long 1024 0 xs past long)

any-none : (xs : List ℕ) → length xs ≤ feed xs → list_any (λ b. b == 10) xs ≡ false
any-none [] h = refl
any-none (b ∷ bs) h =
    elim (b == 10) as (λ v. suc (length bs) ≤ cond (not v) (1 + feed bs) 0 → (v || list_any (λ x. x == 10) bs) ≡ false) [
      | true ↦ λ k. absurd (omega (arith, k))
      | false ↦ λ k. any-none bs (omega (arith, k))
    ] h

-- no line has ended
front-none : (xs : List ℕ) → IsFirstByte (is_byte 10) xs None → length xs ≤ 1024 → has_line xs ≡ false
front-none xs none short =
    let few : nat_lt 1024 (length xs) ≡ false = grind (arith, nat_tests) in
    let missing : length xs ≤ feed xs = omega (arith, feed-none xs none) in
    rw few (any-none xs missing)

-- no line feed stands in the bytes
pub front-missing : (xs : List ℕ) → IsFirstByte (is_byte 10) xs None → IsFront xs None
front-missing xs none =
    elim (cases_lt 1024 (length xs)) [
      | inl long ↦ inr (front-long xs none long)
      | inr short ↦ inl (front-none xs none short)
    ]
  where
    cases_lt : (a b : ℕ) → (a < b) ⊎ (b ≤ a)
    cases_lt a b = grind arith

-- the bytes that were read as text are UTF-8
pub text-valid : (found bytes : List ℕ) → found ≡ bytes → IsUtf8 found → is_utf8 bytes ≡ true
text-valid found bytes is valid = is_utf8-from_IsUtf8 bytes (subst (λ (ys : List ℕ). IsUtf8 ys) is valid)

-- the bytes that could not be are not
pub text-invalid : (found bytes : List ℕ) → found ≡ bytes → ¬ (IsUtf8 found) → is_utf8 bytes ≡ false
text-invalid found bytes is invalid = false_unless (is_utf8 bytes) (λ t. invalid (subst (λ (ys : List ℕ). IsUtf8 ys) (sym is) (IsUtf8-from_is_utf8 bytes t)))

-- a carriage return stands at the end
pub return-stripped : (xs : List ℕ) → pointwise nat_eq (drop (length xs - 1) xs) (13 ∷ []) ≡ true → less_return xs ≡ take (length xs - 1) xs
return-stripped [] h = refl
return-stripped (b ∷ []) h =
    elim (b == 13) as (λ v. (v && true) ≡ true → cond v [] (b ∷ []) ≡ []) [ true ↦ λ _. refl | false ↦ λ k. let e : false ≡ true = k in cc ] h
return-stripped (b ∷ c ∷ bs) h =
    let two : suc (suc (length bs)) - 1 ≡ suc (length bs) = omega arith in
    let one : suc (length bs) - 1 ≡ length bs = omega arith in
    rw two (ap (λ ys. b ∷ ys) (return-stripped (c ∷ bs) (rw one (rw two at h)) ∙ rw one refl))

-- none does
pub return-missing : (xs : List ℕ) → pointwise nat_eq (drop (length xs - 1) xs) (13 ∷ []) ≡ false → less_return xs ≡ xs
return-missing [] h = refl
return-missing (b ∷ []) h =
    elim (b == 13) as (λ v. (v && true) ≡ false → cond v [] (b ∷ []) ≡ b ∷ []) [ true ↦ λ k. let e : true ≡ false = k in cc | false ↦ λ _. refl ] h
return-missing (b ∷ c ∷ bs) h =
    let two : suc (suc (length bs)) - 1 ≡ suc (length bs) = omega arith in
    let one : suc (length bs) - 1 ≡ length bs = omega arith in
    ap (λ ys. b ∷ ys) (return-missing (c ∷ bs) (rw one (rw two at h)))

-- the bytes without their carriage return are ASCII, as they are with it
return-ascii : (xs : List ℕ) → IsAscii xs → IsAscii (less_return xs)
return-ascii xs h =
    elim (pointwise nat_eq (drop (length xs - 1) xs) (13 ∷ [])) as (λ v. pointwise nat_eq (drop (length xs - 1) xs) (13 ∷ []) ≡ v → IsAscii (less_return xs)) [
      | true ↦ λ e. subst (λ (ys : List ℕ). IsAscii ys) (sym (return-stripped xs e)) (IsAscii-take xs (length xs - 1) h)
      | false ↦ λ e. subst (λ (ys : List ℕ). IsAscii ys) (sym (return-missing xs e)) h
    ] refl

-- a line of ASCII is text without its carriage return
pub ascii-text : (xs : List ℕ) → IsAscii xs → IsUtf8 (less_return xs)
ascii-text xs h = IsUtf8-from_ascii (less_return xs) (return-ascii xs h)
