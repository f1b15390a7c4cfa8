-- What the codec's answers say of the bytes in the buffer.
use Rattle.std.proofs.Common.{◌≡◌, ℕ, ◌↔◌, true, false, List, [], sym, subst, append-nil, String, Option, Some, None, Ok, Err, inl, inr}
use Rattle.std.specs.declared.alloc.Global.{Global}
use Rattle.tokio_util.specs.declared.codec.lines_codec.LinesCodec.{LinesCodec}
use Rattle.tokio_util.specs.declared.codec.lines_codec.LinesCodecError.{LinesCodecError}
use Rattle.tokio_util.specs.Codec.Next.{Decodes, DecodesAtEnd, Resumes, partial}
use Rattle.tokio_util.specs.Codec.Lines.{gives_lines, IsOutOfMemory}
use Rattle.bh_lines.specs.declared.port_error.PortError.{PortError}
use Rattle.bh_lines.specs.declared.port_error.PortError.TheVariants.{Read, Write, Line, Memory}
use Rattle.bh_lines.specs.Lines.{has_line}
use Rattle.bh_lines.specs.Taken.{TakesLine, IsLast, IsMemoryOrLine}
use Rattle.bh_lines.proofs.Cutting.{start, decoded-line, decoded-error, has_line-answers, no_line-partial, no_line-no_error, last-line, last-none, last-error}
use Rattle.tokio_util.specs.Codec.LinesLaws.{lines_partial}

-- before more bytes come, what a codec may go on with is what one at the start of the line may
now-partial : (old : List ℕ) (codec : LinesCodec) (new : List ℕ) → gives_lines codec new partial → Resumes gives_lines start old codec new → gives_lines start old partial
now-partial old codec new h go =
    let P : List ℕ → Type 0 = λ xs. gives_lines start xs partial in
    let Q : List ℕ → Type 0 = λ xs. gives_lines codec xs partial in
    subst P (append-nil old) (go [] partial (subst Q (sym (append-nil new)) h))

ok-from-start : (old : List ℕ) (found : Option (String Global)) (codec : LinesCodec) (new : List ℕ)
    → has_line old ≡ true → Decodes gives_lines start old (Ok found) codec new → TakesLine old (Ok found) new
ok-from-start old (Some s) codec new some h = let d = decoded-line old s codec new h in (d.1, d.2, d.3)
ok-from-start old None codec new some h = absurd (has_line-answers old some (now-partial old codec new h.0 h.1))

err-from-start : (old : List ℕ) (error : LinesCodecError) (refused : PortError) (codec : LinesCodec) (new : List ℕ)
    → (refused ≡ Memory ↔ IsOutOfMemory {T = ℕ} (Err error)) → IsMemoryOrLine refused
    → Decodes gives_lines start old (Err error) codec new → TakesLine old (Err refused) new
err-from-start old error Line codec new memory kind h = decoded-error old error codec new h (λ bad. let e : Line ≡ Memory = memory.1 bad in cc)
err-from-start old error Memory codec new memory kind h = tt
err-from-start old error Read codec new memory kind h = kind
err-from-start old error Write codec new memory kind h = kind

-- The codec that decodes is one at the start of a line, as `was-start` says.
pub takes-ok : (was : LinesCodec) (old : List ℕ) (found : Option (String Global)) (codec : LinesCodec) (new : List ℕ)
    → was ≡ start → has_line old ≡ true → Decodes gives_lines was old (Ok found) codec new → TakesLine old (Ok found) new
takes-ok was old found codec new was-start some h =
    ok-from-start old found codec new some (subst (λ (k : LinesCodec). Decodes gives_lines k old (Ok found) codec new) was-start h)

-- the same of an error
pub takes-err : (was : LinesCodec) (old : List ℕ) (error : LinesCodecError) (refused : PortError) (codec : LinesCodec) (new : List ℕ)
    → was ≡ start → (refused ≡ Memory ↔ IsOutOfMemory {T = ℕ} (Err error)) → IsMemoryOrLine refused
    → Decodes gives_lines was old (Err error) codec new → TakesLine old (Err refused) new
takes-err was old error refused codec new was-start memory kind h =
    err-from-start old error refused codec new memory kind (subst (λ (k : LinesCodec). Decodes gives_lines k old (Err error) codec new) was-start h)

last-ok-from-start : (old : List ℕ) (found : Option (String Global)) (codec : LinesCodec) (new : List ℕ)
    → has_line old ≡ false → DecodesAtEnd gives_lines start old (Ok found) codec new → IsLast old (Ok found)
last-ok-from-start old (Some s) codec new none h =
    elim h [
      | inl d ↦ absurd (lines_partial start old s codec new (no_line-partial old none) d)
      | inr e ↦ last-line old s codec new e
    ]
last-ok-from-start old None codec new none h = last-none old codec new h

last-err-from-start : (old : List ℕ) (error : LinesCodecError) (refused : PortError) (codec : LinesCodec) (new : List ℕ)
    → has_line old ≡ false → (refused ≡ Memory ↔ IsOutOfMemory {T = ℕ} (Err error)) → IsMemoryOrLine refused
    → DecodesAtEnd gives_lines start old (Err error) codec new → IsLast old (Err refused)
last-err-from-start old error Line codec new none memory kind h =
    let other : ¬ (IsOutOfMemory {T = ℕ} (Err error)) = λ bad. let e : Line ≡ Memory = memory.1 bad in cc in
    elim h [
      | inl d ↦ absurd (no_line-no_error old error codec new none d)
      | inr e ↦ last-error old error codec new e other
    ]
last-err-from-start old error Memory codec new none memory kind h = tt
last-err-from-start old error Read codec new none memory kind h = kind
last-err-from-start old error Write codec new none memory kind h = kind

-- the same at the end of the input
pub last-ok : (was : LinesCodec) (old : List ℕ) (found : Option (String Global)) (codec : LinesCodec) (new : List ℕ)
    → was ≡ start → has_line old ≡ false → DecodesAtEnd gives_lines was old (Ok found) codec new → IsLast old (Ok found)
last-ok was old found codec new was-start none h =
    last-ok-from-start old found codec new none (subst (λ (k : LinesCodec). DecodesAtEnd gives_lines k old (Ok found) codec new) was-start h)

-- the same of an error at the end of the input
pub last-err : (was : LinesCodec) (old : List ℕ) (error : LinesCodecError) (refused : PortError) (codec : LinesCodec) (new : List ℕ)
    → was ≡ start → has_line old ≡ false → (refused ≡ Memory ↔ IsOutOfMemory {T = ℕ} (Err error)) → IsMemoryOrLine refused
    → DecodesAtEnd gives_lines was old (Err error) codec new → IsLast old (Err refused)
last-err was old error refused codec new was-start none memory kind h =
    last-err-from-start old error refused codec new none memory kind (subst (λ (k : LinesCodec). DecodesAtEnd gives_lines k old (Err error) codec new) was-start h)
