-- What contracts see of a reader and a writer that are watched.
use Rattle.std.specs.Prelude.{◌≡◌, ℕ, ◌+◌, ◌-◌, ◌^◌, ◌≤◌, ◌==◌, ◌&&◌, min, nat_lt, Bool, true, List, length, take, Option, Result, Ok, Err}
use Rattle.std.specs.Borrow.{MutBor}
use Rattle.std.specs.Io.KnownBytes.{Appends}
use Rattle.bh_streams.specs.declared.reader.WatchedReader.{WatchedReader}
use Rattle.bh_streams.specs.declared.writer.WatchedWriter.{WatchedWriter}

-- a count with so many more, which stops at 2^64 - 1
abbrev pub saturating_count : ℕ → ℕ → ℕ
saturating_count count more = min (count + more) (2 ^ 64 - 1)

module _ {R : Type 0} where
  -- the reader that is watched
  abbrev pub reader_of : WatchedReader R → MutBor R
  reader_of w = w.reader

  -- how many reads were made
  abbrev pub reads_of : WatchedReader R → ℕ
  reads_of w = w.reads

  -- how many reads failed
  abbrev pub failures_of : WatchedReader R → ℕ
  failures_of w = w.failures

  -- so many reads were made in between, or more
  abbrev pub HasRead : ℕ → WatchedReader R → WatchedReader R → Type 0
  HasRead n old new = saturating_count (reads_of old) n ≤ reads_of new

  -- one read failed in between
  abbrev pub OneFailed : WatchedReader R → WatchedReader R → Type 0
  OneFailed old new = failures_of new ≡ saturating_count (failures_of old) 1

  -- no read failed in between
  abbrev pub NoneFailed : WatchedReader R → WatchedReader R → Type 0
  NoneFailed old new = failures_of new ≡ failures_of old

  -- the bytes that the reader has left, where they are known
  abbrev pub bytes_left : (R → Option (List ℕ)) → WatchedReader R → Option (List ℕ)
  bytes_left remaining w = remaining (reader_of w).now

module _ {W : Type 0} where
  -- the writer that is watched
  abbrev pub writer_of : WatchedWriter W → MutBor W
  writer_of w = w.writer

  -- how many writes failed, or took none of the bytes that they were given
  abbrev pub refusals_of : WatchedWriter W → ℕ
  refusals_of w = w.refusals

  -- one write failed in between, or took none of its bytes
  abbrev pub OneRefused : WatchedWriter W → WatchedWriter W → Type 0
  OneRefused old new = refusals_of new ≡ saturating_count (refusals_of old) 1

  -- no write failed in between, or took none of its bytes
  abbrev pub NoneRefused : WatchedWriter W → WatchedWriter W → Type 0
  NoneRefused old new = refusals_of new ≡ refusals_of old

  -- the bytes that the writer holds, where they are known
  abbrev pub bytes_held : (W → Option (List ℕ)) → WatchedWriter W → Option (List ℕ)
  bytes_held contents w = contents (writer_of w).now

-- a write that failed, or took none of the bytes that it was given
abbrev pub is_refused_write : {E : Type 0} → Result ℕ E → List ℕ → Bool
is_refused_write (Ok n) bytes = n == 0 && nat_lt 0 (length bytes)
is_refused_write (Err e) bytes = true

-- the front of `bytes` was written, or all of it, and nothing else
abbrev pub WritesFront : Option (List ℕ) → Option (List ℕ) → List ℕ → Type 0
WritesFront old new bytes = (n : ℕ) × Appends old new (take n bytes)
