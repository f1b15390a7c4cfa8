-- What a binary search finds among entries of rising serials.
use Rattle.std.proofs.Common.{◌≡◌, ◌≢◌, ◌<◌, ◌≤◌, ◌⊎◌, inl, inr, ℕ, List, length, None, Result, Ok, Err, IfSome, sym, arith}
use Rattle.std.specs.List.Sorted.{IsSearchInRange, IsBinarySearchResult, IsNonDecreasingBy}
use Rattle.std.specs.Ordering.{nat_cmp, ordering_index}
use Rattle.std.specs.Result.{result_ok}
use Rattle.std.proofs.lemmas.Bool.Decides.{nat_tests}
use Rattle.std.proofs.lemmas.Cmp.{ranked}
use Rattle.std.proofs.lemmas.List.Sorted.{IsNonDecreasingBy-from_default}
use Rattle.bh_serials.specs.declared.entries.Entry.{Entry}
use Rattle.bh_serials.specs.Entries.{IsAt, IsRising, entry_at, no_entry}
use Rattle.bh_serials.proofs.Rising.{no_greater_before}

module _ (high : ℕ) (es : List Entry) (rising : IsRising 0 high es) (serial : ℕ) where
  -- the comparisons with a serial rise along the entries, as a binary search asks
  comparisons_rise : IsNonDecreasingBy (λ (e : Entry). ordering_index (nat_cmp e.serial serial)) es
  comparisons_rise = IsNonDecreasingBy-from_default (λ (e : Entry). ordering_index (nat_cmp e.serial serial)) es no_entry (λ i j le lt.
      let rise : (entry_at es i).serial ≤ (entry_at es j).serial = no_greater_before high es rising i j le lt in
      grind (arith, nat_tests))

  pub search_found : (r : Result ℕ ℕ) → IsSearchInRange r (length es) → IsBinarySearchResult (λ (e : Entry). nat_cmp e.serial serial) es r → IfSome (result_ok r) (λ place. IsAt place serial es)
  search_found (Ok place) within equal = record { within = within; here = ranked _ serial _ (sym (equal no_entry)) }
  search_found (Err place) within parted = tt

  before_or_behind : (place k : ℕ) → (k < place) ⊎ (place ≤ k)
  before_or_behind place k = grind (arith, nat_tests)

  pub search_none : (r : Result ℕ ℕ) → IsSearchInRange r (length es) → IsBinarySearchResult (λ (e : Entry). nat_cmp e.serial serial) es r → result_ok r ≡ None → (k : ℕ) → k < length es → (entry_at es k).serial ≢ serial
  search_none (Ok place) within equal none k lt = cc
  search_none (Err place) within parted none k lt =
      elim (before_or_behind place k) [
        | inl before ↦ (let less : (entry_at es k).serial < serial = ranked _ serial _ (sym ((parted comparisons_rise).0 k no_entry (omega arith) before)) in omega arith)
        | inr behind ↦ (let more : serial < (entry_at es k).serial = ranked _ serial _ (sym ((parted comparisons_rise).1 k no_entry behind lt)) in omega arith)
      ]
