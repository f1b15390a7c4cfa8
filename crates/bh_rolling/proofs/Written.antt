-- What an event in a bucket does to the table.
use Rattle.std.proofs.Common.{◌≡◌, ℕ, ◌+◌, ◌-◌, ◌%◌, ◌<◌, ◌≤◌, Bool, true, false, inl, inr, List, [], ◌∷◌, get_or, set, length, refl, ◌∙◌, sym, ap, arith, mod-eq_of_lt}
use native.Mathlib.Nat.{mod-eq-sub-mod, mod-add-mod}
use Rattle.std.specs.Prelude.{◌==◌, sum_by, if◌then◌else◌}
use Rattle.std.specs.List.{AllByRecursion}
use Rattle.std.proofs.lemmas.Bool.{cases_lt}
use Rattle.std.proofs.lemmas.Bool.Decides.{nat_tests}
use Rattle.std.proofs.lemmas.List.Sums.{sum_by-set}
use Rattle.bh_base.specs.declared.event.EventKind.{EventKind}
use Rattle.bh_base.specs.declared.event.Window.{Window}
use Rattle.bh_base.specs.History.{is_kind, count_in, bucket_of}
use Rattle.bh_base.specs.Tables.{no_counts, new_at, later_table}
use Rattle.bh_base.proofs.Tables.{counts_by_same, map_same}
use Rattle.bh_base.proofs.Windows.{div_mono, count_in-counts_by}
use Rattle.bh_rolling.specs.declared.ring.Bucket.{Bucket}
use Rattle.bh_rolling.specs.Buckets.{count_by_age, table_by_age, raised, renewed, IsEmptyAfter}
use Rattle.bh_rolling.proofs.Later.{count_by_age-later}

-- fewer than n buckets later is another place
another_place : (number age n : ℕ) → 0 < age → age < n → (number + age) % n ≡ number % n → ⊥
another_place number age n some few same = elim (cases_lt (number % n + age) n) [
  | inl low ↦ let e : (number % n + age) % n ≡ number % n + age = mod-eq_of_lt low in omega (arith, mod-add-mod number n age, e, same)
  | inr high ↦ let e : (number % n + age) % n ≡ number % n + age - n = mod-eq-sub-mod high ∙ mod-eq_of_lt (omega arith) in omega (arith, mod-add-mod number n age, e, same)
]

-- the bucket of the number with one more event
abbrev pub written : ℕ → EventKind → Bucket → Bucket
written number kind b = record { number = (renewed number b).number; counts = raised kind (renewed number b).counts }

-- what a bucket has of the kind, where it has the number
abbrev pub left_over : ℕ → EventKind → Bucket → ℕ
left_over number k b = if b.number == number then count_in b.counts k else 0

-- a renewed bucket has the number, and keeps its events where it had the number before
pub renewed_is : (number : ℕ) (b : Bucket) (k : EventKind) → ((renewed number b).number ≡ number) × (count_in (renewed number b).counts k ≡ left_over number k b)
renewed_is number b k = at (b.number == number) refl
  where
    at : (same : Bool) → (b.number == number) ≡ same → (let r : Bucket = if same then b else record { number = number; counts = no_counts } in (r.number ≡ number) × (count_in r.counts k ≡ (if same then count_in b.counts k else 0)))
    at true is = let here : b.number ≡ number = grind (arith, nat_tests) in (here, refl)
    at false is = (refl, count_in-counts_by (λ l. 0) k)

-- a bucket that is written has the number
pub written-number : (number : ℕ) (kind : EventKind) (b : Bucket) → (written number kind b).number ≡ number
written-number number kind b = (renewed_is number b kind).0

written-count : (number : ℕ) (kind k : EventKind) (b : Bucket) → count_in (written number kind b).counts k ≡ left_over number k b + (if is_kind kind k then 1 else 0)
written-count number kind k b =
    count_in-counts_by (λ l. count_in (renewed number b).counts l + (if is_kind kind l then 1 else 0)) k
    ∙ ap (λ n. n + (if is_kind kind k then 1 else 0)) (renewed_is number b k).1

-- a bucket that is written adds its event to the newest age alone
count_by_age-set : (n number : ℕ) (kind : EventKind) (buckets : List Bucket) (d : Bucket) (age : ℕ) (k : EventKind) → length buckets ≡ n → 0 < n → (get_or buckets (number % n) d).number % n ≡ number % n → age < n
    → count_by_age (set buckets (number % n) (written number kind (get_or buckets (number % n) d))) number age k ≡ count_by_age buckets number age k + new_at (kind ∷ []) age k
unfolding count_by_age
count_by_age-set n number kind buckets d age k len some there inside =
    let part : Bucket → ℕ = λ b. if b.number + age == number then count_in b.counts k else 0 in
    let old : Bucket = get_or buckets (number % n) d in
    let sums : sum_by part (set buckets (number % n) (written number kind old)) + part old ≡ sum_by part buckets + part (written number kind old) = sum_by-set part buckets (number % n) (written number kind old) d (omega arith) in
    split _ _ old.number (written number kind old).number (count_in old.counts k) (count_in (written number kind old).counts k) _ sums
    (λ older e. another_place old.number age n older inside (ap (λ m. m % n) e ∙ sym there))
    (written-count number kind k old)
    (written-number number kind old)
  where
    split : (new before q r x z one : ℕ) → new + (if q + age == number then x else 0) ≡ before + (if r + age == number then z else 0) → (0 < age → q + age ≡ number → ⊥) → z ≡ (if q == number then x else 0) + one → r ≡ number → new ≡ before + (if age == 0 then 0 + one else 0)
    split new before q r x z one sums apart up numbered = grind (arith, nat_tests)

-- with the bucket written, the table is the later one with the event added
pub table_by_age-set : (w : Window) (buckets : List Bucket) (d : Bucket) (latest moment : ℕ) (kind : EventKind) → length buckets ≡ w.buckets → 0 < w.buckets → ((place : ℕ) (d : Bucket) → place < w.buckets → (get_or buckets place d).number % w.buckets ≡ place) → AllByRecursion (IsEmptyAfter (bucket_of w latest)) buckets → latest ≤ moment
    → table_by_age w.buckets (set buckets (bucket_of w moment % w.buckets) (written (bucket_of w moment) kind (get_or buckets (bucket_of w moment % w.buckets) d))) (bucket_of w moment) ≡ later_table w latest (table_by_age w.buckets buckets (bucket_of w latest)) moment (kind ∷ [])
table_by_age-set w buckets d latest moment kind len some there empty later =
    map_same _ _ w.buckets no_counts (λ age inside. counts_by_same _ _ (λ k.
    count_by_age-set w.buckets (bucket_of w moment) kind buckets d age k len some (there (bucket_of w moment % w.buckets) d (omega arith)) inside
    ∙ ap (λ n. n + new_at (kind ∷ []) age k) (count_by_age-later w.buckets buckets (bucket_of w latest) (bucket_of w moment) age k empty (div_mono latest moment w.width later) inside)))
