-- Sums, and what is earlier or greater, in whatever order they are made.
use Rattle.std.proofs.Common.{◌≡◌, ℕ, ◌+◌, ◌<◌, ◌≤◌, ◌⊎◌, inl, inr, Some, None, Option, refl, sym, ap, ◌∙◌, arith}
use Rattle.std.specs.Prelude.{nat_lt, if◌then◌else◌}
use Rattle.std.proofs.lemmas.Bool.{cases_lt, le-ltb, lt-ltb}
use Rattle.bh_look.specs.declared.tally.Tally.{Tally}
use Rattle.bh_look.specs.Tallies.{added, sum_up_to}
use Rattle.bh_columns.specs.Columns.{earlier, greatest, least}
use Rattle.bh_columns.specs.declared.column.Standing.{Standing}

-- what is added to one of two is added to both
pub sum_left : (a b x : ℕ) → sum_up_to (sum_up_to a x) b ≡ sum_up_to (sum_up_to a b) x
sum_left a b x = omega arith

pub sum_right : (a b x : ℕ) → sum_up_to a (sum_up_to b x) ≡ sum_up_to (sum_up_to a b) x
sum_right a b x = omega arith

pub sum_both : (a b x y z : ℕ) → x + y ≡ z → sum_up_to (sum_up_to a x) (sum_up_to b y) ≡ sum_up_to (sum_up_to a b) z
sum_both a b x y z is = omega (arith, is)

pub added_left : (t u w : Tally) → added (added t w) u ≡ added (added t u) w
added_left t u w = λ i. record {
  admitted = sum_left t.admitted u.admitted w.admitted i;
  joined = sum_left t.joined u.joined w.joined i;
  group_full = sum_left t.group_full u.group_full w.group_full i;
  worn = sum_left t.worn u.worn w.worn i;
  short_circuited = sum_left t.short_circuited u.short_circuited w.short_circuited i;
  rejected = sum_left t.rejected u.rejected w.rejected i;
  timeouts = sum_left t.timeouts u.timeouts w.timeouts i;
  failures = sum_left t.failures u.failures w.failures i;
  late = sum_left t.late u.late w.late i;
  values = sum_left t.values u.values w.values i;
  fallback_values = sum_left t.fallback_values u.fallback_values w.fallback_values i;
  errors = sum_left t.errors u.errors w.errors i;
  bad_requests = sum_left t.bad_requests u.bad_requests w.bad_requests i;
  trips = sum_left t.trips u.trips w.trips i;
  open_ms = sum_left t.open_ms u.open_ms w.open_ms i;
  half_open_ms = sum_left t.half_open_ms u.half_open_ms w.half_open_ms i;
}

pub added_right : (t u w : Tally) → added t (added u w) ≡ added (added t u) w
added_right t u w = λ i. record {
  admitted = sum_right t.admitted u.admitted w.admitted i;
  joined = sum_right t.joined u.joined w.joined i;
  group_full = sum_right t.group_full u.group_full w.group_full i;
  worn = sum_right t.worn u.worn w.worn i;
  short_circuited = sum_right t.short_circuited u.short_circuited w.short_circuited i;
  rejected = sum_right t.rejected u.rejected w.rejected i;
  timeouts = sum_right t.timeouts u.timeouts w.timeouts i;
  failures = sum_right t.failures u.failures w.failures i;
  late = sum_right t.late u.late w.late i;
  values = sum_right t.values u.values w.values i;
  fallback_values = sum_right t.fallback_values u.fallback_values w.fallback_values i;
  errors = sum_right t.errors u.errors w.errors i;
  bad_requests = sum_right t.bad_requests u.bad_requests w.bad_requests i;
  trips = sum_right t.trips u.trips w.trips i;
  open_ms = sum_right t.open_ms u.open_ms w.open_ms i;
  half_open_ms = sum_right t.half_open_ms u.half_open_ms w.half_open_ms i;
}

-- the least of three moments
pub least_left : (a b c : Option ℕ) → least (least a c) b ≡ least (least a b) c
least_left None None None = refl
least_left None None (Some z) = refl
least_left None (Some y) None = refl
least_left None (Some y) (Some z) = ap Some (omega arith)
least_left (Some x) None None = refl
least_left (Some x) None (Some z) = refl
least_left (Some x) (Some y) None = refl
least_left (Some x) (Some y) (Some z) = ap Some (omega arith)

pub least_right : (a b c : Option ℕ) → least a (least b c) ≡ least (least a b) c
least_right None b c = refl
least_right (Some x) None c = refl
least_right (Some x) (Some y) None = refl
least_right (Some x) (Some y) (Some z) = ap Some (omega arith)

-- the greatest of three moments
pub greatest_left : (a b c : Option ℕ) → greatest (greatest a c) b ≡ greatest (greatest a b) c
greatest_left None None None = refl
greatest_left None None (Some z) = refl
greatest_left None (Some y) None = refl
greatest_left None (Some y) (Some z) = ap Some (omega arith)
greatest_left (Some x) None None = refl
greatest_left (Some x) None (Some z) = refl
greatest_left (Some x) (Some y) None = refl
greatest_left (Some x) (Some y) (Some z) = ap Some (omega arith)

pub greatest_right : (a b c : Option ℕ) → greatest a (greatest b c) ≡ greatest (greatest a b) c
greatest_right None b c = refl
greatest_right (Some x) None c = refl
greatest_right (Some x) (Some y) None = refl
greatest_right (Some x) (Some y) (Some z) = ap Some (omega arith)

-- the earlier of two standings
abbrev first_of_two : Standing → Standing → Standing
first_of_two a b = if nat_lt b.moment a.moment then b else a

is_second : (a b : Standing) → b.moment < a.moment → first_of_two a b ≡ b
is_second a b h = ap (λ t. if t then b else a) (lt-ltb b.moment a.moment h)

is_first : (a b : Standing) → a.moment ≤ b.moment → first_of_two a b ≡ a
is_first a b h = ap (λ t. if t then b else a) (le-ltb b.moment a.moment h)

-- the earliest of three, in whatever order it is found, where none but the first and the second are of one moment
right_of_three : (a b c : Standing) → first_of_two a (first_of_two b c) ≡ first_of_two (first_of_two a b) c
right_of_three a b c = elim (cases_lt c.moment b.moment) [
  | inl cb ↦ elim (cases_lt b.moment a.moment) [
    | inl ba ↦ ap (first_of_two a) (is_second b c cb) ∙ is_second a c (omega (arith, cb, ba)) ∙ sym (ap (λ x. first_of_two x c) (is_second a b ba) ∙ is_second b c cb)
    | inr ab ↦ ap (first_of_two a) (is_second b c cb) ∙ sym (ap (λ x. first_of_two x c) (is_first a b ab))
  ]
  | inr bc ↦ elim (cases_lt b.moment a.moment) [
    | inl ba ↦ ap (first_of_two a) (is_first b c bc) ∙ is_second a b ba ∙ sym (ap (λ x. first_of_two x c) (is_second a b ba) ∙ is_first b c bc)
    | inr ab ↦ ap (first_of_two a) (is_first b c bc) ∙ is_first a b ab ∙ sym (ap (λ x. first_of_two x c) (is_first a b ab) ∙ is_first a c (omega (arith, ab, bc)))
  ]
]

-- the first comes before the second: which of them is looked at first is of no matter
left_of_three : (a b c : Standing) → c.moment < b.moment → first_of_two (first_of_two a c) b ≡ first_of_two (first_of_two a b) c
left_of_three a b c cb = elim (cases_lt c.moment a.moment) [
  | inl ca ↦ ap (λ x. first_of_two x b) (is_second a c ca) ∙ is_first c b (omega (arith, cb)) ∙ sym (behind (cases_lt b.moment a.moment) ca)
  | inr ac ↦ ap (λ x. first_of_two x b) (is_first a c ac) ∙ is_first a b (omega (arith, ac, cb)) ∙ sym (ap (λ x. first_of_two x c) (is_first a b (omega (arith, ac, cb))) ∙ is_first a c ac)
]
  where
    behind : (b.moment < a.moment) ⊎ (a.moment ≤ b.moment) → c.moment < a.moment → first_of_two (first_of_two a b) c ≡ c
    behind (inl ba) ca = ap (λ x. first_of_two x c) (is_second a b ba) ∙ is_second b c cb
    behind (inr ab) ca = ap (λ x. first_of_two x c) (is_first a b ab) ∙ is_second a c ca

pub earlier_right : (a b c : Option Standing) → earlier a (earlier b c) ≡ earlier (earlier a b) c
earlier_right None b c = refl
earlier_right (Some x) None c = refl
earlier_right (Some x) (Some y) None = refl
earlier_right (Some x) (Some y) (Some z) = ap Some (right_of_three x y z)

-- a standing that is before all of the second
pub earlier_left : (a b : Option Standing) (s : Standing) (from : ℕ) → s.moment < from → ((z : Standing) → b ≡ Some z → from ≤ z.moment) → earlier (earlier a (Some s)) b ≡ earlier (earlier a b) (Some s)
earlier_left None None s from lt ge = refl
earlier_left None (Some y) s from lt ge =
    let y_is = ge y refl in ap Some (is_first s y (omega (arith, lt, y_is)) ∙ sym (is_second y s (omega (arith, lt, y_is))))
earlier_left (Some x) None s from lt ge = refl
earlier_left (Some x) (Some y) s from lt ge = ap Some (left_of_three x y s (omega (arith, lt, ge y refl)))

-- the earlier of two is one of them
pub earlier_in : (a b : Option Standing) (s : Standing) → earlier a b ≡ Some s → (a ≡ Some s) ⊎ (b ≡ Some s)
earlier_in None b s is = inr is
earlier_in (Some x) None s is = inl is
earlier_in (Some x) (Some y) s is = elim (cases_lt y.moment x.moment) [
  | inl yx ↦ inr (ap Some (sym (is_second x y yx)) ∙ is)
  | inr xy ↦ inl (ap Some (sym (is_first x y xy)) ∙ is)
]

-- one that is before another hides it
earlier_skip : (a : Option Standing) (s t : Standing) → s.moment < t.moment → earlier (earlier a (Some t)) (Some s) ≡ earlier a (Some s)
earlier_skip None s t lt = ap Some (is_second t s lt)
earlier_skip (Some x) s t lt =
    ap Some (sym (left_of_three x t s lt) ∙ sym (right_of_three x s t) ∙ ap (first_of_two x) (is_first s t (omega (arith, lt))))

-- both have one more, that of the first before all of the second
pub earlier_both : (a b : Option Standing) (s t : Standing) (from : ℕ) → s.moment < from → from ≤ t.moment → ((z : Standing) → b ≡ Some z → from ≤ z.moment)
    → earlier (earlier a (Some s)) (earlier b (Some t)) ≡ earlier (earlier a b) (Some s)
earlier_both a b s t from lt le ge =
    earlier_left a (earlier b (Some t)) s from lt least_of
    ∙ ap (λ o. earlier o (Some s)) (earlier_right a b (Some t))
    ∙ earlier_skip (earlier a b) s t (omega (arith, lt, le))
  where
    least_of : (z : Standing) → earlier b (Some t) ≡ Some z → from ≤ z.moment
    least_of z is = elim (earlier_in b (Some t) z is) [
      | inl one ↦ ge z one
      | inr other ↦ (let same : t ≡ z = cc in let moments = ap (λ (x : Standing). x.moment) same in omega (arith, le, moments))
    ]
