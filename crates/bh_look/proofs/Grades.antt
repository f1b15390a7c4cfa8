-- Where grades begin, and that their times are near to one another.
use Rattle.std.proofs.Common.{◌≡◌, ℕ, ◌+◌, ◌-◌, ◌*◌, ◌^◌, ◌/◌, ◌%◌, ◌<◌, ◌≤◌, suc, sym, ap, ◌∙◌, ⊎_elim, arith}
use Prim.Native.Nat.{zero}
use Rattle.std.proofs.lemmas.Bool.{cases_lt}
use Rattle.std.proofs.Math.Nat.{add-mul, two-pow-succ}
use Rattle.std.proofs.lemmas.Nat.{pow_pos, pow-add, pow_below, le-div, div_below, shr_split, mod_below, mul-le, row_fits, shl_whole, one_shl}
use Rattle.bh_look.specs.Times.{begin, IsNear}

pub begin-low : (g : ℕ) → g < 128 → begin g ≡ g
unfolding begin
begin-low g low = grind arith

pub begin-high : (g : ℕ) → 128 ≤ g → begin g ≡ (g % 128 + 128) * 2 ^ (g / 128 - 1)
unfolding begin
begin-high g high = grind arith

-- a grade within a power of two, and the last one of it
same_power : (g r q : ℕ) → 128 ≤ g → g % 128 ≡ r → g / 128 ≡ q → r < 127 → begin (g + 1) ≡ begin g + 2 ^ (q - 1)
same_power g r q high r_is q_is more =
    let next_r : (g + 1) % 128 ≡ r + 1 = omega (arith, r_is, q_is, more) in
    let next_q : (g + 1) / 128 ≡ q = omega (arith, r_is, q_is, more) in
    let there : begin (g + 1) ≡ (r + 1 + 128) * 2 ^ (q - 1) = begin-high (g + 1) (omega (arith, high)) ∙ (λ i. (next_r i + 128) * 2 ^ (next_q i - 1)) in
    let here : begin g ≡ (r + 128) * 2 ^ (q - 1) = begin-high g high ∙ (λ i. (r_is i + 128) * 2 ^ (q_is i - 1)) in
    let split : (r + 128 + 1) * 2 ^ (q - 1) ≡ (r + 128) * 2 ^ (q - 1) + 1 * 2 ^ (q - 1) = add-mul (r + 128) 1 (2 ^ (q - 1)) in
    let same : (r + 1 + 128) * 2 ^ (q - 1) ≡ (r + 128 + 1) * 2 ^ (q - 1) = ap (λ n. n * 2 ^ (q - 1)) (omega arith) in
    omega (arith, there, here, split, same)

next_power : (g q : ℕ) → 128 ≤ g → g % 128 ≡ 127 → g / 128 ≡ q → begin (g + 1) ≡ begin g + 2 ^ (q - 1)
next_power g q high r_is q_is =
    let next_r : (g + 1) % 128 ≡ 0 = omega (arith, r_is, q_is) in
    let next_q : (g + 1) / 128 ≡ q + 1 = omega (arith, r_is, q_is) in
    let there : begin (g + 1) ≡ (0 + 128) * 2 ^ (q + 1 - 1) = begin-high (g + 1) (omega (arith, high)) ∙ (λ i. (next_r i + 128) * 2 ^ (next_q i - 1)) in
    let here : begin g ≡ (127 + 128) * 2 ^ (q - 1) = begin-high g high ∙ (λ i. (r_is i + 128) * 2 ^ (q_is i - 1)) in
    let up : 2 ^ (q + 1 - 1) ≡ 2 ^ suc (q - 1) = ap (λ n. 2 ^ n) (omega (arith, high, q_is)) in
    omega (arith, there, here, up, two-pow-succ (q - 1))

begin-at-128 : (g : ℕ) → 127 ≤ g → g < 128 → begin (g + 1) ≡ 128
begin-at-128 g from to =
    let r : (g + 1) % 128 ≡ 0 = omega (arith, from, to) in
    let q : (g + 1) / 128 ≡ 1 = omega (arith, from, to) in
    begin-high (g + 1) (omega (arith, from)) ∙ (λ i. (r i + 128) * 2 ^ (q i - 1))

pub begin-next : (g : ℕ) → 128 ≤ g → begin (g + 1) ≡ begin g + 2 ^ (g / 128 - 1)
begin-next g high =
    ⊎_elim (λ (more : g % 128 < 127). same_power g (g % 128) (g / 128) high (λ i. g % 128) (λ i. g / 128) more)
    (λ (last : 127 ≤ g % 128). next_power g (g / 128) high (omega (arith, last)) (λ i. g / 128)) (cases_lt (g % 128) 127)

-- each grade has a time at least
pub begin-rises : (g : ℕ) → begin g < begin (g + 1)
begin-rises g =
    ⊎_elim (λ (low : g < 127). omega (arith, begin-low g (omega (arith, low)), begin-low (g + 1) (omega (arith, low))))
    (λ (high : 127 ≤ g). ⊎_elim
    (λ (last : g < 128). omega (arith, begin-low g last, begin-at-128 g high last))
    (λ (more : 128 ≤ g). omega (arith, begin-next g more, pow_pos (g / 128 - 1)))
    (cases_lt g 128))
    (cases_lt g 127)

pub begin-later : (g n : ℕ) → begin g ≤ begin (g + n)
begin-later g zero = omega (arith, ap begin (let e : g + 0 ≡ g = omega arith in e))
begin-later g (suc n) = omega (arith, begin-later g n, begin-rises (g + n), ap begin (let e : g + suc n ≡ g + n + 1 = omega arith in e))

pub begin-up : (g h : ℕ) → g ≤ h → begin g ≤ begin h
begin-up g h le = omega (arith, begin-later g (h - g), ap begin (let e : g + (h - g) ≡ h = omega (arith, le) in e))

-- the grade of a number with its eight leading binary digits
pub begin-at : (d w : ℕ) → 128 ≤ w → w < 256 → begin (d * 128 + w) ≡ w * 2 ^ d
begin-at d w from to =
    let r : (d * 128 + w) % 128 ≡ w - 128 = omega (arith, from, to) in
    let q : (d * 128 + w) / 128 ≡ d + 1 = omega (arith, from, to) in
    let parts : begin (d * 128 + w) ≡ (w - 128 + 128) * 2 ^ (d + 1 - 1) = begin-high (d * 128 + w) (omega (arith, from)) ∙ (λ i. (r i + 128) * 2 ^ (q i - 1)) in
    let first : w - 128 + 128 ≡ w = omega (arith, from) in
    let second : d + 1 - 1 ≡ d = omega arith in
    parts ∙ (λ i. first i * 2 ^ second i)

pub begin-behind : (d w : ℕ) → 128 ≤ w → w < 256 → begin (d * 128 + w + 1) ≡ w * 2 ^ d + 2 ^ d
begin-behind d w from to =
    let q : (d * 128 + w) / 128 - 1 ≡ d = omega (arith, from, to) in
    omega (arith, begin-next (d * 128 + w) (omega (arith, from)), begin-at d w from to, ap (λ n. 2 ^ n) q)

seven : (l ms : ℕ) → 128 ≤ ms → ms < 2 * 2 ^ l → 7 ≤ l
seven l ms from to =
    ⊎_elim (λ (few : l < 6). absurd (omega (arith, from, to, pow_below l 6 few)))
    (λ (more : 6 ≤ l). ⊎_elim
    (λ (six : l < 7). let is : l ≡ 6 = omega (arith, more, six) in absurd (omega (arith, from, to, ap (λ n. 2 ^ n) is)))
    (λ (enough : 7 ≤ l). enough)
    (cases_lt l 7))
    (cases_lt l 6)

-- where a time of 128 and more lies, by its binary logarithm
pub record IsGraded (ms d w : ℕ) : Type 0 where
  pub from : 128 ≤ w
  pub to : w < 256
  pub begins : begin (d * 128 + w) ≤ ms
  pub ends : ms < begin (d * 128 + w + 1)

pub graded : (ms l : ℕ) → 128 ≤ ms → 2 ^ l ≤ ms → ms < 2 * 2 ^ l → IsGraded ms (l - 7) (ms / 2 ^ (l - 7))
graded ms l big power next =
    let d = l - 7 in
    let P = 2 ^ (l - 7) in
    let w = ms / 2 ^ (l - 7) in
    let l_is : 7 + d ≡ l = omega (arith, seven l ms big next) in
    let whole : 2 ^ l ≡ 2 ^ 7 * P = ap (λ n. 2 ^ n) (sym l_is) ∙ pow-add 2 7 d in
    let least : 128 ≤ w = le-div 128 ms P (pow_pos d) (omega (arith, whole, power)) in
    let most : w < 256 = div_below ms P 256 (pow_pos d) (omega (arith, whole, next)) in
    record {
      from = least;
      to = most;
      begins = omega (arith, begin-at d w least most, shr_split ms d);
      ends = omega (arith, begin-behind d w least most, shr_split ms d, mod_below ms P (pow_pos d));
    }

-- the middle of a grade is near each time of it
pub middle_near : (g x t : ℕ) → 128 ≤ g → begin g ≤ x → x < begin (g + 1) → t ≡ begin g + 2 ^ (g / 128 - 1) / 2 → IsNear t x
middle_near g x t high from to is =
    let P = 2 ^ (g / 128 - 1) in
    let next = begin-next g high in
    let wide : 128 * P ≤ (g % 128 + 128) * P = mul-le 128 P (g % 128 + 128) P (omega arith) (omega arith) in
    let here = begin-high g high in
    record {
      above = omega (arith, from, to, next, wide, here, is);
      below = omega (arith, from, to, next, wide, here, is);
    }

-- the middle of a grade, as it is computed
pub middle_fits : (g : ℕ) → g < 7424 → (g % 128 + 128) * 2 ^ (g / 128 - 1) + 2 ^ (g / 128 - 1) ≤ 2 ^ 64
middle_fits g few =
    let d = g / 128 - 1 in
    let most : 2 ^ d ≤ 2 ^ 56 = ⊎_elim (λ (less : d < 56). omega (arith, pow_below d 56 less)) (λ (last : 56 ≤ d). let is : d ≡ 56 = omega (arith, last, few) in omega (arith, ap (λ n. 2 ^ n) is)) (cases_lt d 56) in
    row_fits (g % 128 + 128) (2 ^ d) 256 (2 ^ 56) (omega arith) most

pub middle_is : (g : ℕ) → g < 7424 → ((g % 128 + 128) * 2 ^ (g / 128 - 1) % 2 ^ 64 ≡ (g % 128 + 128) * 2 ^ (g / 128 - 1)) × (1 * 2 ^ (g / 128 - 1) % 2 ^ 64 ≡ 2 ^ (g / 128 - 1))
middle_is g few = (shl_whole (g % 128 + 128) 8 (g / 128 - 1) 64 (omega arith) (omega (arith, few)), one_shl (g / 128 - 1) 64 (omega (arith, few)))

-- a time below 128 has its grade alone
pub exact_near : (g x : ℕ) → g < 128 → begin g ≤ x → x < begin (g + 1) → IsNear g x
exact_near g x low from to =
    let here = begin-low g low in
    let next : begin (g + 1) ≡ g + 1 = ⊎_elim (λ (few : g < 127). begin-low (g + 1) (omega (arith, few))) (λ (last : 127 ≤ g). omega (arith, begin-at-128 g last low, last, low)) (cases_lt g 127) in
    record { above = omega (arith, from, to, here, next); below = omega (arith, from, to, here, next) }
