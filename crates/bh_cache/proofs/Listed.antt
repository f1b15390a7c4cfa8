-- What becomes of the list of tickets as one place changes.
use Rattle.std.proofs.Common.{◌≡◌, ℕ, zero, suc, ◌+◌, ◌<◌, ◌≤◌, ◌⊎◌, inl, inr, Bool, true, false, cond, List, [], ◌∷◌, ◌++◌, map, filter, Option, Some, None, refl, ◌∙◌, sym, ap, subst, arith}
use Rattle.std.specs.Prelude.{nat_lt, ◌==◌, find, count_by, if◌then◌else◌}
use Rattle.std.specs.Option.{option_map}
use Rattle.std.proofs.lemmas.Bool.{cases_eq}
use Rattle.std.proofs.lemmas.Bool.Decides.{nat_tests}
use Rattle.std.proofs.lemmas.List.Sums.{sum_by-cons}
use Rattle.bh_base.specs.declared.ticket.Ticket.{Ticket}
use Rattle.bh_base.specs.Tickets.{changed_first}
use Rattle.bh_cache.specs.Listed.{insert, put_in, listed, now_is}
use Rattle.bh_cache.specs.Slots.{one}

-- t is one of ts
abbrev pub IsIn : Ticket → List Ticket → Type 0
IsIn t [] = ⊥
IsIn t (u ∷ us) = (u ≡ t) ⊎ IsIn t us

-- each serial of ts is greater
abbrev pub Above : ℕ → List Ticket → Type 0
Above s [] = Unit {0}
Above s (u ∷ us) = (s < u.serial) × Above s us

abbrev pub Rising : List Ticket → Type 0
Rising [] = Unit {0}
Rising (t ∷ ts) = Above t.serial ts × Rising ts

-- where the serials of a list are greater than s, that of each member is
pub above_each : (s : ℕ) (ts : List Ticket) (t : Ticket) → Above s ts → IsIn t ts → s < t.serial
above_each s [] t h i = absurd i
above_each s (u ∷ us) t h (inl e) = subst (λ (v : Ticket). s < v.serial) e h.0
above_each s (u ∷ us) t h (inr i) = above_each s us t h.1 i

-- where the serial of each member is greater than s, the serials of the list are
pub above_by : (s : ℕ) (ts : List Ticket) → ((t : Ticket) → IsIn t ts → s < t.serial) → Above s ts
above_by s [] h = tt
above_by s (u ∷ us) h = (h u (inl refl), above_by s us (λ t i. h t (inr i)))

above_more : (r s : ℕ) (ts : List Ticket) → r < s → Above s ts → Above r ts
above_more r s ts lt h = above_by r ts (λ t i. let k : s < t.serial = above_each s ts t h i in omega (arith, k, lt))

-- members of an insertion
pub in_if : (b : Bool) (t u v : Ticket) (us ws : List Ticket) → IsIn v (if b then t ∷ u ∷ us else u ∷ ws) → (IsIn v ws → (t ≡ v) ⊎ IsIn v us) → (t ≡ v) ⊎ IsIn v (u ∷ us)
in_if true t u v us ws i rest = i
in_if false t u v us ws (inl e) rest = inr (inl e)
in_if false t u v us ws (inr i) rest = elim (rest i) [ inl e ↦ inl e | inr k ↦ inr (inr k) ]

-- a member of a list with a ticket put in is that ticket, or was a member before
pub in_insert : (t v : Ticket) (us : List Ticket) → IsIn v (insert t us) → (t ≡ v) ⊎ IsIn v us
in_insert t v [] i = i
in_insert t v (u ∷ us) i = in_if (nat_lt t.serial u.serial) t u v us (insert t us) i (in_insert t v us)

here_if : (b : Bool) (t u : Ticket) (us ws : List Ticket) → IsIn t ws → IsIn t (if b then t ∷ u ∷ us else u ∷ ws)
here_if true t u us ws i = inl refl
here_if false t u us ws i = inr i

insert_here : (t : Ticket) (us : List Ticket) → IsIn t (insert t us)
insert_here t [] = inl refl
insert_here t (u ∷ us) = here_if (nat_lt t.serial u.serial) t u us (insert t us) (insert_here t us)

kept_if : (b : Bool) (t u v : Ticket) (us ws : List Ticket) → IsIn v (u ∷ us) → (IsIn v us → IsIn v ws) → IsIn v (if b then t ∷ u ∷ us else u ∷ ws)
kept_if true t u v us ws i rest = inr i
kept_if false t u v us ws (inl e) rest = inl e
kept_if false t u v us ws (inr i) rest = inr (rest i)

insert_kept : (t v : Ticket) (us : List Ticket) → IsIn v us → IsIn v (insert t us)
insert_kept t v [] i = absurd i
insert_kept t v (u ∷ us) i = kept_if (nat_lt t.serial u.serial) t u v us (insert t us) i (insert_kept t v us)

-- so it is where there may be no ticket to put in
pub in_put : (o : Option Ticket) (v : Ticket) (us : List Ticket) → IsIn v (put_in o us) → (o ≡ Some v) ⊎ IsIn v us
in_put None v us i = inr i
in_put (Some t) v us i = elim (in_insert t v us i) [ inl e ↦ inl (ap Some e) | inr k ↦ inr k ]

put_here : (o : Option Ticket) (v : Ticket) (us : List Ticket) → o ≡ Some v → IsIn v (put_in o us)
put_here None v us e = absurd cc
put_here (Some t) v us e = let k : v ≡ t = cc in subst (λ (w : Ticket). IsIn w (insert t us)) (sym k) (insert_here t us)

put_kept : (o : Option Ticket) (v : Ticket) (us : List Ticket) → IsIn v us → IsIn v (put_in o us)
put_kept None v us i = i
put_kept (Some t) v us i = insert_kept t v us i

-- a member lies at a place below n
pub from_listed : (at : ℕ → Option Ticket) (n : ℕ) (t : Ticket) → IsIn t (listed at n) → (x : ℕ) × (x < n) × (at x ≡ Some t)
from_listed at zero t i = absurd i
from_listed at (suc n) t i = elim (in_put (at n) t (listed at n) i) [
  | inl e ↦ (n, omega arith, e)
  | inr k ↦ let r = from_listed at n t k in (r.0, omega (arith, r.1), r.2)
]

-- a ticket at a place below n is listed
pub in_listed : (at : ℕ → Option Ticket) (n x : ℕ) (t : Ticket) → x < n → at x ≡ Some t → IsIn t (listed at n)
in_listed at zero x t lt e = absurd (omega (arith, lt))
in_listed at (suc n) x t lt e = elim (cases_eq x n) [
  | inl q ↦ put_here (at n) t (listed at n) (ap at (sym q) ∙ e)
  | inr ne ↦ put_kept (at n) t (listed at n) (in_listed at n x t (omega (arith, lt, ne)) e)
]

-- ---- in order

insert_first : (t : Ticket) (us : List Ticket) → Above t.serial us → insert t us ≡ t ∷ us
insert_first t [] h = refl
insert_first t (u ∷ us) h = let e : nat_lt t.serial u.serial ≡ true = grind (arith, nat_tests, h.0) in ap (λ b. if b then t ∷ u ∷ us else u ∷ insert t us) e

rising_if : (b : Bool) (t u : Ticket) (us : List Ticket) → nat_lt t.serial u.serial ≡ b → (t.serial ≡ u.serial → ⊥) → Above u.serial us → Rising us → Rising (insert t us) → Rising (if b then t ∷ u ∷ us else u ∷ insert t us)
rising_if true t u us is ne above rising rest =
    let lt : t.serial < u.serial = grind (arith, nat_tests) in
    ((lt, above_more t.serial u.serial us lt above), (above, rising))
rising_if false t u us is ne above rising rest =
    let lt : u.serial < t.serial = grind (arith, nat_tests) in
    (above_by u.serial (insert t us) (λ v i. elim (in_insert t v us i) [ inl e ↦ subst (λ (w : Ticket). u.serial < w.serial) e lt | inr k ↦ above_each u.serial us v above k ]), rest)

-- rising serials still rise once a ticket of a serial that none has is put in
pub insert_rising : (t : Ticket) (us : List Ticket) → ((u : Ticket) → IsIn u us → t.serial ≡ u.serial → ⊥) → Rising us → Rising (insert t us)
insert_rising t [] ne rising = (tt, tt)
insert_rising t (u ∷ us) ne rising = rising_if (nat_lt t.serial u.serial) t u us refl (ne u (inl refl)) rising.0 rising.1 (insert_rising t us (λ v i. ne v (inr i)) rising.1)

-- no two places have tickets of one serial
abbrev pub Distinct : (ℕ → Option Ticket) → Type 0
Distinct at = (x y : ℕ) (t u : Ticket) → at x ≡ Some t → at y ≡ Some u → t.serial ≡ u.serial → x ≡ y

put_rising : (o : Option Ticket) (us : List Ticket) → ((t u : Ticket) → o ≡ Some t → IsIn u us → t.serial ≡ u.serial → ⊥) → Rising us → Rising (put_in o us)
put_rising None us ne rising = rising
put_rising (Some t) us ne rising = insert_rising t us (λ u i. ne t u refl i) rising

-- the serials of the listed tickets rise, where no two places have tickets of one serial
pub rising : (at : ℕ → Option Ticket) (n : ℕ) → Distinct at → Rising (listed at n)
rising at zero distinct = tt
rising at (suc n) distinct = put_rising (at n) (listed at n) (λ t u e i s. let r = from_listed at n u i in let k : n ≡ r.0 = distinct n r.0 t u e r.2 s in omega (arith, r.1, k)) (rising at n distinct)

-- ---- tickets that change, each by itself

map_if : (h : Ticket → Ticket) (b : Bool) (t u : Ticket) (us ws : List Ticket) → ws ≡ map h us → (zs : List Ticket) → insert (h t) (map h us) ≡ map h zs → (if b then h t ∷ h u ∷ map h us else h u ∷ insert (h t) (map h us)) ≡ map h (if b then t ∷ u ∷ us else u ∷ zs)
map_if h true t u us ws e zs r = refl
map_if h false t u us ws e zs r = ap (λ vs. h u ∷ vs) r

insert_map : (h : Ticket → Ticket) → ((t : Ticket) → (h t).serial ≡ t.serial) → (t : Ticket) (us : List Ticket) → insert (h t) (map h us) ≡ map h (insert t us)
insert_map h keeps t [] = refl
insert_map h keeps t (u ∷ us) =
    let e : nat_lt (h t).serial (h u).serial ≡ nat_lt t.serial u.serial = (λ i. nat_lt (keeps t i) (keeps u i)) in
    ap (λ b. if b then h t ∷ h u ∷ map h us else h u ∷ insert (h t) (map h us)) e ∙ map_if h (nat_lt t.serial u.serial) t u us (map h us) refl (insert t us) (insert_map h keeps t us)

put_map : (h : Ticket → Ticket) → ((t : Ticket) → (h t).serial ≡ t.serial) → (o : Option Ticket) (us : List Ticket) → put_in (option_map h o) (map h us) ≡ map h (put_in o us)
put_map h keeps None us = refl
put_map h keeps (Some t) us = insert_map h keeps t us

-- where each place's ticket is changed and keeps its serial, each listed ticket is changed so
pub listed_map : (h : Ticket → Ticket) (at now : ℕ → Option Ticket) (n : ℕ) → ((t : Ticket) → (h t).serial ≡ t.serial) → ((x : ℕ) → now x ≡ option_map h (at x)) → listed now n ≡ map h (listed at n)
listed_map h at now zero keeps same = refl
listed_map h at now (suc n) keeps same = ap (λ o. put_in o (listed now n)) (same n) ∙ ap (put_in (option_map h (at n))) (listed_map h at now n keeps same) ∙ put_map h keeps (at n) (listed at n)

-- places below n that have the same tickets list the same
pub listed_same : (at now : ℕ → Option Ticket) (n : ℕ) → ((x : ℕ) → x < n → now x ≡ at x) → listed now n ≡ listed at n
listed_same at now zero same = refl
listed_same at now (suc n) same = ap (λ o. put_in o (listed now n)) (same n (omega arith)) ∙ ap (put_in (at n)) (listed_same at now n (λ x lt. same x (omega (arith, lt))))

-- ---- a ticket that comes, of the greatest serial

last_split : (b : Bool) (t u v : Ticket) (us ws : List Ticket) → insert u (us ++ t ∷ []) ≡ ws ++ t ∷ [] → (if b then u ∷ v ∷ (us ++ t ∷ []) else v ∷ insert u (us ++ t ∷ [])) ≡ (if b then u ∷ v ∷ us else v ∷ ws) ++ t ∷ []
last_split true t u v us ws e = refl
last_split false t u v us ws e = ap (λ zs. v ∷ zs) e

-- one of a lesser serial is put in before the last
insert_before : (t u : Ticket) (us : List Ticket) → u.serial < t.serial → insert u (us ++ t ∷ []) ≡ insert u us ++ t ∷ []
insert_before t u [] lt = let e : nat_lt u.serial t.serial ≡ true = grind (arith, nat_tests) in ap (λ b. if b then u ∷ t ∷ [] else t ∷ u ∷ []) e
insert_before t u (v ∷ us) lt = last_split (nat_lt u.serial v.serial) t u v us (insert u us) (insert_before t u us lt)

insert_last : (t : Ticket) (us : List Ticket) → ((u : Ticket) → IsIn u us → u.serial < t.serial) → insert t us ≡ us ++ t ∷ []
insert_last t [] less = refl
insert_last t (u ∷ us) less =
    let lt : u.serial < t.serial = less u (inl refl) in
    let e : nat_lt t.serial u.serial ≡ false = grind (arith, nat_tests) in
    ap (λ b. if b then t ∷ u ∷ us else u ∷ insert t us) e ∙ ap (λ zs. u ∷ zs) (insert_last t us (λ v i. less v (inr i)))

put_before : (t : Ticket) (o : Option Ticket) (us : List Ticket) → ((u : Ticket) → o ≡ Some u → u.serial < t.serial) → put_in o (us ++ t ∷ []) ≡ put_in o us ++ t ∷ []
put_before t None us less = refl
put_before t (Some u) us less = insert_before t u us (less u refl)

-- a ticket that comes to an empty place, of a serial greater than all others, is listed last
pub listed_added : (at now : ℕ → Option Ticket) (n x : ℕ) (t : Ticket) → x < n → at x ≡ None → now x ≡ Some t → ((y : ℕ) → (y ≡ x → ⊥) → now y ≡ at y) → ((y : ℕ) (u : Ticket) → at y ≡ Some u → u.serial < t.serial) → listed now n ≡ listed at n ++ t ∷ []
listed_added at now zero x t lt was is same less = absurd (omega (arith, lt))
listed_added at now (suc n) x t lt was is same less = elim (cases_eq x n) [
  | inl q ↦
      let rest : listed now n ≡ listed at n = listed_same at now n (λ y k. same y (omega (arith, k, q))) in
      ap (λ o. put_in o (listed now n)) (ap now (sym q) ∙ is) ∙ ap (insert t) rest
      ∙ insert_last t (listed at n) (λ u i. let r = from_listed at n u i in less r.0 u r.2)
      ∙ ap (λ o. put_in o (listed at n) ++ t ∷ []) (sym was ∙ ap at q)
  | inr ne ↦
      ap (λ o. put_in o (listed now n)) (same n (λ e. ne (sym e)))
      ∙ ap (put_in (at n)) (listed_added at now n x t (omega (arith, lt, ne)) was is same less)
      ∙ put_before t (at n) (listed at n) (λ u e. less n u e)
]

-- ---- tickets that go

abbrev pub option_filter : (Ticket → Bool) → Option Ticket → Option Ticket
option_filter p None = None
option_filter p (Some t) = if p t then Some t else None

filter_above : (p : Ticket → Bool) (s : ℕ) (us : List Ticket) → Above s us → Above s (filter p us)
filter_above p s us above = above_by s (filter p us) (λ t i. above_each s us t above (in_filter us t i))
  where
    in_if_kept : (b : Bool) (u t : Ticket) (us ws : List Ticket) → IsIn t (if b then u ∷ ws else ws) → (IsIn t ws → IsIn t us) → IsIn t (u ∷ us)
    in_if_kept true u t us ws (inl e) rest = inl e
    in_if_kept true u t us ws (inr i) rest = inr (rest i)
    in_if_kept false u t us ws i rest = inr (rest i)

    in_filter : (us : List Ticket) (t : Ticket) → IsIn t (filter p us) → IsIn t us
    in_filter [] t i = i
    in_filter (u ∷ us) t i = in_if_kept (p u) u t us (filter p us) i (in_filter us t)

-- where it is kept
filter_insert : (p : Ticket → Bool) (t : Ticket) (us : List Ticket) → p t ≡ true → Rising us → filter p (insert t us) ≡ insert t (filter p us)
filter_insert p t [] keeps rising = ap (λ b. if b then t ∷ [] else []) keeps
filter_insert p t (u ∷ us) keeps rising = by (nat_lt t.serial u.serial) refl (filter_insert p t us keeps rising.1)
  where
    after : (c : Bool) → nat_lt t.serial u.serial ≡ false → filter p (insert t us) ≡ insert t (filter p us) → (if c then u ∷ filter p (insert t us) else filter p (insert t us)) ≡ insert t (if c then u ∷ filter p us else filter p us)
    after true is rest = ap (λ zs. u ∷ zs) rest ∙ sym (ap (λ d. if d then t ∷ u ∷ filter p us else u ∷ insert t (filter p us)) is)
    after false is rest = rest

    by : (b : Bool) → nat_lt t.serial u.serial ≡ b → filter p (insert t us) ≡ insert t (filter p us) → filter p (if b then t ∷ u ∷ us else u ∷ insert t us) ≡ insert t (filter p (u ∷ us))
    by true is rest =
        let lt : t.serial < u.serial = grind (arith, nat_tests) in
        ap (λ c. if c then t ∷ filter p (u ∷ us) else filter p (u ∷ us)) keeps
        ∙ sym (insert_first t (filter p (u ∷ us)) (filter_above p t.serial (u ∷ us) (lt, above_more t.serial u.serial us lt rising.0)))
    by false is rest = after (p u) is rest

filter_dropped : (p : Ticket → Bool) (t : Ticket) (us : List Ticket) → p t ≡ false → filter p (insert t us) ≡ filter p us
filter_dropped p t [] drops = ap (λ b. if b then t ∷ [] else []) drops
filter_dropped p t (u ∷ us) drops = by (nat_lt t.serial u.serial) (filter_dropped p t us drops)
  where
    by : (b : Bool) → filter p (insert t us) ≡ filter p us → filter p (if b then t ∷ u ∷ us else u ∷ insert t us) ≡ filter p (u ∷ us)
    by true rest = ap (λ c. if c then t ∷ filter p (u ∷ us) else filter p (u ∷ us)) drops
    by false rest = ap (λ zs. if p u then u ∷ zs else zs) rest

put_filter : (p : Ticket → Bool) (o : Option Ticket) (us : List Ticket) → Rising us → put_in (option_filter p o) (filter p us) ≡ filter p (put_in o us)
put_filter p None us rising = refl
put_filter p (Some t) us rising = by (p t) refl
  where
    by : (b : Bool) → p t ≡ b → put_in (if b then Some t else None) (filter p us) ≡ filter p (insert t us)
    by true is = sym (filter_insert p t us is rising)
    by false is = sym (filter_dropped p t us is)

-- where only tickets that pass stay at their places, just those that pass stay listed
pub listed_filter : (p : Ticket → Bool) (at now : ℕ → Option Ticket) (n : ℕ) → Distinct at → ((x : ℕ) → x < n → now x ≡ option_filter p (at x)) → listed now n ≡ filter p (listed at n)
listed_filter p at now zero distinct same = refl
listed_filter p at now (suc n) distinct same =
    ap (λ o. put_in o (listed now n)) (same n (omega arith))
    ∙ ap (put_in (option_filter p (at n))) (listed_filter p at now n distinct (λ x lt. same x (omega (arith, lt))))
    ∙ put_filter p (at n) (listed at n) (rising at n distinct)

-- ---- the first that passes a test

-- a search along rising serials finds the ticket that passes and has the least serial of those
pub find_least : (p : Ticket → Bool) (ts : List Ticket) (t : Ticket) → Rising ts → IsIn t ts → p t ≡ true → ((u : Ticket) → IsIn u ts → p u ≡ true → t.serial ≤ u.serial) → find p ts ≡ Some t
find_least p [] t order i passes least = absurd i
find_least p (u ∷ us) t order i passes least = by (p u) refl i (λ k. find_least p us t order.1 k passes (λ v j. least v (inr j)))
  where
    by : (b : Bool) → p u ≡ b → (u ≡ t) ⊎ IsIn t us → (IsIn t us → find p us ≡ Some t) → cond b (Some u) (find p us) ≡ Some t
    by b is (inl e) rest = let k : b ≡ true = sym is ∙ ap p e ∙ passes in ap (λ c. cond c (Some u) (find p us)) k ∙ ap Some e
    by true is (inr k) rest =
        let lt : u.serial < t.serial = above_each u.serial us t order.0 k in
        let le : t.serial ≤ u.serial = least u (inl refl) is in
        absurd (omega (arith, lt, le))
    by false is (inr k) rest = rest k

-- where no member passes, a search finds none
pub find_none : (p : Ticket → Bool) (ts : List Ticket) → ((u : Ticket) → IsIn u ts → p u ≡ false) → find p ts ≡ None
find_none p [] none = refl
find_none p (u ∷ us) none = ap (λ b. cond b (Some u) (find p us)) (none u (inl refl)) ∙ find_none p us (λ v i. none v (inr i))

-- what a search finds is a member that passes
pub find_in : (p : Ticket → Bool) (ts : List Ticket) (t : Ticket) → find p ts ≡ Some t → IsIn t ts × (p t ≡ true)
find_in p [] t e = absurd cc
find_in p (u ∷ us) t e = by (p u) refl e (find_in p us t)
  where
    by : (b : Bool) → p u ≡ b → cond b (Some u) (find p us) ≡ Some t → (find p us ≡ Some t → IsIn t us × (p t ≡ true)) → IsIn t (u ∷ us) × (p t ≡ true)
    by true is e rest = let k : u ≡ t = cc in (inl k, ap p (sym k) ∙ is)
    by false is e rest = let r = rest e in (inr r.0, r.1)

now_is_other : (t : Ticket) (us : List Ticket) → Above t.serial us → map (now_is t) us ≡ us
now_is_other t [] above = refl
now_is_other t (u ∷ us) above =
    let e : (u.serial == t.serial) ≡ false = grind (arith, nat_tests, above.0) in
    ap (λ b. (if b then t else u) ∷ map (now_is t) us) e ∙ ap (λ zs. u ∷ zs) (now_is_other t us above.1)

-- the first that passes is changed: the ticket of its serial
pub changed_is_map : (p : Ticket → Bool) (f : Ticket → Ticket) (ts : List Ticket) (t v : Ticket) → Rising ts → find p ts ≡ Some t → f t ≡ v → v.serial ≡ t.serial → changed_first p f ts ≡ map (now_is v) ts
changed_is_map p f [] t v order found e same = absurd cc
changed_is_map p f (u ∷ us) t v order found e same = by (p u) refl found (λ k. changed_is_map p f us t v order.1 k e same)
  where
    by : (b : Bool) → p u ≡ b → cond b (Some u) (find p us) ≡ Some t → (find p us ≡ Some t → changed_first p f us ≡ map (now_is v) us) → (if b then f u ∷ us else u ∷ changed_first p f us) ≡ (if u.serial == v.serial then v else u) ∷ map (now_is v) us
    by true is found rest =
        let k : u ≡ t = cc in
        let q : (u.serial == v.serial) ≡ true = let z : u.serial ≡ v.serial = ap (λ (w : Ticket). w.serial) k ∙ sym same in grind (arith, nat_tests) in
        let above : Above v.serial us = subst (λ s. Above s us) (ap (λ (w : Ticket). w.serial) k ∙ sym same) order.0 in
        ap (λ (w : Ticket). w ∷ us) (ap f k ∙ e) ∙ ap (λ zs. v ∷ zs) (sym (now_is_other v us above)) ∙ sym (ap (λ c. (if c then v else u) ∷ map (now_is v) us) q)
    by false is found rest =
        let lt : u.serial < t.serial = above_each u.serial us t order.0 (find_in p us t found).0 in
        let q : (u.serial == v.serial) ≡ false = grind (arith, nat_tests, lt, same) in
        ap (λ zs. u ∷ zs) (rest found) ∙ sym (ap (λ c. (if c then v else u) ∷ map (now_is v) us) q)

-- ---- counts

-- the count of a list is one for its first ticket, where that passes, and the count of the rest
pub count_cons : (q : Ticket → Bool) (u : Ticket) (us : List Ticket) → count_by q (u ∷ us) ≡ one (q u) + count_by q us
count_cons q u us = sum_by-cons (λ v. one (q v)) u us
