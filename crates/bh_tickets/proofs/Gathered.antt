-- What lies on several lists of a family goes to another.
use Rattle.std.proofs.Common.{◌≡◌, ℕ, zero, suc, ◌+◌, ◌<◌, ◌≤◌, inl, inr, Bool, true, false, List, [], ◌++◌, length, get_or, set, refl, ◌∙◌, sym, ap, arith, add-one, length-set, get_or-set_same, get_or-set_other}
use Rattle.std.specs.Prelude.{◌||◌, ◌≢◌}
use Rattle.std.proofs.lemmas.Bool.{cases_eq}
use Rattle.bh_slot_arena.specs.Lists.{list_at, put_last}
use Rattle.bh_slot_arena.specs.Slots.{lists_in, slots_on, with_appended}
use Rattle.bh_cache.specs.Slots.{Slots, has, is_on}
use Rattle.bh_cache.proofs.Members.{has_append}
use Rattle.bh_tickets.specs.Spare.{IsGathered, on_run}
use Rattle.bh_tickets.proofs.Vacant.{or_false, or_true}

or_assoc : (a b c : Bool) → ((a || b) || c) ≡ (a || (b || c))
or_assoc true b c = refl
or_assoc false b c = refl

-- nothing was gathered
pub gathered_none : (f first to : ℕ) (a : Slots) → IsGathered f first 0 to a a
gathered_none f first to a = record {
  payloads = refl;
  bounds = refl;
  families = refl;
  others = λ h ne. refl;
  lists = refl;
  gone = λ l low high. absurd (omega (arith, low, high));
  kept = λ l out ne. refl;
  on = λ x. sym (or_false (is_on a f to x));
}

module _ (f first k to : ℕ) (a b : Slots) (gathered : IsGathered f first k to a b) (wide : f < length a.families) (there : first + k < length (lists_in a f)) (to_there : to < length (lists_in a f)) (apart : first ≤ to → to < first + k + 1 → ⊥) where
  abbrev ls : List (List ℕ)
  ls = lists_in b f

  abbrev put : List (List ℕ)
  put = put_last (list_at ls (first + k)) to ls

  abbrev now : Slots
  now = with_appended f (first + k) to b

  differ : first + k ≢ to
  differ e = apart (omega (arith, e)) (omega (arith, e))

  lists_now : lists_in now f ≡ set put (first + k) []
  lists_now = get_or-set_same b.families f (set put (first + k) []) [] (omega (arith, wide, gathered.families))

  at_from : slots_on now f (first + k) ≡ []
  at_from = ap (λ (xs : List (List ℕ)). get_or xs (first + k) []) lists_now ∙ get_or-set_same put (first + k) [] [] (omega (arith, there, gathered.lists, length-set ls to (list_at ls to ++ list_at ls (first + k))))

  at_to : slots_on now f to ≡ slots_on b f to ++ slots_on b f (first + k)
  at_to = ap (λ (xs : List (List ℕ)). get_or xs to []) lists_now ∙ get_or-set_other put (first + k) to [] [] (λ e. differ (sym e))
      ∙ get_or-set_same ls to (list_at ls to ++ list_at ls (first + k)) [] (omega (arith, to_there, gathered.lists))

  at_other : (l : ℕ) → l ≢ first + k → l ≢ to → slots_on now f l ≡ slots_on b f l
  at_other l p q = ap (λ (xs : List (List ℕ)). get_or xs l []) lists_now ∙ get_or-set_other put (first + k) l [] [] p ∙ get_or-set_other ls to l (list_at ls to ++ list_at ls (first + k)) [] q

  from_kept : slots_on b f (first + k) ≡ slots_on a f (first + k)
  from_kept = gathered.kept (first + k) (λ low high. absurd (omega (arith, low, high))) differ

  on_now : (x : ℕ) → is_on now f to x ≡ (is_on a f to x || on_run a f first (suc k) x)
  on_now x = ap (has x) at_to ∙ has_append x (slots_on b f to) (slots_on b f (first + k))
      ∙ (λ i. gathered.on x i || has x (from_kept i))
      ∙ or_assoc (is_on a f to x) (on_run a f first k x) (is_on a f (first + k) x)

  -- one list more was gathered
  pub gathered_more : IsGathered f first (k + 1) to a now
  gathered_more = record {
    payloads = gathered.payloads;
    bounds = gathered.bounds;
    families = length-set b.families f (set put (first + k) []) ∙ gathered.families;
    others = λ h ne. get_or-set_other b.families f h (set put (first + k) []) [] ne ∙ gathered.others h ne;
    lists = ap (λ (xs : List (List ℕ)). length xs) lists_now ∙ length-set put (first + k) [] ∙ length-set ls to (list_at ls to ++ list_at ls (first + k)) ∙ gathered.lists;
    gone = λ l low high. elim (cases_eq l (first + k)) [
      | inl e ↦ ap (slots_on now f) e ∙ at_from
      | inr ne ↦ at_other l ne (λ e. apart (omega (arith, low, e)) (omega (arith, high, e))) ∙ gathered.gone l low (omega (arith, high, ne))
    ];
    kept = λ l out ne. at_other l (λ e. out (omega (arith, e)) (omega (arith, e))) ne ∙ gathered.kept l (λ low high. out low (omega (arith, high))) ne;
    on = λ x. on_now x ∙ ap (λ n. is_on a f to x || on_run a f first n x) (sym (add-one k));
  }

-- ---- what lies on one of several lists

pub on_run_in : (a : Slots) (f first n l x : ℕ) → first ≤ l → l < first + n → is_on a f l x ≡ true → on_run a f first n x ≡ true
on_run_in a f first zero l x low high on = absurd (omega (arith, low, high))
on_run_in a f first (suc n) l x low high on = elim (cases_eq l (first + n)) [
  | inl e ↦ ap (λ b. on_run a f first n x || b) (ap (λ m. is_on a f m x) (sym e) ∙ on) ∙ or_true (on_run a f first n x)
  | inr ne ↦ ap (λ b. b || is_on a f (first + n) x) (on_run_in a f first n l x low (omega (arith, high, ne)) on)
]

-- one of the lists has the slot
pub record IsOnOne (a : Slots) (f first n x : ℕ) : Type 0 where
  pub list : ℕ
  pub from : first ≤ list
  pub to : list < first + n
  pub on : is_on a f list x ≡ true

pub on_run_out : (a : Slots) (f first n x : ℕ) → on_run a f first n x ≡ true → IsOnOne a f first n x
on_run_out a f first zero x e = absurd cc
on_run_out a f first (suc n) x e = by (on_run a f first n x) (is_on a f (first + n) x) refl refl e (on_run_out a f first n x)
  where
    by : (p q : Bool) → on_run a f first n x ≡ p → is_on a f (first + n) x ≡ q → (p || q) ≡ true → (on_run a f first n x ≡ true → IsOnOne a f first n x) → IsOnOne a f first (suc n) x
    by true q i j k rest = let r = rest i in record { list = r.list; from = r.from; to = omega (arith, r.to); on = r.on }
    by false true i j k rest = record { list = first + n; from = omega arith; to = omega arith; on = j }
    by false false i j k rest = absurd cc

pub on_run_same : (a b : Slots) (f first n x : ℕ) → lists_in b f ≡ lists_in a f → on_run b f first n x ≡ on_run a f first n x
on_run_same a b f first zero x same = refl
on_run_same a b f first (suc n) x same = λ i. on_run_same a b f first n x same i || has x (get_or (same i) (first + n) [])

-- ---- in one family of several

-- what was on so many lists of the family is on another
pub record IsEmptied (family first count to : ℕ) (a b : Slots) : Type 0 where
  pub lists : length (lists_in b family) ≡ length (lists_in a family)
  pub gone : (l : ℕ) → first ≤ l → l < first + count → slots_on b family l ≡ []
  pub kept : (l : ℕ) → (first ≤ l → l < first + count → ⊥) → l ≢ to → slots_on b family l ≡ slots_on a family l
  pub on : (x : ℕ) → is_on b family to x ≡ (is_on a family to x || on_run a family first count x)

pub emptied : (f first n to : ℕ) (a c d b : Slots) → lists_in c f ≡ lists_in a f → IsGathered f first n to c d → lists_in b f ≡ lists_in d f → IsEmptied f first n to a b
emptied f first n to a c d b before gathered after = record {
  lists = ap (λ (xs : List (List ℕ)). length xs) after ∙ gathered.lists ∙ ap (λ (xs : List (List ℕ)). length xs) before;
  gone = λ l low high. ap (λ (xs : List (List ℕ)). get_or xs l []) after ∙ gathered.gone l low high;
  kept = λ l out ne. ap (λ (xs : List (List ℕ)). get_or xs l []) after ∙ gathered.kept l out ne ∙ ap (λ (xs : List (List ℕ)). get_or xs l []) before;
  on = λ x. ap (λ (xs : List (List ℕ)). has x (get_or xs to [])) after ∙ gathered.on x ∙ (λ i. has x (get_or (before i) to []) || on_run_same a c f first n x before i);
}
