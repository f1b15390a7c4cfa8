-- Chains that no group has stay so as groups change.
use Rattle.std.proofs.Common.{◌≡◌, ℕ, zero, suc, ◌<◌, inl, inr, List, [], ◌∷◌, ◌++◌, ◌⊎◌, length, set, get_or, Some, refl, ◌∙◌, sym, ap, subst, arith}
use Rattle.std.specs.Prelude.{slice_get}
use Rattle.bh_cache.specs.declared.lists.GroupLists.{GroupLists}
use Rattle.bh_cache.specs.Chains.{HasChains}
use Rattle.bh_cache.specs.Slots.{Slots}
use Rattle.bh_tickets.specs.declared.group_slots.GroupSlots.{GroupSlots}
use Rattle.bh_tickets.specs.declared.names.NameLists.{NameLists}
use Rattle.bh_tickets.specs.Growth.{HasNewLists}
use Rattle.bh_tickets.specs.Names.{AreBeside, AreEmpty, AreEmptyOn, AreLeft, names_of}
use Rattle.bh_tickets.specs.Same.{KeepsNames, KeepsOwn}
use Rattle.bh_tickets.proofs.AddedLists.{empty_made, names_more}
use Rattle.bh_tickets.proofs.Beside.{IsMade, beside_back, beside_made}

-- ---- lists of chains

pub names_same : (ns : List NameLists) (i : ℕ) (x : NameLists) → i < length ns → slice_get (set ns i x) i ≡ Some x
names_same [] i x lt = absurd (omega (arith, lt))
names_same (y ∷ ys) zero x lt = refl
names_same (y ∷ ys) (suc i) x lt = names_same ys i x (omega (arith, lt))

pub names_other : (ns : List NameLists) (i j : ℕ) (x : NameLists) → (j ≡ i → ⊥) → slice_get (set ns i x) j ≡ slice_get ns j
names_other [] i j x ne = refl
names_other (y ∷ ys) zero zero x ne = absurd (ne refl)
names_other (y ∷ ys) zero (suc j) x ne = refl
names_other (y ∷ ys) (suc i) zero x ne = refl
names_other (y ∷ ys) (suc i) (suc j) x ne = names_other ys i j x (λ e. ne (ap suc e))

pub names_lt : (ns : List NameLists) (i : ℕ) (n : NameLists) → slice_get ns i ≡ Some n → i < length ns
names_lt [] i n e = absurd cc
names_lt (y ∷ ys) zero n e = omega arith
names_lt (y ∷ ys) (suc i) n e = let k : i < length ys = names_lt ys i n e in omega (arith, k)

pub names_is : (ns : List NameLists) (i : ℕ) (n : NameLists) → i < length ns → n ≡ get_or ns i n → slice_get ns i ≡ Some n
names_is [] i n lt e = absurd (omega (arith, lt))
names_is (y ∷ ys) zero n lt e = ap Some (sym e)
names_is (y ∷ ys) (suc i) n lt e = names_is ys i n (omega (arith, lt)) e

-- those among some with one more are that one, or were there
pub names_append : (ns : List NameLists) (x : NameLists) (i : ℕ) (n : NameLists) → slice_get (ns ++ x ∷ []) i ≡ Some n → ((i ≡ length ns) × (n ≡ x)) ⊎ (slice_get ns i ≡ Some n)
names_append [] x zero n e = let k : n ≡ x = cc in inl (refl, k)
names_append [] x (suc i) n e = absurd cc
names_append (y ∷ ys) x zero n e = inr e
names_append (y ∷ ys) x (suc i) n e = elim (names_append ys x i n e) [
  | inl k ↦ inl (ap suc k.0, k.1)
  | inr k ↦ inr k
]

pub names_at_end : (ns : List NameLists) (x : NameLists) → slice_get (ns ++ x ∷ []) (length ns) ≡ Some x
names_at_end [] x = refl
names_at_end (y ∷ ys) x = names_at_end ys x

-- ---- what stays

-- the group has the lists of one that was there
pub record HadLists (ss : List GroupSlots) (r : GroupSlots) : Type 0 where
  pub number : ℕ
  pub was : GroupSlots
  pub there : slice_get ss number ≡ Some was
  pub lists : r.lists ≡ was.lists

empty_kept : (f first end : ℕ) (a b : Slots) → AreEmptyOn f first end a → KeepsOwn f first end a b → AreEmptyOn f first end b
empty_kept f first end a b was kept = record {
  behind = was.behind;
  some = was.some;
  there = omega (arith, was.there, kept.count);
  empty = λ l low high. kept.lists l (λ e. absurd (omega (arith, was.behind, low, e))) low high ∙ was.empty l low high;
}

pub left_same : (a b : Slots) (qs rs : List GroupSlots) (ns : List NameLists) → AreLeft a qs ns → ((i : ℕ) (n : NameLists) → slice_get ns i ≡ Some n → KeepsNames n a b)
    → ((j : ℕ) (r : GroupSlots) → slice_get rs j ≡ Some r → HadLists qs r) → AreLeft b rs ns
left_same a b qs rs ns left keeps had = record {
  each = λ i n e.
      let was = left.each i n e in
      let kept = keeps i n e in
      record {
        names = empty_kept 1 n.names n.names_end a b was.names kept.names;
        contexts = empty_kept 2 n.contexts n.contexts_end a b was.contexts kept.contexts;
      };
  beside = λ i j n s e f.
      let h = had j s f in
      subst (λ (g : GroupLists). AreBeside (names_of g) n) (sym h.lists) (left.beside i h.number n h.was e h.there);
  apart = left.apart;
}

-- with empty lists more, what lies on those that were there lies there still
pub left_more : (n k m : ℕ) (a b : Slots) (qs : List GroupSlots) (ns : List NameLists) → HasNewLists n k m a b → AreLeft a qs ns → AreLeft b qs ns
left_more n k m a b qs ns more left = left_same a b qs qs ns left (λ i x e. names_more n k m a b x more) (λ j r e. record { number = j; was = r; there = e; lists = refl })

-- chains that are made are empty, and behind those that were there
pub left_made : (a b : Slots) (qs : List GroupSlots) (ns : List NameLists) (c : ℕ) (x : NameLists) → 0 < c → HasNewLists 0 c c a b → IsMade c a b x
    → ((j : ℕ) (s : GroupSlots) → slice_get qs j ≡ Some s → HasChains a s.lists) → AreLeft a qs ns → AreLeft b qs (ns ++ x ∷ [])
left_made a b qs ns c x some more made there left = record {
  each = λ i n e. elim (names_append ns x i n e) [
    | inl k ↦ subst (AreEmpty b) (sym k.1) fresh
    | inr k ↦ now.each i n k
  ];
  beside = λ i j n s e f. elim (names_append ns x i n e) [
    | inl k ↦ subst (AreBeside (names_of s.lists)) (sym k.1) (let h = there j s f in beside_made c a b (names_of s.lists) x h.names_there h.contexts_there made)
    | inr k ↦ now.beside i j n s k f
  ];
  apart = λ i j n m e f ne. elim (names_append ns x i n e) [
    | inl k ↦ elim (names_append ns x j m f) [
      | inl q ↦ absurd (ne (k.0 ∙ sym q.0))
      | inr q ↦ subst (λ (z : NameLists). AreBeside z m) (sym k.1) (beside_back m x (fresh_beside j m q))
    ]
    | inr k ↦ elim (names_append ns x j m f) [
      | inl q ↦ subst (AreBeside n) (sym q.1) (fresh_beside i n k)
      | inr q ↦ now.apart i j n m k q ne
    ]
  ];
}
  where
    now : AreLeft b qs ns
    now = left_more 0 c c a b qs ns more left

    fresh : AreEmpty b x
    fresh = record {
      names = empty_made 1 c c x.names x.names_end a b some more.second made.names_behind made.names made.names_there made.many.names;
      contexts = empty_made 2 c c x.contexts x.contexts_end a b some more.third made.contexts_behind made.contexts made.contexts_there made.many.contexts;
    }

    fresh_beside : (i : ℕ) (n : NameLists) → slice_get ns i ≡ Some n → AreBeside n x
    fresh_beside i n e = let was = left.each i n e in beside_made c a b n x was.names.there was.contexts.there made
