-- The further commands, as the members of the table under `service.command` give them in the order of their keys.
use Rattle.std.proofs.Common.{◌≡◌, ◌==◌, ℕ, ◌+◌, ◌<◌, ◌≤◌, List, [], ◌∷◌, ◌++◌, length, get_or, take, map, Bool, true, false, Some, None, Result, Err, Less, Equal, String, Global, string_bytes, nat_cmp, refl, sym, ap, ◌∙◌, true≢false, arith}
use Rattle.std.proofs.lemmas.Bool.Decides.{nat_tests}
use Rattle.std.proofs.lemmas.Cmp.{nat_list_cmp_total}
use Rattle.std.proofs.lemmas.Grind.{flat_map-append}
use Rattle.std.proofs.lemmas.List.{append-nil, take_more}
use Rattle.std.proofs.lemmas.List.Elements.{filter-append}
use Rattle.std.proofs.lemmas.Slice.Eq.{bytes_eq-Decides}
use Rattle.std.specs.BTreeMap.{insert_entry}
use Rattle.std.specs.Cmp.{tied_itself}
use Rattle.std.specs.Cmp.Lexicographic.{slice_cmp}
use Rattle.std.specs.List.{AllByRecursion, flat_map}
use Rattle.std.specs.List.Sorted.{IsStrictlySortedBy}
use Rattle.std.specs.Map.{keys_of}
use Rattle.std.specs.Str.{bytes_eq}
use Rattle.std.specs.String.{string_cmp}
use Rattle.toml.specs.Data.{Data, table}
use Rattle.toml.specs.View.{view, members_view}
use Rattle.toml.specs.declared.value.Value.{Value}
use Rattle.bh_props.specs.declared.error.SettingsError.{SettingsError}
use Rattle.bh_props.specs.declared.error.SettingsError.TheVariants as refusals
use Rattle.bh_props.specs.Commands.{Commands, commands_in, in_order, is_single, next_command, with_command, commands_from}
use Rattle.bh_props.proofs.Groups.{is_among}

abbrev pub Entry : Type 0
Entry = String Global × Value

-- an entry as contracts see it
abbrev pub seen : List Entry → List (List ℕ × Data)
seen es = map (λ e. (string_bytes e.0, view e.1)) es

-- a table is of one key where its map has one entry
pub single : (es : List Entry) → (length es == 1) ≡ is_single (table (members_view es))
single [] = refl
single (e ∷ []) = refl
single (e ∷ f ∷ es) = grind (arith, nat_tests)

-- at most all of the commands are of the group at the place
pub length-commands_in : (place : ℕ) (cs : Commands) → length (commands_in place cs) ≤ length cs
length-commands_in place [] = omega arith
length-commands_in place (c ∷ cs) = by (c.1.0 == place) refl (length-commands_in place cs)
  where
    by : (b : Bool) → (c.1.0 == place) ≡ b → length (commands_in place cs) ≤ length cs → length (commands_in place (c ∷ cs)) ≤ length (c ∷ cs)
    by true e later = rw e (omega (arith, later))
    by false e later = rw e (omega (arith, later))

-- the members of a table whose keys ascend are in order as they stand
pub in_order-sorted : (es : List Entry) → IsStrictlySortedBy string_cmp (keys_of es) → in_order (members_view es) ≡ seen es
unfolding IsStrictlySortedBy
in_order-sorted [] h = refl
in_order-sorted (e ∷ []) h = refl
in_order-sorted (e ∷ f ∷ es) h =
    ap (λ later. insert_entry (slice_cmp nat_cmp) later (string_bytes e.0) (view e.1)) (in_order-sorted (f ∷ es) h.1)
    ∙ rw (h.0.0)

-- a name that comes before another is not equal to it
differs : (s t : List ℕ) → slice_cmp nat_cmp s t ≡ Less → bytes_eq s t ≡ false
differs s t h = by (bytes_eq s t) refl
  where
    by : (b : Bool) → bytes_eq s t ≡ b → bytes_eq s t ≡ false
    by false e = e
    by true e =
        let same : s ≡ t = (bytes_eq-Decides s t).0 e in
        let tied : Less ≡ Equal = sym h ∙ ap (slice_cmp nat_cmp s) (sym same) ∙ tied_itself nat_list_cmp_total s in
        cc

-- no key of the entries is among the names
abbrev pub AreFresh : List (List ℕ) → List (String Global) → Type 0
AreFresh names ks = AllByRecursion (λ k. is_among (string_bytes k) names ≡ false) ks

is_among-last : (name : List ℕ) (names : List (List ℕ)) (t : List ℕ) → is_among name names ≡ false → bytes_eq t name ≡ false → is_among name (names ++ t ∷ []) ≡ false
is_among-last name [] t h e = rw e refl
is_among-last name (x ∷ names) t h e = by (bytes_eq x name) refl (is_among-last name names t)
  where
    by : (b : Bool) → bytes_eq x name ≡ b → (is_among name names ≡ false → bytes_eq t name ≡ false → is_among name (names ++ t ∷ []) ≡ false) → is_among name ((x ∷ names) ++ t ∷ []) ≡ false
    by true is later = let bad : true ≡ false = rw is at h in absurd (true≢false bad)
    by false is later = rw is (later (rw is at h) e)

keys_of-last : {V : Type 0} (es : List (List ℕ × V)) (name : List ℕ) (v : V) → keys_of (es ++ (name, v) ∷ []) ≡ keys_of es ++ name ∷ []
keys_of-last [] name v = refl
keys_of-last (e ∷ es) name v = ap (λ later. e.0 ∷ later) (keys_of-last es name v)

-- the keys behind an entry are fresh once it is among the commands
pub fresh-next : {V : Type 0} (cs : List (List ℕ × V)) (k : String Global) (v : V) (ks : List (String Global)) → AreFresh (keys_of cs) ks → AllByRecursion (λ y. string_cmp k y ≡ Less) ks
    → AreFresh (keys_of (cs ++ (string_bytes k, v) ∷ [])) ks
fresh-next cs k v [] fresh below = tt
fresh-next cs k v (x ∷ ks) fresh below = (
  ap (is_among (string_bytes x)) (keys_of-last cs (string_bytes k) v)
      ∙ is_among-last (string_bytes x) (keys_of cs) (string_bytes k) fresh.0 (differs (string_bytes k) (string_bytes x) below.0),
  fresh-next cs k v ks fresh.1 below.1,
)

-- nothing is among no names
pub fresh-none : (ks : List (String Global)) → AreFresh [] ks
fresh-none [] = tt
fresh-none (k ∷ ks) = (refl, fresh-none ks)

-- the name of the next entry is fresh
pub fresh-here : (names : List (List ℕ)) (es rest : List Entry) (e : Entry) (name : List ℕ) → es ≡ e ∷ rest → name ≡ string_bytes e.0 → AreFresh names (keys_of es) → is_among name names ≡ false
fresh-here names es rest e name at is fresh =
    let split : AreFresh names (keys_of (e ∷ rest)) = rw at at fresh in
    ap (λ n. is_among n names) is ∙ split.0

-- what the loop over the members keeps
pub record IsReached (groups : List (List ℕ)) (cs : Commands) (rest : List Entry) (all : Result Commands SettingsError) : Type 0 where
  pub sorted : IsStrictlySortedBy string_cmp (keys_of rest)
  pub fresh : AreFresh (keys_of cs) (keys_of rest)
  pub same : commands_from groups cs (seen rest) ≡ all

module _ (groups : List (List ℕ)) (cs : Commands) (es rest : List Entry) (e : Entry) (name : List ℕ) (all : Result Commands SettingsError) (at : es ≡ e ∷ rest) (is : name ≡ string_bytes e.0) where
  -- the members behind a command
  pub reached-next : (new : Commands) (c : ℕ × ℕ) → IsReached groups cs es all → next_command groups cs name (view e.1) ≡ Some c → new ≡ cs ++ (name, c) ∷ [] → IsReached groups new rest all
  unfolding IsStrictlySortedBy
  reached-next new c h next grown =
      let sorted : IsStrictlySortedBy string_cmp (keys_of (e ∷ rest)) = rw at at h.sorted in
      let fresh : AreFresh (keys_of cs) (keys_of (e ∷ rest)) = rw at at h.fresh in
      let same : commands_from groups cs (seen (e ∷ rest)) ≡ all = rw at at h.same in
      let here : next_command groups cs (string_bytes e.0) (view e.1) ≡ Some c = rw is at next in
      let more : new ≡ cs ++ (string_bytes e.0, c) ∷ [] = rw is at grown in
      record {
        sorted = sorted.1;
        fresh = rw more (fresh-next cs e.0 c (keys_of rest) fresh.1 sorted.0);
        same = ap (λ some. commands_from groups some (seen rest)) more ∙ sym (ap (with_command (λ some. commands_from groups some (seen rest)) cs (string_bytes e.0)) here) ∙ same;
      }

  -- the refusal of a bad command
  pub reached-bad : IsReached groups cs es all → next_command groups cs name (view e.1) ≡ None → all ≡ Err (refusals.BadCommand (length cs + 1))
  reached-bad h none =
      let same : commands_from groups cs (seen (e ∷ rest)) ≡ all = rw at at h.same in
      let here : next_command groups cs (string_bytes e.0) (view e.1) ≡ None = rw is at none in
      sym same ∙ ap (with_command (λ some. commands_from groups some (seen rest)) cs (string_bytes e.0)) here

-- the lines of the commands of a group so far and of one more
module _ {A : Type 0} (f : List ℕ × (ℕ × ℕ) → List A) (place : ℕ) (done : Commands) (c : List ℕ × (ℕ × ℕ)) where
  rows : flat_map f (commands_in place (done ++ c ∷ [])) ≡ flat_map f (commands_in place done) ++ flat_map f (commands_in place (c ∷ []))
  rows = ap (flat_map f) (filter-append (λ x. x.1.0 == place) done (c ∷ [])) ∙ flat_map-append f (commands_in place done) (commands_in place (c ∷ []))

  pub rows-own : c.1.0 ≡ place → flat_map f (commands_in place done) ++ f c ≡ flat_map f (commands_in place (done ++ c ∷ []))
  rows-own is =
      let here : (c.1.0 == place) ≡ true = grind (arith, nat_tests) in
      let alone : flat_map f (commands_in place (c ∷ [])) ≡ f c = rw here (append-nil (f c)) in
      sym (rows ∙ ap (λ ys. flat_map f (commands_in place done) ++ ys) alone)

  pub rows-other : ¬ (c.1.0 ≡ place) → flat_map f (commands_in place done) ≡ flat_map f (commands_in place (done ++ c ∷ []))
  rows-other is_not =
      let other : (c.1.0 == place) ≡ false = eqb-false_from c.1.0 place is_not in
      let none : flat_map f (commands_in place (c ∷ [])) ≡ [] = rw other refl in
      sym (rows ∙ ap (λ ys. flat_map f (commands_in place done) ++ ys) none ∙ append-nil (flat_map f (commands_in place done)))
    where
      eqb-false_from : (a b : ℕ) → ¬ (a ≡ b) → (a == b) ≡ false
      eqb-false_from a b ne = grind (arith, nat_tests)

-- the lines of the first commands of a list and of the next
pub rows-taken : {A : Type 0} (f : List ℕ × (ℕ × ℕ) → List A) (cs : Commands) (i : ℕ) (c : List ℕ × (ℕ × ℕ)) → i < length cs → c ≡ get_or cs i c → flat_map f (take i cs) ++ f c ≡ flat_map f (take (i + 1) cs)
rows-taken f cs i c within is =
    let grown : take (i + 1) cs ≡ take i cs ++ c ∷ [] = take_more cs i c within ∙ ap (λ n. take i cs ++ n ∷ []) (sym is) in
    sym (ap (flat_map f) grown ∙ flat_map-append f (take i cs) (c ∷ []) ∙ ap (λ row. flat_map f (take i cs) ++ row) (append-nil (f c)))
