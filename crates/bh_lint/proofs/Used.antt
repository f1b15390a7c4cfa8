-- What stands at a name that is looked up can change a value in force.
use Rattle.std.proofs.Common.{◌≡◌, ◌∙◌, ◌⊎◌, ◌&&◌, ◌||◌, ℕ, List, [], ◌∷◌, length, map, codes, Bool, true, false, Some, None, Ok, Err, Ordering, Less, Equal, Greater, nat_cmp, arith, refl, sym, ap, inl, inr}
use Rattle.std.specs.Prelude.{option_and_then}
use Rattle.std.specs.Option.{option_or}
use Rattle.std.specs.Cmp.{tied_itself}
use Rattle.std.specs.Cmp.Lexicographic.{slice_cmp}
use Rattle.std.specs.Ordering.{match_ordering, is_eq}
use Rattle.std.specs.List.{Any, list_any}
use Rattle.std.specs.Str.{bytes_eq}
use Rattle.std.proofs.lemmas.Bool.{and_parts, or_cases, false≢true, true≢false}
use Rattle.std.proofs.lemmas.Cmp.{nat_list_cmp_total}
use Rattle.std.proofs.lemmas.List.Folds.{list_any-append, Any-from_list_any}
use Rattle.std.proofs.lemmas.Map.Text.{is_eq-slice_cmp}
use Rattle.std.proofs.lemmas.Slice.Eq.{bytes_eq-Decides}
use Rattle.toml.specs.Data.{Data, array, no_items, table, no_members, member}
use Rattle.bh_props.specs.declared.property.Property.{Property}
use Rattle.bh_props.specs.declared.property.Property.TheVariants as properties
use Rattle.bh_props.specs.declared.subject.Subject.{Subject}
use Rattle.bh_props.specs.declared.value.Kind.{Kind}
use Rattle.bh_props.specs.declared.value.Kind.TheVariants as kinds
use Rattle.bh_props.specs.declared.value.Fault.TheVariants.{WrongType}
use Rattle.bh_props.specs.Tree.{look_up}
use Rattle.bh_props.specs.Table.{row, path_of}
use Rattle.bh_props.specs.InForce.{read_as, read_given, in_force}
use Rattle.bh_props.specs.Subjects.{properties_of}
use Rattle.bh_lint.specs.LookedUp.{is_on, paths_of}
use Rattle.bh_lint.specs.Unused.{AreAlikeBeside, CanChange, UsedCanChange}
use Rattle.bh_lint.proofs.Any.{any-rows}
use Rattle.bh_lint.proofs.Tables.{any-map}

-- a file with one value
abbrev nest : List (List ℕ) → Data → Data
nest [] x = x
nest (key ∷ path) x = table (member key (nest path x) no_members)

-- an empty file
abbrev empty : Data
empty = table no_members

-- a list, which no property is
abbrev odd : Data
odd = array no_items

itself : (key : List ℕ) → slice_cmp nat_cmp key key ≡ Equal
itself key = tied_itself nat_list_cmp_total key

-- keys that compare as equal are one
one-key : (k l : List ℕ) → slice_cmp nat_cmp k l ≡ Equal → k ≡ l
one-key k l e = (bytes_eq-Decides k l).0 (sym (is_eq-slice_cmp k l) ∙ ap is_eq e)

found : (path : List (List ℕ)) (x : Data) → look_up path (nest path x) ≡ Some x
found [] x = refl
found (key ∷ path) x =
    ap (λ o. option_and_then (look_up path) (match_ordering o None (Some (nest path x)) None)) (itself key) ∙ found path x

-- as deep in the file there is nothing else
nothing-else : (path other : List (List ℕ)) (x : Data) → length other ≡ length path → (look_up other (nest path x) ≡ None) ⊎ (look_up other (nest path x) ≡ Some x)
nothing-else [] [] x same = inr refl
nothing-else [] (k ∷ other) x same = absurd (omega arith)
nothing-else (key ∷ path) [] x same = absurd (omega arith)
nothing-else (key ∷ path) (k ∷ other) x same = by (slice_cmp nat_cmp k key) (nothing-else path other x (omega arith))
  where
    by : (o : Ordering) → (look_up other (nest path x) ≡ None) ⊎ (look_up other (nest path x) ≡ Some x)
        → (option_and_then (look_up other) (match_ordering o None (Some (nest path x)) None) ≡ None)
        ⊎ (option_and_then (look_up other) (match_ordering o None (Some (nest path x)) None) ≡ Some x)
    by Less later = inl refl
    by Equal later = later
    by Greater later = inl refl

-- beside a place on the path there is nothing
beside-nest : (place path other : List (List ℕ)) (x : Data) → is_on place path ≡ true → is_on place other ≡ false → is_on other place ≡ false → look_up other (nest path x) ≡ None
beside-nest place path [] x on off back = absurd (true≢false back)
beside-nest [] path (m ∷ other) x on off back = absurd (true≢false off)
beside-nest (key ∷ place) [] (m ∷ other) x on off back = absurd (false≢true on)
beside-nest (key ∷ place) (k ∷ path) (m ∷ other) x on off back =
    by (slice_cmp nat_cmp m k) refl (beside-nest place path other x (and_parts (bytes_eq k key) (is_on place path) on).1)
  where
    same : k ≡ key
    same = (bytes_eq-Decides k key).0 (and_parts (bytes_eq k key) (is_on place path) on).0

    by : (o : Ordering) → slice_cmp nat_cmp m k ≡ o → (is_on place other ≡ false → is_on other place ≡ false → look_up other (nest path x) ≡ None)
        → option_and_then (look_up other) (match_ordering (slice_cmp nat_cmp m k) None (Some (nest path x)) None) ≡ None
    by Less e later = rw e refl
    by Greater e later = rw e refl
    by Equal e later =
        let here : m ≡ key = one-key m k e ∙ same in
        let there : bytes_eq m key ≡ true = (bytes_eq-Decides m key).1 here in
        let again : bytes_eq key m ≡ true = (bytes_eq-Decides key m).1 (sym here) in
        rw e (later (sym (ap (λ b. b && is_on place other) there) ∙ off) (sym (ap (λ b. b && is_on other place) again) ∙ back))

nothing : (other : List (List ℕ)) (place : List (List ℕ)) → is_on other place ≡ false → look_up other empty ≡ None
nothing [] place back = absurd (true≢false back)
nothing (m ∷ other) place back = refl

alike : (place path : List (List ℕ)) → is_on place path ≡ true → AreAlikeBeside place empty (nest path odd)
alike place path on other off back = nothing other place back ∙ sym (beside-nest place path other odd on off back)

-- an empty file has no property
no-property : (p : Property) (n : List ℕ) → look_up (path_of p n) empty ≡ None
no-property properties.AuditSteps n = refl
no-property properties.Slots n = refl
no-property properties.Strategy n = refl
no-property properties.Timeout n = refl
no-property properties.TimeoutOn n = refl
no-property properties.Semaphore n = refl
no-property properties.FallbackPermits n = refl
no-property properties.FallbackOn n = refl
no-property properties.CircuitOn n = refl
no-property properties.Volume n = refl
no-property properties.SleepWindow n = refl
no-property properties.ErrorPercent n = refl
no-property properties.ForceOpen n = refl
no-property properties.ForceClosed n = refl
no-property properties.Window n = refl
no-property properties.Buckets n = refl
no-property properties.HealthInterval n = refl
no-property properties.CacheOn n = refl
no-property properties.CoreSize n = refl
no-property properties.MaxQueue n = refl
no-property properties.QueueThreshold n = refl

-- paths of a property are as long under each name
as-long : (p : Property) (n m : List ℕ) → length (path_of p n) ≡ length (path_of p m)
as-long properties.AuditSteps n m = refl
as-long properties.Slots n m = refl
as-long properties.Strategy n m = refl
as-long properties.Timeout n m = refl
as-long properties.TimeoutOn n m = refl
as-long properties.Semaphore n m = refl
as-long properties.FallbackPermits n m = refl
as-long properties.FallbackOn n m = refl
as-long properties.CircuitOn n m = refl
as-long properties.Volume n m = refl
as-long properties.SleepWindow n m = refl
as-long properties.ErrorPercent n m = refl
as-long properties.ForceOpen n m = refl
as-long properties.ForceClosed n m = refl
as-long properties.Window n m = refl
as-long properties.Buckets n m = refl
as-long properties.HealthInterval n m = refl
as-long properties.CacheOn n m = refl
as-long properties.CoreSize n m = refl
as-long properties.MaxQueue n m = refl
as-long properties.QueueThreshold n m = refl

odd-kind : (kind : Kind) → read_as kind odd ≡ Err WrongType
odd-kind (kinds.Number least most) = refl
odd-kind kinds.QueueSize = refl
odd-kind kinds.Truth = refl
odd-kind kinds.Strategy = refl

built-in : (p : Property) (n : List ℕ) → in_force p n empty ≡ Ok (row p).built_in
built-in p n = λ i. read_given p (option_or (no-property p n i) (no-property p (codes "default") i))

own-odd : (p : Property) (n : List ℕ) → in_force p n (nest (path_of p n) odd) ≡ Err WrongType
own-odd p n = ap (λ o. read_given p (option_or o (look_up (path_of p (codes "default")) (nest (path_of p n) odd)))) (found (path_of p n) odd) ∙ odd-kind (row p).kind

default-odd : (p : Property) (n : List ℕ) → in_force p n (nest (path_of p (codes "default")) odd) ≡ Err WrongType
default-odd p n =
    ap (λ o. read_given p (option_or (look_up (path_of p n) (nest (path_of p (codes "default")) odd)) o)) (found (path_of p (codes "default")) odd)
    ∙ elim (nothing-else (path_of p (codes "default")) (path_of p n) odd (as-long p n (codes "default"))) [
      | inl none ↦ ap (λ o. read_given p (option_or o (Some odd))) none ∙ odd-kind (row p).kind
      | inr some ↦ ap (λ o. read_given p (option_or o (Some odd))) some ∙ odd-kind (row p).kind
    ]

differ : (p : Property) (n : List ℕ) (e : Data) → in_force p n e ≡ Err WrongType → ¬ (in_force p n empty ≡ in_force p n e)
differ p n e is same = let bad : Ok (row p).built_in ≡ Err WrongType = sym (built-in p n) ∙ same ∙ is in cc

can-change : (place : List (List ℕ)) (n : List ℕ) (p : Property) → (is_on place (path_of p n) || is_on place (path_of p (codes "default"))) ≡ true → CanChange place n p
can-change place n p on =
    elim (or_cases (is_on place (path_of p n)) (is_on place (path_of p (codes "default"))) on) [
      | inl own ↦ (empty, nest (path_of p n) odd, alike place (path_of p n) own, differ p n (nest (path_of p n) odd) (own-odd p n))
      | inr given ↦ (empty, nest (path_of p (codes "default")) odd, alike place (path_of p (codes "default")) given, differ p n (nest (path_of p (codes "default")) odd) (default-odd p n))
    ]

any-more : {X : Type 0} (P Q : X → Type 0) (xs : List X) → ((x : X) → P x → Q x) → Any P xs → Any Q xs
any-more P Q xs more h = (h.0, h.1, h.2, h.3, more h.1 h.4)

any-either : {X : Type 0} (f g : X → Bool) (xs : List X) → (list_any f xs || list_any g xs) ≡ true → list_any (λ x. f x || g x) xs ≡ true
any-either f g [] h = h
any-either f g (x ∷ xs) h = by (f x) (g x) (list_any f xs) (list_any g xs) (list_any (λ y. f y || g y) xs) h (any-either f g xs)
  where
    by : (a b c d r : Bool) → ((a || c) || (b || d)) ≡ true → ((c || d) ≡ true → r ≡ true) → ((a || b) || r) ≡ true
    by true b c d r h later = refl
    by false true c d r h later = refl
    by false false c d r h later = later h

of-subject : (place : List (List ℕ)) (s : Subject) → list_any (is_on place) (paths_of s) ≡ true → Any (CanChange place s.name) (properties_of s.scope)
of-subject place s on =
    any-more (λ p. (is_on place (path_of p s.name) || is_on place (path_of p (codes "default"))) ≡ true) (CanChange place s.name) (properties_of s.scope) (can-change place s.name)
    (Any-from_list_any (λ p. is_on place (path_of p s.name) || is_on place (path_of p (codes "default"))) (properties_of s.scope)
    (any-either (λ p. is_on place (path_of p s.name)) (λ p. is_on place (path_of p (codes "default"))) (properties_of s.scope)
    ((λ i. any-map (is_on place) (λ p. path_of p s.name) (properties_of s.scope) i || any-map (is_on place) (λ p. path_of p (codes "default")) (properties_of s.scope) i)
    ∙ sym (list_any-append (is_on place) (map (λ p. path_of p s.name) (properties_of s.scope)) (map (λ p. path_of p (codes "default")) (properties_of s.scope))) ∙ on)))

-- a value in force of one of the subjects can change
pub used_can_change : UsedCanChange
used_can_change some place on =
    any-more (λ s. list_any (is_on place) (paths_of s) ≡ true) (λ s. Any (CanChange place s.name) (properties_of s.scope)) some (of-subject place)
    (Any-from_list_any (λ s. list_any (is_on place) (paths_of s)) some (sym (any-rows (is_on place) paths_of some) ∙ on))
