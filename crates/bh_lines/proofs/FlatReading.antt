-- The members of an object that holds scalars alone: how they are put, and what is found of them.
use Rattle.std.proofs.Common.{◌≡◌, zero, suc, ℕ, ◌+◌, ◌-◌, ◌<◌, true, false, List, [], ◌∷◌, ◌++◌, length, Some, refl, sym, ap, ◌∙◌, subst, arith, length-append}
use Rattle.std.specs.declared.cmp.Ordering.{Ordering}
use Rattle.std.specs.declared.cmp.Ordering.TheVariants.{Less, Equal, Greater}
use Rattle.std.specs.Ordering.{nat_cmp, match_ordering, is_eq}
use Rattle.std.specs.Str.{bytes_eq}
use Rattle.std.specs.Cmp.Lexicographic.{slice_cmp}
use Rattle.std.proofs.lemmas.Map.Lookups.{exact_bytes}
use Rattle.std.proofs.lemmas.Map.Text.{is_eq-slice_cmp}
use Rattle.json.specs.Token.{Token}
use Rattle.json.specs.Lex.{tokens}
use Rattle.json.specs.Json as json
use Rattle.json.proofs.Grammar.{value-begin_object, members_more, members_end}
use Rattle.serde_json.specs.Data.{negative, float, Data, Members, no_members, member, put}
use Rattle.serde_json.specs.Find.{get_member}
use Rattle.serde_json.specs.Read.{read, number_from, of_members}
use Rattle.fast_float.specs.Text.{Parts, nearest}
use Rattle.std.specs.Prelude.{ℤ, Float, Bool, None, if◌then◌else◌}
use Rattle.std.specs.Float.{binary64, float_is_finite}
use Rattle.bh_lines.specs.Flat.{are_members, is_over, is_scalar_then, is_whole, scalar_data, put_all, flat_data, IsBegun, ReadsScalar, ReadsMembers}
use Rattle.bh_lines.specs.declared.flat.FlatMember.{FlatMember}

not_whole : (fits finite : Bool) (z : ℤ) (x : Float) → is_whole (if fits then Some (negative z) else (if finite then Some (float x) else None)) ≡ false
not_whole true finite z x = refl
not_whole false true z x = refl
not_whole false false z x = refl

-- a number with a sign is not read as one that is whole and of 64 bits
pub signed_is_not_whole : (p : Parts) → is_whole (number_from true p) ≡ false
signed_is_not_whole p = not_whole _ (float_is_finite (nearest binary64 true p)) _ _

-- members begin with a key or end with the bracket
pub no_members_without_key : (n : ℕ) (ts : List Token) → json.read_key ts ≡ None → are_members n ts ≡ false
unfolding are_members
no_members_without_key zero ts e = rw e
no_members_without_key (suc n) ts e = rw e

-- one member more than there is room for is refused
pub no_members_without_room : (ts r : List Token) (k : List ℕ) → json.read_key ts ≡ Some (Some k, r) → are_members 0 ts ≡ false
unfolding are_members
no_members_without_room ts r k e = rw e

-- a member whose value is no scalar is refused
pub no_members_without_scalar : (n : ℕ) (ts r : List Token) (k : List ℕ) → json.read_key ts ≡ Some (Some k, r) → ((rest : List Token → Bool) → is_scalar_then rest r ≡ false) → are_members n ts ≡ false
unfolding are_members
no_members_without_scalar zero ts r k e none = rw e
no_members_without_scalar (suc n) ts r k e none = rw e (none (are_members n))

-- behind the bracket that closes the object nothing may stand
pub members_over : (n : ℕ) (ts r : List Token) → json.read_key ts ≡ Some (None, r) → are_members n ts ≡ is_over r
unfolding are_members
members_over zero ts r e = rw e
members_over (suc n) ts r e = rw e

-- behind a member one fewer may stand
pub members_after_one : (n m : ℕ) (ts s r : List Token) (k : List ℕ) → json.read_key ts ≡ Some (Some k, s) → n ≡ suc m → ((rest : List Token → Bool) → is_scalar_then rest s ≡ rest r) → are_members n ts ≡ are_members m r
unfolding are_members
members_after_one n m ts s r k e more one = ap (λ x. are_members x ts) more ∙ rw e (one (are_members m))

-- one more member is put over those before it
pub put_all_push : (ms : List FlatMember) (m : FlatMember) (found : Members)
    → put_all (ms ++ m ∷ []) found ≡ put m.name.now (scalar_data m.value) (put_all ms found)
put_all_push [] m found = refl
put_all_push (first ∷ ms) m found = put_all_push ms m (put first.name.now (scalar_data first.value) found)

-- ---- the members that were found of an object, and what is left of its tokens

pub begun : (first : List Token) (found : List FlatMember) → found ≡ [] → IsBegun first found first
begun first found none =
    let no_length : length found ≡ 0 = ap length none in
    record {
      turns = length first;
      enough = omega arith;
      reads = λ rest after read. (rest, read, ap (λ ms. of_members rest (put_all ms no_members)) (sym none));
      few = omega arith;
      flat = ap (λ n. are_members n first) (omega arith);
    }

-- one member more
pub begun_after : (first : List Token) (found : List FlatMember) (m : FlatMember) (left s r : List Token) → IsBegun first found left → json.read_key left ≡ Some (Some m.name.now, s)
    → ReadsScalar m.value s r → ((rest : List Token → Bool) → is_scalar_then rest s ≡ rest r) → length r < length left → length found < 8 → IsBegun first (found ++ m ∷ []) r
begun_after first found m left s r so_far named scalar one shorter room =
    let n = so_far.turns in
    let k = m.name.now in
    let counted : length (found ++ m ∷ []) ≡ length found + 1 = length-append found (m ∷ []) in
    let fewer : 8 - length found ≡ suc (8 - length (found ++ m ∷ [])) = omega arith in
    record {
      turns = n - 1;
      enough = omega (arith, so_far.enough);
      reads = λ rest after read.
          let turn = members_more (json.value 126) n k left s r scalar.0 (omega (arith, so_far.enough)) named (scalar.1 126) ∙ ap (json.parse_map (json.member k scalar.0)) read in
          let all = so_far.reads (json.member k scalar.0 rest) after turn in
          (all.0, all.1, all.2 ∙ rw (scalar.2, put_all_push found m no_members));
      few = omega (arith, so_far.few);
      flat = so_far.flat ∙ members_after_one _ _ left s r k named fewer one;
    }

-- the bracket that closes the object
pub begun_closed : (first : List Token) (found : List FlatMember) (left after : List Token) → IsBegun first found left → json.read_key left ≡ Some (None, after) → ReadsMembers found first after
begun_closed first found left after so_far over = so_far.reads json.no_members after (members_end (json.value 126) so_far.turns left after so_far.enough over)

-- the same, and no more
pub begun_over : (first : List Token) (found : List FlatMember) → IsBegun first found (Token.end_object ∷ []) → ReadsMembers found first [] × (are_members 8 first ≡ true)
begun_over first found so_far = (begun_closed first found (Token.end_object ∷ []) [] so_far refl, so_far.flat ∙ members_over _ (Token.end_object ∷ []) [] refl)

-- ---- what is found

-- what is found under a name is what was put there, or else what stood there before
abbrev Found : List ℕ → Ordering → Data → Members → Members → Type 0
Found q o d before after = get_member q after ≡ match_ordering o (get_member q before) (Some d) (get_member q before)

-- the member of the name gives way
same_place : (q l : List ℕ) (d e : Data) (ms : Members) (o : Ordering) → slice_cmp nat_cmp q l ≡ o → Found q o d (member l e ms) (member l d ms)
same_place q l d e ms Less is = rw is
same_place q l d e ms Equal is = rw is
same_place q l d e ms Greater is = rw is

-- a member of another name stays before it
later_place : (q k l : List ℕ) (d e : Data) (ms : Members) (o : Ordering) → slice_cmp nat_cmp q k ≡ o → slice_cmp nat_cmp k l ≡ Greater
    → Found q o d ms (put k d ms) → Found q o d (member l e ms) (member l e (put k d ms))
later_place q k l d e ms Less is greater found = rw found
later_place q k l d e ms Equal is greater found = let same = exact_bytes q k is in rw (found, same, greater)
later_place q k l d e ms Greater is greater found = rw found

put_at : (q k l : List ℕ) (d e : Data) (ms : Members) (o p : Ordering) → slice_cmp nat_cmp q k ≡ o → slice_cmp nat_cmp k l ≡ p
    → Found q o d ms (put k d ms) → Found q o d (member l e ms) (put k d (member l e ms))
put_at q k l d e ms o Less is less found = rw (less, is)
put_at q k l d e ms o Equal is equal found = let same = exact_bytes k l equal in rw equal (same_place q l d e ms o (subst (λ x. slice_cmp nat_cmp q x ≡ o) same is))
put_at q k l d e ms o Greater is greater found = rw greater (later_place q k l d e ms o is greater found)

-- a member that is put is found by the order of its name and the one that is looked up
pub found_put : (q k : List ℕ) (d : Data) (ms : Members) (o : Ordering) → slice_cmp nat_cmp q k ≡ o → Found q o d ms (put k d ms)
found_put q k d no_members o is = rw is
found_put q k d (member l e ms) o is = put_at q k l d e ms o _ is refl (found_put q k d ms o is)

here : (o : Ordering) (d : Data) (before after : Members) (q : List ℕ) → is_eq o ≡ true → Found q o d before after → get_member q after ≡ Some d
here Less d before after q is found = absurd cc
here Equal d before after q is found = found
here Greater d before after q is found = absurd cc

not_here : (o : Ordering) (d : Data) (before after : Members) (q : List ℕ) → is_eq o ≡ false → Found q o d before after → get_member q after ≡ get_member q before
not_here Less d before after q is found = found
not_here Equal d before after q is found = absurd cc
not_here Greater d before after q is found = found

put_last : (q : List ℕ) (ms : List FlatMember) (m : FlatMember) (o : Ordering) → slice_cmp nat_cmp q m.name.now ≡ o
    → Found q o (scalar_data m.value) (put_all ms no_members) (put_all (ms ++ m ∷ []) no_members)
put_last q ms m o is =
    subst (Found q o (scalar_data m.value) (put_all ms no_members)) (sym (put_all_push ms m no_members)) (found_put q m.name.now (scalar_data m.value) _ o is)

-- where the last member has the name, it is what is found
pub found_last : (q : List ℕ) (ms : List FlatMember) (m : FlatMember) → bytes_eq q m.name.now ≡ true → get_member q (put_all (ms ++ m ∷ []) no_members) ≡ Some (scalar_data m.value)
found_last q ms m is = here _ _ _ _ q (is_eq-slice_cmp q m.name.now ∙ is) (put_last q ms m _ refl)

-- where it has another name, it plays no part
pub found_before : (q : List ℕ) (ms : List FlatMember) (m : FlatMember) → bytes_eq q m.name.now ≡ false → get_member q (put_all (ms ++ m ∷ []) no_members) ≡ get_member q (put_all ms no_members)
found_before q ms m is = not_here _ _ _ _ q (is_eq-slice_cmp q m.name.now ∙ is) (put_last q ms m _ refl)

-- a line that is an opening bracket and members and no more is their object
pub read_flat : (line : List ℕ) (found : List FlatMember) (ts : List Token) → tokens line ≡ Token.begin_object ∷ ts → ReadsMembers found ts []
    → read line ≡ Some (flat_data found)
read_flat line found ts opens reads =
    let whole : json.value 127 (tokens line) ≡ Some (json.object reads.0, []) =
    ap (json.value 127) opens ∙ value-begin_object 127 ts (omega arith) ∙ ap (json.parse_map json.object) reads.1 in
    rw (whole, reads.2)
