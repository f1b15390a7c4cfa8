-- Empty lists added.
use Rattle.std.proofs.Common.{◌≡◌, ℕ, zero, suc, ◌+◌, ◌-◌, ◌<◌, ◌≤◌, inl, inr, List, [], ◌∷◌, ◌++◌, length, get_or, map, replicate, refl, sym, ap, subst, ◌∙◌, arith, length-append}
use Rattle.std.specs.List.{Contains}
use Rattle.std.proofs.lemmas.List.{get_or_append_left, get_or-append_right, get_or-replicate, length-replicate, map-append}
use Rattle.std.proofs.lemmas.Bool.{cases_lt}
use Rattle.bh_index_lists.specs.declared.lists.Link.{Link}
use Rattle.bh_index_lists.specs.declared.lists.ListHead.{ListHead}
use Rattle.bh_index_lists.specs.Lists.{no_list, IsList, list_of}
use Rattle.bh_slot_arena.specs.Linked.{head_at, IsLinked}

map-empty : (L : List Link) (n : ℕ) → map (list_of L) (replicate n no_list) ≡ replicate {A = List ℕ} n []
map-empty L zero = refl
map-empty L (suc n) = ap (λ (xs : List (List ℕ)). [] ∷ xs) (map-empty L n)

-- heads of empty lists are as many empty lists, behind the lists as they were
pub grown-view : (L : List Link) (heads : List ListHead) (n : ℕ) → map (list_of L) (heads ++ replicate n no_list) ≡ map (list_of L) heads ++ replicate {A = List ℕ} n []
grown-view L heads n = map-append (list_of L) heads (replicate n no_list) ∙ ap (λ (xs : List (List ℕ)). map (list_of L) heads ++ xs) (map-empty L n)

-- with heads of empty lists added, each slot is on the list whose number it has still, and on no other
pub grown-sound : (L : List Link) (heads : List ListHead) (on_list : List ℕ) (n : ℕ) → IsLinked L heads on_list → IsLinked L (heads ++ replicate n no_list) on_list
grown-sound L heads on_list n sound =
    let more = heads ++ replicate n no_list in
    let size = length-append heads (replicate n no_list) in
    let sizes : length more ≡ length heads + n = omega (arith, size, length-replicate n no_list) in
    let left : (l : ℕ) → l < length heads → head_at more l ≡ head_at heads l = λ l lt. get_or_append_left heads (replicate n no_list) no_list l lt in
    let right : (l : ℕ) → l < length more → length heads ≤ l → head_at more l ≡ no_list = λ l lt le. get_or-append_right heads (replicate n no_list) (length heads) l no_list refl le ∙ get_or-replicate n (l - length heads) no_list no_list (omega (arith, sizes, lt, le)) in
    record {
      sizes = sound.sizes;
      few = sound.few;
      listed = λ l lt. elim (cases_lt l (length heads)) [
        | inl h ↦ subst (IsList L) (sym (left l h)) (sound.listed l h)
        | inr h ↦ subst (IsList L) (sym (right l lt h)) (record { linked = tt; first = refl; last = refl; len = refl })
      ];
      on = λ l x lt m. elim (cases_lt l (length heads)) [
        | inl h ↦ sound.on l x h (subst (λ (k : ListHead). Contains (list_of L k) x) (left l h) m)
        | inr h ↦ let none : Contains [] x = subst (λ (k : ListHead). Contains (list_of L k) x) (right l lt h) m in absurd (omega (arith, none.1))
      ];
      there = λ x lt. let at = sound.there x lt in (omega (arith, at.0, sizes), subst (λ (k : ListHead). Contains (list_of L k) x) (sym (left (get_or on_list x 0) at.0)) at.1);
    }
