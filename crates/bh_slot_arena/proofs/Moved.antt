-- A slot that moves from its list to the end of another.
use Rattle.std.proofs.Common.{◌≡◌, ℕ, ◌<◌, inl, inr, List, [], ◌∷◌, ◌++◌, length, get_or, set, map, sym, ap, subst, ◌∙◌, arith, length-set, get_or-set_same, get_or-set_other}
use Rattle.std.specs.List.{Contains}
use Rattle.std.proofs.lemmas.List.{same_lists, get_or-map, length-map}
use Rattle.std.proofs.lemmas.Bool.{cases_eq}
use Rattle.bh_index_lists.specs.declared.lists.Link.{Link}
use Rattle.bh_index_lists.specs.declared.lists.ListHead.{ListHead}
use Rattle.bh_index_lists.specs.Lists.{link_at, no_list, IsListed, IsList, list_of, without}
use Rattle.bh_index_lists.proofs.Members.{IsIn, IsIn-append_left, IsIn-append_right, IsIn-append_cases, IsIn-from_Contains, Contains-from_IsIn, IsIn-without, IsIn-kept, without-out}
use Rattle.bh_index_lists.proofs.Segments.{listed, listed-same, IsList-from}
use Rattle.bh_slot_arena.specs.Lists.{put_last}
use Rattle.bh_slot_arena.specs.Linked.{head_at, IsLinked}

set_head_same : (heads : List ListHead) (l : ℕ) (d : ListHead) → l < length heads → head_at (set heads l d) l ≡ d
set_head_same heads l d lt = get_or-set_same heads l d no_list lt

set_head_other : (heads : List ListHead) (l m : ℕ) (d : ListHead) → (m ≡ l → ⊥) → head_at (set heads l d) m ≡ head_at heads m
set_head_other heads l m d ne = get_or-set_other heads l m d no_list ne

-- ---- once the slot is out of its list
module _ (L M : List Link) (heads : List ListHead) (on_list : List ℕ) (slot : ℕ) (c d : ListHead) (sound : IsLinked L heads on_list) (within : slot < length L)
    (was : c ≡ head_at heads (get_or on_list slot 0)) (same : length M ≡ length L)
    (isList : IsList M d) (taken : list_of M d ≡ without slot (list_of L c))
    (outside : (x : ℕ) → ¬ (Contains (list_of L c) x) → link_at M x ≡ link_at L x) where
  abbrev pub out : List ListHead
  out = set heads (get_or on_list slot 0) d

  only_on : (l x : ℕ) → l < length heads → IsIn x (list_of L (head_at heads l)) → get_or on_list x 0 ≡ l
  only_on l x lt i = sound.on l x lt (Contains-from_IsIn x (list_of L (head_at heads l)) i)

  -- each list holds what it held but the slot
  pub taken-listed : (l : ℕ) → l < length heads → IsListed M (head_at out l) (without slot (list_of L (head_at heads l)))
  taken-listed l lt = elim (cases_eq l (get_or on_list slot 0)) [
    | inl e ↦
        let here : IsListed M d (without slot (list_of L c)) = subst (IsListed M d) taken isList in
        let there : IsListed M d (without slot (list_of L (head_at heads l))) = subst (λ (k : ListHead). IsListed M d (without slot (list_of L k))) (was ∙ ap (head_at heads) (sym e)) here in
        subst (λ (k : ListHead). IsListed M k (without slot (list_of L (head_at heads l)))) (sym (ap (head_at out) e ∙ set_head_same heads (get_or on_list slot 0) d (omega (arith, lt, e)))) there
    | inr ne ↦
        let away : (x : ℕ) → IsIn x (list_of L (head_at heads l)) → ¬ (Contains (list_of L c) x)
        = λ x i k. ne (sym (only_on l x lt i) ∙ sound.on (get_or on_list slot 0) x (sound.there slot within).0 (subst (λ (z : ListHead). Contains (list_of L z) x) was k)) in
        let kept = listed-same L M (head_at heads l) (list_of L (head_at heads l)) same (λ x i. outside x (away x i)) (sound.listed l lt) in
        let gone : IsIn slot (list_of L (head_at heads l)) → ⊥ = λ i. ne (sym (only_on l slot lt i)) in
        subst (λ (k : ListHead). IsListed M k (without slot (list_of L (head_at heads l)))) (sym (set_head_other heads (get_or on_list slot 0) l d ne)) (subst (IsListed M (head_at heads l)) (sym (without-out slot (list_of L (head_at heads l)) gone)) kept)
  ]

  -- ---- once it is put on the list `to`
  module _ (N : List Link) (to : ℕ) (k f : ListHead) (to_within : to < length heads) (was_to : k ≡ head_at out to) (same' : length N ≡ length M)
      (isList' : IsList N f) (put : list_of N f ≡ list_of M k ++ slot ∷ [])
      (outside' : (x : ℕ) → ¬ (Contains (list_of N f) x) → link_at N x ≡ link_at M x) where
    abbrev pub end : List ListHead
    end = set out to f

    put_is : list_of N f ≡ without slot (list_of L (head_at heads to)) ++ slot ∷ []
    put_is = put ∙ ap (λ (xs : List ℕ). xs ++ slot ∷ []) (ap (list_of M) was_to ∙ listed M (head_at out to) _ (taken-listed to to_within))

    -- the list `to` holds what it held but the slot, and the slot at its end
    pub end-to : IsListed N (head_at end to) (without slot (list_of L (head_at heads to)) ++ slot ∷ [])
    end-to = subst (λ (z : ListHead). IsListed N z (without slot (list_of L (head_at heads to)) ++ slot ∷ [])) (sym (set_head_same out to f (omega (arith, to_within, length-set heads (get_or on_list slot 0) d)))) (subst (IsListed N f) put_is isList')

    -- each other list holds what it held but the slot
    pub end-other : (l : ℕ) → l < length heads → (l ≡ to → ⊥) → IsListed N (head_at end l) (without slot (list_of L (head_at heads l)))
    end-other l lt ne =
        let away : (x : ℕ) → IsIn x (without slot (list_of L (head_at heads l))) → ¬ (Contains (list_of N f) x)
        = λ x i m. let r = IsIn-without slot x (list_of L (head_at heads l)) i in
        elim (IsIn-append_cases x (without slot (list_of L (head_at heads to))) (slot ∷ []) (subst (IsIn x) put_is (IsIn-from_Contains x (list_of N f) m))) [
          | inl a ↦ ne (sym (only_on l x lt r.0) ∙ only_on to x to_within (IsIn-without slot x (list_of L (head_at heads to)) a).0)
          | inr b ↦ elim b [ inl e ↦ r.1 (sym e) | inr z ↦ z ]
        ] in
        subst (λ (z : ListHead). IsListed N z (without slot (list_of L (head_at heads l)))) (sym (set_head_other out to l f ne))
        (listed-same M N (head_at out l) (without slot (list_of L (head_at heads l))) same' (λ x i. outside' x (away x i)) (taken-listed l lt))

    length_end : length end ≡ length heads
    length_end = length-set out to f ∙ length-set heads (get_or on_list slot 0) d

    slot_on_list : slot < length on_list
    slot_on_list = omega (arith, within, sound.sizes)

    -- where the slot has the number `to`, each slot is on the list whose number it has, and on no other
    pub end-sound : IsLinked N end (set on_list slot to)
    end-sound = record {
      sizes = omega (arith, length-set on_list slot to, sound.sizes, same, same');
      few = omega (arith, sound.few, same, same');
      listed = λ l lt. elim (cases_eq l to) [
        | inl e ↦ subst (λ z. IsList N (head_at end z)) (sym e) (IsList-from N (head_at end to) _ end-to)
        | inr ne ↦ IsList-from N (head_at end l) _ (end-other l (omega (arith, lt, length_end)) ne)
      ];
      on = λ l x lt m. elim (cases_eq l to) [
        | inl e ↦
            let i : IsIn x (without slot (list_of L (head_at heads to)) ++ slot ∷ []) = subst (IsIn x) (listed N (head_at end to) _ end-to) (subst (λ z. IsIn x (list_of N (head_at end z))) e (IsIn-from_Contains x _ m)) in
            elim (IsIn-append_cases x (without slot (list_of L (head_at heads to))) (slot ∷ []) i) [
              | inl a ↦ let r = IsIn-without slot x (list_of L (head_at heads to)) a in get_or-set_other on_list slot x to 0 r.1 ∙ only_on to x to_within r.0 ∙ sym e
              | inr b ↦ elim b [ inl z ↦ ap (λ q. get_or (set on_list slot to) q 0) (sym z) ∙ get_or-set_same on_list slot to 0 slot_on_list ∙ sym e | inr z ↦ absurd z ]
            ]
        | inr ne ↦
            let lt' : l < length heads = omega (arith, lt, length_end) in
            let i : IsIn x (without slot (list_of L (head_at heads l))) = subst (IsIn x) (listed N (head_at end l) _ (end-other l lt' ne)) (IsIn-from_Contains x _ m) in
            let r = IsIn-without slot x (list_of L (head_at heads l)) i in
            get_or-set_other on_list slot x to 0 r.1 ∙ only_on l x lt' r.0
      ];
      there = λ x lt. elim (cases_eq x slot) [
        | inl e ↦
            let o : get_or (set on_list slot to) x 0 ≡ to = ap (λ q. get_or (set on_list slot to) q 0) e ∙ get_or-set_same on_list slot to 0 slot_on_list in
            (omega (arith, o, to_within, length_end), Contains-from_IsIn x _ (subst (λ z. IsIn x (list_of N (head_at end z))) (sym o) (subst (IsIn x) (sym (listed N (head_at end to) _ end-to)) (IsIn-append_right x (without slot (list_of L (head_at heads to))) (slot ∷ []) (inl (sym e))))))
        | inr ne ↦
            let o : get_or (set on_list slot to) x 0 ≡ get_or on_list x 0 = get_or-set_other on_list slot x to 0 ne in
            let at = sound.there x (omega (arith, lt, same, same')) in
            let kept = IsIn-kept slot x (list_of L (head_at heads (get_or on_list x 0))) ne (IsIn-from_Contains x _ at.1) in
            let placed : IsIn x (list_of N (head_at end (get_or on_list x 0))) = elim (cases_eq (get_or on_list x 0) to) [
              | inl e ↦ subst (λ z. IsIn x (list_of N (head_at end z))) (sym e) (subst (IsIn x) (sym (listed N (head_at end to) _ end-to)) (IsIn-append_left x (without slot (list_of L (head_at heads to))) (slot ∷ []) (subst (λ z. IsIn x (without slot (list_of L (head_at heads z)))) e kept)))
              | inr nt ↦ subst (IsIn x) (sym (listed N (head_at end (get_or on_list x 0)) _ (end-other (get_or on_list x 0) at.0 nt))) kept
            ] in
            (omega (arith, o, at.0, length_end), Contains-from_IsIn x _ (subst (λ z. IsIn x (list_of N (head_at end z))) (sym o) placed))
      ];
    }

    -- all lists are what they were but for the slot, which is put at the end of one
    pub end-view : map (list_of N) end ≡ put_last (slot ∷ []) to (map (without slot) (map (list_of L) heads))
    end-view =
        let before : List (List ℕ) = map (without slot) (map (list_of L) heads) in
        let length_before : length before ≡ length heads = length-map (map (list_of L) heads) (without slot) ∙ length-map heads (list_of L) in
        let at_before : (l : ℕ) (e : List ℕ) → l < length heads → get_or before l e ≡ without slot (list_of L (head_at heads l))
        = λ l e lt. get_or-map (without slot) (map (list_of L) heads) l [] e (omega (arith, lt, length-map heads (list_of L))) ∙ ap (without slot) (get_or-map (list_of L) heads l no_list [] lt) in
        let size : length (map (list_of N) end) ≡ length heads = length-map end (list_of N) ∙ length_end in
        same_lists _ _ (size ∙ sym (length-set before to (get_or before to [] ++ slot ∷ []) ∙ length_before)) (λ l e h.
        let lt : l < length heads = omega (arith, h, size) in
        get_or-map (list_of N) end l no_list e (omega (arith, lt, length_end))
        ∙ elim (cases_eq l to) [
          | inl q ↦ ap (λ z. list_of N (head_at end z)) q ∙ listed N (head_at end to) _ end-to ∙ sym (ap (λ z. get_or (set before to (get_or before to [] ++ slot ∷ [])) z e) q ∙ get_or-set_same before to _ e (omega (arith, to_within, length_before)) ∙ ap (λ (xs : List ℕ). xs ++ slot ∷ []) (at_before to [] to_within))
          | inr ne ↦ listed N (head_at end l) _ (end-other l lt ne) ∙ sym (get_or-set_other before to l _ e ne ∙ at_before l e lt)
        ])
