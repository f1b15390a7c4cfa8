-- The lists of all families, where one of them changes or all do.
use Rattle.std.proofs.Common.{◌≡◌, ◌≢◌, ℕ, ◌<◌, List, [], ◌∷◌, ◌++◌, length, get_or, set, map, min, replicate, sym, ap, ap₂, ◌∙◌, arith, get_or-set_same, get_or-set_other}
use Rattle.std.specs.List.{Contains, range_with_len, zip}
use Rattle.std.proofs.Math.ListN.{get_or-map as get_or-map_default}
use Rattle.std.proofs.lemmas.List.{same_lists, get_or-map, length-map, map-set, set-get_or, get_or-replicate, length-replicate}
use Rattle.std.proofs.lemmas.Slice.Zip.{get_or-zip, length-zip}
use Rattle.bh_index_lists.specs.Lists.{without}
use Rattle.bh_index_lists.proofs.Members.{Contains-from_IsIn, without-out}
use Rattle.bh_slot_arena.specs.Lists.{moved, put_last}
use Rattle.bh_slot_arena.specs.Slots.{ArenaView, lists_in, slots_on, with_lists, with_moved}
use Rattle.bh_slot_arena.specs.Family.{FamilyView, AddsSlots, but_room, family_at, no_lists}

abbrev pub all_lists : List FamilyView → List (List (List ℕ))
all_lists fs = map (λ (v : FamilyView). v.lists) fs

-- ---- one family
pub all_lists-at : (fs : List FamilyView) (f : ℕ) → get_or (all_lists fs) f [] ≡ (family_at fs f).lists
all_lists-at fs f = get_or-map_default (λ (v : FamilyView). v.lists) fs f no_lists

-- the lists at the place of a family are those of the family, by whatever default it is read
pub all_lists-read : (fs : List FamilyView) (f : ℕ) (d : FamilyView) → f < length fs → get_or (all_lists fs) f [] ≡ (get_or fs f d).lists
all_lists-read fs f d lt = get_or-map (λ (v : FamilyView). v.lists) fs f d [] lt

-- what an arena of the families shows
abbrev pub shown : {T : Type 0} → ℕ → ℕ → List T → List FamilyView → ArenaView T
shown limit reserved payloads fs = record { limit = limit; reserved = reserved; payloads = payloads; families = all_lists fs }

-- where one family changes, the arena shows the change of that family's lists and no other
pub shown-set : {T : Type 0} (limit reserved : ℕ) (payloads : List T) (fs : List FamilyView) (f : ℕ) (d v : FamilyView) (change : List (List ℕ) → List (List ℕ)) → f < length fs → v.lists ≡ change (get_or fs f d).lists
    → shown limit reserved payloads (set fs f v) ≡ with_lists f (change (lists_in (shown limit reserved payloads fs) f)) (shown limit reserved payloads fs)
shown-set {T} limit reserved payloads fs f d v change lt e =
    ap (λ (ls : List (List (List ℕ))). let a : ArenaView T = record { limit = limit; reserved = reserved; payloads = payloads; families = ls } in a)
    (map-set (λ (w : FamilyView). w.lists) fs f v ∙ ap (λ (ls : List (List ℕ)). set (all_lists fs) f ls) (e ∙ ap change (sym (all_lists-read fs f d lt))))

-- an arena is as it was where a family gets the lists that it has
pub with_lists-same : {T : Type 0} (a : ArenaView T) (f : ℕ) → with_lists f (lists_in a f) a ≡ a
with_lists-same {T} a f = ap (λ (ls : List (List (List ℕ))). record a { families = ls }) (set-get_or a.families f [])

-- a list that a slot neither leaves nor comes to
pub slots_on-with_moved : {T : Type 0} (a : ArenaView T) (f slot to l : ℕ) → f < length a.families → l ≢ to → ¬ (Contains (slots_on a f l) slot) → slots_on (with_moved f slot to a) f l ≡ slots_on a f l
slots_on-with_moved a f slot to l lt ne out =
    let kept = map (without slot) (lists_in a f) in
    ap (λ (ls : List (List ℕ)). get_or ls l []) (get_or-set_same a.families f (moved slot to (lists_in a f)) [] lt)
    ∙ get_or-set_other kept to l (get_or kept to [] ++ slot ∷ []) [] ne
    ∙ get_or-map_default (without slot) (lists_in a f) l []
    ∙ without-out slot (slots_on a f l) (λ i. out (Contains-from_IsIn slot (slots_on a f l) i))

-- ---- all families
pub all_lists-same : (fs gs : List FamilyView) → length gs ≡ length fs → ((f : ℕ) → (family_at gs f).lists ≡ (family_at fs f).lists) → all_lists gs ≡ all_lists fs
all_lists-same fs gs size same = same_lists (all_lists gs) (all_lists fs) (length-map gs _ ∙ size ∙ sym (length-map fs _)) (λ f d lt.
    let in_gs : f < length gs = omega (arith, lt, length-map gs (λ (v : FamilyView). v.lists)) in
    get_or-map (λ (v : FamilyView). v.lists) gs f no_lists d in_gs ∙ same f ∙ sym (get_or-map (λ (v : FamilyView). v.lists) fs f no_lists d (omega (arith, in_gs, size))))

-- n families that have neither a list nor a slot show no lists, each of them
pub all_lists-empty : (n : ℕ) (fs : List FamilyView) → length fs ≡ n → ((f : ℕ) → f < n → but_room (family_at fs f) ≡ no_lists) → all_lists fs ≡ replicate n []
all_lists-empty n fs size empty = same_lists (all_lists fs) (replicate n []) (length-map fs _ ∙ size ∙ sym (length-replicate n [])) (λ f d lt.
    let within : f < length fs = omega (arith, lt, length-map fs (λ (v : FamilyView). v.lists)) in
    get_or-map (λ (v : FamilyView). v.lists) fs f no_lists d within ∙ ap (λ (v : FamilyView). v.lists) (empty f (omega (arith, within, size))) ∙ sym (get_or-replicate n f [] d (omega (arith, within, size))))

-- where each family puts the slots last on its list, all lists are the old ones with the slots so put
pub all_lists-added : (first count : ℕ) (lists : List ℕ) (fs gs : List FamilyView) → length gs ≡ length fs → length lists ≡ length fs
    → ((f : ℕ) → f < length fs → AddsSlots first count (get_or lists f 0) (family_at fs f) (family_at gs f))
    → all_lists gs ≡ map (λ (p : ℕ × List (List ℕ)). put_last (range_with_len first count) p.0 p.1) (zip lists (all_lists fs))
all_lists-added first count lists fs gs size wide adds =
    let added : ℕ × List (List ℕ) → List (List ℕ) = λ p. put_last (range_with_len first count) p.0 p.1 in
    let pairs = zip lists (all_lists fs) in
    let fs_size = length-map fs (λ (v : FamilyView). v.lists) in
    let gs_size = length-map gs (λ (v : FamilyView). v.lists) in
    let pairs_size : length pairs ≡ length fs = length-zip lists (all_lists fs) ∙ ap₂ min wide fs_size ∙ min_same (length fs) in
    same_lists (all_lists gs) (map added pairs) (gs_size ∙ size ∙ sym pairs_size ∙ sym (length-map pairs added)) (λ f d lt.
    let within : f < length fs = omega (arith, lt, gs_size, size) in
    get_or-map (λ (v : FamilyView). v.lists) gs f no_lists d (omega (arith, within, size))
    ∙ (adds f within).lists
    ∙ sym (get_or-map added pairs f (0, []) d (omega (arith, within, pairs_size)) ∙ ap added (get_or-zip lists (all_lists fs) f (0, []) (omega (arith, within, wide)) (omega (arith, within, fs_size))) ∙ ap (λ (ls : List (List ℕ)). put_last (range_with_len first count) (get_or lists f 0) ls) (all_lists-at fs f)))
  where
    min_same : (n : ℕ) → min n n ≡ n
    min_same n = omega arith
