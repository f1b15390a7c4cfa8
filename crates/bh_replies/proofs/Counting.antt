-- The counts of events, as they are put and as JSON has them.
use Rattle.std.proofs.Common.{◌≡◌, ◌+◌, ◌⊎◌, ℕ, ◌==◌, ◌||◌, not, Bool, true, false, List, [], ◌∷◌, ◌++◌, length, map, refl, ap, ap₂, ◌∙◌, arith, inl, inr, append_assoc, if◌then◌else◌, decimal, Bor}
use Rattle.json.specs.Print.{quoted}
use Rattle.serde_json.specs.Written.{comma_if, compact_text, members_text}
use Rattle.bh_base.specs.declared.event.Counts.{Counts}
use Rattle.bh_replies.specs.ReplyLine.{counts_members, kind_names, counts_listed, events_data, number_member}
use Rattle.bh_replies.specs.Puts.{count_text, counts_text, counts_most}

counts-more : (later : Bool) (front : List ℕ) (n : ℕ) (fronts : List (List ℕ)) (counts : List ℕ)
    → counts_text later (front ∷ fronts) (n ∷ counts) ≡ count_text later front n ++ counts_text (later || not (n == 0)) fronts counts
counts-more true front n fronts counts =
    let text = comma_if true ++ (front ++ decimal n) in
    elim (n == 0) as (λ b. (if b then counts_text true fronts counts else text ++ counts_text true fronts counts) ≡ (if b then [] else text) ++ counts_text true fronts counts) [ true ↦ refl | false ↦ refl ]
counts-more false front n fronts counts =
    let text = comma_if false ++ (front ++ decimal n) in
    elim (n == 0) as (λ b. (if b then counts_text false fronts counts else text ++ counts_text true fronts counts) ≡ (if b then [] else text) ++ counts_text (not b) fronts counts) [ true ↦ refl | false ↦ refl ]

-- a count is put before those behind it
pub counts-left : (later : Bool) (left : List (Bor (List ℕ))) (counts : List ℕ) (front : Bor (List ℕ)) (n : ℕ) (fronts : List (Bor (List ℕ))) (rest : List ℕ) → left ≡ front ∷ fronts → counts ≡ n ∷ rest
    → counts_text later (map (λ of. of.now) left) counts ≡ count_text later front.now n ++ counts_text (later || not (n == 0)) (map (λ of. of.now) fronts) rest
counts-left later left counts front n fronts rest here there =
    ap₂ (λ of numbers. counts_text later (map (λ of. of.now) of) numbers) here there ∙ counts-more later front.now n (map (λ of. of.now) fronts) rest

-- it takes what the others leave
pub most-left : (left : List (Bor (List ℕ))) (front : Bor (List ℕ)) (fronts : List (Bor (List ℕ))) → left ≡ front ∷ fronts
    → counts_most (map (λ of. of.now) left) ≡ (1 + (length front.now + 20)) + counts_most (map (λ of. of.now) fronts)
most-left left front fronts here = ap (λ of. counts_most (map (λ of. of.now) of)) here

-- where the fronts or the counts are over, nothing is left
pub no_counts-left : (later : Bool) (fronts : List (Bor (List ℕ))) (counts : List ℕ) → (length fronts ≡ 0) ⊎ (length counts ≡ 0) → counts_text later (map (λ front. front.now) fronts) counts ≡ []
no_counts-left later [] counts over = refl
no_counts-left later (front ∷ fronts) [] over = refl
no_counts-left later (front ∷ fronts) (n ∷ counts) (inl none) = absurd (omega (arith, none))
no_counts-left later (front ∷ fronts) (n ∷ counts) (inr none) = absurd (omega (arith, none))

-- a name as it stands before its count
abbrev front_of : List ℕ → List ℕ
front_of name = quoted name ++ 58 ∷ []

regroup : (comma name digits rest : List ℕ) → (comma ++ ((name ++ 58 ∷ []) ++ digits)) ++ rest ≡ comma ++ (name ++ 58 ∷ (digits ++ rest))
regroup comma name digits rest = simp append_assoc

counts-members : (later : Bool) (names : List (List ℕ)) (counts : List ℕ) → counts_text later (map front_of names) counts ++ 125 ∷ [] ≡ members_text later (counts_members names counts)
counts-members later [] counts = refl
counts-members later (name ∷ names) [] = refl
counts-members later (name ∷ names) (n ∷ counts) =
    let fronts = map front_of names in
    let text = comma_if later ++ (front_of name ++ decimal n) in
    elim (n == 0) as (λ b. (if b then counts_text later fronts counts else text ++ counts_text true fronts counts) ++ 125 ∷ []
    ≡ members_text later (if b then counts_members names counts else number_member name n (counts_members names counts))) [
      | true ↦ counts-members later names counts
      | false ↦ append_assoc text (counts_text true fronts counts) (125 ∷ []) ∙ ap (λ bs. text ++ bs) (counts-members true names counts)
          ∙ regroup (comma_if later) (quoted name) (decimal n) (members_text true (counts_members names counts))
    ]

-- the counts between the brackets are the object of the events
pub events-text : (counts : Counts) → 123 ∷ (counts_text false (map front_of kind_names) (counts_listed counts) ++ 125 ∷ []) ≡ compact_text (events_data counts)
unfolding events_data
events-text counts = ap (λ bs. 123 ∷ bs) (counts-members false kind_names (counts_listed counts))
