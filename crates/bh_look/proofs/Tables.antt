-- Lists that grow by an element of two others, and texts by what they tell.
use Rattle.std.proofs.Common.{◌≡◌, ℕ, ◌+◌, ◌<◌, ◌≤◌, List, [], ◌∷◌, ◌++◌, length, map, take, get_or, set, sym, ◌∙◌, ap, arith}
use Rattle.std.specs.List.{flat_map, zip}
use Rattle.std.proofs.lemmas.List.{flat_map_more, length-take-le, map-append, take_all, take_more, take_more_set}
use Rattle.std.proofs.lemmas.Slice.Zip.{length-zip, get_or-zip}
use Rattle.bh_look.proofs.Objects.{zip-more}

-- a list that is written up to one more place of another
pub written-more : {X : Type 0} (xs ys : List X) (i : ℕ) (y d : X) → i < length xs → i < length ys → take i xs ≡ take i ys → y ≡ get_or ys i d → take (i + 1) (set xs i y) ≡ take (i + 1) ys
written-more xs ys i y d fits below done is =
    take_more_set xs i y fits ∙ ap (λ t. t ++ y ∷ []) done ∙ ap (λ z. take i ys ++ z ∷ []) is ∙ sym (take_more ys i d below)

-- one that is written whole
pub written-all : {X : Type 0} (xs ys : List X) (i : ℕ) → length xs ≤ i → length ys ≤ i → take i xs ≡ take i ys → xs ≡ ys
written-all xs ys i whole all done = sym (take_all i xs whole) ∙ done ∙ take_all i ys all

-- the text of one more pair
pub zip-step : {X Y : Type 0} (f : X × Y → List ℕ) (xs : List X) (ys : List Y) (i : ℕ) (x d : X) (y e : Y) (front before after : List ℕ) → i < length xs → i < length ys → x ≡ get_or xs i d → y ≡ get_or ys i e → before ≡ front ++ flat_map f (take i (zip xs ys)) → after ≡ before ++ f (x, y) → after ≡ front ++ flat_map f (take (i + 1) (zip xs ys))
zip-step {X} {Y} f xs ys i x d y e front before after first second here there text put =
    let below : i < length (zip xs ys) = omega (arith, length-zip xs ys) in
    let found = get_or-zip xs ys i (d, e) first second in
    let pair : X × Y = (x, y) in
    let is : get_or (zip xs ys) i (d, e) ≡ pair = cc (found, here, there) in
    put ∙ ap (λ bs. bs ++ f pair) text ∙ flat_map_more f front (take i (zip xs ys)) pair
    ∙ ap (λ ps. front ++ flat_map f ps) (ap (λ p. take i (zip xs ys) ++ p ∷ []) (sym is) ∙ sym (take_more (zip xs ys) i (d, e) below))

-- the text of all pairs
pub zip-all : {X Y : Type 0} (f : X × Y → List ℕ) (xs : List X) (ys : List Y) (i : ℕ) (front text : List ℕ) → length xs ≤ i → text ≡ front ++ flat_map f (take i (zip xs ys)) → text ≡ front ++ flat_map f (zip xs ys)
zip-all f xs ys i front text all is =
    is ∙ ap (λ ps. front ++ flat_map f ps) (take_all i (zip xs ys) (omega (arith, length-zip xs ys)))

-- what one more pair makes, behind what those before do
pub pairs-step : {X Y Z : Type 0} (f : X × Y → Z) (xs : List X) (i : ℕ) (ys : List Y) (x : X) (y : Y) (before after : List Z) → i < length xs → x ≡ get_or xs i x → length ys ≡ i → before ≡ map f (zip (take i xs) ys) → after ≡ before ++ f (x, y) ∷ [] → after ≡ map f (zip (take (i + 1) xs) (ys ++ y ∷ []))
pairs-step {X} {Y} f xs i ys x y before after below is count text put =
    let e : take (i + 1) xs ≡ take i xs ++ x ∷ [] = take_more xs i x below ∙ ap (λ r. take i xs ++ r ∷ []) (sym is) in
    let same : length ys ≡ length (take i xs) = count ∙ sym (length-take-le i xs (omega arith)) in
    let pair : X × Y = (x, y) in
    put ∙ ap (λ zs. zs ++ f pair ∷ []) text
    ∙ sym (map-append f (zip (take i xs) ys) (pair ∷ []))
    ∙ ap (map f) (sym (zip-more (take i xs) ys x y same))
    ∙ ap (λ l. map f (zip l (ys ++ y ∷ []))) (sym e)
