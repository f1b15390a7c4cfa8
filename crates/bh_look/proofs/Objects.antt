-- The texts of rows, with one row more.
use Rattle.std.proofs.Common.{◌≡◌, ℕ, ◌+◌, ◌<◌, List, [], ◌∷◌, ◌++◌, length, map, take, get_or, refl, sym, ◌∙◌, ap, arith, append_assoc, append-nil}
use Rattle.std.proofs.lemmas.List.{length-map, length-take-le, map-append, take_more}
use Rattle.std.specs.List.{flat_map, zip}
use Rattle.std.proofs.lemmas.Grind.{flat_map-append}
use Rattle.bh_look.specs.declared.rows.Row.{Row}
use Rattle.bh_look.specs.declared.table.TimesTold.{TimesTold}
use Rattle.bh_look.specs.Objects.{object_of, objects_of}
use Rattle.bh_look.specs.Rows.{RowSaid, row_said}

-- lists of one length, with an element more each
pub zip-more : {X Y : Type 0} (xs : List X) (ys : List Y) (x : X) (y : Y) → length ys ≡ length xs → zip (xs ++ x ∷ []) (ys ++ y ∷ []) ≡ zip xs ys ++ (x, y) ∷ []
zip-more [] [] x y e = refl
zip-more [] (b ∷ ys) x y e = absurd (omega arith)
zip-more (a ∷ xs) [] x y e = absurd (omega arith)
zip-more (a ∷ xs) (b ∷ ys) x y e = ap (λ ps. (a, b) ∷ ps) (zip-more xs ys x y (omega arith))

-- a row more is an object more
pub objects-more : (rows : List RowSaid) (times : List TimesTold) (row : RowSaid) (t : TimesTold) → length times ≡ length rows → objects_of (rows ++ row ∷ []) (times ++ t ∷ []) ≡ objects_of rows times ++ object_of row t
objects-more rows times row t e =
    ap (λ ps. flat_map (λ (r : RowSaid × TimesTold). object_of r.0 r.1) ps) (zip-more rows times row t e)
    ∙ flat_map-append (λ (r : RowSaid × TimesTold). object_of r.0 r.1) (zip rows times) ((row, t) ∷ [])
    ∙ ap (λ text. objects_of rows times ++ text) (append-nil (object_of row t))

-- the same of the rows up to one, behind what was there
pub objects-step : (rows : List Row) (i : ℕ) (times : List TimesTold) (row : Row) (t : TimesTold) (front before after : List ℕ) → i < length rows → row ≡ get_or rows i row → length times ≡ i
    → before ≡ front ++ objects_of (map row_said (take i rows)) times → after ≡ before ++ object_of (row_said row) t → after ≡ front ++ objects_of (map row_said (take (i + 1) rows)) (times ++ t ∷ [])
objects-step rows i times row t front before after below is count text put =
    let said = map row_said (take i rows) in
    let e : map row_said (take (i + 1) rows) ≡ said ++ row_said row ∷ [] =
    ap (map row_said) (take_more rows i row below ∙ ap (λ r. take i rows ++ r ∷ []) (sym is)) ∙ map-append row_said (take i rows) (row ∷ []) in
    let same : length times ≡ length said = count ∙ sym (length-map (take i rows) row_said ∙ length-take-le i rows (omega arith)) in
    put ∙ ap (λ bs. bs ++ object_of (row_said row) t) text
    ∙ append_assoc front (objects_of said times) (object_of (row_said row) t)
    ∙ ap (λ bs. front ++ bs) (sym (objects-more said times (row_said row) t same))
    ∙ ap (λ rs. front ++ objects_of rs (times ++ t ∷ [])) (sym e)
