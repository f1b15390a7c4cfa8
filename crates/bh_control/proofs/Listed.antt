-- The tokens of the names of the groups, and the line that is printed of them.
use Rattle.std.proofs.Common.{◌≡◌, ℕ, List, [], ◌∷◌, ◌++◌, codes, map, refl, ap, append_assoc, Result, Ok, Err, OnOk}
use Rattle.std.specs.declared.alloc.AllocError.{AllocError}
use Rattle.json.specs.Token.{Token, begin_object, end_object, begin_array, end_array, key, string}
use Rattle.json.specs.Print.{print}
use Rattle.json.specs.Tree.{json_tokens, items_tokens}
use Rattle.serde_json.specs.Written.{outline, items_outline, compact_text}
use Rattle.serde_json.proofs.Texts.{print-outline}
use Rattle.bh_control.specs.AnswerLine.{texts_data, groups_data, groups_line}

-- each text is one token, and the end of the array stands behind them
texts-tokens : (texts : List (List ℕ)) (rest : List Token) → items_tokens (items_outline (texts_data texts)) ++ rest ≡ map (λ text. string text) texts ++ end_array ∷ rest
texts-tokens [] rest = refl
texts-tokens (text ∷ texts) rest = ap (λ ts. string text ∷ ts) (texts-tokens texts rest)

-- the tokens in front of the names, and those behind them but for the last
abbrev head : List Token
head = begin_object ∷ key (codes "groups") ∷ begin_array ∷ []

abbrev tail : List Token
tail = end_array ∷ key (codes "reply") ∷ string (codes "groups") ∷ []

-- with the last bracket the object was sent
pub groups-sent : (r : Result (Unit {0}) AllocError) (start said end : List Token) (names : List (List ℕ))
    → said ≡ start ++ (head ++ (map (λ name. string name) names ++ tail)) → OnOk r (end ≡ said ++ end_object ∷ []) → OnOk r (end ≡ start ++ json_tokens (outline (groups_data names)))
groups-sent (Ok x) start said end names before last = rw (last, before, texts-tokens names (key (codes "reply") ∷ string (codes "groups") ∷ end_object ∷ [])) (simp append_assoc)
groups-sent (Err e) start said end names before last = tt

-- what is printed of the tokens, and a line feed, is the line
pub groups-put : (old before : List ℕ) (made tokens : List Token) (names : List (List ℕ)) → before ≡ old → made ≡ [] → tokens ≡ made ++ json_tokens (outline (groups_data names))
    → (before ++ print tokens) ++ 10 ∷ [] ≡ old ++ groups_line names
unfolding groups_line
groups-put old before made tokens names front none sent = rw (front, sent, none, print-outline (groups_data names)) (append_assoc old (compact_text (groups_data names)) (10 ∷ []))
