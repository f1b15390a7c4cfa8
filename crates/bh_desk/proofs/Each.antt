-- Answers to lines, one after the other.
use Rattle.std.proofs.Common.{◌≡◌, ℕ, List, [], ◌∷◌, ◌++◌, Option, Some, None, Result, Ok, refl, sym, ◌∙◌, subst, ap, append-nil, append_assoc, inl, inr}
use Rattle.bh_faults.specs.declared.fault.Fault.{Fault}
use Rattle.bh_share.specs.declared.share_line.ShareLine.{ShareLine}
use Rattle.bh_share.specs.ShareLine.{share_line}
use Rattle.bh_desk.specs.Turns.{IsLost}
use Rattle.bh_desk.specs.Answers.{Responder, Answers, AnswersEach, IsAnswer, LosesOne}
use Rattle.bh_desk.specs.Session.{AnsweredLast}
use Rattle.bh_desk.specs.Taken.{IsLastAsked}

-- what a line is answered is what its question is answered
pub answers-asked : {S : Type 0} (who : Responder S) (old new : S) (bytes : List ℕ) (asked : Result ShareLine Fault) (one : List ℕ)
    → asked ≡ share_line who.names bytes → IsAnswer who.may old asked one new → Answers who old bytes one new
unfolding Answers
answers-asked who old new bytes asked one is h = subst (λ (a : Result ShareLine Fault). IsAnswer who.may old a one new) is h

-- one line more, and its answer
pub answers-more : {S : Type 0} (who : Responder S) (a b c : S) (ls : List (List ℕ)) (l out one : List ℕ)
    → AnswersEach who a ls out b → Answers who b l one c → AnswersEach who a (ls ++ l ∷ []) (out ++ one) c
answers-more {S} who a b c [] l out one h m =
    (one, [], c, subst (λ (s : S). Answers who s l one c) h.1 m, (refl, refl), ap (λ ys. ys ++ one) h.0 ∙ sym (append-nil one))
answers-more who a b c (k ∷ ls) l out one h m =
    (h.0, h.1 ++ one, h.2, h.3, answers-more who h.2 b c ls l h.1 one h.4 m, ap (λ ys. ys ++ one) h.5 ∙ append_assoc h.0 h.1 one)

-- answers to some lines, and to those behind them
pub each-append : {S : Type 0} (who : Responder S) (a b c : S) (ks ls : List (List ℕ)) (o p : List ℕ)
    → AnswersEach who a ks o b → AnswersEach who b ls p c → AnswersEach who a (ks ++ ls) (o ++ p) c
each-append {S} who a b c [] ls o p h k =
    subst (λ (ys : List ℕ). AnswersEach who a ls ys c) (ap (λ ys. ys ++ p) (sym h.0)) (subst (λ (s : S). AnswersEach who s ls p c) h.1 k)
each-append who a b c (l ∷ ks) ls o p h k =
    (h.0, h.1 ++ p, h.2, h.3, each-append who h.2 b c ks ls h.1 p h.4 k, ap (λ ys. ys ++ p) h.5 ∙ append_assoc h.0 h.1 p)

-- where nothing was done, the same lines were answered
pub each-same : {S : Type 0} (who : Responder S) (a b c : S) (ls : List (List ℕ)) (o : List ℕ) → AnswersEach who a ls o b → c ≡ b → AnswersEach who a ls o c
each-same {S} who a b c ls o h is = subst (λ (s : S). AnswersEach who a ls o s) (sym is) h

-- a line whose answer is lost
pub line-lost : {S : Type 0} (may : S → ShareLine → List ℕ → S → Type 0) (old new : S) (line : ShareLine) → IsLost may old line new → LosesOne may old new
line-lost may old new line (inl same) = inl same
line-lost may old new line (inr one) = inr (line, one.0, one.1)

-- the last line was taken and answered
pub last-found : {S : Type 0} (who : Responder S) (old new : S) (rest one : List ℕ) (found : Option (Result ShareLine Fault)) (asked : Result ShareLine Fault)
    → found ≡ Some asked → IsLastAsked who.names rest (Ok found) → IsAnswer who.may old asked one new → AnsweredLast who old new rest one
last-found who old new rest one found asked is last answered =
    let ends : IsLastAsked who.names rest (Ok (Some asked)) = subst (λ (o : Option (Result ShareLine Fault)). IsLastAsked who.names rest (Ok o)) is last in
    let a : Answers who old ends.0 one new = answers-asked who old new ends.0 asked one ends.1 answered in
    record { lines = ends.0 ∷ []; each = (one, [], new, a, (refl, refl), sym (append-nil one)); cut_is = ends.2 }

-- there is no last line
pub last-none : {S : Type 0} (who : Responder S) (old : S) (rest : List ℕ) (found : Option (Result ShareLine Fault))
    → found ≡ None → IsLastAsked who.names rest (Ok found) → AnsweredLast who old old rest []
last-none who old rest found is last =
    let ends : IsLastAsked who.names rest (Ok None) = subst (λ (o : Option (Result ShareLine Fault)). IsLastAsked who.names rest (Ok o)) is last in
    record { lines = []; each = (refl, refl); cut_is = ends }
