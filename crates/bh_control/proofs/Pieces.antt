-- Answers to the lines of a piece, one after the other.
use Rattle.std.proofs.Common.{◌≡◌, ℕ, false, List, [], ◌∷◌, ◌++◌, codes, Option, Some, None, Result, Ok, Err, Vec, refl, sym, ◌∙◌, subst, ap, append-nil, append_assoc, inl}
use Rattle.std.specs.declared.alloc.Global.{Global}
use Rattle.bh_lines.specs.declared.port_error.PortError.{PortError}
use Rattle.bh_lines.specs.declared.port_error.PortError.TheVariants.{Read, Write, Line, Memory}
use Rattle.bh_lines.specs.Lines.{stopped, cut, has_line, lines_then}
use Rattle.bh_lines.proofs.LinesThen.{lines_then-append, IsBehind-more}
use Rattle.bh_faults.specs.declared.fault.Fault.{Fault}
use Rattle.bh_in_force.specs.declared.properties.InForce.{InForce}
use Rattle.bh_in_force.specs.PropertiesLine.{properties_data, properties_line}
use Rattle.bh_replies.specs.FaultLine.{fault_line, fault_word, error_data}
use Rattle.bh_replies.specs.ReplyLine.{reply_line, reply_data}
use Rattle.serde_json.specs.Written.{compact_text}
use Rattle.bh_base.specs.declared.reply.Answer.{Answer}
use Rattle.bh_base.specs.declared.reply.CallError.{CallError}
use Rattle.bh_base.specs.declared.reply.CallError.TheVariants as call_errors
use Rattle.bh_base.specs.declared.reply.Reply.{Reply}
use Rattle.bh_base.specs.declared.reply.Reply.TheVariants as reply
use Rattle.bh_control.specs.declared.control_line.ControlLine.{ControlLine}
use Rattle.bh_control.specs.declared.control_line.ControlLine.TheVariants as lines
use Rattle.bh_control.specs.ControlLine.{control_line}
use Rattle.bh_control.specs.AnswerLine.{Responder, Answers, IsAnswer, IsPut, groups_data, groups_line, answer_line, in_force_line}
use Rattle.bh_control.specs.Taken.{TakesAsked, IsLastAsked}
use Rattle.bh_control.specs.Pieces.{AnswersEach, AnsweredUpTo, AnsweredLast, Refused, Each, UnlessEmpty, Fed}

-- the lines in front of `all` were answered behind `before`, up to `rest`
abbrev pub SoFar : Responder → List ℕ → List ℕ → List ℕ → List ℕ → Type 0
SoFar who all before rest after = (out : List ℕ) × (after ≡ before ++ out) × AnsweredUpTo who all rest out

-- what a line is answered is what its question is answered
pub answers-asked : (who : Responder) (bytes : List ℕ) (asked : Result ControlLine Fault) (one : List ℕ) → asked ≡ control_line who.names bytes → IsAnswer who asked one → Answers who bytes one
unfolding Answers
answers-asked who bytes asked one is h = subst (λ (a : Result ControlLine Fault). IsAnswer who a one) is h

-- one line more, and its answer
pub answers-more : (who : Responder) (ls : List (List ℕ)) (l out one : List ℕ) → AnswersEach who ls out → Answers who l one → AnswersEach who (ls ++ l ∷ []) (out ++ one)
answers-more who [] l out one h m = (one, [], m, refl, ap (λ ys. ys ++ one) h ∙ sym (append-nil one))
answers-more who (k ∷ ls) l out one h m =
    (h.0, h.1 ++ one, h.2, answers-more who ls l h.1 one h.3 m, ap (λ ys. ys ++ one) h.4 ∙ append_assoc h.0 h.1 one)

-- no line was answered yet
pub so_far-none : (who : Responder) (all before : List ℕ) → SoFar who all before all before
so_far-none who all before = ([], sym (append-nil before), record { lines = []; each = refl; cut_is = λ more. refl; behind = inl refl })

-- one line more was taken and answered
pub so_far-one : (who : Responder) (all before mid after new later one : List ℕ) (found : Option (Result ControlLine Fault)) (asked : Result ControlLine Fault)
    → SoFar who all before mid after → found ≡ Some asked → TakesAsked who.names mid (Ok found) new → IsAnswer who asked one → later ≡ after ++ one
    → SoFar who all before new later
so_far-one who all before mid after new later one found asked so is taken answered e =
    let took : TakesAsked who.names mid (Ok (Some asked)) new = subst (λ (o : Option (Result ControlLine Fault)). TakesAsked who.names mid (Ok o) new) is taken in
    let ls : List (List ℕ) = so.2.lines in
    let bytes : List ℕ = took.0 in (
      so.0 ++ one,
      e ∙ ap (λ ys. ys ++ one) so.1 ∙ append_assoc before so.0 one,
      record {
        lines = ls ++ bytes ∷ [];
        each = answers-more who ls bytes so.0 one so.2.each (answers-asked who bytes asked one took.1 answered);
        cut_is = λ more. so.2.cut_is more ∙ ap (λ c. lines_then ls c) (took.3 more) ∙ sym (lines_then-append ls (bytes ∷ []) (cut (new ++ more)));
        behind = IsBehind-more all mid new so.2.behind took.4;
      },
    )

-- the same where the answer was put into a buffer by itself
pub so_far-put : (who : Responder) (all before mid after new later none put : List ℕ) (found : Option (Result ControlLine Fault)) (asked : Result ControlLine Fault)
    → SoFar who all before mid after → found ≡ Some asked → TakesAsked who.names mid (Ok found) new → none ≡ [] → IsPut (IsAnswer who asked) none put → later ≡ after ++ put
    → SoFar who all before new later
so_far-put who all before mid after new later none put found asked so is taken empty answered e =
    let alone : put ≡ answered.0 = answered.2 ∙ ap (λ ys. ys ++ answered.0) empty in
    so_far-one who all before mid after new later answered.0 found asked so is taken answered.1 (e ∙ ap (λ ys. after ++ ys) alone)

-- the next line is refused
pub so_far-refused : (who : Responder) (all before mid after new : List ℕ) (e : PortError)
    → SoFar who all before mid after → TakesAsked who.names mid (Err e) new → Each who all before (Err e) new after
so_far-refused who all before mid after new Line so taken =
    (so.0, so.1, record { lines = so.2.lines; each = so.2.each; cut_is = λ more. so.2.cut_is more ∙ ap (λ c. lines_then so.2.lines c) (taken more) })
so_far-refused who all before mid after new Memory so taken = tt
so_far-refused who all before mid after new Read so taken = taken
so_far-refused who all before mid after new Write so taken = taken

-- no further line has ended
pub so_far-waits : (who : Responder) (all before mid after new : List ℕ) (found : Option (Result ControlLine Fault))
    → SoFar who all before mid after → found ≡ None → TakesAsked who.names mid (Ok found) new → Each who all before (Ok tt) new after
so_far-waits who all before mid after new found so is taken =
    let waits : TakesAsked who.names mid (Ok None) new = subst (λ (o : Option (Result ControlLine Fault)). TakesAsked who.names mid (Ok o) new) is taken in
    let same : SoFar who all before new after = subst (λ (ys : List ℕ). SoFar who all before ys after) (sym waits.1) so in
    (same.0, same.1, same.2, subst (λ (ys : List ℕ). has_line ys ≡ false) (sym waits.1) waits.0)

append-some : (xs : List ℕ) (x : ℕ) → [] ≡ xs ++ x ∷ [] → ⊥
append-some [] x e = cc
append-some (y ∷ ys) x e = cc

fault_line-some : (fault : Fault) → [] ≡ fault_line fault → ⊥
unfolding fault_line
fault_line-some fault e = append-some (compact_text (error_data (fault_word fault))) 10 e

reply_line-some : (r : Reply) → [] ≡ reply_line None r → ⊥
unfolding reply_line
reply_line-some r e = append-some (compact_text (reply_data None r)) 10 e

in_force_line-some : (found : Option InForce) → [] ≡ in_force_line found → ⊥
unfolding properties_line
in_force_line-some (Some properties) e = append-some (compact_text (properties_data properties)) 10 e
in_force_line-some None e = reply_line-some reply.NoGroup e

groups_line-some : (names : List (List ℕ)) → [] ≡ groups_line names → ⊥
unfolding groups_line
groups_line-some names e = append-some (compact_text (groups_data names)) 10 e

answer_line-some : (answer : Result Answer CallError) → [] ≡ answer_line answer → ⊥
unfolding answer_line
answer_line-some (Ok answer) e = reply_line-some (reply.Answered answer) e
answer_line-some (Err call_errors.GroupFull) e = reply_line-some reply.GroupFull e
answer_line-some (Err call_errors.Worn) e = reply_line-some reply.Worn e
answer_line-some (Err call_errors.PassFull) e = append-some (compact_text (error_data (codes "full"))) 10 e
answer_line-some (Err call_errors.Stopped) e = append-some (compact_text (error_data (codes "stopped"))) 10 e
answer_line-some (Err call_errors.Taken) e = append-some (compact_text (error_data (codes "taken"))) 10 e
answer_line-some (Err call_errors.NoGroup) e = append-some (compact_text (error_data (codes "group"))) 10 e
answer_line-some (Err call_errors.NoCommand) e = append-some (compact_text (error_data (codes "command"))) 10 e

is_answer-some : (who : Responder) (said : Result ControlLine Fault) → IsAnswer who said [] → ⊥
is_answer-some who (Err fault) h = fault_line-some fault h
is_answer-some who (Ok lines.Groups) h = groups_line-some who.names.groups h
is_answer-some who (Ok (lines.Metrics group command)) h = reply_line-some h.0 h.2
is_answer-some who (Ok (lines.Call group request)) h = answer_line-some h.0 h.2
is_answer-some who (Ok (lines.Close group context)) h = reply_line-some h.0 h.2
is_answer-some who (Ok (lines.Totals group command)) h = reply_line-some h.0 h.2
is_answer-some who (Ok (lines.Tune group command t)) h = reply_line-some h.0 h.2
is_answer-some who (Ok (lines.Properties group command)) h = in_force_line-some h.0 h.2

-- no line is answered by nothing
answers-some : (who : Responder) (bytes : List ℕ) → Answers who bytes [] → ⊥
unfolding Answers
answers-some who bytes h = is_answer-some who (control_line who.names bytes) h

append-none : (xs ys : List ℕ) → xs ++ ys ≡ [] → xs ≡ []
append-none [] ys e = refl
append-none (x ∷ xs) ys e = cc

-- so lines that are answered by nothing are none
each-none : (who : Responder) (ls : List (List ℕ)) (out : List ℕ) → AnswersEach who ls out → out ≡ [] → ls ≡ []
each-none who [] out h is = refl
each-none who (bytes ∷ ls) out h is =
    let none : h.0 ≡ [] = append-none h.0 h.1 (sym h.4 ∙ is) in
    absurd (answers-some who bytes (subst (λ (ys : List ℕ). Answers who bytes ys) none h.2))

none-each : (who : Responder) (ls : List (List ℕ)) (out : List ℕ) → AnswersEach who ls out → ls ≡ [] → out ≡ []
none-each who [] out h is = h
none-each who (bytes ∷ ls) out h is = cc

from-refused : (who : Responder) (all rest : List ℕ) (answers : Vec ℕ Global) (result : Result (Vec ℕ Global) PortError)
    → Refused who all answers.items → UnlessEmpty answers result → Fed who all result rest (Some Line)
from-refused who all rest answers (Ok out) refused h =
    let is : answers.items ≡ out.items = ap (λ (v : Vec ℕ Global). v.items) (sym h.0) in
    record {
      lines = refused.lines;
      some = λ none. h.1 (none-each who refused.lines answers.items refused.each none);
      each = subst (λ (ys : List ℕ). AnswersEach who refused.lines ys) is refused.each;
      cut_is = refused.cut_is;
    }
from-refused who all rest answers (Err Line) refused h =
    let none : refused.lines ≡ [] = each-none who refused.lines answers.items refused.each h in
    λ more. refused.cut_is more ∙ ap (λ ls. lines_then ls stopped) none
from-refused who all rest answers (Err Memory) refused h = absurd h
from-refused who all rest answers (Err Read) refused h = absurd h
from-refused who all rest answers (Err Write) refused h = absurd h

-- what was answered before a line that is refused, and its fault
pub fed-refused : (who : Responder) (all whole before rest after : List ℕ) (fault : PortError) (answers : Vec ℕ Global) (result : Result (Vec ℕ Global) PortError)
    → Each who whole before (Err fault) rest answers.items → fault ≡ Line → before ≡ [] → whole ≡ all → UnlessEmpty answers result → Fed who all result after (Some Line)
fed-refused who all whole before rest after fault answers result was is-line none is h =
    let each : Each who whole before (Err Line) rest answers.items = subst (λ (e : PortError). Each who whole before (Err e) rest answers.items) is-line was in
    let same : each.0 ≡ answers.items = sym (each.1 ∙ ap (λ ys. ys ++ each.0) none) in
    let refused : Refused who whole answers.items = subst (λ (ys : List ℕ). Refused who whole ys) same each.2 in
    from-refused who all after answers result (subst (λ (ys : List ℕ). Refused who ys answers.items) is refused) h

-- the last line was taken and answered
pub last-found : (who : Responder) (rest before after : List ℕ) (found : Option (Result ControlLine Fault)) (asked : Result ControlLine Fault)
    → found ≡ Some asked → IsLastAsked who.names rest (Ok found) → IsPut (IsAnswer who asked) before after
    → (out : List ℕ) × (after ≡ before ++ out) × AnsweredLast who rest out
last-found who rest before after found asked is last put =
    let ends : IsLastAsked who.names rest (Ok (Some asked)) = subst (λ (o : Option (Result ControlLine Fault)). IsLastAsked who.names rest (Ok o)) is last in
    let one : Answers who ends.0 put.0 = answers-asked who ends.0 asked put.0 ends.1 put.1 in
    (put.0, put.2, record { lines = ends.0 ∷ []; each = (put.0, [], one, refl, sym (append-nil put.0)); cut_is = ends.2 })

-- there is no last line
pub last-none : (who : Responder) (rest before : List ℕ) (found : Option (Result ControlLine Fault))
    → found ≡ None → IsLastAsked who.names rest (Ok found) → (out : List ℕ) × (before ≡ before ++ out) × AnsweredLast who rest out
last-none who rest before found is last =
    let ends : IsLastAsked who.names rest (Ok None) = subst (λ (o : Option (Result ControlLine Fault)). IsLastAsked who.names rest (Ok o)) is last in
    ([], sym (append-nil before), record { lines = []; each = refl; cut_is = ends })
