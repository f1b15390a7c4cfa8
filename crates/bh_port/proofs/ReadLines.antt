-- Lines that were read before the first of them is answered.
use Rattle.std.proofs.Common.{◌≡◌, ◌+◌, ◌<◌, ℕ, zero, suc, List, [], ◌∷◌, ◌++◌, drop, length, get_or, Some, Err, refl, sym, ap, subst, ◌∙◌, arith}
use Rattle.bh_lines.specs.declared.front.FrontLine.{FrontLine}
use Rattle.bh_lines.specs.declared.port_error.PortError.TheVariants.{Memory}
use Rattle.bh_lines.specs.Front.{IsFront}
use Rattle.bh_lines.specs.Lines.{cut}
use Rattle.bh_port.specs.declared.ahead.ReadLine.{ReadLine}
use Rattle.bh_port.specs.declared.groups.Entry.{Entry}
use Rattle.bh_port.specs.Ahead.{AreRead, AreReady, IsReady}
use Rattle.bh_port.specs.Course.{Course}
use Rattle.bh_port.specs.GroupsView.{GroupsView}
use Rattle.bh_port.specs.Script.{AnswersLine, GroupsShow, IsSaid, ScriptAnswered, ScriptOutcome}
use Rattle.bh_port.proofs.Answering.{answered-then, front-answered, last-unanswered, stopped-then}
use Rattle.bh_props.specs.SettingsView.{SettingsView}

-- ---- one line more is read

pub ready-more : (entries : List Entry) (lines : List ReadLine) (line : ReadLine) → AreReady entries lines → IsReady entries line → AreReady entries (lines ++ line ∷ [])
ready-more entries [] line are is = (is, tt)
ready-more entries (first ∷ lines) line are is = (are.0, ready-more entries lines line are.1 is)

pub read-more : (service : SettingsView) (entries : List Entry) (lines : List ReadLine) (line : ReadLine) (bytes left : List ℕ) (front : FrontLine)
    → AreRead service entries lines bytes left → IsFront left (Some front) → IsSaid service entries front.text.now line.act line.said
    → AreRead service entries (lines ++ line ∷ []) bytes (drop front.taken left)
read-more service entries [] line bytes left front same in_front said =
    (front, subst (λ (ys : List ℕ). IsFront ys (Some front)) same in_front, said, ap (drop front.taken) same)
read-more service entries (first ∷ lines) line bytes left front are in_front said =
    (are.0, are.1, are.2, read-more service entries lines line (drop are.0.taken bytes) left front are.3 in_front said)

-- ---- the first of them is answered

pub drop_next : {X : Type 0} (xs : List X) (i : ℕ) (x : X) → i < length xs → x ≡ get_or xs i x → drop i xs ≡ x ∷ drop (suc i) xs
drop_next [] i x lt is = absurd (omega arith)
drop_next (y ∷ ys) zero x lt is = ap (λ z. z ∷ ys) (sym is)
drop_next (y ∷ ys) (suc i) x lt is = drop_next ys i x (omega arith) is

pub drop_more : {X : Type 0} (xs : List X) (i : ℕ) (x : X) → i < length xs → x ≡ get_or xs i x → drop i xs ≡ x ∷ drop (i + 1) xs
drop_more xs i x lt is = let next : suc i ≡ i + 1 = omega arith in drop_next xs i x lt is ∙ ap (λ k. x ∷ drop k xs) next

-- each of them can be answered
pub ready-at : (entries : List Entry) (lines : List ReadLine) (i : ℕ) (line : ReadLine) → i < length lines → line ≡ get_or lines i line → AreReady entries lines → IsReady entries line
ready-at entries [] i line lt is are = absurd (omega arith)
ready-at entries (first ∷ lines) zero line lt is are = subst (IsReady entries) (sym is) are.0
ready-at entries (first ∷ lines) (suc i) line lt is are = ready-at entries lines i line (omega arith) is are.1

-- what a line does of which it is known what it asks for
abbrev pub DoesSaid : SettingsView → GroupsView → ReadLine → GroupsView → List ℕ → List ℕ → Type 0
DoesSaid service was line now m n = (before : Course) (text : List ℕ) → GroupsShow service was before → IsSaid service was.entries text line.act line.said → AnswersLine service before text now m n

-- the lines up to some place were answered, and the others are to be
pub record IsAnsweredTo (o m : List ℕ) (service : SettingsView) (before : Course) (now : GroupsView) (entries : List Entry) (lines : List ReadLine) (bytes left : List ℕ) : Type 0 where
  pub here : List ℕ
  pub done : ScriptAnswered (Some o) (Some m) service before now bytes here
  pub rest : AreRead service entries lines here left

module _ (o m : List ℕ) (service : SettingsView) (before : Course) (was : GroupsView) (entries : List Entry) (bytes left : List ℕ) where
  pub next-answered : (n : List ℕ) (now : GroupsView) (line : ReadLine) (lines more : List ReadLine) → was.entries ≡ entries → more ≡ line ∷ lines
      → IsAnsweredTo o m service before was entries more bytes left → DoesSaid service was line now m n → IsAnsweredTo o n service before now entries lines bytes left
  next-answered n now line lines more same are to does = by to.here to.done (subst (λ ls. AreRead service entries ls to.here left) are to.rest)
    where
      by : (here : List ℕ) → ScriptAnswered (Some o) (Some m) service before was bytes here → AreRead service entries (line ∷ lines) here left → IsAnsweredTo o n service before now entries lines bytes left
      by here done read = record {
        here = drop read.0.taken here;
        done = answered-then o m n service before was now bytes here (drop read.0.taken here) done
            (front-answered m n service was now here here (drop read.0.taken here) read.0 refl read.1
            (λ later agrees. does later read.0.text.now agrees (subst (λ es. IsSaid service es read.0.text.now line.act line.said) (sym same) read.2)) refl);
        rest = read.3;
      }

  -- there was no memory for the next one
  pub next-unanswered : (n more : List ℕ) (lines : List ReadLine) → n ≡ m → IsAnsweredTo o m service before was entries lines bytes left → ScriptOutcome (Some o) (Some n) service before (cut (bytes ++ more)) (Err Memory)
  next-unanswered n more lines kept to =
      stopped-then o m n service before was bytes to.here more Memory to.done (λ later after shows. last-unanswered m n service later _ kept)

  -- all were answered
  pub all-answered : (lines : List ReadLine) → lines ≡ [] → IsAnsweredTo o m service before was entries lines bytes left → ScriptAnswered (Some o) (Some m) service before was bytes left
  all-answered lines none to =
      let same : left ≡ to.here = subst (λ ls. AreRead service entries ls to.here left) none to.rest in
      subst (λ (ys : List ℕ). ScriptAnswered (Some o) (Some m) service before was bytes ys) (sym same) to.done
