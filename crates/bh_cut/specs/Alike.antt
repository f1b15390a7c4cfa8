-- The lines of a script with their answers, and what is said of them once some were cut out.
use Rattle.std.specs.Prelude.{◌≡◌, ◌≢◌, ℕ, true, List, [], ◌∷◌, ◌++◌, filter, take}
use Rattle.std.specs.List.{AllByRecursion}
use Rattle.bh_faults.specs.declared.fault.Fault.TheVariants as faults
use Rattle.bh_replies.specs.FaultLine.{fault_line}
use Rattle.bh_lines.specs.Lines.{Cut, line, ended, stopped, cut}
use Rattle.bh_port.specs.Course.{Course, line_act, new_course}
use Rattle.bh_port.specs.Text.{answer_to, course_with, text}
use Rattle.bh_props.specs.SettingsView.{SettingsView}
use Rattle.bh_cut.specs.Kept.{kept, lines_of}
use Rattle.bh_cut.specs.Named.{is_among, names_one}

-- a line with the line that answers it
pub record Answered : Type 0 where
  pub line : List ℕ
  pub answer : List ℕ

-- all lines that follow a run so far with their answers, up to a line that is too long or not UTF-8
unfoldable pub answers : SettingsView → Course → Cut → List Answered
answers service course (line bytes rest) =
    let said = line_act service course.entries bytes in
    record { line = bytes; answer = answer_to service course said } ∷ answers service (course_with service course said) rest
answers service course ended = []
answers service course stopped = []

-- the same from the begin of a run
abbrev pub all_answers : SettingsView → Cut → List Answered
all_answers service c = answers service (new_course service) c

-- those alone whose lines name one of the groups
abbrev pub answers_of : List (List ℕ) → List Answered → List Answered
answers_of names all = filter (λ a. names_one names a.line) all

-- none of the lines was told that as many groups were registered as may be
abbrev pub NoneUsedUp : List Answered → Type 0
NoneUsedUp all = AllByRecursion (λ a. a.answer ≢ fault_line faults.Groups) all

-- the answers one behind the other
abbrev pub text_of : List Answered → List ℕ
text_of [] = []
text_of (a ∷ rest) = a.answer ++ text_of rest

-- What is kept of a script for the groups is cut into the lines that name them, and these are answered as among all others. A
-- registration that was refused, since as many groups were registered as may be, can be accepted where fewer lines are left:
-- so each group is answered the same up to its own first line that was told so (`own`), all of them together up to the first
-- of these lines (`front`), and to the end where there is none.
pub record IsAnsweredAlike (service : SettingsView) (names : List (List ℕ)) (input : List ℕ) : Type 0 where
  pub lines : cut (kept names input) ≡ lines_of names (cut input)
  pub own : (name : List ℕ) → is_among names name ≡ true → (n : ℕ) → NoneUsedUp (take n (answers_of (name ∷ []) (all_answers service (cut input))))
      → take n (answers_of (name ∷ []) (all_answers service (cut (kept names input)))) ≡ take n (answers_of (name ∷ []) (all_answers service (cut input)))
  pub front : (n : ℕ) → NoneUsedUp (take n (answers_of names (all_answers service (cut input))))
      → take n (all_answers service (cut (kept names input))) ≡ take n (answers_of names (all_answers service (cut input)))
  pub whole : NoneUsedUp (answers_of names (all_answers service (cut input)))
      → all_answers service (cut (kept names input)) ≡ answers_of names (all_answers service (cut input))
  pub text : NoneUsedUp (answers_of names (all_answers service (cut input)))
      → text service (new_course service) (cut (kept names input)) ≡ text_of (answers_of names (all_answers service (cut input)))

-- the text that a script writes is that of the answers to its lines
abbrev pub TextIsAnswers : Type 0
TextIsAnswers = (service : SettingsView) (c : Cut) → text service (new_course service) c ≡ text_of (all_answers service c)
