-- The lines of one of the groups that are kept: whether other groups found a number plays no part.
use Rattle.std.proofs.Common.{◌≡◌, ◌≢◌, ◌⊎◌, inl, inr, ℕ, zero, suc, ◌≤◌, true, false, cond, List, [], ◌∷◌, length, take, Result, Ok, Err, refl, sym, ap, ◌∙◌, subst, arith}
use Rattle.std.specs.Prelude.{◌||◌}
use Rattle.std.specs.Str.{bytes_eq}
use Rattle.std.specs.Cmp.Lexicographic.{bytes_decides}
use Rattle.bh_core.specs.CoreView.{most_groups}
use Rattle.bh_faults.specs.declared.fault.Fault.{Fault}
use Rattle.bh_faults.specs.declared.fault.Fault.TheVariants as faults
use Rattle.bh_replies.specs.FaultLine.{fault_line}
use Rattle.bh_lines.specs.Lines.{Cut, line, ended, stopped}
use Rattle.bh_lines.specs.ScriptLine.{Asked, line_asked}
use Rattle.bh_port.specs.Course.{Course, act_asked, act_of, line_act, new_course}
use Rattle.bh_port.specs.Text.{answer_to, course_with}
use Rattle.bh_props.specs.SettingsView.{SettingsView}
use Rattle.bh_cut.specs.Alike.{Answered, NoneUsedUp, all_answers, answers, answers_of}
use Rattle.bh_cut.specs.Kept.{lines_of}
use Rattle.bh_cut.specs.Named.{group_of, is_among, is_asked_of, names_one}
use Rattle.bh_cut.proofs.Leaving.{IsKnown, leaves-same, line-bounded, line-grows, line-leaves}
use Rattle.bh_cut.proofs.Numbers.{equal}
use Rattle.bh_cut.proofs.Worlds.{IsAlike, alike-left, asked-alike, asked-either, begins-alike}

-- all groups of these names are alike, or no number is left
abbrev pub AreNear : List (List ℕ) → Course → Course → Type 0
AreNear names whole alone = ((other : List ℕ) → is_among names other ≡ true → IsAlike whole alone other) ⊎ (most_groups ≤ length whole.entries)

-- the group of the name is alike in both, which stand near to each other
pub record IsNear (names : List (List ℕ)) (whole alone : Course) (name : List ℕ) : Type 0 where
  pub own : IsAlike whole alone name
  pub near : AreNear names whole alone
  pub fewer : length alone.entries ≤ length whole.entries
  pub known_whole : IsKnown whole
  pub known_alone : IsKnown alone

-- names that differ
differs : (names : List (List ℕ)) (a b : List ℕ) → is_among names a ≡ false → is_among names b ≡ true → bytes_eq a b ≡ false
differs names a b out among = elim (bytes_eq a b) as (λ v. bytes_eq a b ≡ v → v ≡ false) [
  | true ↦ λ same. absurd (let both : false ≡ true = sym out ∙ ap (is_among names) (equal a b same) ∙ among in cc)
  | false ↦ λ _. refl
] refl

module _ (service : SettingsView) (names : List (List ℕ)) (whole alone : Course) (asked : Asked) where
  abbrev more : Course
  more = course_with service whole (act_of service whole.entries asked)

  abbrev rest : Course
  rest = course_with service alone (act_of service alone.entries asked)

  -- where no number is left, none is left later
  still-used : most_groups ≤ length whole.entries → most_groups ≤ length more.entries
  still-used used = omega (arith, used, (line-grows service whole asked).more)

  used-fewer : length alone.entries ≤ length whole.entries → most_groups ≤ length whole.entries → length rest.entries ≤ length more.entries
  used-fewer fewer used = elim (line-bounded service alone asked) [
    | inl same ↦ omega (arith, same, fewer, (line-grows service whole asked).more)
    | inr few ↦ omega (arith, few, used, (line-grows service whole asked).more)
  ]

  -- a line that is kept leaves other groups alike
  all-alike : AreNear names whole alone → length alone.entries ≤ length whole.entries → IsKnown whole → IsKnown alone → is_among names (group_of asked) ≡ true
      → AreNear names more rest × (length rest.entries ≤ length more.entries)
  all-alike (inr used) fewer known_whole known_alone among = (inr (still-used used), used-fewer fewer used)
  all-alike (inl all) fewer known_whole known_alone among = elim (asked-either service whole alone asked (all (group_of asked) among) fewer known_whole known_alone) [
    | inr used ↦ (inr (still-used used.0), used-fewer fewer used.0)
    | inl goes ↦ (
      inl (λ other is. elim (bytes_eq (group_of asked) other) as (λ v. bytes_eq (group_of asked) other ≡ v → IsAlike more rest other) [
        | true ↦ λ same. subst (λ (n : List ℕ). IsAlike more rest n) (equal (group_of asked) other same) goes.own
        | false ↦ λ differ. alike-left other whole alone more rest (line-leaves service whole asked other differ) (line-leaves service alone asked other differ) (all other is)
      ] refl),
      goes.fewer,
    )
  ]

  -- and the group of the name, whether it names that or not
  kept-near : (name : List ℕ) → IsNear names whole alone name → is_among names (group_of asked) ≡ true
      → (bytes_eq (group_of asked) name ≡ true → answer_to service whole (act_of service whole.entries asked) ≢ fault_line faults.Groups) → IsNear names more rest name
  kept-near name is among full =
      let others = all-alike is.near is.fewer is.known_whole is.known_alone among in record {
        own = elim (bytes_eq (group_of asked) name) as (λ v. bytes_eq (group_of asked) name ≡ v → IsAlike more rest name) [
          | true ↦ λ same.
              let named = equal (group_of asked) name same in
              let alike : IsAlike whole alone (group_of asked) = subst (λ (n : List ℕ). IsAlike whole alone n) (sym named) is.own in
              subst (λ (n : List ℕ). IsAlike more rest n) named (asked-alike service whole alone asked alike is.fewer is.known_whole is.known_alone (full same)).own
          | false ↦ λ differ. alike-left name whole alone more rest (line-leaves service whole asked name differ) (line-leaves service alone asked name differ) is.own
        ] refl;
        near = others.0;
        fewer = others.1;
        known_whole = (line-grows service whole asked).known is.known_whole;
        known_alone = (line-grows service alone asked).known is.known_alone;
      }

  -- its own line is answered alike
  kept-answer : (name : List ℕ) → IsNear names whole alone name → bytes_eq (group_of asked) name ≡ true
      → answer_to service whole (act_of service whole.entries asked) ≢ fault_line faults.Groups
      → answer_to service alone (act_of service alone.entries asked) ≡ answer_to service whole (act_of service whole.entries asked)
  kept-answer name is same full =
      let alike : IsAlike whole alone (group_of asked) = subst (λ (n : List ℕ). IsAlike whole alone n) (sym (equal (group_of asked) name same)) is.own in
      (asked-alike service whole alone asked alike is.fewer is.known_whole is.known_alone full).answer

  -- a line that is left out leaves them alike
  other-near : (name : List ℕ) → IsNear names whole alone name → is_among names name ≡ true → is_among names (group_of asked) ≡ false → IsNear names more alone name
  other-near name is among out =
      let grows = line-grows service whole asked in
      let left : (other : List ℕ) → is_among names other ≡ true → IsAlike whole alone other → IsAlike more alone other =
      λ other at. alike-left other whole alone more alone (line-leaves service whole asked other (differs names (group_of asked) other out at)) (leaves-same other alone) in record {
        own = left name among is.own;
        near = elim is.near [ inl all ↦ inl (λ other at. left other at (all other at)) | inr used ↦ inr (still-used used) ];
        fewer = omega (arith, is.fewer, grows.more);
        known_whole = grows.known is.known_whole;
        known_alone = is.known_alone;
      }

-- ---- a line more

-- the line names the group
one-named : (name : List ℕ) (asked : Asked) → is_asked_of (name ∷ []) (Ok asked) ≡ true → bytes_eq (group_of asked) name ≡ true
one-named name asked is =
    let found : bytes_eq name (group_of asked) ≡ true = elim (bytes_eq name (group_of asked)) as (λ v. (v || false) ≡ true → v ≡ true) [ true ↦ λ _. refl | false ↦ λ bad. bad ] is in
    (bytes_decides (group_of asked) name).1 (sym (equal name (group_of asked) found))

-- the line does not, if it names none of all
none-named : (names : List (List ℕ)) (name : List ℕ) (r : Result Asked Fault) → is_among names name ≡ true → is_asked_of names r ≡ false → is_asked_of (name ∷ []) r ≡ false
none-named names name (Err fault) among out = refl
none-named names name (Ok asked) among out =
    elim (bytes_eq name (group_of asked)) as (λ v. bytes_eq name (group_of asked) ≡ v → (v || false) ≡ false) [
      | true ↦ λ same. absurd (let both : true ≡ false = sym among ∙ ap (is_among names) (equal name (group_of asked) same) ∙ out in cc)
      | false ↦ λ _. refl
    ] refl

-- a line that is kept, by what it asks for
stays : (service : SettingsView) (names : List (List ℕ)) (whole alone : Course) (name : List ℕ) (r : Result Asked Fault) → IsNear names whole alone name → is_asked_of names r ≡ true
    → (is_asked_of (name ∷ []) r ≡ true → answer_to service whole (act_asked service whole.entries r) ≢ fault_line faults.Groups)
    → IsNear names (course_with service whole (act_asked service whole.entries r)) (course_with service alone (act_asked service alone.entries r)) name
stays service names whole alone name (Err fault) is among full = absurd (let bad : false ≡ true = among in cc)
stays service names whole alone name (Ok asked) is among full =
    kept-near service names whole alone asked name is among (λ same. full (named-one same))
  where
    named-one : bytes_eq (group_of asked) name ≡ true → is_asked_of (name ∷ []) (Ok asked) ≡ true
    named-one same =
        let back : bytes_eq name (group_of asked) ≡ true = (bytes_decides name (group_of asked)).1 (sym (equal (group_of asked) name same)) in
        ap (λ v. v || false) back

same-answer : (service : SettingsView) (names : List (List ℕ)) (whole alone : Course) (name : List ℕ) (r : Result Asked Fault) → IsNear names whole alone name → is_asked_of (name ∷ []) r ≡ true
    → answer_to service whole (act_asked service whole.entries r) ≢ fault_line faults.Groups
    → answer_to service alone (act_asked service alone.entries r) ≡ answer_to service whole (act_asked service whole.entries r)
same-answer service names whole alone name (Err fault) is own full = absurd (let bad : false ≡ true = own in cc)
same-answer service names whole alone name (Ok asked) is own full = kept-answer service names whole alone asked name is (one-named name asked own) full

leaves-near : (service : SettingsView) (names : List (List ℕ)) (whole alone : Course) (name : List ℕ) (r : Result Asked Fault) → IsNear names whole alone name → is_among names name ≡ true → is_asked_of names r ≡ false
    → IsNear names (course_with service whole (act_asked service whole.entries r)) alone name
leaves-near service names whole alone name (Err fault) is among out = is
leaves-near service names whole alone name (Ok asked) is among out = other-near service names whole alone asked name is among out

-- ---- all lines

single-front : (service : SettingsView) (names : List (List ℕ)) (name : List ℕ) (c : Cut) (whole alone : Course) → IsNear names whole alone name → is_among names name ≡ true → (n : ℕ)
    → NoneUsedUp (take n (answers_of (name ∷ []) (answers service whole c)))
    → take n (answers_of (name ∷ []) (answers service alone (lines_of names c))) ≡ take n (answers_of (name ∷ []) (answers service whole c))
unfolding answers line_act names_one
single-front service names name ended whole alone is among n none = refl
single-front service names name stopped whole alone is among n none = refl
single-front service names name (line bytes rest) whole alone is among n none =
    let r = line_asked bytes in
    let said = act_asked service whole.entries r in
    let alone_said = act_asked service alone.entries r in
    let later = course_with service whole said in
    let alone_later = course_with service alone alone_said in
    let first : Answered = record { line = bytes; answer = answer_to service whole said } in
    let alone_first : Answered = record { line = bytes; answer = answer_to service alone alone_said } in
    let others = answers_of (name ∷ []) (answers service later rest) in
    let alone_others = answers_of (name ∷ []) (answers service alone_later (lines_of names rest)) in
    elim (is_asked_of names r) as (λ v. is_asked_of names r ≡ v
    → take n (answers_of (name ∷ []) (answers service alone (cond v (line bytes (lines_of names rest)) (lines_of names rest)))) ≡ take n (cond (is_asked_of (name ∷ []) r) (first ∷ others) others)) [
      | true ↦ λ kept.
          elim (is_asked_of (name ∷ []) r) as (λ u. is_asked_of (name ∷ []) r ≡ u → NoneUsedUp (take n (cond u (first ∷ others) others))
          → take n (cond u (alone_first ∷ alone_others) alone_others) ≡ take n (cond u (first ∷ others) others)) [
            | true ↦ λ own some. elim n as (λ m. NoneUsedUp (take m (first ∷ others)) → take m (alone_first ∷ alone_others) ≡ take m (first ∷ others)) [
              | zero ↦ λ _. refl
              | suc m ↦ λ h.
                  let near = stays service names whole alone name r is kept (λ _. h.0) in
                  ap (λ a. record { line = bytes; answer = a } ∷ take m alone_others) (same-answer service names whole alone name r is own h.0)
                  ∙ ap (λ l. first ∷ l) (single-front service names name rest later alone_later near among m h.1)
            ] some
            | false ↦ λ other some.
                let near = stays service names whole alone name r is kept (λ own. absurd (let both : true ≡ false = sym own ∙ other in cc)) in
                single-front service names name rest later alone_later near among n some
          ] refl none
      | false ↦ λ out.
          let other : is_asked_of (name ∷ []) r ≡ false = none-named names name r among out in
          let left : take n (cond (is_asked_of (name ∷ []) r) (first ∷ others) others) ≡ take n others = ap (λ u. take n (cond u (first ∷ others) others)) other in
          single-front service names name rest later alone (leaves-near service names whole alone name r is among out) among n (subst NoneUsedUp left none) ∙ sym left
    ] refl

-- what a group is told up to its own first registration that finds no number
pub single-alike : (service : SettingsView) (names : List (List ℕ)) (name : List ℕ) (c : Cut) → is_among names name ≡ true → (n : ℕ)
    → NoneUsedUp (take n (answers_of (name ∷ []) (all_answers service c)))
    → take n (answers_of (name ∷ []) (all_answers service (lines_of names c))) ≡ take n (answers_of (name ∷ []) (all_answers service c))
single-alike service names name c among n none =
    let begins = begins-alike service names in
    single-front service names name c (new_course service) (new_course service)
    (record { own = begins.alike name among; near = inl begins.alike; fewer = begins.fewer; known_whole = begins.known_whole; known_alone = begins.known_alone }) among n none
