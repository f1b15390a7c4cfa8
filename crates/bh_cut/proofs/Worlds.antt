-- The lines of some groups among all others, and alone: what the groups are told is the same.
use Rattle.std.proofs.Common.{◌≡◌, ◌≢◌, ◌⊎◌, inl, inr, ℕ, zero, suc, ◌+◌, ◌<◌, ◌≤◌, ◌==◌, Bool, true, false, cond, map, List, [], ◌∷◌, ◌++◌, length, take, Option, Some, None, Result, Ok, Err, refl, sym, ap, ◌∙◌, subst, arith, length-append}
use Rattle.std.proofs.lemmas.Bool.Decides.{nat_tests}
use Rattle.std.proofs.lemmas.List.{take_all}
use Rattle.std.specs.List.{AllByRecursion}
use Rattle.std.specs.Prelude.{◌&&◌, find, is_none, nat_lt, option_and_then, option_map, slice_get}
use Rattle.std.specs.Str.{bytes_eq}
use Rattle.bh_base.specs.Props.{GroupProps}
use Rattle.bh_base.specs.declared.reply.Reply.{Reply}
use Rattle.bh_base.specs.declared.reply.Reply.TheVariants as reply
use Rattle.bh_base.specs.declared.step.Op.{Op}
use Rattle.bh_base.specs.declared.step.Step.{Step}
use Rattle.bh_base.specs.Runs.{State, own, state_after, step}
use Rattle.bh_core.specs.CoreView.{most_groups}
use Rattle.bh_faults.specs.declared.fault.Fault.{Fault}
use Rattle.bh_faults.specs.declared.fault.Fault.TheVariants as faults
use Rattle.bh_replies.specs.declared.told.Told.TheVariants as told
use Rattle.bh_replies.specs.FaultLine.{fault_line}
use Rattle.bh_lines.specs.Lines.{Cut, line, ended, stopped}
use Rattle.bh_lines.specs.Names.{command_name}
use Rattle.bh_lines.specs.ScriptLine.{Asked, a_step, a_group, an_end, line_asked}
use Rattle.bh_lines.specs.StepLine.{◌>>=◌, Said, group_number, if_short, or_fault}
use Rattle.bh_replies.specs.ToldLine.{told_line}
use Rattle.bh_port.specs.declared.act.LineAct.{LineAct}
use Rattle.bh_port.specs.declared.act.LineAct.TheVariants as act
use Rattle.bh_port.specs.declared.groups.Entry.{Entry}
use Rattle.bh_port.specs.Entries.{entry_at, new_entry, number_of, without}
use Rattle.bh_port.specs.Course.{Course, act_asked, act_of, command_of, command_said, group_after, is_free, line_act, names_in, new_course, opened_group, registration, retirement, state_at, step_of}
use Rattle.bh_port.specs.Text.{answer_to, course_with, held_at, is_held, reply_of, reply_to, text, told_name}
use Rattle.bh_port.proofs.Naming.{entry-pushed, length-without}
use Rattle.bh_props.specs.Names.{is_name}
use Rattle.bh_props.specs.SettingsView.{SettingsView}
use Rattle.bh_cut.specs.Alike.{Answered, NoneUsedUp, TextIsAnswers, all_answers, answers, answers_of, text_of}
use Rattle.bh_cut.specs.Kept.{lines_of}
use Rattle.bh_cut.specs.Named.{group_of, is_among, is_asked_of, names_one}
use Rattle.bh_cut.proofs.Leaving.{IsKnown, Leaves, leaves-same, line-grows, line-leaves}
use Rattle.bh_cut.proofs.Numbers.{equal, number-pushed, number-there, number-without_same}

-- ---- one group in two runs

-- the operations of steps, with their moments
abbrev pub ops : List Step → List (Op × ℕ)
ops steps = map (λ x. (x.op, x.now)) steps

-- the state that they lead to
abbrev after_ops : State → List (Op × ℕ) → State
after_ops s [] = s
after_ops s (o ∷ os) = after_ops (step s o.0 o.1).state os

state-ops : (s : State) (xs : List Step) → state_after s xs ≡ after_ops s (ops xs)
state-ops s [] = refl
state-ops s (x ∷ xs) = state-ops (step s x.op x.now).state xs

-- the group of the name is there in both, like the same group of the settings, and did the same
pub record IsSame (whole alone : Course) (name : List ℕ) : Type 0 where
  pub there : ℕ
  pub here : ℕ
  pub entry : Entry
  pub whole_number : number_of whole.entries name ≡ Some there
  pub alone_number : number_of alone.entries name ≡ Some here
  pub whole_entry : entry_at whole.entries there ≡ Some entry
  pub alone_entry : entry_at alone.entries here ≡ Some entry
  pub done : ops (own there whole.steps) ≡ ops (own here alone.steps)

-- or it is in neither
abbrev pub IsAlike : Course → Course → List ℕ → Type 0
IsAlike whole alone name = ((number_of whole.entries name ≡ None) × (number_of alone.entries name ≡ None)) ⊎ IsSame whole alone name

-- what leaves the group in both
pub alike-left : (name : List ℕ) (whole alone more fewer : Course) → Leaves name whole more → Leaves name alone fewer → IsAlike whole alone name → IsAlike more fewer name
alike-left name whole alone more fewer first second (inl none) = inl (first.number ∙ none.0, second.number ∙ none.1)
alike-left name whole alone more fewer first second (inr s) = inr (record {
  there = s.there;
  here = s.here;
  entry = s.entry;
  whole_number = first.number ∙ s.whole_number;
  alone_number = second.number ∙ s.alone_number;
  whole_entry = first.entry s.there s.whole_number ∙ s.whole_entry;
  alone_entry = second.entry s.here s.alone_number ∙ s.alone_entry;
  done = ap ops (first.steps s.there s.whole_number) ∙ s.done ∙ sym (ap ops (second.steps s.here s.alone_number));
})

group-same : (service : SettingsView) (props : GroupProps) (n k : ℕ) (xs ys : List Step) → ops (own n xs) ≡ ops (own k ys) → group_after service props n xs ≡ group_after service props k ys
unfolding group_after
group-same service props n k xs ys same =
    let s = opened_group service props in
    state-ops s (own n xs) ∙ ap (after_ops s) same ∙ sym (state-ops s (own k ys))

-- it is in the same state
state-same : (service : SettingsView) (whole alone : Course) (name : List ℕ) (s : IsSame whole alone name) → state_at service whole s.there ≡ state_at service alone s.here
state-same service whole alone name s =
    ap (λ o. option_map (λ group. group_after service group.1 s.there whole.steps) (option_and_then (λ e. slice_get service.groups e.like) o)) s.whole_entry
    ∙ elim (slice_get service.groups s.entry.like) as (λ o. option_map (λ group. group_after service group.1 s.there whole.steps) o ≡ option_map (λ group. group_after service group.1 s.here alone.steps) o) [
      | None ↦ refl
      | Some group ↦ ap (λ state. Some state) (group-same service group.1 s.there s.here whole.steps alone.steps s.done)
    ]
    ∙ sym (ap (λ o. option_map (λ group. group_after service group.1 s.here alone.steps) (option_and_then (λ e. slice_get service.groups e.like) o)) s.alone_entry)

held-same : (service : SettingsView) (whole alone : Course) (name : List ℕ) (s : IsSame whole alone name) → held_at service whole s.there ≡ held_at service alone s.here
unfolding held_at
held-same service whole alone name s = ap is_held (state-same service whole alone name s)

-- ---- a step of it

-- the step of the operation in the group of the number
abbrev made : ℕ → Said → Op → Step
made number said o = record { group = record { 0 = number }; now = said.now; op = o }

step-at : (service : SettingsView) (entries : List Entry) (said : Said) (n : ℕ) → number_of entries said.group ≡ Some n
    → step_of service entries said ≡ ((command_said service entries n said.command >>= λ command. if_short command said.op) >>= λ o. Ok (made n said o))
step-at service entries said n is =
    ap (λ found. or_fault faults.Group found >>= λ number. command_said service entries number said.command >>= λ command. if_short command said.op >>= λ o. Ok (made number said o)) is
    ∙ elim (command_said service entries n said.command) as (λ r. (r >>= λ command. if_short command said.op >>= λ o. Ok (made n said o)) ≡ ((r >>= λ command. if_short command said.op) >>= λ o. Ok (made n said o))) [
      | Ok command ↦ refl
      | Err fault ↦ refl
    ]

command-same : (service : SettingsView) (whole alone : Course) (name : List ℕ) (s : IsSame whole alone name) (command : Option (List ℕ))
    → command_said service alone.entries s.here command ≡ command_said service whole.entries s.there command
command-same service whole alone name s None = refl
command-same service whole alone name s (Some command) =
    ap (λ o. or_fault faults.Command (option_and_then (λ e. command_of service e command) o)) (s.alone_entry ∙ sym s.whole_entry)

told_name-same : (service : SettingsView) (whole alone : Course) (name : List ℕ) (s : IsSame whole alone name) (r : Reply)
    → told_name service alone.entries s.here r ≡ told_name service whole.entries s.there r
told_name-same service whole alone name s (reply.Assigned serial command arg) =
    ap (option_and_then (λ e. command_name (names_in service) e.like command)) (s.alone_entry ∙ sym s.whole_entry)
told_name-same service whole alone name s _ = refl

reply-same : (service : SettingsView) (whole alone : Course) (name : List ℕ) (s : IsSame whole alone name) (said : Said) (o : Op)
    → reply_to service alone (made s.here said o) ≡ reply_to service whole (made s.there said o)
unfolding reply_to
reply-same service whole alone name s said o =
    ap (reply_of (made s.here said o)) (sym (state-same service whole alone name s))
    ∙ elim (state_at service whole s.there) as (λ state. reply_of (made s.here said o) state ≡ reply_of (made s.there said o) state) [ None ↦ refl | Some state ↦ refl ]

own-push : (n : ℕ) (steps : List Step) (x : Step) → (x.group.0 == n) ≡ true → ops (own n (steps ++ x ∷ [])) ≡ ops (own n steps) ++ (x.op, x.now) ∷ []
own-push n [] x is = ap (λ v. ops (cond v (x ∷ []) [])) is
own-push n (y ∷ ys) x is = elim (y.group.0 == n) as (λ v. ops (cond v (y ∷ own n (ys ++ x ∷ [])) (own n (ys ++ x ∷ []))) ≡ ops (cond v (y ∷ own n ys) (own n ys)) ++ (x.op, x.now) ∷ []) [
  | true ↦ ap (λ l. (y.op, y.now) ∷ l) (own-push n ys x is)
  | false ↦ own-push n ys x is
]

own-none : (n : ℕ) (steps : List Step) → AllByRecursion (λ x. x.group.0 < n) steps → own n steps ≡ []
own-none n [] below = refl
own-none n (x ∷ xs) below =
    let low = below.0 in
    let differ : (x.group.0 == n) ≡ false = grind (arith, nat_tests) in
    ap (λ v. cond v (x ∷ own n xs) (own n xs)) differ ∙ own-none n xs below.1

-- ---- a line that names it

-- in both it is answered alike, and leaves the group alike
pub record GoesAlike (service : SettingsView) (whole alone : Course) (name : List ℕ) (first second : Result LineAct Fault) : Type 0 where
  pub answer : answer_to service alone second ≡ answer_to service whole first
  pub own : IsAlike (course_with service whole first) (course_with service alone second) name
  pub fewer : length (course_with service alone second).entries ≤ length (course_with service whole first).entries

-- as many groups were registered as may be, and the line is told so
abbrev pub IsUsedUp : SettingsView → Course → Result LineAct Fault → Type 0
IsUsedUp service course said = (most_groups ≤ length course.entries) × (answer_to service course said ≡ fault_line faults.Groups)

module _ (service : SettingsView) (whole alone : Course) (name : List ℕ) (alike : IsAlike whole alone name) (fewer : length alone.entries ≤ length whole.entries) where
  goes-fault : (fault : Fault) → GoesAlike service whole alone name (Err fault) (Err fault)
  goes-fault fault = record { answer = refl; own = alike; fewer = fewer }

  goes-step : (s : IsSame whole alone name) (said : Said) (o : Op) → GoesAlike service whole alone name (Ok (act.Step (made s.there said o))) (Ok (act.Step (made s.here said o)))
  goes-step s said o =
      let x = made s.there said o in
      let y = made s.here said o in
      let is_there : (s.there == s.there) ≡ true = grind (arith, nat_tests) in
      let is_here : (s.here == s.here) ≡ true = grind (arith, nat_tests) in record {
        answer = ap (λ r. told_line (told.Reply r (told_name service alone.entries s.here r))) (reply-same service whole alone name s said o)
            ∙ ap (λ n. told_line (told.Reply (reply_to service whole x) n)) (told_name-same service whole alone name s (reply_to service whole x));
        own = inr (record {
          there = s.there;
          here = s.here;
          entry = s.entry;
          whole_number = s.whole_number;
          alone_number = s.alone_number;
          whole_entry = s.whole_entry;
          alone_entry = s.alone_entry;
          done = own-push s.there whole.steps x is_there ∙ ap (λ l. l ++ (o, said.now) ∷ []) s.done ∙ sym (own-push s.here alone.steps y is_here);
        });
        fewer = fewer;
      }

  -- what the step of an operation is, once its command is looked up
  goes-said : (s : IsSame whole alone name) (said : Said) (r : Result Op Fault)
      → GoesAlike service whole alone name ((r >>= λ o. Ok (made s.there said o)) >>= λ x. Ok (act.Step x)) ((r >>= λ o. Ok (made s.here said o)) >>= λ x. Ok (act.Step x))
  goes-said s said (Ok o) = goes-step s said o
  goes-said s said (Err fault) = goes-fault fault

  goes-registered : (place : ℕ) → IsKnown whole → IsKnown alone → GoesAlike service whole alone name (Ok (act.Register name place)) (Ok (act.Register name place))
  goes-registered place known_whole known_alone =
      let e = new_entry name place in record {
        answer = refl;
        own = inr (record {
          there = length whole.entries;
          here = length alone.entries;
          entry = e;
          whole_number = number-pushed whole.entries name place;
          alone_number = number-pushed alone.entries name place;
          whole_entry = entry-pushed whole.entries name place;
          alone_entry = entry-pushed alone.entries name place;
          done = ap ops (own-none (length whole.entries) whole.steps known_whole) ∙ sym (ap ops (own-none (length alone.entries) alone.steps known_alone));
        });
        fewer = omega (arith, fewer, length-append whole.entries (e ∷ []), length-append alone.entries (e ∷ []));
      }

  own-retired : (s : IsSame whole alone name) (first second : Bool) → second ≡ first
      → IsAlike (cond first whole (record whole { entries = without s.there whole.entries })) (cond second alone (record alone { entries = without s.here alone.entries })) name
  own-retired s true true same = alike
  own-retired s false false same = inl (number-without_same whole.entries s.there name s.whole_number, number-without_same alone.entries s.here name s.alone_number)
  own-retired s true false same = absurd cc
  own-retired s false true same = absurd cc

  fewer-retired : (s : IsSame whole alone name) (first second : Bool) → second ≡ first
      → length (cond second alone (record alone { entries = without s.here alone.entries })).entries ≤ length (cond first whole (record whole { entries = without s.there whole.entries })).entries
  fewer-retired s true true same = fewer
  fewer-retired s false false same = omega (arith, fewer, length-without whole.entries s.there, length-without alone.entries s.here)
  fewer-retired s true false same = absurd cc
  fewer-retired s false true same = absurd cc

  goes-retired : (s : IsSame whole alone name) → GoesAlike service whole alone name (Ok (act.Retire (record { 0 = s.there }))) (Ok (act.Retire (record { 0 = s.here })))
  goes-retired s =
      let held : held_at service alone s.here ≡ held_at service whole s.there = sym (held-same service whole alone name s) in record {
        answer = ap (λ v. told_line (cond v told.Held told.Retired)) held;
        own = own-retired s (held_at service whole s.there) (held_at service alone s.here) held;
        fewer = fewer-retired s (held_at service whole s.there) (held_at service alone s.here) held;
      }

  -- what a registration asks for
  abbrev register : Bool → Option ℕ → Bool → Result LineAct Fault
  register free place room = cond free (or_fault faults.Like place >>= λ p. cond room (Ok (act.Register name p)) (Err faults.Groups)) (Err faults.Name)

  goes-register : (free : Bool) (place : Option ℕ) (room_whole room_alone : Bool) → IsKnown whole → IsKnown alone → (room_whole ≡ true → room_alone ≡ true) → (room_whole ≡ false → most_groups ≤ length whole.entries)
      → GoesAlike service whole alone name (register free place room_whole) (register free place room_alone) ⊎ IsUsedUp service whole (register free place room_whole)
  goes-register false place first second known_whole known_alone room full = inl (goes-fault faults.Name)
  goes-register true None first second known_whole known_alone room full = inl (goes-fault faults.Like)
  goes-register true (Some place) false second known_whole known_alone room full = inr (full refl, refl)
  goes-register true (Some place) true true known_whole known_alone room full = inl (goes-registered place known_whole known_alone)
  goes-register true (Some place) true false known_whole known_alone room full = absurd (let bad : false ≡ true = room refl in cc)

  none-same : is_none (number_of alone.entries name) ≡ is_none (number_of whole.entries name)
  none-same = elim alike [
    | inl none ↦ ap is_none none.1 ∙ sym (ap is_none none.0)
    | inr s ↦ ap is_none s.alone_number ∙ sym (ap is_none s.whole_number)
  ]

  free-same : is_free service alone.entries name ≡ is_free service whole.entries name
  free-same = ap (λ b. is_name name && b && is_none (find (λ c. bytes_eq c.0 name) service.commands)) none-same

-- the groups of these names are alike in both runs, in which no step was made in a group that was not registered
pub record AreAlike (names : List (List ℕ)) (whole alone : Course) : Type 0 where
  pub alike : (name : List ℕ) → is_among names name ≡ true → IsAlike whole alone name
  pub fewer : length alone.entries ≤ length whole.entries
  pub known_whole : IsKnown whole
  pub known_alone : IsKnown alone

-- a step of the group of the name, and its end
step-alike : (service : SettingsView) (whole alone : Course) (said : Said) → IsAlike whole alone said.group → length alone.entries ≤ length whole.entries
    → GoesAlike service whole alone said.group (act_of service whole.entries (a_step said)) (act_of service alone.entries (a_step said))
step-alike service whole alone said alike fewer = elim alike [
  | inl none ↦
      let is_whole : step_of service whole.entries said ≡ Err faults.Group =
      ap (λ found. or_fault faults.Group found >>= λ number. command_said service whole.entries number said.command >>= λ command. if_short command said.op >>= λ o. Ok (made number said o)) none.0 in
      let is_alone : step_of service alone.entries said ≡ Err faults.Group =
      ap (λ found. or_fault faults.Group found >>= λ number. command_said service alone.entries number said.command >>= λ command. if_short command said.op >>= λ o. Ok (made number said o)) none.1 in
      subst (λ r. GoesAlike service whole alone said.group (r >>= λ x. Ok (act.Step x)) (step_of service alone.entries said >>= λ x. Ok (act.Step x))) (sym is_whole)
      (subst (λ r. GoesAlike service whole alone said.group (Err faults.Group) (r >>= λ x. Ok (act.Step x))) (sym is_alone) (goes-fault service whole alone said.group (inl none) fewer faults.Group))
  | inr s ↦
      let r = command_said service whole.entries s.there said.command >>= λ command. if_short command said.op in
      let is_whole : step_of service whole.entries said ≡ (r >>= λ o. Ok (made s.there said o)) = step-at service whole.entries said s.there s.whole_number in
      let is_alone : step_of service alone.entries said ≡ (r >>= λ o. Ok (made s.here said o)) =
      step-at service alone.entries said s.here s.alone_number
      ∙ ap (λ c. (c >>= λ command. if_short command said.op) >>= λ o. Ok (made s.here said o)) (command-same service whole alone said.group s said.command) in
      subst (λ r. GoesAlike service whole alone said.group (r >>= λ x. Ok (act.Step x)) (step_of service alone.entries said >>= λ x. Ok (act.Step x))) (sym is_whole)
      (subst (λ q. GoesAlike service whole alone said.group ((r >>= λ o. Ok (made s.there said o)) >>= λ x. Ok (act.Step x)) (q >>= λ x. Ok (act.Step x))) (sym is_alone)
      (goes-said service whole alone said.group (inr s) fewer s said r))
]

end-alike : (service : SettingsView) (whole alone : Course) (name : List ℕ) → IsAlike whole alone name → length alone.entries ≤ length whole.entries
    → GoesAlike service whole alone name (act_of service whole.entries (an_end name)) (act_of service alone.entries (an_end name))
end-alike service whole alone name alike fewer = elim alike [
  | inl none ↦
      subst (λ o. GoesAlike service whole alone name (or_fault faults.Group o >>= λ n. Ok (act.Retire (record { 0 = n }))) (retirement alone.entries name)) (sym none.0)
      (subst (λ o. GoesAlike service whole alone name (Err faults.Group) (or_fault faults.Group o >>= λ n. Ok (act.Retire (record { 0 = n })))) (sym none.1) (goes-fault service whole alone name (inl none) fewer faults.Group))
  | inr s ↦
      subst (λ o. GoesAlike service whole alone name (or_fault faults.Group o >>= λ n. Ok (act.Retire (record { 0 = n }))) (retirement alone.entries name)) (sym s.whole_number)
      (subst (λ o. GoesAlike service whole alone name (Ok (act.Retire (record { 0 = s.there }))) (or_fault faults.Group o >>= λ n. Ok (act.Retire (record { 0 = n })))) (sym s.alone_number)
      (goes-retired service whole alone name (inr s) fewer s))
]

-- a line that asks something of it, unless it is a registration that finds no number left
pub asked-either : (service : SettingsView) (whole alone : Course) (asked : Asked) → IsAlike whole alone (group_of asked) → length alone.entries ≤ length whole.entries → IsKnown whole → IsKnown alone
    → GoesAlike service whole alone (group_of asked) (act_of service whole.entries asked) (act_of service alone.entries asked) ⊎ IsUsedUp service whole (act_of service whole.entries asked)
asked-either service whole alone (a_step said) alike fewer known_whole known_alone = inl (step-alike service whole alone said alike fewer)
asked-either service whole alone (an_end name) alike fewer known_whole known_alone = inl (end-alike service whole alone name alike fewer)
asked-either service whole alone (a_group name like) alike fewer known_whole known_alone =
    let place = group_number (names_in service).groups like in
    let room : nat_lt (length whole.entries) most_groups ≡ true → nat_lt (length alone.entries) most_groups ≡ true = λ some. grind (arith, nat_tests) in
    let full : nat_lt (length whole.entries) most_groups ≡ false → most_groups ≤ length whole.entries = λ none. grind (arith, nat_tests) in
    let free = free-same service whole alone name alike fewer in
    subst (λ v. GoesAlike service whole alone name (registration service whole.entries name like) (register service whole alone name alike fewer v place (nat_lt (length alone.entries) most_groups)) ⊎ IsUsedUp service whole (registration service whole.entries name like)) (sym free)
    (goes-register service whole alone name alike fewer (is_free service whole.entries name) place (nat_lt (length whole.entries) most_groups) (nat_lt (length alone.entries) most_groups) known_whole known_alone room full)

pub asked-alike : (service : SettingsView) (whole alone : Course) (asked : Asked) → IsAlike whole alone (group_of asked) → length alone.entries ≤ length whole.entries → IsKnown whole → IsKnown alone
    → answer_to service whole (act_of service whole.entries asked) ≢ fault_line faults.Groups
    → GoesAlike service whole alone (group_of asked) (act_of service whole.entries asked) (act_of service alone.entries asked)
asked-alike service whole alone asked alike fewer known_whole known_alone full = elim (asked-either service whole alone asked alike fewer known_whole known_alone) [
  | inl goes ↦ goes
  | inr used ↦ absurd (full used.1)
]

-- ---- a line more

-- what a line that is kept comes to in both
pub record StaysAlike (service : SettingsView) (names : List (List ℕ)) (whole alone : Course) (first second : Result LineAct Fault) : Type 0 where
  pub answer : answer_to service alone second ≡ answer_to service whole first
  pub alike : AreAlike names (course_with service whole first) (course_with service alone second)

pub kept-asked : (service : SettingsView) (names : List (List ℕ)) (whole alone : Course) (r : Result Asked Fault) → AreAlike names whole alone → is_asked_of names r ≡ true
    → answer_to service whole (act_asked service whole.entries r) ≢ fault_line faults.Groups
    → StaysAlike service names whole alone (act_asked service whole.entries r) (act_asked service alone.entries r)
kept-asked service names whole alone (Err fault) are is full = absurd (let bad : false ≡ true = is in cc)
kept-asked service names whole alone (Ok asked) are is full =
    let name = group_of asked in
    let goes = asked-alike service whole alone asked (are.alike name is) are.fewer are.known_whole are.known_alone full in record {
      answer = goes.answer;
      alike = record {
        alike = λ other among. elim (bytes_eq name other) as (λ v. bytes_eq name other ≡ v → IsAlike (course_with service whole (act_of service whole.entries asked)) (course_with service alone (act_of service alone.entries asked)) other) [
          | true ↦ λ same. subst (λ (n : List ℕ). IsAlike (course_with service whole (act_of service whole.entries asked)) (course_with service alone (act_of service alone.entries asked)) n) (equal name other same) goes.own
          | false ↦ λ differ. alike-left other whole alone _ _ (line-leaves service whole asked other differ) (line-leaves service alone asked other differ) (are.alike other among)
        ] refl;
        fewer = goes.fewer;
        known_whole = (line-grows service whole asked).known are.known_whole;
        known_alone = (line-grows service alone asked).known are.known_alone;
      };
    }

pub other-asked : (service : SettingsView) (names : List (List ℕ)) (whole alone : Course) (r : Result Asked Fault) → AreAlike names whole alone → is_asked_of names r ≡ false
    → AreAlike names (course_with service whole (act_asked service whole.entries r)) alone
other-asked service names whole alone (Err fault) are is = are
other-asked service names whole alone (Ok asked) are is =
    let grows = line-grows service whole asked in record {
      alike = λ other among.
          let differ : bytes_eq (group_of asked) other ≡ false =
          elim (bytes_eq (group_of asked) other) as (λ v. bytes_eq (group_of asked) other ≡ v → v ≡ false) [
            | true ↦ λ same. absurd (let both : false ≡ true = sym is ∙ ap (is_among names) (equal (group_of asked) other same) ∙ among in cc)
            | false ↦ λ _. refl
          ] refl in
          alike-left other whole alone _ _ (line-leaves service whole asked other differ) (leaves-same other alone) (are.alike other among);
      fewer = omega (arith, are.fewer, grows.more);
      known_whole = grows.known are.known_whole;
      known_alone = are.known_alone;
    }

kept-line : (service : SettingsView) (names : List (List ℕ)) (whole alone : Course) (bytes : List ℕ) → AreAlike names whole alone → names_one names bytes ≡ true
    → answer_to service whole (line_act service whole.entries bytes) ≢ fault_line faults.Groups
    → StaysAlike service names whole alone (line_act service whole.entries bytes) (line_act service alone.entries bytes)
unfolding line_act names_one
kept-line service names whole alone bytes are is full = kept-asked service names whole alone (line_asked bytes) are is full

other-line : (service : SettingsView) (names : List (List ℕ)) (whole alone : Course) (bytes : List ℕ) → AreAlike names whole alone → names_one names bytes ≡ false
    → AreAlike names (course_with service whole (line_act service whole.entries bytes)) alone
unfolding line_act names_one
other-line service names whole alone bytes are is = other-asked service names whole alone (line_asked bytes) are is

-- ---- all lines

answers-front : (service : SettingsView) (names : List (List ℕ)) (c : Cut) (whole alone : Course) → AreAlike names whole alone → (n : ℕ)
    → NoneUsedUp (take n (answers_of names (answers service whole c))) → take n (answers service alone (lines_of names c)) ≡ take n (answers_of names (answers service whole c))
unfolding answers
answers-front service names ended whole alone are n none = refl
answers-front service names stopped whole alone are n none = refl
answers-front service names (line bytes rest) whole alone are n none =
    let said = line_act service whole.entries bytes in
    let alone_said = line_act service alone.entries bytes in
    let later = course_with service whole said in
    let first : Answered = record { line = bytes; answer = answer_to service whole said } in
    let others = answers_of names (answers service later rest) in
    elim (names_one names bytes) as (λ v. names_one names bytes ≡ v → NoneUsedUp (take n (cond v (first ∷ others) others))
    → take n (answers service alone (cond v (line bytes (lines_of names rest)) (lines_of names rest))) ≡ take n (cond v (first ∷ others) others)) [
      | true ↦ λ is some. elim n as (λ m. NoneUsedUp (take m (first ∷ others)) → take m (answers service alone (line bytes (lines_of names rest))) ≡ take m (first ∷ others)) [
        | zero ↦ λ _. refl
        | suc m ↦ λ h.
            let stays = kept-line service names whole alone bytes are is h.0 in
            let alone_later = course_with service alone alone_said in
            ap (λ a. record { line = bytes; answer = a } ∷ take m (answers service alone_later (lines_of names rest))) stays.answer
            ∙ ap (λ l. first ∷ l) (answers-front service names rest later alone_later stays.alike m h.1)
      ] some
      | false ↦ λ is some. answers-front service names rest later alone (other-line service names whole alone bytes are is) n some
    ] refl none

-- a run that begins is alike to itself
pub begins-alike : (service : SettingsView) (names : List (List ℕ)) → AreAlike names (new_course service) (new_course service)
begins-alike service names = record {
  alike = λ name _. elim (number_of (new_course service).entries name) as (λ o. number_of (new_course service).entries name ≡ o → IsAlike (new_course service) (new_course service) name) [
    | None ↦ λ is. inl (is, is)
    | Some n ↦ λ is.
        let there = number-there (new_course service).entries name n is in
        inr (record { there = n; here = n; entry = there.entry; whole_number = is; alone_number = is; whole_entry = there.at; alone_entry = there.at; done = refl })
  ] refl;
  fewer = omega arith;
  known_whole = tt;
  known_alone = tt;
}

pub text-answers : (service : SettingsView) (course : Course) (c : Cut) → text service course c ≡ text_of (answers service course c)
unfolding text answers
text-answers service course ended = refl
text-answers service course stopped = refl
text-answers service course (line bytes rest) =
    let said = line_act service course.entries bytes in
    ap (λ l. answer_to service course said ++ l) (text-answers service (course_with service course said) rest)

pub text-is_answers : TextIsAnswers
text-is_answers service c = text-answers service (new_course service) c

-- the first answers to the lines that are left are those that they had among all others
pub front-alike : (service : SettingsView) (names : List (List ℕ)) (c : Cut) (n : ℕ) → NoneUsedUp (take n (answers_of names (all_answers service c)))
    → take n (all_answers service (lines_of names c)) ≡ take n (answers_of names (all_answers service c))
front-alike service names c n none = answers-front service names c (new_course service) (new_course service) (begins-alike service names) n none

-- and all are, where no registration was refused for want of a number
pub whole-alike : (service : SettingsView) (names : List (List ℕ)) (c : Cut) → NoneUsedUp (answers_of names (all_answers service c))
    → all_answers service (lines_of names c) ≡ answers_of names (all_answers service c)
whole-alike service names c none =
    let own_answers = answers_of names (all_answers service c) in
    let alone = all_answers service (lines_of names c) in
    let n = length own_answers + length alone in
    let all : take n own_answers ≡ own_answers = take_all n own_answers (omega arith) in
    sym (take_all n alone (omega arith)) ∙ front-alike service names c n (subst NoneUsedUp (sym all) none) ∙ all
