-- What the account has of the steps that were made.
use Rattle.std.proofs.Common.{◌≡◌, ◌≢◌, ◌<◌, ◌==◌, ◌&&◌, ℕ, inl, inr, Bool, true, false, not, cond, List, [], ◌∷◌, ◌++◌, length, Option, Some, None, option_map, slice_get, slice_set, refl, ap, sym, subst, ◌∙◌, arith, append_assoc, if◌then◌else◌}
use Rattle.std.specs.List.{AllByRecursion}
use Rattle.std.proofs.lemmas.Bool.Decides.{eqb_tells}
use Rattle.std.proofs.lemmas.List.{append-nil}
use Rattle.std.proofs.lemmas.List.Elements.{filter-append}
use Rattle.bh_base.specs.declared.reply.Reply.{Reply}
use Rattle.bh_base.specs.declared.step.Step.{Step}
use Rattle.bh_base.specs.Replies.{is_refusal}
use Rattle.bh_core.specs.CoreView.{CoreView}
use Rattle.bh_journal.specs.Replay.{JournalView, written}
use Rattle.bh_journal.proofs.Lists.{get_set_other, get_set_same}
use Rattle.bh_audit.specs.Books.{BookView, IsAudited, IsWritten}
use Rattle.bh_audit.proofs.Journals.{audited_written, journal_at, refused_same, registered}
use Rattle.bh_audit.proofs.Lists.{same_or_other}
use Rattle.bh_lender.specs.Account.{AreEntered, entries_at, entries_of, is_entry}
use Rattle.bh_lender.specs.Journals.{journals_with, written_in}
use Rattle.bh_lender.specs.Recorded.{IsMade, RecordedView}
use Rattle.bh_lender.specs.Steps.{AreSteps, Made}
use Rattle.bh_lender.proofs.Logging.{shown}

-- a refusal stands in no journal
refused_with : (audited : Bool) (x : Step) (r : Reply) (js : List JournalView) → is_refusal r ≡ true → journals_with audited x r js ≡ js
refused_with false x r js refused = refl
refused_with true x r js refused = ap (λ (b : Bool). if b then js else written_in x r js (slice_get js x.group.0)) refused

-- any other step stands in that of its group
taken_with : (x : Step) (r : Reply) (js : List JournalView) (j : JournalView) → is_refusal r ≡ false → slice_get js x.group.0 ≡ Some j → journals_with true x r js ≡ slice_set js x.group.0 (written j x r)
taken_with x r js j taken at =
    ap (λ (b : Bool). if b then js else written_in x r js (slice_get js x.group.0)) taken ∙ ap (written_in x r js) at

-- what a book says of its journals after a step
pub made_with : (old new : BookView) (place : Option ℕ) (x : Step) (r : Reply)
    → (is_refusal r ≡ true → (place ≡ None) × (new ≡ old)) → (old.audited ≡ true → is_refusal r ≡ false → IsWritten old.journals x.group.0 x r new.journals)
    → (old.audited ≡ false → new.journals ≡ old.journals) → new.journals ≡ journals_with old.audited x r old.journals
made_with old new place x r refused written unwritten = elim (shown (is_refusal r)) [
  | inl is ↦ ap (λ (b : BookView). b.journals) (refused is).1 ∙ sym (refused_with old.audited x r old.journals is)
  | inr taken ↦ elim (shown old.audited) [
    | inl audited ↦
        let w = written audited taken in
        w.2 ∙ sym (ap (λ (b : Bool). journals_with b x r old.journals) audited ∙ taken_with x r old.journals w.0 taken w.1)
    | inr plain ↦ unwritten plain ∙ sym (ap (λ (b : Bool). journals_with b x r old.journals) plain)
  ]
]

and_false : (b : Bool) → (b && false) ≡ false
and_false true = refl
and_false false = refl

-- whether a step stands in the journal of a group
entry_own : (group : ℕ) (x : Step) (r : Reply) → x.group.0 ≡ group → is_refusal r ≡ false → is_entry group (x, r) ≡ true
entry_own group x r own taken = elim (eqb_tells x.group.0 group) [
  | inl w ↦ ap (λ (b : Bool). b && not (is_refusal r)) w.0 ∙ ap not taken
  | inr w ↦ absurd (w.1 own)
]

entry_other : (group : ℕ) (x : Step) (r : Reply) → x.group.0 ≢ group → is_entry group (x, r) ≡ false
entry_other group x r other = elim (eqb_tells x.group.0 group) [
  | inl w ↦ absurd (other w.1)
  | inr w ↦ ap (λ (b : Bool). b && not (is_refusal r)) w.0
]

entry_refused : (group : ℕ) (x : Step) (r : Reply) → is_refusal r ≡ true → is_entry group (x, r) ≡ false
entry_refused group x r refused = ap (λ (b : Bool). (x.group.0 == group) && not b) refused ∙ and_false (x.group.0 == group)

one_in : (group : ℕ) (m : Made) → is_entry group m ≡ true → entries_of group (m ∷ []) ≡ m ∷ []
one_in group m is = ap (λ (b : Bool). cond b (m ∷ []) []) is

none_in : (group : ℕ) (m : Made) → is_entry group m ≡ false → entries_of group (m ∷ []) ≡ []
none_in group m is = ap (λ (b : Bool). cond b (m ∷ []) []) is

-- entries behind others, where there is a journal
abbrev behind : List Made → Option (List Made) → Option (List Made)
behind es o = option_map (λ (had : List Made). had ++ es) o

then_behind : (o : Option (List Made)) (some others : List Made) → behind others (behind some o) ≡ behind (some ++ others) o
then_behind None some others = refl
then_behind (Some had) some others = ap Some (append_assoc had some others)

none_behind : (o : Option (List Made)) → o ≡ behind [] o
none_behind None = refl
none_behind (Some had) = ap Some (sym (append-nil had))

-- a step that was no refusal is one entry more in the journal of its group, and none in another
entered_at : (group : ℕ) (js : List JournalView) (x : Step) (r : Reply) (j : JournalView) → is_refusal r ≡ false → slice_get js x.group.0 ≡ Some j → x.group.0 < length js
    → entries_at group (slice_set js x.group.0 (written j x r)) ≡ behind (entries_of group ((x, r) ∷ [])) (entries_at group js)
entered_at group js x r j taken at inside = elim (same_or_other group x.group.0) [
  | inl own ↦
      let P : ℕ → Type 0 = λ g. entries_at g (slice_set js x.group.0 (written j x r)) ≡ behind (entries_of g ((x, r) ∷ [])) (entries_at g js) in
      let here : P x.group.0 =
      ap (option_map (λ (k : JournalView). k.entries)) (get_set_same js x.group.0 (written j x r) inside)
      ∙ ap (λ (es : List Made). Some (j.entries ++ es)) (sym (one_in x.group.0 (x, r) (entry_own x.group.0 x r refl taken)))
      ∙ sym (ap (λ (o : Option JournalView). behind (entries_of x.group.0 ((x, r) ∷ [])) (option_map (λ (k : JournalView). k.entries) o)) at) in
      subst P (sym own) here
  | inr other ↦
      ap (option_map (λ (k : JournalView). k.entries)) (get_set_other js x.group.0 group (written j x r) other)
      ∙ none_behind (entries_at group js)
      ∙ ap (λ (es : List Made). behind es (entries_at group js)) (sym (none_in group (x, r) (entry_other group x r (λ e. other (sym e)))))
]

refused_entered : (old : RecordedView) (x : Step) (r : Reply) (mid : RecordedView) → IsMade old x r mid → old.audited ≡ true → IsAudited old.groups old.journals → is_refusal r ≡ true → AreEntered old ((x, r) ∷ []) mid
refused_entered old x r mid made audited agree refused =
    let same : mid.journals ≡ old.journals = made.2 ∙ refused_with old.audited x r old.journals refused in
    let still : mid.groups ≡ old.groups = refused_same old.groups mid.groups x r made.0 refused in
    let P : List JournalView → Type 0 = λ js. IsAudited mid.groups js in
    let Q : CoreView → Type 0 = λ groups. IsAudited groups old.journals in
    record {
      entered = λ group.
          ap (entries_at group) same ∙ none_behind (entries_at group old.journals)
          ∙ ap (λ (es : List Made). behind es (entries_at group old.journals)) (sym (none_in group (x, r) (entry_refused group x r refused)));
      kept = (λ taken. absurd (let both : true ≡ false = sym refused ∙ taken in cc), tt);
      agree = subst P (sym same) (subst Q (sym still) agree);
      audited = made.3 ∙ audited;
    }

taken_entered : (old : RecordedView) (x : Step) (r : Reply) (mid : RecordedView) → IsMade old x r mid → old.audited ≡ true → IsAudited old.groups old.journals → is_refusal r ≡ false → AreEntered old ((x, r) ∷ []) mid
taken_entered old x r mid made audited agree taken =
    let known = registered old.groups mid.groups x r made.0 taken in
    let has = journal_at old.groups old.journals x.group.0 agree known.2 in
    let inside : x.group.0 < length old.journals = (let lt = known.2 in let same = agree.same in omega arith) in
    let set : mid.journals ≡ slice_set old.journals x.group.0 (written has.0 x r) =
    made.2 ∙ ap (λ (b : Bool). journals_with b x r old.journals) audited ∙ taken_with x r old.journals has.0 taken has.1 in
    let P : List JournalView → Type 0 = λ js. IsAudited mid.groups js in
    record {
      entered = λ group. ap (entries_at group) set ∙ entered_at group old.journals x r has.0 taken has.1 inside;
      kept = (λ is. inside, tt);
      agree = subst P (sym set) (audited_written old.groups mid.groups old.journals x r has.0 agree made.0 taken has.1);
      audited = made.3 ∙ audited;
    }

-- one step that was made is in the account
one_entered : (old : RecordedView) (x : Step) (r : Reply) (mid : RecordedView) → IsMade old x r mid → old.audited ≡ true → IsAudited old.groups old.journals → AreEntered old ((x, r) ∷ []) mid
one_entered old x r mid made audited agree = elim (shown (is_refusal r)) [
  | inl refused ↦ refused_entered old x r mid made audited agree refused
  | inr taken ↦ taken_entered old x r mid made audited agree taken
]

-- and so are all
pub are_entered : (old : RecordedView) (made : List Made) (new : RecordedView) → AreSteps old made new → old.audited ≡ true → IsAudited old.groups old.journals → AreEntered old made new
are_entered old [] new same audited agree =
    let P : RecordedView → Type 0 = λ r. AreEntered old [] r in
    subst P (sym same) (record { entered = λ group. none_behind (entries_at group old.journals); kept = tt; agree = agree; audited = audited })
are_entered old ((x, r) ∷ ms) new (mid, first, others) audited agree =
    let one : AreEntered old ((x, r) ∷ []) mid = one_entered old x r mid first audited agree in
    let rest : AreEntered mid ms new = are_entered mid ms new others one.audited one.agree in
    let count : length mid.journals ≡ length old.journals = one.agree.same ∙ first.0.count ∙ sym agree.same in
    let P : ℕ → Type 0 = λ n. AllByRecursion (λ (m : Made). is_refusal m.1 ≡ false → m.0.group.0 < n) ms in
    record {
      entered = λ group.
          rest.entered group ∙ ap (behind (entries_of group ms)) (one.entered group)
          ∙ then_behind (entries_at group old.journals) (entries_of group ((x, r) ∷ [])) (entries_of group ms)
          ∙ ap (λ (es : List Made). behind es (entries_at group old.journals)) (sym (filter-append (is_entry group) ((x, r) ∷ []) ms));
      kept = (one.kept.0, subst P count rest.kept);
      agree = rest.agree;
      audited = rest.audited;
    }

-- where no journals are kept they stay
pub stays_plain : (old : RecordedView) (made : List Made) (new : RecordedView) → AreSteps old made new → old.audited ≡ false → (new.journals ≡ old.journals) × (new.audited ≡ false)
stays_plain old [] new same plain = (ap (λ (r : RecordedView). r.journals) same, ap (λ (r : RecordedView). r.audited) same ∙ plain)
stays_plain old (m ∷ ms) new (mid, first, others) plain =
    let rest = stays_plain mid ms new others (first.3 ∙ plain) in
    (rest.0 ∙ first.2 ∙ ap (λ (b : Bool). journals_with b m.0 m.1 old.journals) plain, rest.1)
