-- Moments before which no ticket of a group is due, and what leaves them so.
use Rattle.std.proofs.Common.{◌≡◌, ◌≢◌, ℕ, zero, suc, ◌+◌, ◌-◌, ◌<◌, ◌≤◌, Bool, true, false, List, [], ◌∷◌, ◌++◌, filter, length, Option, None, Some, refl, ap, sym, ◌∙◌, subst, inl, inr, arith, length-append, replicate}
use Rattle.std.specs.Prelude.{◌&&◌, ◌||◌, Err, Ok, OnErr, OnOk, Result, if◌then◌else◌, max, nat_le, slice_get, slice_set}
use Rattle.std.specs.List.{list_any}
use Rattle.std.proofs.lemmas.Bool.Decides.{nat_tests}
use Rattle.std.proofs.lemmas.List.{length-set, length-replicate}
use Rattle.std.proofs.lemmas.Option.{slice_get_cases}
use Rattle.bh_base.specs.Props.{GroupProps}
use Rattle.bh_base.specs.Commands.{props_of}
use Rattle.bh_base.specs.Machine.{Present, is_due}
use Rattle.bh_base.specs.Runs.{View, begun, is_worn, opened, view}
use Rattle.bh_base.specs.Seen.{view_reply}
use Rattle.bh_base.specs.Tickets.{is_queued, is_running}
use Rattle.bh_base.specs.declared.reply.Reply.{Reply}
use Rattle.bh_base.specs.declared.reply.Reply.TheVariants as reply
use Rattle.bh_base.specs.declared.step.Op.TheVariants as op
use Rattle.bh_base.specs.declared.step.Step.{Step}
use Rattle.bh_base.specs.declared.ticket.Ticket.{Ticket}
use Rattle.bh_core.specs.Acts.{with_opened}
use Rattle.bh_core.specs.CoreView.{CoreView, Life, living, retired, shown_by, view_at, with_retired}
use Rattle.bh_core.specs.Looks.{expires_some}
use Rattle.bh_core.specs.Step.{IsStep}
use Rattle.bh_core.proofs.Looks.{expire_seen}
use Rattle.bh_journal.proofs.Lists.{get_set_other, get_set_same, get_snoc}
use Rattle.bh_audit.specs.Calls.{would_expire}
use Rattle.bh_audit.specs.Quiet.{AreQuiet}
use Rattle.bh_audit.proofs.Lists.{get_replicate, one_item, same_or_other}

-- where no ticket passes a test, none passes one that asks for more
none_more : (p q : Ticket → Bool) (ts : List Ticket) → ((t : Ticket) → q t ≡ true → p t ≡ true) → list_any p ts ≡ false → list_any q ts ≡ false
none_more p q [] more none = refl
none_more p q (t ∷ ts) more none = at (p t) (q t) (more t) none (none_more p q ts more)
  where
    at : (a b : Bool) → (b ≡ true → a ≡ true) → (a || list_any p ts) ≡ false → (list_any p ts ≡ false → list_any q ts ≡ false) → (b || list_any q ts) ≡ false
    at true b m h rest = absurd cc
    at false true m h rest = absurd (let both : false ≡ true = m refl in cc)
    at false false m h rest = rest h

longer_waits : (on now : Bool) (limit since a b : ℕ) → a ≤ b → (on && now && nat_le limit (a - since)) ≡ true → (on && now && nat_le limit (b - since)) ≡ true
longer_waits false now limit since a b le h = absurd cc
longer_waits true false limit since a b le h = absurd cc
longer_waits true true limit since a b le h = grind (arith, nat_tests)

-- a ticket that is due is due later too
due_later : (g : Present) (m m' : ℕ) (t : Ticket) → m ≤ m' → is_due (begun m g) t ≡ true → is_due (begun m' g) t ≡ true
due_later g m m' t le due =
    let props = props_of t.command g.props in
    longer_waits props.timeout_on (is_queued t || is_running t) props.timeout_ms t.submitted (max g.latest m) (max g.latest m') (omega arith) due

-- where none is due by a moment, none is due before it
not_due_before : (v : View) (m m' : ℕ) → m ≤ m' → expires_some (view_reply v op.Expire m') ≡ false → expires_some (view_reply v op.Expire m) ≡ false
not_due_before v m m' le none = at (is_worn v.present) refl
  where
    at : (worn : Bool) → is_worn v.present ≡ worn → expires_some (view_reply v op.Expire m) ≡ false
    at true is = ap (λ b. expires_some (if b then reply.Worn else reply.Expired (length (filter (is_due (begun m v.present)) v.present.tickets)))) is
    at false is =
        sym (expire_seen v m is)
        ∙ none_more (is_due (begun m' v.present)) (is_due (begun m v.present)) v.present.tickets (λ t. due_later v.present m m' t le) (expire_seen v m' is ∙ none)

pub quiet_before : (shown : Option View) (m m' : ℕ) → m ≤ m' → would_expire shown m' ≡ false → would_expire shown m ≡ false
quiet_before None m m' le none = refl
quiet_before (Some v) m m' le none = not_due_before v m m' le none

-- what the core says of a group that may be registered or not
pub due_seen : (shown : Option View) (moment : ℕ) (due : Bool) → ((v : View) → shown ≡ Some v → due ≡ expires_some (view_reply v op.Expire moment)) → (shown ≡ None → due ≡ false) → due ≡ would_expire shown moment
due_seen None moment due known unknown = unknown refl
due_seen (Some v) moment due known unknown = known v refl

-- of groups of which nothing is known
pub quiet_new : (groups : CoreView) (until : List ℕ) → until ≡ replicate (length groups.lives) 0 → AreQuiet groups until
quiet_new groups until is = record {
  same = ap (λ (us : List ℕ). length us) is ∙ length-replicate (length groups.lives) 0;
  quiet = λ group end moment at lt.
      let none : end ≡ 0 = get_replicate (length groups.lives) group 0 end (ap (λ (us : List ℕ). slice_get us group) (sym is) ∙ at) in
      absurd (omega arith);
}

-- what is written for one group
written_or_old : {C : Type 0} (until : List ℕ) (group place end written : ℕ) → slice_get (slice_set until place written) group ≡ Some end → (group ≡ place → end ≡ written → C) → (group ≢ place → slice_get until group ≡ Some end → C) → C
written_or_old until group place end written at new old = elim (same_or_other group place) [
  | inl e ↦
      let here : slice_get (slice_set until place written) place ≡ Some end = ap (slice_get (slice_set until place written)) (sym e) ∙ at in
      new e (elim ((slice_get_cases (slice_set until place written) place).1) [
        | inl w ↦ sym (one_item (slice_get (slice_set until place written) place) written end (get_set_same until place written (let lt = w.1 in omega (arith, length-set until place written))) here)
        | inr w ↦ absurd (let none = w.1 in cc)
      ])
  | inr n ↦ old n (sym (get_set_other until place group written n) ∙ at)
]

-- a group of which is known that none is due by a moment
pub quiet_noted : (groups : CoreView) (until : List ℕ) (place end : ℕ) → AreQuiet groups until → would_expire (view_at groups place) end ≡ false → AreQuiet groups (slice_set until place end)
quiet_noted groups until place end quiet none = record {
  same = length-set until place end ∙ quiet.same;
  quiet = λ group e moment at lt.
      written_or_old until group place e end at
      (λ here is. ap (λ g. would_expire (view_at groups g) moment) here ∙ quiet_before (view_at groups place) moment end (omega arith) none)
      (λ there was. quiet.quiet group e moment was lt);
}

-- after a step nothing is known of its group
pub quiet_after : (old new : CoreView) (until : List ℕ) (x : Step) (r : Reply) → AreQuiet old until → IsStep old x r new → AreQuiet new (slice_set until x.group.0 0)
quiet_after old new until x r quiet s = record {
  same = length-set until x.group.0 0 ∙ quiet.same ∙ sym s.count;
  quiet = λ group e moment at lt.
      written_or_old until group x.group.0 e 0 at
      (λ here is. absurd (omega arith))
      (λ there was. ap (λ (l : Option Life). would_expire (shown_by l) moment) (s.others group there) ∙ quiet.quiet group e moment was lt);
}

get_old : {X : Type 0} (xs : List X) (x : X) (i : ℕ) → i < length xs → slice_get (xs ++ x ∷ []) i ≡ slice_get xs i
get_old [] x i lt = absurd (omega arith)
get_old (z ∷ zs) x zero lt = refl
get_old (z ∷ zs) x (suc i) lt = get_old zs x i (omega arith)

-- nor of a new group
quiet_more : (groups : CoreView) (until : List ℕ) (props : GroupProps) (limit : ℕ) → AreQuiet groups until → AreQuiet (with_opened props limit groups) (until ++ 0 ∷ [])
quiet_more groups until props limit quiet = record {
  same = length-append until (0 ∷ []) ∙ ap (λ n. n + 1) quiet.same ∙ sym (length-append groups.lives (living (view (opened props limit)) ∷ []));
  quiet = λ group e moment at lt. elim (get_snoc until 0 e group at) [
    | inl was ↦
        let inside : group < length groups.lives = elim ((slice_get_cases until group).1) [ inl w ↦ (let lt = w.1 in let same = quiet.same in omega arith) | inr w ↦ absurd (let none = w.1 in cc) ] in
        ap (λ (l : Option Life). would_expire (shown_by l) moment) (get_old groups.lives (living (view (opened props limit))) group inside) ∙ quiet.quiet group e moment was lt
    | inr new ↦ absurd (let none = new.1 in omega arith)
  ];
}

pub quiet_registered : (old new : CoreView) (until after : List ℕ) (props : GroupProps) (limit : ℕ) → new ≡ with_opened props limit old → after ≡ until ++ 0 ∷ [] → AreQuiet old until → AreQuiet new after
quiet_registered old new until after props limit opens behind quiet = rw opens (rw behind (quiet_more old until props limit quiet))

-- in a retired group none is due
quiet_less : (groups : CoreView) (until : List ℕ) (id : ℕ) (v : View) → AreQuiet groups until → AreQuiet (with_retired id v groups) until
quiet_less groups until id v quiet = record {
  same = quiet.same ∙ sym (length-set groups.lives id (retired v.present.props v.present.limit));
  quiet = λ group e moment at lt. elim (same_or_other group id) [
    | inl here ↦ none_shown (slice_get (with_retired id v groups).lives group) moment (λ l is. retired_here group l here is)
    | inr there ↦ ap (λ (l : Option Life). would_expire (shown_by l) moment) (get_set_other groups.lives id group (retired v.present.props v.present.limit) there) ∙ quiet.quiet group e moment at lt
  ];
}
  where
    retired_here : (group : ℕ) (l : Life) → group ≡ id → slice_get (slice_set groups.lives id (retired v.present.props v.present.limit)) group ≡ Some l → l ≡ retired v.present.props v.present.limit
    retired_here group l here is =
        let at_id : slice_get (slice_set groups.lives id (retired v.present.props v.present.limit)) id ≡ Some l = ap (slice_get (slice_set groups.lives id (retired v.present.props v.present.limit))) (sym here) ∙ is in
        elim ((slice_get_cases (slice_set groups.lives id (retired v.present.props v.present.limit)) id).1) [
          | inl w ↦ sym (one_item (slice_get (slice_set groups.lives id (retired v.present.props v.present.limit)) id) (retired v.present.props v.present.limit) l (get_set_same groups.lives id (retired v.present.props v.present.limit) (let lt = w.1 in omega (arith, length-set groups.lives id (retired v.present.props v.present.limit)))) at_id)
          | inr w ↦ absurd (let none = w.1 in cc)
        ]

    none_shown : (o : Option Life) (moment : ℕ) → ((l : Life) → o ≡ Some l → l ≡ retired v.present.props v.present.limit) → would_expire (shown_by o) moment ≡ false
    none_shown None moment is = refl
    none_shown (Some l) moment is = ap (λ k. would_expire (shown_by (Some k)) moment) (is l refl)

pub quiet_retired : {E : Type 0} (old new : CoreView) (until : List ℕ) (id : ℕ) (r : Result (Unit {0}) E) → OnOk r ((v : View) × (view_at old id ≡ Some v) × (new ≡ with_retired id v old)) → OnErr r (new ≡ old) → AreQuiet old until → AreQuiet new until
quiet_retired old new until id (Ok done) ended err quiet = let P : CoreView → Type 0 = λ gs. AreQuiet gs until in subst P (sym ended.2) (quiet_less old until id ended.0 quiet)
quiet_retired old new until id (Err e) ended err quiet = let P : CoreView → Type 0 = λ gs. AreQuiet gs until in subst P (sym err) quiet
