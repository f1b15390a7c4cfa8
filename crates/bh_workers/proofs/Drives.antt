-- What all threads of a drive add up to.
use Rattle.std.proofs.Common.{◌≡◌, ◌≢◌, ℕ, zero, suc, ◌+◌, ◌*◌, ◌<◌, ◌≤◌, Bool, true, false, List, [], ◌∷◌, ◌++◌, length, map, take, drop, slice_get, Some, None, ◌⊎◌, inl, inr, refl, sym, ap, ◌∙◌, append_assoc, append-nil, length-append, subst, arith}
use Rattle.std.specs.Prelude.{IfOk, Ok, Err, Result, if◌then◌else◌, vec_items}
use Rattle.std.specs.List.{AllByRecursion}
use Rattle.std.specs.declared.thread.PromisedHandle.{PromisedHandle}
use Rattle.std.proofs.lemmas.List.{take-append-le, take_all}
use Rattle.bh_base.specs.declared.step.GroupId.{GroupId}
use Rattle.bh_base.specs.declared.step.FallbackEnd.{FallbackEnd}
use Rattle.bh_base.specs.declared.step.Request.{Request}
use Rattle.bh_base.specs.declared.step.RunEnd.{RunEnd}
use Rattle.bh_base.specs.declared.reply.Answer.{Answer}
use Rattle.bh_base.specs.declared.reply.CallError.{CallError}
use Rattle.bh_base.specs.declared.reply.CallError.TheVariants as error
use Rattle.bh_base.specs.declared.reply.Cause.{Cause}
use Rattle.bh_journal.specs.declared.pass.Marks.{Marks}
use Rattle.bh_journal.specs.declared.pass.Receipt.{Receipt}
use Rattle.bh_journal.specs.Passes.{PassView}
use Rattle.bh_audit.proofs.Lists.{one_item}
use Rattle.bh_workers.specs.declared.caller_threads.Called.{Called}
use Rattle.bh_workers.specs.declared.caller_threads.CallerOf.{CallerOf}
use Rattle.bh_workers.specs.declared.driving.Driven.{Driven}
use Rattle.bh_workers.specs.declared.driving.RequestList.{RequestList}
use Rattle.bh_workers.specs.Receipts.{Gains, kept}
use Rattle.bh_workers.specs.Calls.{IsCall, MarksAre}
use Rattle.bh_workers.specs.Callers.{AllCallers, ArePassesOf, CalledAs, IsCallerOf, MakesCall, first_pass}
use Rattle.bh_workers.specs.Driving.{AreCallers, AreCalls, FindRoom, HasRoomFor, IsCaller, IsDriven, IsMarked, IsTimerPass, IsWorkerPass, NoneIsFull}
use Rattle.bh_workers.specs.Timing.{AreExpiries, AreTimed}

-- what was added to an empty pass is all that it has
pub all_gained : (a : Bool) (p q : PassView) (made : List Receipt) (IsSo : GroupId → List Receipt → Type 0) → p.receipts ≡ [] → Gains a p q made → IsSo p.group made → IsSo p.group [] → IsSo q.group q.receipts
all_gained true p q made IsSo none g so nil =
    let receipts : q.receipts ≡ made = g.receipts ∙ ap (λ (x : List Receipt). x ++ made) none in
    subst (λ x. IsSo x q.receipts) (sym g.group) (subst (λ x. IsSo p.group x) (sym receipts) so)
all_gained false p q made IsSo none g so nil =
    let receipts : q.receipts ≡ [] = g.receipts ∙ append-nil p.receipts ∙ none in
    subst (λ x. IsSo x q.receipts) (sym g.group) (subst (λ x. IsSo p.group x) (sym receipts) nil)

-- one more item
pub all_push : {X : Type 0} (IsSo : X → Type 0) (xs : List X) (x : X) → AllByRecursion IsSo xs → IsSo x → AllByRecursion IsSo (xs ++ x ∷ [])
all_push IsSo [] x all so = (so, tt)
all_push IsSo (y ∷ ys) x all so = (all.0, all_push IsSo ys x all.1 so)

-- more items
pub all_append : {X : Type 0} (IsSo : X → Type 0) (xs ys : List X) → AllByRecursion IsSo xs → AllByRecursion IsSo ys → AllByRecursion IsSo (xs ++ ys)
all_append IsSo [] ys all more = more
all_append IsSo (x ∷ xs) ys all more = (all.0, all_append IsSo xs ys all.1 more)

-- what is so of the item at each place is so of all
pub all_places : {X : Type 0} (IsSo : X → Type 0) (xs : List X) → ((k : ℕ) (x : X) → slice_get xs k ≡ Some x → IsSo x) → AllByRecursion IsSo xs
all_places IsSo [] each = tt
all_places IsSo (x ∷ xs) each = (each 0 x refl, all_places IsSo xs (λ k y at. each (suc k) y at))

-- a slice of the whole, written back
pub whole_back : (n : ℕ) (new old : List PassView) → length new ≡ length old → n ≡ length old → take n (new ++ drop (length new) old) ≡ new
whole_back n new old e f =
    let le : n ≤ length new = omega arith in
    let le' : length new ≤ n = omega arith in
    rw take-append-le (take_all n new le')

-- passes that were empty before the timer was at them
pub timer_passes : (moments : ℕ → Type 0) (a : Bool) (old new : List PassView) → AllByRecursion (λ (p : PassView). p.receipts ≡ []) old → AreTimed moments a old new → AllByRecursion (IsTimerPass moments) new
timer_passes moments a [] [] none t = tt
timer_passes moments a [] (q ∷ qs) none t = absurd (let e = t.count in omega arith)
timer_passes moments a (p ∷ ps) [] none t = absurd (let e = t.count in omega arith)
timer_passes moments a (p ∷ ps) (q ∷ qs) none t =
    let h = t.each 0 p q refl refl in (
      all_gained a p q h.made (AreExpiries moments) none.0 h.gains h.expiries tt,
      timer_passes moments a ps qs none.1 (record { count = (let e = t.count in omega arith); each = λ k x y at is. t.each (suc k) x y at is }),
    )

-- marks that were set stay set
record MarksStay (m m' : Marks) : Type 0 where
  pub worn : m.worn ≡ true → m'.worn ≡ true
  pub no_group : m.no_group ≡ true → m'.no_group ≡ true
  pub stopped : m.stopped ≡ true → m'.stopped ≡ true

same_stay : (m m' : Marks) → m' ≡ m → MarksStay m m'
same_stay m m' e = record { worn = λ h. ap (λ (x : Marks). x.worn) e ∙ h; no_group = λ h. ap (λ (x : Marks). x.no_group) e ∙ h; stopped = λ h. ap (λ (x : Marks). x.stopped) e ∙ h }

marks_stay : (result : Result Answer CallError) (made : List Receipt) (m m' : Marks) → MarksAre result made m m' → MarksStay m m'
marks_stay (Ok answer) made m m' h = same_stay m m' h
marks_stay (Err error.GroupFull) made m m' h = same_stay m m' h
marks_stay (Err error.PassFull) made m m' h = same_stay m m' h
marks_stay (Err error.NoCommand) made m m' h = same_stay m m' h
marks_stay (Err error.Taken) made m m' h = same_stay m m' h
marks_stay (Err error.Worn) made m m' h =
    record { worn = λ k. ap (λ (x : Marks). x.worn) h; no_group = λ k. ap (λ (x : Marks). x.no_group) h ∙ k; stopped = λ k. ap (λ (x : Marks). x.stopped) h ∙ k }
marks_stay (Err error.NoGroup) made m m' h =
    record { worn = λ k. ap (λ (x : Marks). x.worn) h ∙ k; no_group = λ k. ap (λ (x : Marks). x.no_group) h; stopped = λ k. ap (λ (x : Marks). x.stopped) h ∙ k }
marks_stay (Err error.Stopped) made m m' (inl h) =
    record { worn = λ k. ap (λ (x : Marks). x.worn) h ∙ k; no_group = λ k. ap (λ (x : Marks). x.no_group) h ∙ k; stopped = λ k. ap (λ (x : Marks). x.stopped) h }
marks_stay (Err error.Stopped) made m m' (inr h) = same_stay m m' h.0

-- the marks after a call tell why it ended
marked : (result : Result Answer CallError) (made : List Receipt) (m m' : Marks) → MarksAre result made m m' → IsMarked m' result made
marked (Ok answer) made m m' h = tt
marked (Err error.GroupFull) made m m' h = tt
marked (Err error.PassFull) made m m' h = tt
marked (Err error.NoCommand) made m m' h = tt
marked (Err error.Taken) made m m' h = tt
marked (Err error.Worn) made m m' h = ap (λ (x : Marks). x.worn) h
marked (Err error.NoGroup) made m m' h = ap (λ (x : Marks). x.no_group) h
marked (Err error.Stopped) made m m' (inl h) = inl (ap (λ (x : Marks). x.stopped) h)
marked (Err error.Stopped) made m m' (inr h) = inr h.1

-- and so do later marks
still_marked : (result : Result Answer CallError) (part : List Receipt) (m m' : Marks) → MarksStay m m' → IsMarked m result part → IsMarked m' result part
still_marked (Ok answer) part m m' s h = tt
still_marked (Err error.GroupFull) part m m' s h = tt
still_marked (Err error.PassFull) part m m' s h = tt
still_marked (Err error.NoCommand) part m m' s h = tt
still_marked (Err error.Taken) part m m' s h = tt
still_marked (Err error.Worn) part m m' s h = s.worn h
still_marked (Err error.NoGroup) part m m' s h = s.no_group h
still_marked (Err error.Stopped) part m m' s (inl h) = inl (s.stopped h)
still_marked (Err error.Stopped) part m m' s (inr h) = inr h

module _ (ends : GroupId → ℕ → List ℕ → RunEnd → Type 0) (fallback_ends : GroupId → ℕ → Cause → List ℕ → FallbackEnd → Type 0) (moments : ℕ → Type 0) where
  -- calls, and one more
  calls_then : (g : GroupId) (m m' : Marks) (qs : List Request) (bs : List (Result Answer CallError)) (rs : List Receipt) (q : Request) (b : Result Answer CallError) (part : List Receipt)
      → MarksStay m m' → AreCalls ends fallback_ends moments g m qs bs rs → IsCall ends fallback_ends moments g q b part → IsMarked m' b part
      → AreCalls ends fallback_ends moments g m' (qs ++ q ∷ []) (bs ++ b ∷ []) (rs ++ part)
  calls_then g m m' [] [] rs q b part s h k now = (part, [], ap (λ (x : List Receipt). x ++ part) h ∙ sym (append-nil part), k, now, refl)
  calls_then g m m' [] (x ∷ bs) rs q b part s h k now = absurd h
  calls_then g m m' (y ∷ qs) [] rs q b part s h k now = absurd h
  calls_then g m m' (y ∷ qs) (x ∷ bs) rs q b part s h k now = (
    h.0,
    h.1 ++ part,
    ap (λ (z : List Receipt). z ++ part) h.2 ∙ append_assoc h.0 h.1 part,
    h.3,
    still_marked x h.0 m m' s h.4,
    calls_then g m m' qs bs h.1 q b part s h.5 k now,
  )

  -- no call yet
  pub calls_begin : (a : Bool) (p : PassView) (answers : List (Result Answer CallError)) → p.receipts ≡ [] → answers ≡ [] → IsCaller ends fallback_ends moments a p.group [] answers p
  calls_begin a p answers none empty = record {
    group = refl;
    count = ap (λ (x : List (Result Answer CallError)). length x) empty;
    calls = λ audited. subst (λ (x : List (Result Answer CallError)). AreCalls ends fallback_ends moments p.group p.marks [] x p.receipts) (sym empty) none;
  }

  -- one call more
  pub calls_go_on : (a : Bool) (g : GroupId) (qs : List Request) (bs bs' : List (Result Answer CallError)) (p p' : PassView) (q : Request)
      → IsCaller ends fallback_ends moments a g qs bs p → MakesCall ends fallback_ends moments a p bs q p' bs' → IsCaller ends fallback_ends moments a g (qs ++ q ∷ []) bs' p'
  calls_go_on a g qs bs bs' p p' q s h =
      let b : Result Answer CallError = h.0 in
      let k = h.2 in
      record {
        group = k.gains.group ∙ s.group;
        count = ap (λ (x : List (Result Answer CallError)). length x) h.1 ∙ longer bs b qs q s.count;
        calls = λ audited.
            let receipts : p'.receipts ≡ p.receipts ++ k.made = subst (λ x. p'.receipts ≡ p.receipts ++ kept x k.made) audited k.gains.receipts in
            let call : IsCall ends fallback_ends moments g q b k.made = subst (λ x. IsCall ends fallback_ends moments x q b k.made) s.group k.is in
            subst (λ (x : List (Result Answer CallError)). AreCalls ends fallback_ends moments g p'.marks (qs ++ q ∷ []) x p'.receipts) (sym h.1)
            (subst (λ (x : List Receipt). AreCalls ends fallback_ends moments g p'.marks (qs ++ q ∷ []) (bs ++ b ∷ []) x) (sym receipts)
            (calls_then g p.marks p'.marks qs bs p.receipts q b k.made (marks_stay b k.made p.marks p'.marks k.marks) (s.calls audited) call (marked b k.made p.marks p'.marks k.marks)));
      }
    where
      longer : (xs : List (Result Answer CallError)) (x : Result Answer CallError) (ys : List Request) (y : Request) → length xs ≡ length ys → length (xs ++ x ∷ []) ≡ length (ys ++ y ∷ [])
      longer xs x ys y e = let h = length-append xs (x ∷ []) in let k = length-append ys (y ∷ []) in omega arith

  -- each caller gave back what its promise says
  abbrev pub AllCalled : Bool → ℕ → List RequestList → List Called → Type 0
  AllCalled a room lists called =
      (k : ℕ) (l : RequestList) (r : Called) → slice_get lists k ≡ Some l → slice_get called k ≡ Some r → CalledAs ends fallback_ends moments a l.group room l.requests.items r

  -- so their answers and passes are those of callers
  pub callers_from : (a : Bool) (room : ℕ) (lists : List RequestList) (called : List Called) → length called ≡ length lists → AllCalled a room lists called
      → AreCallers ends fallback_ends moments a lists (map vec_items (map (λ (r : Called). r.answers) called)) (map (λ (r : Called). r.pass) called)
  callers_from a room [] [] len each = tt
  callers_from a room [] (r ∷ rs) len each = absurd (let e = len in omega arith)
  callers_from a room (l ∷ ls) [] len each = absurd (let e = len in omega arith)
  callers_from a room (l ∷ ls) (r ∷ rs) len each =
      ((each 0 l r refl refl).caller, callers_from a room ls rs (let e = len in omega arith) (λ k x y at is. each (suc k) x y at is))

  -- and none of them was refused for want of room where there was some
  pub room_found : (a : Bool) (room : ℕ) (lists : List RequestList) (called : List Called) → length called ≡ length lists → AllCalled a room lists called
      → FindRoom a room lists (map vec_items (map (λ (r : Called). r.answers) called))
  room_found a room [] [] len each = tt
  room_found a room [] (r ∷ rs) len each = absurd (let e = len in omega arith)
  room_found a room (l ∷ ls) [] len each = absurd (let e = len in omega arith)
  room_found a room (l ∷ ls) (r ∷ rs) len each =
      ((each 0 l r refl refl).unrefused, room_found a room ls rs (let e = len in omega arith) (λ k x y at is. each (suc k) x y at is))

  -- what all threads gave back is what comes back from a drive
  pub driven_from : {E : Type 0} (a : Bool) (lists : List RequestList) (called : List Called) (workers timer : List PassView) (result : Result Driven E)
      → IfOk result (λ d. d.answers.items ≡ map (λ (r : Called). r.answers) called) → IfOk result (λ d. d.passes.items ≡ map (λ (r : Called). r.pass) called ++ (workers ++ timer))
      → AreCallers ends fallback_ends moments a lists (map vec_items (map (λ (r : Called). r.answers) called)) (map (λ (r : Called). r.pass) called)
      → AllByRecursion (IsWorkerPass ends moments) workers → AllByRecursion (IsTimerPass moments) timer → IfOk result (λ d. IsDriven ends fallback_ends moments a lists d)
  driven_from a lists called workers timer (Ok d) answers passes callers worked timed = record {
    callers = map (λ (r : Called). r.pass) called;
    workers = workers;
    timer = timer;
    passes = passes;
    called = rw answers callers;
    worked = worked;
    timed = timed;
  }
  driven_from a lists called workers timer (Err e) answers passes callers worked timed = tt

get_snoc : {X : Type 0} (xs : List X) (y : X) (k : ℕ) (z : X) → slice_get (xs ++ y ∷ []) k ≡ Some z → (slice_get xs k ≡ Some z) ⊎ ((k ≡ length xs) × (y ≡ z))
get_snoc [] y zero z e = inr (refl, cc)
get_snoc [] y (suc k) z e = absurd (let h : None ≡ Some z = e in cc)
get_snoc (x ∷ xs) y zero z e = inl e
get_snoc (x ∷ xs) y (suc k) z e = elim (get_snoc xs y k z e) [ inl h ↦ inl h | inr h ↦ inr (ap suc h.0, h.1) ]

-- one more caller was started
pub callers_push : {D C : Type 0} (a : Bool) (lists : List RequestList) (passes : List PassView) (hs : List (PromisedHandle Called (CallerOf D C))) (h : PromisedHandle Called (CallerOf D C)) (i : ℕ) (l : RequestList) (p : PassView)
    → AllCallers a lists passes hs → length hs ≡ i → slice_get lists i ≡ Some l → slice_get passes i ≡ Some p → IsCallerOf a l p h.promise → AllCallers a lists passes (hs ++ h ∷ [])
callers_push {D} {C} a lists passes hs h i l p all len listed taken is k l' p' h' atl atp ath =
    elim (get_snoc hs h k h' ath) [
      | inl old ↦ all k l' p' h' atl atp old
      | inr w ↦
          let same_list : l ≡ l' = one_item (slice_get lists k) l l' (ap (slice_get lists) (w.0 ∙ len) ∙ listed) atl in
          let same_pass : p ≡ p' = one_item (slice_get passes k) p p' (ap (slice_get passes) (w.0 ∙ len) ∙ taken) atp in
          let H : PromisedHandle Called (CallerOf D C) → Type 0 = λ x. IsCallerOf a l' p' x.promise in
          let L : RequestList → Type 0 = λ x. IsCallerOf a x p' h.promise in
          let P : PassView → Type 0 = λ x. IsCallerOf a l x h.promise in
          subst H w.1 (subst L same_list (subst P same_pass is))
    ]

-- the first item of what is left of a list
pub first_left : {X : Type 0} (xs : List X) (i : ℕ) (x : X) (rest : List X) → drop i xs ≡ x ∷ rest → (slice_get xs i ≡ Some x) × (drop (suc i) xs ≡ rest)
first_left [] zero x rest e = absurd (let h : [] ≡ x ∷ rest = e in cc)
first_left [] (suc i) x rest e = absurd (let h : [] ≡ x ∷ rest = e in cc)
first_left (y ∷ ys) zero x rest e = let h : y ∷ ys ≡ x ∷ rest = e in (cc, cc)
first_left (y ∷ ys) (suc i) x rest e = first_left ys i x rest e

-- there are as many passes as lists
pub same_number : (lists : List RequestList) (passes : List PassView) → ArePassesOf lists passes → length lists ≡ length passes
same_number [] [] all = refl
same_number [] (p ∷ passes) all = absurd all
same_number (l ∷ lists) [] all = absurd all
same_number (l ∷ lists) (p ∷ passes) all = ap suc (same_number lists passes all.1)

-- the item of a list of which each was made of one of another
pub made_of : {X Y : Type 0} (f : X → Y) (xs : List X) (k : ℕ) (x : X) → slice_get xs k ≡ Some x → slice_get (map f xs) k ≡ Some (f x)
made_of f [] k x at = absurd (let h : None ≡ Some x = at in cc)
made_of f (y ∷ ys) zero x at = let h : Some y ≡ Some x = at in cc
made_of f (y ∷ ys) (suc k) x at = made_of f ys k x at

-- the passes that are made for lists are theirs
pub first_passes : (a : Bool) (room : ℕ) (lists : List RequestList) → ArePassesOf lists (map (first_pass a room) lists)
first_passes a room [] = tt
first_passes a room (l ∷ lists) = ((refl, refl), first_passes a room lists)

-- the same in equal words
pub called_as : (ends : GroupId → ℕ → List ℕ → RunEnd → Type 0) (fallback_ends : GroupId → ℕ → Cause → List ℕ → FallbackEnd → Type 0) (moments : ℕ → Type 0) (a a' : Bool) (g g' : GroupId) (n n' : ℕ) (qs qs' : List Request) (r r' : Called)
    → a ≡ a' → g ≡ g' → n ≡ n' → qs ≡ qs' → r ≡ r' → CalledAs ends fallback_ends moments a g n qs r → CalledAs ends fallback_ends moments a' g' n' qs' r'
called_as ends fallback_ends moments a a' g g' n n' qs qs' r r' ea eg en eq er h =
    let A : Bool → Type 0 = λ x. CalledAs ends fallback_ends moments x g' n' qs' r' in
    let G : GroupId → Type 0 = λ x. CalledAs ends fallback_ends moments a x n' qs' r' in
    let N : ℕ → Type 0 = λ x. CalledAs ends fallback_ends moments a g x qs' r' in
    let Q : List Request → Type 0 = λ x. CalledAs ends fallback_ends moments a g n x r' in
    let R : Called → Type 0 = λ x. CalledAs ends fallback_ends moments a g n qs x in
    subst A ea (subst G eg (subst N en (subst Q eq (subst R er h))))

-- the room of a pass is what was asked for in an audited service, and in another none is needed
pub with_room : (ends : GroupId → ℕ → List ℕ → RunEnd → Type 0) (fallback_ends : GroupId → ℕ → Cause → List ℕ → FallbackEnd → Type 0) (moments : ℕ → Type 0) (a : Bool) (g : GroupId) (room : ℕ) (qs : List Request) (r : Called)
    → CalledAs ends fallback_ends moments a g (if a then room else 0) qs r → CalledAs ends fallback_ends moments a g room qs r
with_room ends fallback_ends moments true g room qs r h = h
with_room ends fallback_ends moments false g room qs r h = record { caller = h.caller; unrefused = λ has. h.unrefused (λ e. absurd (let f : false ≡ true = e in cc)) }

-- so much room is left after so many calls
pub room_after : (a : Bool) (p q : PassView) (made : List Receipt) → Gains a p q made → length made ≤ 5 → p.room ≤ q.room + 5
room_after true p q made g few = (let h = g.room in omega arith)
room_after false p q made g few = (let h = g.room in omega arith)

-- there is room for one more call than were made
pub room_for_one : (a : Bool) (first left calls : ℕ) (requests : List Request) → HasRoomFor a first requests → first ≤ left + 5 * calls → calls < length requests → (a ≡ true) × (left < 5) → ⊥
room_for_one a first left calls requests has le lt full = (let h = has full.0 in let few = full.1 in omega arith)

-- one more call was not refused for want of room
pub none_push : (answers : List (Result Answer CallError)) (answer : Result Answer CallError) → NoneIsFull answers → answer ≢ Err error.PassFull → NoneIsFull (answers ++ answer ∷ [])
none_push answers answer none one = all_push (λ (x : Result Answer CallError). x ≢ Err error.PassFull) answers answer none one

-- what all threads gave back found room
pub found_from : {E : Type 0} (a : Bool) (room : ℕ) (lists : List RequestList) (called : List Called) (result : Result Driven E)
    → IfOk result (λ d. d.answers.items ≡ map (λ (r : Called). r.answers) called) → FindRoom a room lists (map vec_items (map (λ (r : Called). r.answers) called))
    → IfOk result (λ d. FindRoom a room lists (map vec_items d.answers.items))
found_from a room lists called (Ok d) answers found = rw answers found
found_from a room lists called (Err e) answers found = tt
