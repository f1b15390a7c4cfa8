-- The serials that have a slot, and what adding, leaving and packing make of them.
use Rattle.std.proofs.Common.{◌≡◌, ◌≢◌, ◌<◌, ◌≤◌, ◌+◌, ℕ, zero, suc, Bool, true, not, cond, List, [], ◌∷◌, ◌++◌, length, set, Option, Some, None, refl, sym, ap, ◌∙◌, arith}
use Rattle.std.specs.Prelude.{eqb, is_some}
use Rattle.std.specs.List.{filter}
use Rattle.std.proofs.lemmas.Bool.Decides.{nat_tests}
use Rattle.bh_serials.specs.declared.entries.Entry.{Entry}
use Rattle.bh_serials.specs.Entries.{IsRising, alive_in, entry_at, with_alive}
use Rattle.bh_serials.specs.TableView.{slot_of}
use Rattle.bh_serials.proofs.Rising.{above_low}

-- is the serial another one
abbrev pub is_other : ℕ → ℕ × ℕ → Bool
is_other serial p = not (eqb p.0 serial)

-- ---- at one entry

other_in : (serial s : ℕ) (o : Option ℕ) (ps : List (ℕ × ℕ)) → s ≢ serial → slot_of (with_alive s o ps) serial ≡ slot_of ps serial
other_in serial s None ps ne = refl
other_in serial s (Some x) ps ne = grind (arith, nat_tests)

same_in : (s : ℕ) (o : Option ℕ) (ps : List (ℕ × ℕ)) → slot_of ps s ≡ None → slot_of (with_alive s o ps) s ≡ o
same_in s None ps none = none
same_in s (Some x) ps none = grind (arith, nat_tests)

other_kept : (serial s : ℕ) (o : Option ℕ) (ps : List (ℕ × ℕ)) → s ≢ serial → filter (is_other serial) (with_alive s o ps) ≡ with_alive s o (filter (is_other serial) ps)
other_kept serial s None ps ne = refl
other_kept serial s (Some x) ps ne = grind (arith, nat_tests)

same_gone : (s : ℕ) (o : Option ℕ) (ps : List (ℕ × ℕ)) → filter (is_other s) (with_alive s o ps) ≡ filter (is_other s) ps
same_gone s None ps = refl
same_gone s (Some x) ps = grind (arith, nat_tests)

-- ---- look-ups

-- a serial that no entry has is not found
pub none_in : (es : List Entry) (serial : ℕ) → ((k : ℕ) → k < length es → (entry_at es k).serial ≢ serial) → slot_of (alive_in es) serial ≡ None
none_in [] serial none = refl
none_in (e ∷ es) serial none = other_in serial e.serial e.slot (alive_in es) (none 0 (omega arith)) ∙ none_in es serial (λ k lt. none (suc k) (omega arith))

-- nor is one below all
pub none_below : (low high serial : ℕ) (es : List Entry) → serial ≤ low → IsRising low high es → slot_of (alive_in es) serial ≡ None
none_below low high serial es le r =
    none_in es serial (λ k lt. let h = above_low low high es k lt r in let ne : (entry_at es k).serial ≢ serial = omega arith in ne)

-- what is beside a serial is the slot of its entry
pub slot_at : (low high : ℕ) (es : List Entry) (k : ℕ) → k < length es → IsRising low high es → slot_of (alive_in es) (entry_at es k).serial ≡ (entry_at es k).slot
slot_at low high [] k lt r = absurd (omega arith)
slot_at low high (e ∷ es) zero lt r = same_in e.serial e.slot (alive_in es) (none_below e.serial high e.serial es (omega arith) r.1)
slot_at low high (e ∷ es) (suc k) lt r =
    let h = above_low e.serial high es k (omega arith) r.1 in
    let ne : e.serial ≢ (entry_at es k).serial = omega arith in
    other_in (entry_at es k).serial e.serial e.slot (alive_in es) ne ∙ slot_at e.serial high es k (omega arith) r.1

-- ---- a ticket that comes

alive-append_one : (s x : ℕ) (o : Option ℕ) (ps : List (ℕ × ℕ)) (t : ℕ) → with_alive t o (ps ++ (s, x) ∷ []) ≡ with_alive t o ps ++ (s, x) ∷ []
alive-append_one s x None ps t = refl
alive-append_one s x (Some y) ps t = refl

pub alive_in-append : (serial slot : ℕ) (es : List Entry) → alive_in (es ++ record { serial = serial; slot = Some slot } ∷ []) ≡ alive_in es ++ (serial, slot) ∷ []
alive_in-append serial slot [] = refl
alive_in-append serial slot (e ∷ es) = ap (with_alive e.serial e.slot) (alive_in-append serial slot es) ∙ alive-append_one serial slot e.slot (alive_in es) e.serial

-- ---- a ticket that leaves

-- where no entry has the serial, all stay
pub all_others : (es : List Entry) (serial : ℕ) → ((k : ℕ) → k < length es → (entry_at es k).serial ≢ serial) → filter (is_other serial) (alive_in es) ≡ alive_in es
all_others [] serial none = refl
all_others (e ∷ es) serial none =
    other_kept serial e.serial e.slot (alive_in es) (none 0 (omega arith))
    ∙ ap (with_alive e.serial e.slot) (all_others es serial (λ k lt. none (suc k) (omega arith)))

-- the entries as the ticket of one of them left
abbrev pub left_at : List Entry → ℕ → List Entry
left_at es k = set es k (record { serial = (entry_at es k).serial; slot = None })

pub alive_in-left : (low high : ℕ) (es : List Entry) (k : ℕ) → k < length es → IsRising low high es → alive_in (left_at es k) ≡ filter (is_other (entry_at es k).serial) (alive_in es)
alive_in-left low high [] k lt r = absurd (omega arith)
alive_in-left low high (e ∷ es) zero lt r =
    sym (same_gone e.serial e.slot (alive_in es)
    ∙ all_others es e.serial (λ k h. let i = above_low e.serial high es k h r.1 in let ne : (entry_at es k).serial ≢ e.serial = omega arith in ne))
alive_in-left low high (e ∷ es) (suc k) lt r =
    let h = above_low e.serial high es k (omega arith) r.1 in
    let ne : e.serial ≢ (entry_at es k).serial = omega arith in
    ap (with_alive e.serial e.slot) (alive_in-left e.serial high es k (omega arith) r.1)
    ∙ sym (other_kept (entry_at es k).serial e.serial e.slot (alive_in es) ne)

fewer_one : (s : ℕ) (o : Option ℕ) (ps : List (ℕ × ℕ)) → is_some o ≡ true → length ps + 1 ≡ length (with_alive s o ps)
fewer_one s None ps h = cc
fewer_one s (Some x) ps h = omega arith

fewer_more : (s : ℕ) (o : Option ℕ) (ps qs : List (ℕ × ℕ)) → length ps + 1 ≡ length qs → length (with_alive s o ps) + 1 ≡ length (with_alive s o qs)
fewer_more s None ps qs h = h
fewer_more s (Some x) ps qs h = omega arith

-- one less has a slot then
pub fewer : (es : List Entry) (k : ℕ) → k < length es → is_some (entry_at es k).slot ≡ true → length (alive_in (left_at es k)) + 1 ≡ length (alive_in es)
fewer [] k lt h = absurd (omega arith)
fewer (e ∷ es) zero lt h = fewer_one e.serial e.slot (alive_in es) h
fewer (e ∷ es) (suc k) lt h = fewer_more e.serial e.slot (alive_in (left_at es k)) (alive_in es) (fewer es k (omega arith) h)

-- ---- entries without a slot go

abbrev pub is_alive : Entry → Bool
is_alive e = is_some e.slot

packed_one : (s : ℕ) (o : Option ℕ) (fs : List Entry) → alive_in (cond (is_some o) (record { serial = s; slot = o } ∷ fs) fs) ≡ with_alive s o (alive_in fs)
packed_one s None fs = refl
packed_one s (Some x) fs = refl

pub alive_in-packed : (es : List Entry) → alive_in (filter is_alive es) ≡ alive_in es
alive_in-packed [] = refl
alive_in-packed (e ∷ es) = packed_one e.serial e.slot (filter is_alive es) ∙ ap (with_alive e.serial e.slot) (alive_in-packed es)

length_one : (s : ℕ) (o : Option ℕ) (fs : List Entry) (ps : List (ℕ × ℕ)) → length fs ≡ length ps → length (cond (is_some o) (record { serial = s; slot = o } ∷ fs) fs) ≡ length (with_alive s o ps)
length_one s None fs ps h = h
length_one s (Some x) fs ps h = omega arith

-- as many entries are left as have a slot
pub length-packed : (es : List Entry) → length (filter is_alive es) ≡ length (alive_in es)
length-packed [] = refl
length-packed (e ∷ es) = length_one e.serial e.slot (filter is_alive es) (alive_in es) (length-packed es)
