-- The tables of the groups as one group changes.
use Rattle.std.proofs.Common.{◌≡◌, ◌≢◌, ℕ, zero, suc, ◌+◌, ◌<◌, ◌≤◌, inl, inr, Bool, true, false, List, [], ◌∷◌, length, get_or, set, filter, Option, Some, None, refl, ◌∙◌, sym, ap, subst, arith}
use Rattle.std.specs.List.{list_any}
use Rattle.std.specs.Prelude.{◌==◌, ◌&&◌, IfSome, find, is_some, slice_get, if◌then◌else◌}
use Rattle.std.specs.Option.{option_map}
use Rattle.std.proofs.lemmas.Bool.{cases_eq, eq-eqb, eqb-true, ne_eqb}
use Rattle.std.proofs.lemmas.Option.{slice_get-map}
use Rattle.std.proofs.lemmas.List.{length-append}
use Rattle.bh_base.specs.declared.ticket.Ticket.{Ticket}
use Rattle.bh_base.specs.Tickets.{is_kept}
use Rattle.bh_serials.specs.TableView.{TableView, no_entries, slot_of, with_entry, without_serial}
use Rattle.bh_serials.proofs.Looked.{found_or_new, left_none, new_found, others_found, still_found}
use Rattle.bh_cache.specs.declared.lists.GroupLists.{GroupLists}
use Rattle.bh_cache.specs.Slots.{Slots, has_serial_in, ticket_at, tickets_of, IsArena}
use Rattle.bh_tickets.specs.declared.group_slots.GroupSlots.{GroupSlots}
use Rattle.bh_tickets.specs.GroupSlots.{IsAdded, IsGroupChange, IsGroupSlots, IsPut, IsReleasedAt, KeepsSerials, if_kept}
use Rattle.bh_tickets.specs.TicketsView.{GroupTickets, IsFirstAt, IsThere, TicketsView, group_at, in_slot, no_tickets_in}
use Rattle.bh_tickets.specs.Tables.{HasTable, HaveTables, IsTable}
use Rattle.bh_tickets.specs.Whole.{AreGroupSlots, IsSerialAt, group_of, groups_of, view_of}
use Rattle.bh_tickets.proofs.Finds.{found_first, has_serial, none_at, none_first, other_first}
use Rattle.bh_tickets.proofs.Exists.{any_filtered, any_found, any_none}
use Rattle.bh_tickets.proofs.Whole.{group_is, others_same, set_same, get_lt, shows, taken_is}

-- ---- serials

-- a ticket has its serial
pub has_own : (t : Ticket) → has_serial_in t.serial (Some t) ≡ true
has_own t = eq-eqb t.serial t.serial refl

pub own_serial : (serial : ℕ) (t : Ticket) → has_serial_in serial (Some t) ≡ true → t.serial ≡ serial
own_serial serial t e = eqb-true t.serial serial e

-- ---- what is written at a number

pub put_here : {A : Type 0} (xs : List A) (i : ℕ) (x : A) → i < length xs → slice_get (set xs i x) i ≡ Some x
put_here [] i x lt = absurd (omega (arith, lt))
put_here (y ∷ ys) zero x lt = refl
put_here (y ∷ ys) (suc i) x lt = put_here ys i x (omega (arith, lt))

pub put_elsewhere : {A : Type 0} (xs : List A) (i j : ℕ) (x : A) → (j ≡ i → ⊥) → slice_get (set xs i x) j ≡ slice_get xs j
put_elsewhere [] i j x ne = refl
put_elsewhere (y ∷ ys) zero zero x ne = absurd (ne refl)
put_elsewhere (y ∷ ys) zero (suc j) x ne = refl
put_elsewhere (y ∷ ys) (suc i) zero x ne = refl
put_elsewhere (y ∷ ys) (suc i) (suc j) x ne = put_elsewhere ys i j x (λ e. ne (ap suc e))

-- before an entry there is one
before_one : {A : Type 0} (xs : List A) (i : ℕ) (x : A) → slice_get xs (suc i) ≡ Some x → (y : A) × (slice_get xs i ≡ Some y)
before_one [] i x e = absurd cc
before_one (y ∷ ys) zero x e = (y, refl)
before_one (y ∷ ys) (suc i) x e = before_one ys i x e

-- a number at which there is a table is less than how many there are
pub table_lt : (ts : List TableView) (i : ℕ) (t : TableView) → slice_get ts i ≡ Some t → i < length ts
table_lt [] i t e = absurd cc
table_lt (y ∷ ys) zero t e = omega arith
table_lt (y ∷ ys) (suc i) t e = let k = table_lt ys i t e in omega arith

pub group_lt : (gs : List GroupTickets) (i : ℕ) (g : GroupTickets) → slice_get gs i ≡ Some g → i < length gs
group_lt [] i g e = absurd cc
group_lt (y ∷ ys) zero g e = omega arith
group_lt (y ∷ ys) (suc i) g e = let k = group_lt ys i g e in omega arith

-- ---- one group

-- the table of a group without tickets
pub table_empty : (room most : ℕ) → room ≤ most → IsTable (no_tickets_in room) (no_entries most)
table_empty room most le = record {
  found = λ serial x e. absurd cc;
  there = λ serial x e. absurd cc;
  count = omega arith;
  latest = omega arith;
  room = le;
}

module _ (a b : Slots) (s r : GroupSlots) (arena : IsArena a 0) (after : IsArena b 0) (lists : r.lists ≡ s.lists) where
  -- what contracts see in the slots after a change
  seen_after : (x : ℕ) → in_slot (group_of b r) x ≡ ticket_at b s.lists x
  seen_after x = shows b r x after ∙ ap (λ (g : GroupLists). ticket_at b g x) lists

  -- where no ticket comes or leaves, the table stays
  pub table_same : (t : TableView) → r.slots.max ≡ s.slots.max → r.next ≡ s.next → length (tickets_of b s.lists) ≡ length (tickets_of a s.lists) → KeepsSerials a s b → IsTable (group_of a s) t → IsTable (group_of b r) t
  table_same t max next many keeps was = record {
    found = λ serial x e. was.found serial x (ap (has_serial_in serial) (shows a s x arena) ∙ sym (keeps.same serial x) ∙ ap (has_serial_in serial) (sym (seen_after x)) ∙ e);
    there = λ serial x e. ap (has_serial_in serial) (seen_after x) ∙ keeps.same serial x ∙ ap (has_serial_in serial) (sym (shows a s x arena)) ∙ was.there serial x e;
    count = (let n = ap (λ (g : GroupLists). length (tickets_of b g)) lists in omega (arith, was.count, many, n));
    latest = omega (arith, was.latest, next);
    room = omega (arith, was.room, max);
  }

-- a ticket of the next serial comes
module _ (a b : Slots) (s r : GroupSlots) (v : Ticket) (arena : IsArena a 0) (group : IsGroupSlots a s) (added : IsAdded a s v b r) (serial : v.serial ≡ s.next) (t : TableView) (was : IsTable (group_of a s) t) where
  seen : (y : ℕ) → in_slot (group_of b r) y ≡ ticket_at b s.lists y
  seen y = seen_after a b s r arena added.change.arena added.change.lists y

  not_there : slot_of t.entries v.serial ≡ None
  not_there = by (slot_of t.entries v.serial) refl
    where
      by : (o : Option ℕ) → slot_of t.entries v.serial ≡ o → o ≡ None
      by None e = refl
      by (Some y) e = at (ticket_at a s.lists y) refl (ap (has_serial_in v.serial) (sym (shows a s y arena)) ∙ was.there v.serial y e)
        where
          at : (o : Option Ticket) → ticket_at a s.lists y ≡ o → has_serial_in v.serial o ≡ true → Some y ≡ None
          at None is f = absurd cc
          at (Some u) is f = absurd (omega (arith, own_serial v.serial u f, serial, group.arranged.below y u is))

  found_now : (n y : ℕ) → has_serial_in n (in_slot (group_of b r) y) ≡ true → slot_of (with_entry v.serial added.come.slot t).entries n ≡ Some y
  found_now n y e = elim (cases_eq y added.come.slot) [
    | inl q ↦
        let f : has_serial_in n (Some v) ≡ true = ap (has_serial_in n) (sym (seen y ∙ ap (ticket_at b s.lists) q ∙ added.come.here)) ∙ e in
        let g : v.serial ≡ n = own_serial n v f in
        subst (λ m. slot_of (with_entry v.serial added.come.slot t).entries m ≡ Some y) g (new_found v.serial added.come.slot t.entries not_there ∙ ap Some (sym q))
    | inr ne ↦ still_found v.serial added.come.slot t.entries n y (was.found n y (ap (has_serial_in n) (shows a s y arena ∙ sym (added.come.others y ne) ∙ sym (seen y)) ∙ e))
  ]

  there_now : (n y : ℕ) → slot_of (with_entry v.serial added.come.slot t).entries n ≡ Some y → has_serial_in n (in_slot (group_of b r) y) ≡ true
  there_now n y e = elim (found_or_new v.serial added.come.slot t.entries n y e) [
    | inl f ↦
        let h : has_serial_in n (ticket_at a s.lists y) ≡ true = ap (has_serial_in n) (sym (shows a s y arena)) ∙ was.there n y f in
        elim (cases_eq y added.come.slot) [
          | inl q ↦ (let z : false ≡ true = sym (ap (has_serial_in n) (ap (ticket_at a s.lists) q ∙ added.come.free)) ∙ h in absurd cc)
          | inr ne ↦ ap (has_serial_in n) (seen y ∙ added.come.others y ne) ∙ h
        ]
    | inr p ↦ ap (has_serial_in n) (seen y ∙ ap (ticket_at b s.lists) (sym p.1) ∙ added.come.here) ∙ ap (λ m. has_serial_in m (Some v)) (sym p.0) ∙ has_own v
  ]

  pub table_added : IsTable (group_of b r) (with_entry v.serial added.come.slot t)
  table_added = record {
    found = found_now;
    there = there_now;
    count = (let n = ap (λ (g : GroupLists). length (tickets_of b g)) added.change.lists in omega (arith, was.count, n, ap length added.items, length-append (tickets_of a s.lists) (v ∷ []), length-append t.entries ((v.serial, added.come.slot) ∷ [])));
    latest = omega (arith, serial, added.next);
    room = omega (arith, was.room, added.change.room);
  }

-- a ticket leaves that nobody needs
module _ (a b : Slots) (s r : GroupSlots) (x : ℕ) (v : Ticket) (arena : IsArena a 0) (group : IsGroupSlots a s) (released : IsReleasedAt a s x b r) (here : ticket_at a s.lists x ≡ Some v) (drops : is_kept v ≡ false)
    (taken : r.slots.taken + 1 ≡ s.slots.taken) (t u : TableView) (is : u ≡ without_serial v.serial t) (one : is_some (slot_of t.entries v.serial) ≡ true → length u.entries + 1 ≡ length t.entries) (was : IsTable (group_of a s) t) where
  seen_left : (y : ℕ) → in_slot (group_of b r) y ≡ ticket_at b s.lists y
  seen_left y = seen_after a b s r arena released.change.arena released.change.lists y

  gone : ticket_at b s.lists x ≡ None
  gone = released.tickets x ∙ ap (λ c. if c then if_kept (ticket_at a s.lists x) else ticket_at a s.lists x) (eq-eqb x x refl) ∙ ap if_kept here ∙ ap (λ c. if c then Some v else None) drops

  others : (y : ℕ) → (y ≡ x → ⊥) → ticket_at b s.lists y ≡ ticket_at a s.lists y
  others y ne = released.tickets y ∙ ap (λ c. if c then if_kept (ticket_at a s.lists y) else ticket_at a s.lists y) (ne_eqb y x ne)

  at_x : slot_of t.entries v.serial ≡ Some x
  at_x = was.found v.serial x (ap (has_serial_in v.serial) (shows a s x arena ∙ here) ∙ has_own v)

  entries_are : u.entries ≡ (without_serial v.serial t).entries
  entries_are = ap (λ (w : TableView). w.entries) is

  found_left : (n y : ℕ) → has_serial_in n (in_slot (group_of b r) y) ≡ true → slot_of u.entries n ≡ Some y
  found_left n y e = elim (cases_eq y x) [
    | inl q ↦ (let z : false ≡ true = sym (ap (has_serial_in n) (seen_left y ∙ ap (ticket_at b s.lists) q ∙ gone)) ∙ e in absurd cc)
    | inr ne ↦
        let f : slot_of t.entries n ≡ Some y = was.found n y (ap (has_serial_in n) (shows a s y arena ∙ sym (others y ne) ∙ sym (seen_left y)) ∙ e) in
        let other : n ≢ v.serial = λ q. ne (let g : Some y ≡ Some x = sym f ∙ ap (slot_of t.entries) q ∙ at_x in cc) in
        ap (λ (es : List (ℕ × ℕ)). slot_of es n) entries_are ∙ others_found v.serial t.entries n other ∙ f
  ]

  there_left : (n y : ℕ) → slot_of u.entries n ≡ Some y → has_serial_in n (in_slot (group_of b r) y) ≡ true
  there_left n y e = elim (cases_eq n v.serial) [
    | inl q ↦ (let z : None ≡ Some y = sym (ap (λ (es : List (ℕ × ℕ)). slot_of es n) entries_are ∙ ap (slot_of (without_serial v.serial t).entries) q ∙ left_none v.serial t.entries) ∙ e in absurd cc)
    | inr ne ↦
        let f : slot_of t.entries n ≡ Some y = sym (ap (λ (es : List (ℕ × ℕ)). slot_of es n) entries_are ∙ others_found v.serial t.entries n ne) ∙ e in
        let h : has_serial_in n (ticket_at a s.lists y) ≡ true = ap (has_serial_in n) (sym (shows a s y arena)) ∙ was.there n y f in
        elim (cases_eq y x) [
          | inl q ↦ absurd (ne (sym (own_serial n v (ap (has_serial_in n) (sym (ap (ticket_at a s.lists) q ∙ here)) ∙ h))))
          | inr ny ↦ ap (has_serial_in n) (seen_left y ∙ others y ny) ∙ h
        ]
  ]

  pub table_released : IsTable (group_of b r) u
  table_released = record {
    found = found_left;
    there = there_left;
    count =
        (let n = ap (λ (g : GroupLists). length (tickets_of b g)) released.change.lists in
        let fewer = one (ap is_some at_x) in
        omega (arith, was.count, n, fewer, taken, taken_is a s group, taken_is b r released.change.group));
    latest = omega (arith, was.latest, released.next, ap (λ (w : TableView). w.latest) is);
    room = omega (arith, was.room, released.change.room, ap (λ (w : TableView). w.room) is);
  }

-- a ticket is another one of the same serial
pub put_serials : (a b : Slots) (s r : GroupSlots) (x : ℕ) (w v : Ticket) → ticket_at a s.lists x ≡ Some w → v.serial ≡ w.serial → IsPut a s x v b r → KeepsSerials a s b
put_serials a b s r x w v here serial put = record {
  same = λ n y. elim (cases_eq y x) [
    | inl q ↦ ap (λ z. has_serial_in n (ticket_at b s.lists z)) q ∙ ap (has_serial_in n) put.here ∙ ap (λ m. m == n) serial ∙ sym (ap (λ z. has_serial_in n (ticket_at a s.lists z)) q ∙ ap (has_serial_in n) here)
    | inr ne ↦ ap (has_serial_in n) (put.others y ne)
  ];
}

-- each ticket is another one of the same serial
pub mapped_serials : (a b : Slots) (s : GroupSlots) (f : Ticket → Ticket) → ((t : Ticket) → (f t).serial ≡ t.serial) → ((y : ℕ) → ticket_at b s.lists y ≡ option_map f (ticket_at a s.lists y)) → KeepsSerials a s b
mapped_serials a b s f same mapped = record { same = λ n y. ap (has_serial_in n) (mapped y) ∙ by n (ticket_at a s.lists y) }
  where
    by : (n : ℕ) (o : Option Ticket) → has_serial_in n (option_map f o) ≡ has_serial_in n o
    by n None = refl
    by n (Some t) = ap (λ m. m == n) (same t)

-- ---- all groups

-- the table of a group
pub own_table : (a : Slots) (ss : List GroupSlots) (ts : List TableView) (i : ℕ) (s : GroupSlots) → HaveTables (groups_of a ss) ts → slice_get ss i ≡ Some s → HasTable ts i (group_of a s)
own_table a ss ts i s were is = were.each i (group_of a s) (slice_get-map (group_of a) ss i ∙ ap (option_map (group_of a)) is)

-- where the others and their tables stay, and one has its table, each has
pub tables_put : (gs hs : List GroupTickets) (ts us : List TableView) (i : ℕ) → HaveTables gs ts → ((j : ℕ) → j ≢ i → slice_get hs j ≡ slice_get gs j) → ((j : ℕ) → j ≢ i → slice_get us j ≡ slice_get ts j) → ((g : GroupTickets) → slice_get hs i ≡ Some g → HasTable us i g) → HaveTables hs us
tables_put gs hs ts us i were others stay own = record {
  each = λ j g is. elim (cases_eq j i) [
    | inl q ↦ subst (λ n. HasTable us n g) (sym q) (own g (ap (slice_get hs) (sym q) ∙ is))
    | inr ne ↦ (let old = were.each j g (sym (others j ne) ∙ is) in record { table = old.table; here = stay j ne ∙ old.here; fits = old.fits })
  ];
}

module _ (a b : Slots) (ss : List GroupSlots) (i : ℕ) (s r : GroupSlots) (whole : AreGroupSlots a ss) (is : slice_get ss i ≡ Some s) (change : IsGroupChange a s b r) (ts : List TableView) (were : HaveTables (groups_of a ss) ts) where
  -- the group's table
  pub table_of : HasTable ts i (group_of a s)
  table_of = own_table a ss ts i s were is

  group_now : slice_get (groups_of b (set ss i r)) i ≡ Some (group_of b r)
  group_now = slice_get-map (group_of b) (set ss i r) i ∙ ap (option_map (group_of b)) (set_same ss i r (get_lt ss i s is))

  -- one group has changed, and its table with it
  pub tables_changed : (us : List TableView) (u : TableView) → ((j : ℕ) → j ≢ i → slice_get us j ≡ slice_get ts j) → slice_get us i ≡ Some u → IsTable (group_of b r) u → HaveTables (groups_of b (set ss i r)) us
  tables_changed us u stay here fits = tables_put (groups_of a ss) (groups_of b (set ss i r)) ts us i were (λ j ne. others_same a b ss i s r whole is change j ne) stay
      (λ g e. record { table = u; here = here; fits = (let f : Some (group_of b r) ≡ Some g = sym group_now ∙ e in let k : group_of b r ≡ g = cc in subst (λ z. IsTable z u) k fits) })

  -- one group has changed, whose tickets are where they were
  pub tables_same : r.next ≡ s.next → length (tickets_of b s.lists) ≡ length (tickets_of a s.lists) → KeepsSerials a s b → HaveTables (groups_of b (set ss i r)) ts
  tables_same next many keeps =
      tables_changed ts table_of.table (λ j ne. refl) table_of.here
      (table_same a b s r whole.arena change.arena change.lists table_of.table change.room next many keeps table_of.fits)

-- what contracts see of the groups stays, and the tables do
pub tables_seen : (a b : Slots) (ss rs : List GroupSlots) (ts us : List TableView) → view_of b rs ≡ view_of a ss → us ≡ ts → HaveTables (groups_of a ss) ts → HaveTables (groups_of b rs) us
tables_seen a b ss rs ts us seen same were =
    subst (HaveTables (groups_of b rs)) (sym same) (subst (λ (gs : List GroupTickets). HaveTables gs ts) (sym (ap (λ (v : TicketsView). v.groups) seen)) were)

-- one group has no slot any more, and its table is cleared
pub tables_left : (gs hs : List GroupTickets) (ts : List TableView) (i : ℕ) (g : GroupTickets) (t u : TableView) → HaveTables gs ts → slice_get gs i ≡ Some g → hs ≡ set gs i (no_tickets_in 0) → t ≡ get_or ts i t → u ≡ no_entries t.room → HaveTables hs (set ts i u)
tables_left gs hs ts i g t u were is seen read cleared =
    let had = were.each i g is in
    let lt = table_lt ts i had.table had.here in
    let gone : slice_get hs i ≡ Some (no_tickets_in 0) = ap (λ (zs : List GroupTickets). slice_get zs i) seen ∙ put_here gs i (no_tickets_in 0) (group_lt gs i g is) in
    tables_put gs hs ts (set ts i u) i were
    (λ j ne. ap (λ (zs : List GroupTickets). slice_get zs j) seen ∙ put_elsewhere gs i j (no_tickets_in 0) ne)
    (λ j ne. put_elsewhere ts i j u ne)
    (λ h e. record {
      table = u;
      here = put_here ts i u lt;
      fits = (let f : Some (no_tickets_in 0) ≡ Some h = sym gone ∙ e in let k : no_tickets_in 0 ≡ h = cc in subst (λ (z : GroupTickets). IsTable z u) k (subst (IsTable (no_tickets_in 0)) (sym cleared) (table_empty 0 t.room (omega arith))));
    })

-- a group of this place, and all else as before: the place is not far behind the tables
pub place_near : (gs hs : List GroupTickets) (ts : List TableView) (place : ℕ) (h : GroupTickets) → HaveTables gs ts → ((j : ℕ) → j ≢ place → slice_get hs j ≡ slice_get gs j) → slice_get hs place ≡ Some h → place ≤ length ts
place_near gs hs ts zero h were others here = omega arith
place_near gs hs ts (suc n) h were others here =
    let p = before_one hs n h here in
    let ne : n ≢ suc n = omega arith in
    let had = were.each n p.0 (sym (others n ne) ∙ p.1) in
    let lt = table_lt ts n had.table had.here in
    omega arith

-- ---- look-ups

-- what is read at a number is the table there
pub read_is : (ts : List TableView) (i : ℕ) (u t : TableView) → slice_get ts i ≡ Some t → u ≡ get_or ts i u → u ≡ t
read_is [] i u t e is = absurd cc
read_is (y ∷ ys) zero u t e is = let k : y ≡ t = cc in is ∙ k
read_is (y ∷ ys) (suc i) u t e is = read_is ys i u t e is

module _ (a : Slots) (ss : List GroupSlots) (i : ℕ) (s : GroupSlots) (whole : AreGroupSlots a ss) (is : slice_get ss i ≡ Some s) (t : TableView) (fits : IsTable (group_of a s) t) (serial : ℕ) where
  -- what the table tells of a serial is where its ticket is
  pub serial_at : (o : Option ℕ) → o ≡ slot_of t.entries serial → IfSome o (λ x. IsSerialAt serial (group_at (view_of a ss) i) x)
  serial_at None e = tt
  serial_at (Some x) e =
      let h : has_serial_in serial (ticket_at a s.lists x) ≡ true = ap (has_serial_in serial) (sym (shows a s x whole.arena)) ∙ fits.there serial x (sym e) in
      let r = has_serial a s whole.arena (whole.each i s is) serial x h in
      subst (λ (z : GroupTickets). IsSerialAt serial z x) (sym (group_is a ss i s is)) (record {
        ticket = r.0;
        here = shows a s x whole.arena ∙ r.1;
        passes = λ q yes'. found_first a s whole.arena (whole.each i s is) serial q x r.0 r.1 r.2 yes';
        fails = λ q no'. other_first a s whole.arena (whole.each i s is) serial q x r.0 r.1 r.2 no';
      })

  no_serial : (o : Option ℕ) → o ≡ slot_of t.entries serial → o ≡ None → (x : ℕ) → has_serial_in serial (ticket_at a s.lists x) ≡ false
  no_serial o e none x = by (has_serial_in serial (ticket_at a s.lists x)) refl
    where
      by : (b : Bool) → has_serial_in serial (ticket_at a s.lists x) ≡ b → b ≡ false
      by false h = refl
      by true h = let f : None ≡ Some x = sym none ∙ e ∙ fits.found serial x (ap (has_serial_in serial) (shows a s x whole.arena) ∙ h) in absurd cc

  -- where it tells nothing, no ticket has the serial
  pub serial_none_at : (o : Option ℕ) → o ≡ slot_of t.entries serial → o ≡ None → (q : Ticket → Bool) → find (λ u. u.serial == serial && q u) (group_at (view_of a ss) i).items ≡ None
  serial_none_at o e none q = none_at a ss i s whole is (λ u. u.serial == serial && q u) (none_first a s whole.arena (whole.each i s is) serial q (no_serial o e none))

module _ (serial : ℕ) (g : GroupTickets) (x : ℕ) (at : IsSerialAt serial g x) where
  pub there_at_serial : IsThere g x
  there_at_serial = record { ticket = at.ticket; here = at.here }

  module _ (t : Ticket) (read : in_slot g x ≡ Some t) (q : Ticket → Bool) where
    ticket_is : t ≡ at.ticket
    ticket_is = let e : Some t ≡ Some at.ticket = sym read ∙ at.here in cc

    -- where the ticket passes, it is the first
    pub passes_first : q t ≡ true → IsFirstAt (λ u. u.serial == serial && q u) g x
    passes_first yes' = record { ticket = at.ticket; here = at.here; first = at.passes q (ap q (sym ticket_is) ∙ yes') }

    -- where it does not, there is none
    pub fails_none : q t ≡ false → find (λ u. u.serial == serial && q u) g.items ≡ None
    fails_none no' = at.fails q (ap q (sym ticket_is) ∙ no')

    -- so whether it passes is whether one of the serial does
    pub passes_is : q t ≡ list_any (λ u. u.serial == serial) (filter q g.items)
    passes_is = by (q t) refl
      where
        by : (b : Bool) → q t ≡ b → b ≡ list_any (λ u. u.serial == serial) (filter q g.items)
        by true e = sym (any_filtered (λ u. u.serial == serial) q g.items ∙ any_found (λ u. u.serial == serial && q u) g.items at.ticket (at.passes q (ap q (sym ticket_is) ∙ e)))
        by false e = sym (any_filtered (λ u. u.serial == serial) q g.items ∙ any_none (λ u. u.serial == serial && q u) g.items (fails_none e))

-- where no ticket of the serial passes, none of those that pass has it
pub none_passes : (serial : ℕ) (g : GroupTickets) (q : Ticket → Bool) → find (λ u. u.serial == serial && q u) g.items ≡ None → false ≡ list_any (λ u. u.serial == serial) (filter q g.items)
none_passes serial g q none = sym (any_filtered (λ u. u.serial == serial) q g.items ∙ any_none (λ u. u.serial == serial && q u) g.items none)
