-- What lies on the lists of an arena of tickets.
use Rattle.std.specs.Prelude.{◌≡◌, ℕ, zero, suc, ◌+◌, ◌<◌, ◌≤◌, Bool, true, false, ◌||◌, ◌==◌, eqb, List, [], ◌∷◌, length, Option, Some, None, slice_get, if◌then◌else◌}
use Rattle.bh_base.specs.declared.ticket.Ticket.{Ticket}
use Rattle.bh_base.specs.declared.ticket.TicketState.{TicketState}
use Rattle.bh_base.specs.declared.ticket.TicketState.TheVariants as ticket
use Rattle.bh_slot_arena.specs.Slots.{ArenaView, lists_in, slots_on}
use Rattle.bh_cache.specs.declared.lists.GroupLists.{GroupLists}
use Rattle.bh_cache.specs.Listed.{listed}

-- an arena of tickets
abbrev pub Slots : Type 0
Slots = ArenaView Ticket

abbrev pub has : ℕ → List ℕ → Bool
has x [] = false
has x (y ∷ ys) = eqb y x || has x ys

-- the slot is on the family's list
abbrev pub is_on : Slots → ℕ → ℕ → ℕ → Bool
is_on a family l x = has x (slots_on a family l)

-- ---- the lists of a group, in the first family

-- the list has tickets
abbrev pub is_live_list : GroupLists → ℕ → Bool
is_live_list g l = eqb g.queued l || (eqb g.running l || eqb g.settled l)

abbrev pub is_live : Slots → GroupLists → ℕ → Bool
is_live a g x = is_on a 0 g.queued x || (is_on a 0 g.running x || is_on a 0 g.settled x)

abbrev pub is_owned : Slots → GroupLists → ℕ → Bool
is_owned a g x = is_on a 0 g.free x || is_live a g x

-- the ticket in a slot
abbrev pub ticket_at : Slots → GroupLists → ℕ → Option Ticket
ticket_at a g x = if is_live a g x then slice_get a.payloads x else None

-- the tickets of a group, by rising serial
abbrev pub tickets_of : Slots → GroupLists → List Ticket
tickets_of a g = listed (ticket_at a g) (length a.payloads)

-- the list that a ticket in the state lies on
abbrev pub list_for : GroupLists → TicketState → ℕ
list_for g ticket.Queued = g.queued
list_for g ticket.Running = g.running
list_for g _ = g.settled

-- the lists are there
pub record HasLists (a : Slots) (g : GroupLists) : Type 0 where
  pub free : g.free < length (lists_in a 0)
  pub queued : g.queued < length (lists_in a 0)
  pub running : g.running < length (lists_in a 0)
  pub settled : g.settled < length (lists_in a 0)

-- ---- tickets that pass a test

abbrev pub one : Bool → ℕ
one b = if b then 1 else 0

-- how many of the numbers below n pass
abbrev pub count_below : ℕ → (ℕ → Bool) → ℕ
count_below zero p = 0
count_below (suc n) p = (if p n then 1 else 0) + count_below n p

-- there is a ticket that passes
abbrev pub has_one : (Ticket → Bool) → Option Ticket → Bool
has_one q None = false
has_one q (Some t) = q t

abbrev pub has_serial_in : ℕ → Option Ticket → Bool
has_serial_in serial None = false
has_serial_in serial (Some t) = t.serial == serial

-- ---- by serials

abbrev pub serial_in : Option Ticket → ℕ
serial_in None = 0
serial_in (Some t) = t.serial

-- the serials along a list of slots are greater than s
abbrev pub Later : List Ticket → ℕ → List ℕ → Type 0
Later ps s [] = Unit {0}
Later ps s (x ∷ xs) = (s < serial_in (slice_get ps x)) × Later ps s xs

-- the serials along a list of slots rise
abbrev pub InOrder : List Ticket → List ℕ → Type 0
InOrder ps [] = Unit {0}
InOrder ps (x ∷ xs) = Later ps (serial_in (slice_get ps x)) xs × InOrder ps xs

-- ---- groups that share an arena

-- no slot comes twice
abbrev pub Once : List ℕ → Type 0
Once [] = Unit {0}
Once (x ∷ xs) = (has x xs ≡ false) × Once xs

-- the arena has the family, and each slot is on one list of it at most, and there once
pub record IsArena (a : Slots) (family : ℕ) : Type 0 where
  pub wide : family < length a.families
  pub apart : (l m x : ℕ) → is_on a family l x ≡ true → is_on a family m x ≡ true → l ≡ m
  pub within : (l x : ℕ) → is_on a family l x ≡ true → x < length a.payloads
  pub once : (l : ℕ) → Once (slots_on a family l)

-- the list is one of the group's
pub record IsOwn (g : GroupLists) (l : ℕ) : Type 0 where
  pub from : g.free ≤ l
  pub to : l ≤ g.settled

-- the lists of other groups, and what lies on them, are as before
pub record IsFrame (g : GroupLists) (a b : Slots) : Type 0 where
  pub slots : length b.payloads ≡ length a.payloads
  pub count : length (lists_in b 0) ≡ length (lists_in a 0)
  pub lists : (l : ℕ) → (IsOwn g l → ⊥) → slots_on b 0 l ≡ slots_on a 0 l
  pub payloads : (l x : ℕ) → (IsOwn g l → ⊥) → is_on a 0 l x ≡ true → slice_get b.payloads x ≡ slice_get a.payloads x

-- the groups have no list of the first family in common, and no chain
pub record IsApart (g h : GroupLists) : Type 0 where
  pub apart : (l : ℕ) → IsOwn g l → IsOwn h l → ⊥
  pub names : (l : ℕ) → (g.names ≤ l) × (l < g.names_end) → (h.names ≤ l) × (l < h.names_end) → ⊥
  pub contexts : (l : ℕ) → (g.contexts ≤ l) × (l < g.contexts_end) → (h.contexts ≤ l) × (l < h.contexts_end) → ⊥
