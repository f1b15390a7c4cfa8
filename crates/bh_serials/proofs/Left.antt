-- The entry of a serial, and the table once its ticket left.
use Rattle.std.proofs.Common.{◌≡◌, ◌+◌, ℕ, true, List, length, set, get_or, None, filter, subst, sym, ap, ◌∙◌}
use Rattle.std.specs.Prelude.{is_some}
use Rattle.std.proofs.lemmas.List.{get_or_default}
use Rattle.bh_serials.specs.declared.entries.Entry.{Entry}
use Rattle.bh_serials.specs.Entries.{IsAt, IsRising, alive_in, entry_at, no_entry}
use Rattle.bh_serials.specs.TableView.{slot_of}
use Rattle.bh_serials.proofs.Rising.{IsRising-set}
use Rattle.bh_serials.proofs.Alive.{alive_in-left, fewer, is_other, slot_at}

module _ (high serial place : ℕ) (es : List Entry) (rising : IsRising 0 high es) (at : IsAt place serial es) (e : Entry) (is : e ≡ get_or es place e) where
  entry_is : e ≡ entry_at es place
  entry_is = is ∙ get_or_default es place e no_entry at.within

  -- what the entry tells is what is looked up
  pub slot_found : e.slot ≡ slot_of (alive_in es) serial
  slot_found =
      ap (λ (x : Entry). x.slot) entry_is
      ∙ sym (slot_at 0 high es place at.within rising)
      ∙ ap (slot_of (alive_in es)) at.here

  -- the entries once its ticket has left
  abbrev pub after : List Entry
  after = set es place (record { serial = e.serial; slot = None })

  after_is : after ≡ set es place (record { serial = (entry_at es place).serial; slot = None })
  after_is = ap (λ (x : Entry). set es place (record { serial = x.serial; slot = None })) entry_is

  pub rising_after : IsRising 0 high after
  rising_after = subst (IsRising 0 high) (sym after_is) (IsRising-set 0 high None es place rising)

  pub alive_after : alive_in after ≡ filter (is_other serial) (alive_in es)
  alive_after =
      ap alive_in after_is
      ∙ alive_in-left 0 high es place at.within rising
      ∙ ap (λ (s : ℕ). filter (is_other s) (alive_in es)) at.here

  pub fewer_after : is_some (slot_of (alive_in es) serial) ≡ true → length (alive_in after) + 1 ≡ length (alive_in es)
  fewer_after h =
      ap (λ (xs : List Entry). length (alive_in xs) + 1) after_is
      ∙ fewer es place at.within (ap is_some (sym (ap (λ (x : Entry). x.slot) entry_is) ∙ slot_found) ∙ h)
