use Rattle.std.proofs.Common.{◌≡◌, ◌≢◌, ◌<◌, ℕ, length, List, Option, None, true, refl, sym, ap}
use Rattle.bh_serials.specs.Entries.{IsAt, entry_at}
use Rattle.std.specs.Prelude.{is_some}
use Rattle.bh_serials.proofs.Alive.{all_others, none_in}
use Rattle.bh_serials.proofs.Left.{alive_after, fewer_after, rising_after}
use Rattle.bh_serials.proofs.table.SerialTable.remove.Goals as goal

no_slot : {A : Type 0} (o : Option ℕ) → o ≡ None → is_some o ≡ true → A
no_slot o none some = cc

there : (c : goal.After-self-1) → IsAt c.in-Some.place c.args.serial c.self.inside.entries.items
there c = rw c.deref.ensures.value at c.in-Some.ensures.found

absent : (c : goal.In_default) → (k : ℕ) → k < length c.self.inside.entries.items → (entry_at c.self.inside.entries.items k).serial ≢ c.args.serial
absent c = rw c.deref.ensures.value at (c.in_default.ensures.none refl)

pub invariant_of-self : goal.invariant_of-self
invariant_of-self c = record {
  rising = rising_after c.self.inside.latest c.args.serial c.in-Some.place c.self.inside.entries.items c.self.invariant.rising (there c) c.index_mut.result.now c.index_mut.ensures.value;
  memory = c.self.invariant.memory;
}

pub returns-in-Some-clause-left : goal.returns-in-Some-clause-left
returns-in-Some-clause-left c =
    rw (← c.self.view_is)
    (ap (λ (es : List (ℕ × ℕ)). record { entries = es; latest = c.self.inside.latest; room = c.self.inside.room })
    (alive_after c.self.inside.latest c.args.serial c.in-Some.place c.self.inside.entries.items c.self.invariant.rising (there c) c.index_mut.result.now c.index_mut.ensures.value))

pub returns-in-Some-clause-one : goal.returns-in-Some-clause-one
returns-in-Some-clause-one c =
    rw (← c.self.view_is) (fewer_after c.self.inside.latest c.args.serial c.in-Some.place c.self.inside.entries.items c.self.invariant.rising (there c) c.index_mut.result.now c.index_mut.ensures.value)

pub returns-in_default-clause-left : goal.returns-in_default-clause-left
returns-in_default-clause-left c =
    rw (← c.self.view_is)
    (ap (λ (es : List (ℕ × ℕ)). record { entries = es; latest = c.self.inside.latest; room = c.self.inside.room })
    (sym (all_others c.self.inside.entries.items c.args.serial (absent c))))

pub returns-in_default-clause-one : goal.returns-in_default-clause-one
returns-in_default-clause-one c =
    rw (← c.self.view_is) (no_slot _ (none_in c.self.inside.entries.items c.args.serial (absent c)))
