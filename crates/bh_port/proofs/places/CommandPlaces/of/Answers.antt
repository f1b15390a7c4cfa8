use Rattle.std.proofs.Common.{◌≡◌, ◌-◌, ◌∙◌, ℕ, List, Some, length, replicate, arith, ap, sym, subst, rules}
use Rattle.std.specs.Prelude.{slice_get}
use Rattle.bh_port.proofs.FoundFrom.{AreFoundFrom, found_none, found_next, found_all}
use Rattle.bh_port.proofs.places.CommandPlaces.of.Goals as goal

pub commands-init : goal.commands-init
commands-init c =
    let commands = c.args.settings.now.commands.entries in
    let past : c.len-past.result ≡ length commands = search rules in
    let none : c.in_ok-places.places.items ≡ replicate c.saturating_mul.result (length commands) = c.in_ok-places.ensures ∙ ap (replicate c.saturating_mul.result) past in
    record {
      within = search rules;
      found = subst (λ (k : ℕ). AreFoundFrom k commands c.in_ok-places.places.items) (sym past)
          (subst (λ (xs : List ℕ). AreFoundFrom (length commands) commands xs) (sym none) (found_none commands c.saturating_mul.result));
    }

pub commands-preserved-in-Some : goal.commands-preserved-in-Some
commands-preserved-in-Some c =
    let commands = c.args.settings.now.commands.entries in
    let at = c.commands.at in
    let here : slice_get commands (at - 1) ≡ Some (c.in-Some._name.now, c.in-Some.command.now) = sym c.in-Some.ensures.entry in
    record {
      within = omega (arith, c.commands.invariant.within);
      found = found_next commands (at - 1) (c.in-Some._name.now, c.in-Some.command.now) here c.commands.places.items c.put_place.new.places.items c.put_place.ensures.put c.put_place.ensures.kept
          (subst (λ (k : ℕ). AreFoundFrom k commands c.commands.places.items) (omega (arith, c.commands-test.true)) c.commands.invariant.found);
    }

pub returns-clause-places : goal.returns-clause-places
returns-clause-places c =
    let commands = c.args.settings.now.commands.entries in
    let done : c.commands.at ≡ 0 = omega (arith, c.commands-test.false) in
    found_all commands c.commands.places.items (subst (λ (k : ℕ). AreFoundFrom k commands c.commands.places.items) done c.commands.invariant.found)
