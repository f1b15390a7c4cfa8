use Rattle.std.proofs.Common.{◌≡◌, ◌∙◌, [], ◌∷◌, ◌++◌, ◌+◌, Ok, Err, ap, subst, sym, arith}
use Rattle.std.proofs.lemmas.Grind.{common_steps}
use Rattle.std.specs.List.Sorted.{IsStrictlySortedBy}
use Rattle.std.specs.Map.{keys_of}
use Rattle.std.specs.String.{string_cmp}
use Rattle.toml.specs.View.{view}
use Rattle.bh_props.specs.declared.error.SettingsError.TheVariants as refusals
use Rattle.bh_props.specs.Commands.{commands_from}
use Rattle.bh_props.proofs.Further.{AreFresh, Entry, seen, in_order-sorted, fresh-none, fresh-here, reached-next, reached-bad}
use Rattle.bh_props.proofs.Gathered.{next_command-numbered}
use Rattle.bh_props.proofs.commands.commands_of_table.Goals as goal

pub loop-name-init : goal.loop-name-init
loop-name-init c =
    let whole = c.into_iter-name-iterator.ensures.into_iter_gives ∙ c.iter-name-items.ensures.rest in
    let none = c.in_ok-gathered.ensures.none in
    record {
      can_next = tt;
      finite = tt;
      groups = c.in_ok-gathered.ensures.groups ∙ c.len.ensures.len;
      reached = record {
        sorted = subst (λ es. IsStrictlySortedBy string_cmp (keys_of es)) (sym whole) c.iter-name-items.ensures.ordered;
        fresh = subst (λ cs. AreFresh (keys_of cs) (keys_of c.into_iter-name-iterator.result)) (sym none) (fresh-none (keys_of c.into_iter-name-iterator.result));
        same =
            ap (λ cs. commands_from c.args.names.now.texts.keys cs (seen c.into_iter-name-iterator.result)) none
            ∙ ap (λ es. commands_from c.args.names.now.texts.keys [] (seen es)) whole;
      };
    }

pub keep-requires-clause-fresh : goal.keep-requires-clause-fresh
keep-requires-clause-fresh c =
    let e : Entry = (c.in-Some.name.now, c.in-Some.value.now) in
    let iter : c.loop-name.name-iterator ≡ e ∷ c.next.new.self = grind (arith, common_steps) in
    fresh-here _ _ _ e _ iter c.as_str-in-loop-name.ensures.value c.loop-name.invariant.reached.fresh

pub keep-requires-clause-within : goal.keep-requires-clause-within
keep-requires-clause-within c =
    let numbered = next_command-numbered c.args.names.now.texts.keys c.loop-name.gathered.commands.entries c.as_str.result.now (view c.in-Some.value.now) c.in-Some-next_command.command (sym c.next_command.ensures ∙ c.in-Some-next_command.is) in
    omega (arith, numbered.0, c.loop-name.invariant.groups)

pub keep-requires-clause-numbered : goal.keep-requires-clause-numbered
keep-requires-clause-numbered c = (next_command-numbered c.args.names.now.texts.keys c.loop-name.gathered.commands.entries c.as_str.result.now (view c.in-Some.value.now) c.in-Some-next_command.command (sym c.next_command.ensures ∙ c.in-Some-next_command.is)).1

pub loop-name-preserved : goal.loop-name-preserved
loop-name-preserved c =
    let e : Entry = (c.in-Some.name.now, c.in-Some.value.now) in
    let iter : c.loop-name.name-iterator ≡ e ∷ c.next.new.self = grind (arith, common_steps) in
    record {
      can_next = tt;
      finite = tt;
      groups = c.keep.ensures.groups ∙ c.loop-name.invariant.groups;
      reached = reached-next _ _ _ _ e _ _ iter c.as_str.ensures.value _ c.in-Some-next_command.command c.loop-name.invariant.reached
          (sym c.next_command.ensures ∙ c.in-Some-next_command.is)
          (c.in_ok-keep.ensures.kept
          ∙ ap (λ name. c.loop-name.gathered.commands.entries ++ (name, c.in-Some-next_command.command) ∷ []) (c.as_str-in-loop-name.ensures.value ∙ sym c.as_str.ensures.value));
    }

pub returns-in_default-clause-refused : goal.returns-in_default-clause-refused
returns-in_default-clause-refused c =
    let e : Entry = (c.in-Some.name.now, c.in-Some.value.now) in
    let iter : c.loop-name.name-iterator ≡ e ∷ c.next.new.self = grind (arith, common_steps) in
    let bad = reached-bad _ _ _ _ e _ _ iter c.as_str.ensures.value c.loop-name.invariant.reached (sym c.next_command.ensures ∙ c.in_default.is) in
    λ _. ap (commands_from c.args.names.now.texts.keys []) (in_order-sorted c.args.table.now.entries c.iter-name-items.ensures.ordered)
    ∙ bad ∙ ap (λ n. Err (refusals.BadCommand (n + 1))) (sym c.len-in_default.ensures.len)

pub returns-clause-ok : goal.returns-clause-ok
returns-clause-ok c =
    let none : c.loop-name.name-iterator ≡ [] = grind (arith, common_steps) in
    ap (commands_from c.args.names.now.texts.keys []) (in_order-sorted c.args.table.now.entries c.iter-name-items.ensures.ordered)
    ∙ sym c.loop-name.invariant.reached.same ∙ ap (λ es. commands_from c.args.names.now.texts.keys c.loop-name.gathered.commands.entries (seen es)) none
    ∙ ap (λ made. Ok made.entries) (sym c.into_commands.ensures)
