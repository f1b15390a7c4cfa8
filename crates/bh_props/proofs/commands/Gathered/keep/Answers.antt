use Rattle.std.proofs.Common.{◌≡◌, ◌∙◌, ◌∷◌, ◌++◌, [], ap, rules, set, sym, subst}
use Rattle.std.specs.Str.{bytes_eq}
use Rattle.indexmap.specs.IndexMap.{insert_entry}
use Rattle.bh_props.specs.Gathered.{AreCounted}
use Rattle.bh_props.proofs.Gathered.{counted-next}
use Rattle.bh_props.proofs.Groups.{insert_entry-new_name}
use Rattle.bh_props.proofs.commands.Gathered.keep.Goals as goal

pub returns-clause-kept : goal.returns-clause-kept
returns-clause-kept c =
    let same : c.unwrap.result ≡ c.args.name.now = search rules in
    c.in_ok-insert.ensures.entries
    ∙ ap (λ name. insert_entry bytes_eq c.args.self.now.commands.entries name c.args.command) same
    ∙ insert_entry-new_name c.args.self.now.commands.entries c.args.name.now c.args.command c.requires.fresh

pub invariant_of-self-2 : goal.invariant_of-self-2
invariant_of-self-2 c =
    let same : c.unwrap.result ≡ c.args.name.now = search rules in
    let kept : c.insert.new.self.entries ≡ c.args.self.now.commands.entries ++ (c.args.name.now, c.args.command) ∷ [] =
    c.in_ok-insert.ensures.entries
    ∙ ap (λ name. insert_entry bytes_eq c.args.self.now.commands.entries name c.args.command) same
    ∙ insert_entry-new_name c.args.self.now.commands.entries c.args.name.now c.args.command c.requires.fresh in
    record {
      counted = subst (λ cs. AreCounted cs (set c.args.self.now.counts.items c.args.command.0 c.args.command.1)) (sym kept)
          (counted-next c.args.self.now.commands.entries c.args.self.now.counts.items c.args.name.now c.args.command.0 c.args.command.1 c.args.self.now.counted c.requires.within c.requires.numbered);
    }
