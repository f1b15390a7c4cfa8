use Rattle.std.proofs.Common.{◌∙◌, ◌++◌, ℕ, ap, map}
use Rattle.std.specs.Prelude.{Vec}
use Rattle.std.specs.declared.alloc.Global.{Global}
use Rattle.bh_look.specs.Objects.{objects_of}
use Rattle.bh_look.specs.Rows.{row_said}
use Rattle.bh_look.specs.Tables.{table_of}
use Rattle.bh_commands.proofs.Whole.{has_objects, has_table}
use Rattle.bh_commands.proofs.summary.summary_text.Goals as goal
use Rattle.bh_commands.proofs.summary.summary_text.Goals.{in-Table+in_ok-put_table-in-Table, in-Objects+in_ok-put_objects-in-Objects}

pub returns : goal.returns
returns c =
    let rows = c.args.rows.now in
    elim c.match-form.branch [
      | in-Table+in_ok-put_table-in-Table w ↦ (
          let (times, count, put) = w.in_ok-put_table-in-Table.ensures in
          has_table c.args.form rows c.match-form.text.items times c.args.watch.now.lines c.args.watch.now.faults w.in-Table.is count
          (ap (λ (text : Vec ℕ Global). text.items) w.text-is ∙ put ∙ ap (λ front. front ++ table_of (map row_said rows) times c.args.watch.now.lines c.args.watch.now.faults) c.new-text.ensures.items))
      | in-Objects+in_ok-put_objects-in-Objects w ↦ (
          let (times, count, put) = w.in_ok-put_objects-in-Objects.ensures in
          has_objects c.args.form rows c.match-form.text.items times w.in-Objects.is count
          (ap (λ (text : Vec ℕ Global). text.items) w.text-is ∙ put ∙ ap (λ front. front ++ objects_of (map row_said rows) times) c.new-text.ensures.items))
    ]
