use Rattle.std.proofs.Common.{ℕ, List, ap, map, rules, subst, sym}
use Rattle.bh_look.specs.Rows.{row_said}
use Rattle.bh_look.specs.declared.rows.Row.{Row}
use Rattle.bh_commands.specs.Summary.{HasRows}
use Rattle.bh_commands.proofs.Whole.{summary-written, text-written, watched-whole}
use Rattle.bh_commands.proofs.summary.write_summary.Goals as goal

pub returns-clause-written : goal.returns-clause-written
returns-clause-written g c =
    text-written _ _ _ _ _ _ (ap g.W.Write.contents c.new-writer.ensures.same) (search rules) c.in_ok-write.ensures.ok

pub returns-clause-summary : goal.returns-clause-summary
returns-clause-summary g c =
    let made : HasRows c.args.form (map row_said c.in_ok-rows.rows.items) c.in_ok-text.text.items =
    subst (λ (rs : List Row). HasRows c.args.form (map row_said rs) c.in_ok-text.text.items) c.as_slice.ensures.value c.in_ok-text.ensures in
    let has : HasRows c.args.form (map row_said c.in_ok-rows.rows.items) c.as_slice-2.result.now =
    subst (λ (text : List ℕ). HasRows c.args.form (map row_said c.in_ok-rows.rows.items) text) (sym c.as_slice-2.ensures.value) made in
    summary-written _ _ _ _ _ _ _ _ _ _ _ _ _ _ _ (ap g.R.Read.remaining c.new-reader.ensures.same) (ap g.W.Write.contents c.new-writer.ensures.same) (search rules) c.in_ok-rows.ensures
    c.in_ok-watch.ensures.none c.in_ok-watch.ensures.watched c.watch_script-ended.ensures.watched (c.watch_script-ended.ensures.outcome _ c.in_ok-watch.ensures.watched) has c.in_ok-write.ensures.ok

pub returns-clause-whole : goal.returns-clause-whole
returns-clause-whole g c =
    watched-whole _ _ _ _ _ _ _ (ap g.R.Read.remaining c.new-reader.ensures.same) (c.watch_script-ended.ensures.outcome _ c.in_ok-watch.ensures.watched)
