use Rattle.std.proofs.Common.{◌≡◌, true, false, sym, ◌∙◌}
use Rattle.bh_port.proofs.Outcomes.{if_ok}
use Rattle.bh_columns.proofs.chart.draw_pool.Goals as goal

pub returns-then-has_pool-clause-used : goal.returns-then-has_pool-clause-used
returns-then-has_pool-clause-used c = if_ok c.draw_usages.result c.draw_usages.ensures (λ usages used some. used)

pub returns-then-has_pool-clause-none : goal.returns-then-has_pool-clause-none
returns-then-has_pool-clause-none c = if_ok c.draw_usages.result c.draw_usages.ensures (λ usages used none.
    let both : true ≡ false = sym c.if-has_pool.true ∙ c.has_pool.ensures ∙ none in
    absurd cc)
