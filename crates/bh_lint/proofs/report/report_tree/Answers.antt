use Rattle.std.proofs.Common.{◌∙◌, ◌++◌, ap}
use Rattle.bh_lint.specs.Lines.{first_of, more_of}
use Rattle.bh_lint.specs.Report.{are_some}
use Rattle.bh_lint.proofs.report.report_tree.Goals as goal

pub returns : goal.returns
returns c =
    let e = c.in_ok-found.ensures.errors in
    let w = c.in_ok-found.ensures.warnings in
    record {
      told = c.in_ok-told.ensures ∙ c.deref.ensures.value ∙ c.in_ok-first.ensures.first ∙ (λ i. first_of (e i ++ w i));
      more = c.in_ok-first.ensures.more ∙ (λ i. more_of (e i ++ w i));
      has_errors = c.are_some-has_errors.ensures ∙ ap are_some (c.deref-2.ensures.value ∙ e);
      has_warnings = c.are_some-has_warnings.ensures ∙ ap are_some (c.deref-3.ensures.value ∙ w);
    }
