use Rattle.std.proofs.Common.{◌∙◌, ◌++◌, ap, List, ℕ}
use Rattle.govisd_folders.proofs.runs.running.tell_faults.Goals as goal

pub returns : goal.returns
returns c =
    let notes = c.args.notes.now in
    let passed = c.args.passed.now in
    let left = c.in_ok-push.ensures ∙ ap (λ (l : List ℕ). l ++ passed) c.in_ok-said.ensures.ok in
    let whole = c.in_ok-push-2.ensures ∙ (ap (λ (l : List ℕ). l ++ c.as_str.result.now) left ∙ ap (λ (t : List ℕ). (notes ++ passed) ++ t) c.as_str.ensures.value) in
    record {
      report = c.in_ok-report.report;
      are = c.in_ok-report.ensures;
      says = record { status = c.nothing_ran.ensures.status; text = c.nothing_ran.ensures.text; says = c.nothing_ran.ensures.says ∙ whole };
    }
