use Rattle.std.proofs.Common.{◌++◌, ap, sym, ◌∙◌}
use Rattle.go_package_core.proofs.Stages.{settled_of}
use Rattle.go_package_core.proofs.tasks.finished.Goals as goal

pub returns-clause-faults : goal.returns-clause-faults
returns-clause-faults c =
    let f = c.in_ok-faults.ensures in
    settled_of c.deref.result.now c.in_ok-answers.answers.items c.deref-2.result.now _ c.in_ok-faults.faults.items
    (c.deref.ensures.value ∙ sym c.in_ok-answers.ensures)
    (c.deref-2.ensures.value ∙ (c.in_ok-append.ensures.items ∙ ap (λ l. c.args.checked.faults.items ++ l) c.in_ok-whole.ensures))
    (record { ordered = f.ordered; kept = f.kept; found = f.found; unsaid = f.unsaid })
