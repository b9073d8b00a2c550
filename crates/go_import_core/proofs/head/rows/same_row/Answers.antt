use Rattle.std.proofs.Common.{◌≡◌, Option, Some, None, sym, ◌∙◌}
use Rattle.go_graph_core.specs.declared.imports.ImportOutcome.{ImportOutcome}
use Rattle.go_import_core.proofs.HeadRowByRow.{rows_end}
use Rattle.go_import_core.proofs.head.rows.same_row.Goals as goal

pub returns-then-not-is_same_outcome-clause-told : goal.returns-then-not-is_same_outcome-clause-told
returns-then-not-is_same_outcome-clause-told c ends same =
    let both : ◌≡◌ {A = Option ImportOutcome} (Some c.in-Some-Some.one) (Some c.in-Some-Some.other) = sym c.in-Some-Some.is-0 ∙ c.outcome.ensures ∙ same c.loop-import.import ∙ sym c.outcome-in-loop-import.ensures ∙ c.in-Some-Some.is-1 in
    let one : c.in-Some-Some.one ≡ c.in-Some-Some.other = cc in
    sym c.if-not-is_same_outcome.true ∙ c.is_same_outcome.ensures.1 one

pub returns-in-Some-None-clause-told : goal.returns-in-Some-None-clause-told
returns-in-Some-None-clause-told c ends same =
    let no : ◌≡◌ {A = Option ImportOutcome} (Some c.in-Some-None.field-0-0) None = sym c.in-Some-None.is-0 ∙ c.outcome.ensures ∙ same c.loop-import.import ∙ sym c.outcome-in-loop-import.ensures ∙ c.in-Some-None.is-1 in
    absurd cc

pub returns-in-None-Some-clause-told : goal.returns-in-None-Some-clause-told
returns-in-None-Some-clause-told c ends same =
    let no : ◌≡◌ {A = Option ImportOutcome} None (Some c.in-None-Some.field-0-1) = sym c.in-None-Some.is-0 ∙ c.outcome.ensures ∙ same c.loop-import.import ∙ sym c.outcome-in-loop-import.ensures ∙ c.in-None-Some.is-1 in
    absurd cc

pub returns-in-None-None-clause-same : goal.returns-in-None-None-clause-same
returns-in-None-None-clause-same c said =
    rows_end c.args.one.now c.args.other.now c.args.«package» c.args.file c.loop-import.import c.loop-import.invariant.same
    (sym c.outcome.ensures ∙ c.in-None-None.is-0)
    (sym c.outcome-in-loop-import.ensures ∙ c.in-None-None.is-1)
