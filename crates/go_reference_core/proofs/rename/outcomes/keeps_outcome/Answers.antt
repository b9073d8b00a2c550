use Rattle.go_query_core.specs.report_core.UsageUsed.{TheOutcome}
use Rattle.go_reference_core.specs.rename.Moving.{IsMovedOutcome, moves_of}
use Rattle.go_reference_core.proofs.RenameKept.{at_value}
use Rattle.go_reference_core.proofs.rename.outcomes.keeps_outcome.Goals as goal

pub returns-in-Declared : goal.returns-in-Declared
returns-in-Declared c = at_value c.keeps_declared.result (λ (o : TheOutcome). IsMovedOutcome (moves_of c.args.names.now) c.args.packages.now o c.args.new.now.outcome) c.args.old.now.outcome _ c.in-Declared.is c.keeps_declared.ensures

pub returns-in-Selected : goal.returns-in-Selected
returns-in-Selected c = at_value c.keeps_selected.result (λ (o : TheOutcome). IsMovedOutcome (moves_of c.args.names.now) c.args.packages.now o c.args.new.now.outcome) c.args.old.now.outcome _ c.in-Selected.is c.keeps_selected.ensures

pub returns-in-Refused : goal.returns-in-Refused
returns-in-Refused c = at_value c.keeps_refused.result (λ (o : TheOutcome). IsMovedOutcome (moves_of c.args.names.now) c.args.packages.now o c.args.new.now.outcome) c.args.old.now.outcome _ c.in-Refused.is c.keeps_refused.ensures
