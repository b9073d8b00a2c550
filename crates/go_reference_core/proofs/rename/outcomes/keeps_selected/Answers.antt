use Rattle.go_query_core.specs.report_core.UsageUsed.{TheOutcome}
use Rattle.std.proofs.Common.{false}
use Rattle.go_reference_core.specs.rename.Moving.{KeepsSelected, moves_of}
use Rattle.go_reference_core.proofs.RenameKept.{at_value, nothing}
use Rattle.go_reference_core.proofs.rename.outcomes.keeps_selected.Goals as goal

pub returns-in-Declared : goal.returns-in-Declared
returns-in-Declared c = at_value false (λ (o : TheOutcome). KeepsSelected (moves_of c.args.names.now) c.args.packages.now c.args.own.now o) c.args.new.now.outcome _ c.in-Declared.is nothing

pub returns-in-Selected : goal.returns-in-Selected
returns-in-Selected c = at_value c.is_moved_site.result (λ (o : TheOutcome). KeepsSelected (moves_of c.args.names.now) c.args.packages.now c.args.own.now o) c.args.new.now.outcome _ c.in-Selected.is c.is_moved_site.ensures

pub returns-in-Refused : goal.returns-in-Refused
returns-in-Refused c = at_value false (λ (o : TheOutcome). KeepsSelected (moves_of c.args.names.now) c.args.packages.now c.args.own.now o) c.args.new.now.outcome _ c.in-Refused.is nothing
