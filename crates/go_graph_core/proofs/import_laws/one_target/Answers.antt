use Rattle.go_graph_core.proofs.OutcomeLaws.{has_target, has_no_other_target}
use Rattle.go_graph_core.proofs.import_laws.one_target.Goals as goal

pub returns-clause-some : goal.returns-clause-some
returns-clause-some c = has_target

pub returns-clause-only : goal.returns-clause-only
returns-clause-only c = has_no_other_target
