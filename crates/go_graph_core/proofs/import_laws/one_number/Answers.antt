use Rattle.go_graph_core.proofs.Numbers.{has_one_number, has_one_package}
use Rattle.go_graph_core.proofs.import_laws.one_number.Goals as goal

pub returns-clause-number : goal.returns-clause-number
returns-clause-number c = has_one_number

pub returns-clause-package : goal.returns-clause-package
returns-clause-package c = has_one_package
