use Rattle.go_declared_core.proofs.Displaying.{tables_show_their_packages}
use Rattle.go_declared_core.proofs.laws.tables_show_their_packages.Goals as goal

pub returns : goal.returns
returns c = tables_show_their_packages
