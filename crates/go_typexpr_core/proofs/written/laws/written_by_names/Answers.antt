use Rattle.go_typexpr_core.proofs.WrittenByNames.{written_by_names}
use Rattle.go_typexpr_core.proofs.written.laws.written_by_names.Goals as goal

pub returns : goal.returns
returns c = written_by_names
