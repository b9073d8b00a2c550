use Rattle.go_documentation_laws.proofs.Standing.{types_below}
use Rattle.go_documentation_laws.proofs.laws.types_below_agree.Goals as goal

pub returns : goal.returns
returns c = types_below c.one_part.ensures c.check_is_local.ensures c.imports_bind_theirs.ensures c.added_imports_are_judged.ensures
