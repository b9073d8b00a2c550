use Rattle.go_program_laws.proofs.CallsDeclared.{functions_keep}
use Rattle.go_program_laws.proofs.calls.laws.functions_keep_types.Goals as goal

pub returns : goal.returns
returns c = functions_keep c.functions_have_one_table.ensures c.locals_are_declarations.ensures c.functions_are_placed.ensures
