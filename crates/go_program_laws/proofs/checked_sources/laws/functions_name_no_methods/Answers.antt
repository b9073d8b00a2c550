use Rattle.go_program_laws.proofs.CheckedSourcesNaming.{functions_name_none}
use Rattle.go_program_laws.proofs.checked_sources.laws.functions_name_no_methods.Goals as goal

pub returns : goal.returns
returns c =
    functions_name_none c.objects_are_of_faultless.ensures c.functions_have_one_table.ensures c.locals_are_declarations.ensures c.functions_are_placed.ensures c.imports_bind_theirs.ensures c.bodies_are_between_braces.ensures
