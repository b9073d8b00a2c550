use Rattle.go_program_laws.proofs.CheckedSourcesClearing.{pieces_clear}
use Rattle.go_program_laws.proofs.checked_sources.laws.pieces_are_clear.Goals as goal

pub returns : goal.returns
returns c =
    pieces_clear c.objects_are_of_faultless.ensures c.functions_have_one_table.ensures c.locals_are_declarations.ensures c.functions_are_placed.ensures c.imports_bind_theirs.ensures c.bodies_are_between_braces.ensures
