use Rattle.go_program_laws.proofs.TypesParams.{parameters_typed}
use Rattle.go_program_laws.proofs.types.laws.parameters_are_typed.Goals as goal

pub returns : goal.returns
returns c =
    parameters_typed
    (record {
      fine = c.objects_are_of_faultless.ensures;
      one = c.functions_have_one_table.ensures;
      of_locals = c.locals_are_declarations.ensures;
      funcs = c.functions_are_placed.ensures;
      binds = c.imports_bind_theirs.ensures;
      between = c.bodies_are_between_braces.ensures;
    })
