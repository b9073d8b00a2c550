use Rattle.go_program_laws.proofs.FaultlessSigns.{names_read}
use Rattle.go_program_laws.proofs.faultless.laws.names_are_read.Goals as goal

pub returns : goal.returns
returns c =
    names_read
    (record {
      fine = c.objects_are_of_faultless.ensures;
      one = c.functions_have_one_table.ensures;
      of_locals = c.locals_are_declarations.ensures;
      funcs = c.functions_are_placed.ensures;
      binds = c.imports_bind_theirs.ensures;
      between = c.bodies_are_between_braces.ensures;
    })
    c.parts_are_fit.ensures c.check_is_local.ensures
