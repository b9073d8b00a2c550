use Rattle.go_program_laws.proofs.FaultlessCalls.{calls_served}
use Rattle.go_program_laws.proofs.faultless.laws.calls_are_served.Goals as goal

pub returns : goal.returns
returns c =
    calls_served
    (record {
      fine = c.objects_are_of_faultless.ensures;
      one = c.functions_have_one_table.ensures;
      of_locals = c.locals_are_declarations.ensures;
      funcs = c.functions_are_placed.ensures;
      binds = c.imports_bind_theirs.ensures;
      between = c.bodies_are_between_braces.ensures;
    })
    c.calls_refer_to_theirs.ensures c.names_are_read.ensures c.constants_are_served.ensures
