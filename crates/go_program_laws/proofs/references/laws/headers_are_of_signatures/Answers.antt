use Rattle.go_program_laws.proofs.ReferencesHeaders.{headers_same}
use Rattle.go_program_laws.proofs.references.laws.headers_are_of_signatures.Goals as goal

pub returns : goal.returns
returns c =
    headers_same
    (record {
      fine = c.objects_are_of_faultless.ensures;
      one = c.functions_have_one_table.ensures;
      of_locals = c.locals_are_declarations.ensures;
      funcs = c.functions_are_placed.ensures;
      binds = c.imports_bind_theirs.ensures;
      between = c.bodies_are_between_braces.ensures;
    })
