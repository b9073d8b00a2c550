use Rattle.std.specs.Prelude.{ℕ, List}
use Rattle.go_term_core.specs.Terms.{Term, Sign}
use Rattle.govisd_resolve.specs.handle_core.Declarations.{Declaration}
use Rattle.go_workspace_laws.proofs.FoldingFolding.{constants_folded, expressions_folded}
use Rattle.go_workspace_laws.proofs.Agree.{constants_agree}
use Rattle.go_workspace_laws.proofs.constant_laws.constants_are_of_the_check.Goals as goal

pub returns : goal.returns
returns c =
    constants_agree (constants_folded Term Sign Declaration (List ℕ)) (expressions_folded Term Sign Declaration (List ℕ)) c.objects_are_of_faultless.ensures c.functions_have_one_table.ensures c.locals_are_declarations.ensures
    c.functions_are_placed.ensures c.imports_bind_theirs.ensures c.bodies_are_between_braces.ensures
