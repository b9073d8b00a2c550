use Rattle.std.proofs.Common.{[], sym, subst}
use Rattle.std.proofs.lemmas.List.{get_or_default}
use Rattle.go_tree_nodes.specs.Shapes.{decl_of, func_of}
use Rattle.go_inline_core.specs.Trees.{decl_types}
use Rattle.go_body_core.specs.function.Laws.{AreFuncTypes}
use Rattle.go_body_core.specs.file.Stands.{stand_of}
use Rattle.go_body_core.specs.file.mirrors.Steps.{AreSeen, HasNext}
use Rattle.go_body_core.proofs.file.decls.check_decl.Goals as goal

pub check_values-requires-clause-types : goal.check_values-requires-clause-types
check_values-requires-clause-types g c = subst (λ d. AreSeen (stand_of g.P.ImportedNames.shows c.args.at.now) c.args.at.now.initial.now (decl_types (decl_of d))) c.in-Value.is c.requires.types

pub check_func-requires-clause-types : goal.check_func-requires-clause-types
check_func-requires-clause-types g c =
    let st = stand_of g.P.ImportedNames.shows c.args.at.now in
    let has = subst (λ d. HasNext st (decl_of d) c.args.functions.now c.args.next) c.in-Func.is c.requires.functions in
    let f = func_of c.in-Func.func in
    subst (AreFuncTypes st f) (sym c.index-functions-next.is) (subst (AreFuncTypes st f) (get_or_default c.args.functions.now c.args.next [] c.index-functions-next.result has.1) has.2)
