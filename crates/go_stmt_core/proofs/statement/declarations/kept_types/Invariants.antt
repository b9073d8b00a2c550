use Rattle.std.proofs.Common.{◌≡◌, ◌++◌, map, drop}
use Rattle.go_expr_core.specs.denote_core.declared.things.Argument.TheVariants as arguments
use Rattle.go_stmt_core.specs.statement.Declarations.{type_after}
use Rattle.go_stmt_core.proofs.statement.declarations.kept_types.Given as goal

abbrev pub invariant-loop-target : goal.invariant-loop-target
invariant-loop-target g l =
    let rules = g.E.TypeLooks.types l.env in
    l.all.items ++ map (λ target. type_after rules target arguments.Refused) (drop l.target-index l.targets) ≡ map (λ target. type_after rules target arguments.Refused) l.targets
