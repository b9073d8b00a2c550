use Rattle.std.proofs.Common.{length}
use Rattle.go_parse_core.proofs.CodeImports.{ImportsSoFar}
use Rattle.go_parse_core.proofs.imports.imports.Given as goal

abbrev pub invariant-turns : goal.invariant-turns
invariant-turns l = ImportsSoFar l.fn.ahead l.all.items l.rest

abbrev pub decreases-turns : goal.decreases-turns
decreases-turns l = length l.rest
