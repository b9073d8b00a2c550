use Rattle.std.proofs.Common.{length}
use Rattle.go_parse_reader.proofs.TypesCodeIdents.{IdentsSoFar}
use Rattle.go_parse_reader.proofs.types.names.idents.Given as goal

abbrev pub invariant-turns : goal.invariant-turns
invariant-turns l = IdentsSoFar l.fn.ahead l.first l.more.items l.rest

abbrev pub decreases-turns : goal.decreases-turns
decreases-turns l = length l.rest
