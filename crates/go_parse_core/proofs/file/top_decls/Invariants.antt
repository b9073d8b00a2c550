use Rattle.std.proofs.Common.{length}
use Rattle.go_parse_core.proofs.CodeFiles.{TopsSoFar}
use Rattle.go_parse_core.proofs.file.top_decls.Given as goal

abbrev pub invariant-turns : goal.invariant-turns
invariant-turns l = TopsSoFar l.budget l.fn.ahead l.all.items l.rest

abbrev pub decreases-turns : goal.decreases-turns
decreases-turns l = length l.rest
