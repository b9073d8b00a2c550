use Rattle.std.proofs.Common.{◌<◌, ◌+◌, ◌*◌, ◌^◌, length}
use Rattle.go_parse_core.proofs.StmtsCodeStmts.{LinesSoFar}
use Rattle.go_parse_core.proofs.stmts.stmts.+statements.Given as goal

abbrev pub decreases-lines : goal.decreases-lines
decreases-lines l = 8 * l.budget + 8

abbrev pub decreases-without_keyword : goal.decreases-without_keyword
decreases-without_keyword l = 8 * l.inner + 10

abbrev pub decreases-block : goal.decreases-block
decreases-block l = 8 * l.budget + 1

abbrev pub decreases-otherwise : goal.decreases-otherwise
decreases-otherwise l = 8 * l.inner + 12

abbrev pub decreases-branches : goal.decreases-branches
decreases-branches l = 8 * l.inner + 13

abbrev pub decreases-branch : goal.decreases-branch
decreases-branch l = 8 * l.inner + 14

abbrev pub decreases-for_stmt : goal.decreases-for_stmt
decreases-for_stmt l = 8 * l.inner + 14

abbrev pub decreases-statement : goal.decreases-statement
decreases-statement l = 8 * l.inner + 15

abbrev pub invariant-lines-turns : goal.invariant-lines-turns
invariant-lines-turns l = record { so_far : LinesSoFar l.budget l.fn.ahead l.all.items l.rest; few : l.budget < 2 ^ 31 }

abbrev pub decreases-lines-turns : goal.decreases-lines-turns
decreases-lines-turns l = length l.rest
