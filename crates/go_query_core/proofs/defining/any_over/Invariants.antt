use Rattle.std.proofs.Common.{◌≡◌, drop}
use Rattle.std.specs.List.{list_any}
use Rattle.go_query_core.specs.Defining.{is_over}
use Rattle.go_query_core.proofs.defining.any_over.Given as goal

abbrev pub invariant-loop-token : goal.invariant-loop-token
invariant-loop-token l = list_any (is_over l.offset) (drop l.token-index l.tokens) ≡ list_any (is_over l.offset) l.tokens
