use Rattle.std.proofs.Common.{ap, ◌+◌, ◌∙◌}
use Rattle.go_stmt_core.proofs.PieceListing.{names_counted}
use Rattle.go_stmt_core.proofs.piece.variables.count_names.Goals as goal

pub returns : goal.returns
returns c = ap (λ n. n + 1) (c.len.ensures ∙ c.args.names.now.more.ok.0) ∙ names_counted c.args.names.now.first c.args.names.now.more.items
