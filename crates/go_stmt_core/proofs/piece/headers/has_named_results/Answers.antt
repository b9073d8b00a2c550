use Rattle.std.proofs.Common.{◌∙◌}
use Rattle.go_stmt_core.proofs.PieceHeads.{named_results}
use Rattle.go_stmt_core.proofs.piece.headers.has_named_results.Goals as goal

pub returns-in-Listed : goal.returns-in-Listed
returns-in-Listed c = c.are_named.ensures ∙ named_results c.args.signature.now c.in-Listed.params c.in-Listed.is
