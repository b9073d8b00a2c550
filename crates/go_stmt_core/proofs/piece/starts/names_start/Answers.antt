use Rattle.std.proofs.Common.{sym}
use Rattle.go_stmt_core.proofs.PieceListing.{names_begin}
use Rattle.go_stmt_core.proofs.piece.starts.names_start.Goals as goal

pub returns : goal.returns
returns c = sym (names_begin c.args.names.now.first c.args.names.now.more.items)
