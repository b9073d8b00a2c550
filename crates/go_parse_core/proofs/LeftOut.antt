-- Trees with marks, and token lists that leave out semicolons, say the same.
use Rattle.std.proofs.Common.{subst}
use Rattle.go_tree_nodes.specs.Terminals.{terminals}
use Rattle.go_parse_core.specs.LeftOut.{LeftOut, symbols_file, Fills_file, MarkedIsWhole, WholeIsMarked, HasOneWholeTree}
use Rattle.go_parse_core.proofs.LeftOutFiles.{file_shown, file_filled}
use Rattle.go_parse_core.proofs.Meanings.{has_one_tree}

pub marked_is_whole : MarkedIsWhole
marked_is_whole text m has =
    let q = file_filled m has.tree.wf in
    let left : LeftOut (symbols_file q.tree) (terminals text has.tokens) = subst (LeftOut (symbols_file q.tree)) has.tree.spelled q.left_out in
    (q.tree, record { tokens = has.tokens; scanned = has.scanned; wf = q.wf; full = q.full; left_out = left }, q.fills, q.high)

pub whole_is_marked : WholeIsMarked
whole_is_marked text f has =
    let q = file_shown f has.wf has.full (terminals text has.tokens) has.left_out in
    (q.tree, record { tokens = has.tokens; scanned = has.scanned; tree = record { wf = q.good.wf; spelled = q.spelled } }, q.good.fills, q.good.high)

pub has_one_whole_tree : HasOneWholeTree
has_one_whole_tree text f g f_has g_has =
    let x = whole_is_marked text f f_has in
    let y = whole_is_marked text g g_has in
    (x.0, x.1, x.2, subst (λ m. Fills_file m g) (has_one_tree text y.0 x.0 y.1 x.1) y.2)
