use Rattle.std.proofs.Common.{◌≡◌, ◌++◌, sym, subst}
use Rattle.std.specs.Result.{OnOk}
use Rattle.go_tree_nodes.proofs.ShapeLemmas.{loop_parts, block_form, else_form}
use Rattle.go_local_core.specs.walks.Ends.{loop_faults, else_loop_faults}
use Rattle.go_local_core.proofs.WalksEndLemmas.{faults_of_branch}
use Rattle.go_local_core.proofs.walks.ends.+loops.Goals as goal

pub branch_loop_faults-returns : goal.branch_loop_faults-returns
branch_loop_faults-returns t c = faults_of_branch c.else_loop_faults.result c.args.in_loop c.args.branch.now c.args.faults.now.items c.lines_loop_faults.new.faults.items c.else_loop_faults.new.faults.items c.in_ok-lines_loop_faults.ensures c.else_loop_faults.ensures

pub else_loop_faults-returns-in-Block : goal.else_loop_faults-returns-in-Block
else_loop_faults-returns-in-Block t c = subst (λ o. OnOk c.lines_loop_faults.result (c.lines_loop_faults.new.faults.items ≡ c.args.faults.now.items ++ else_loop_faults c.args.in_loop o)) (sym (else_form c.args.otherwise.now _ _ _ _ c.in-Block.is)) c.lines_loop_faults.ensures

pub loop_faults-returns-in-Block : goal.loop_faults-returns-in-Block
loop_faults-returns-in-Block t c = subst (λ s. OnOk c.lines_loop_faults.result (c.lines_loop_faults.new.faults.items ≡ c.args.faults.now.items ++ loop_faults c.args.in_loop s)) (sym (block_form c.args.stmt.now _ _ _ c.in-Block.is)) c.lines_loop_faults.ensures

pub body_loop_faults-returns : goal.body_loop_faults-returns
body_loop_faults-returns t c = subst (λ s. OnOk c.lines_loop_faults.result (c.lines_loop_faults.new.faults.items ≡ c.args.faults.now.items ++ loop_faults c.args.in_loop s)) (sym (loop_parts c.args.turns.now)) c.lines_loop_faults.ensures
