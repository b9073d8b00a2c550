use Rattle.std.proofs.Common.{◌++◌, sym, ap}
use Rattle.go_tree_nodes.specs.Shapes.{exprs_from}
use Rattle.go_code_core.specs.Code.{one_code}
use Rattle.go_code_core.specs.fragments.Names.{frame_of}
use Rattle.go_code_core.proofs.FragmentsLoops.{is_more}
use Rattle.go_code_core.proofs.simples.one.Goals as goal

pub returns-in_default : goal.returns-in_default
returns-in_default g c =
    let more = is_more c.as_slice.result.now c.args.exprs.now.more.items c.as_slice.ensures.value c.in_default.len_at_least in
    sym (ap (λ l. one_code (frame_of (g.N.CodeNames.looks c.args.frame.now.names.now) c.args.frame.now.slots.now) (exprs_from c.args.exprs.now.first l) ++ c.args.code.now) more.is)
