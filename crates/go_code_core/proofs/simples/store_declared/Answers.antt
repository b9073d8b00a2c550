use Rattle.std.proofs.Common.{◌++◌, sym, ap}
use Rattle.go_tree_nodes.specs.TypeShapes.{idents_from}
use Rattle.go_code_core.specs.Code.{declared_code}
use Rattle.go_code_core.specs.fragments.Names.{frame_of}
use Rattle.go_code_core.proofs.FragmentsLoops.{is_more}
use Rattle.go_code_core.proofs.simples.store_declared.Goals as goal

pub returns-in_default : goal.returns-in_default
returns-in_default g c =
    let more = is_more c.as_slice.result.now c.args.names.now.more.items c.as_slice.ensures.value c.in_default.len_at_least in
    sym (ap (λ l. declared_code (frame_of (g.N.CodeNames.looks c.args.frame.now.names.now) c.args.frame.now.slots.now) (idents_from c.args.names.now.first l) ++ c.args.code.now) more.is)
