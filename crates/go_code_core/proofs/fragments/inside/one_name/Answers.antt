use Rattle.std.proofs.Common.{sym, ap}
use Rattle.go_tree_nodes.specs.TypeShapes.{idents_from}
use Rattle.go_code_core.specs.fragments.Inside.{is_one_name}
use Rattle.go_code_core.proofs.FragmentsLoops.{is_more}
use Rattle.go_code_core.proofs.fragments.inside.one_name.Goals as goal

pub returns-in_default : goal.returns-in_default
returns-in_default c =
    let more = is_more c.as_slice.result.now c.args.names.now.more.items c.as_slice.ensures.value c.in_default.len_at_least in
    sym (ap (λ l. is_one_name (idents_from c.args.names.now.first l)) more.is)
