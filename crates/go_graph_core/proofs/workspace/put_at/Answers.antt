use Rattle.std.proofs.Common.{◌∙◌, sym, subst}
use Rattle.go_graph_core.specs.mirrors.Positions.{IsPosition}
use Rattle.go_graph_core.proofs.Places.{put_there, put_between}
use Rattle.go_graph_core.proofs.workspace.put_at.Goals as goal

pub returns-in-Ok-clause-ok : goal.returns-in-Ok-clause-ok
returns-in-Ok-clause-ok c =
    let there = subst (IsPosition c.args.packages.now.items c.args.source.0) c.in-Ok.is c.requires.position in
    sym (put_there c.args.packages.now.items c.in-Ok.at there.0 c.args.source.0 c.args.source.1 c.requires.order there.1 there.2)

pub returns-in_ok-insert-in-Err-clause-ok : goal.returns-in_ok-insert-in-Err-clause-ok
returns-in_ok-insert-in-Err-clause-ok c =
    let gap = subst (IsPosition c.args.packages.now.items c.args.source.0) c.in-Err.is c.requires.position in
    c.in_ok-insert-in-Err.ensures.items ∙ sym (put_between c.args.packages.now.items c.in-Err.at c.args.source.0 c.args.source.1 gap)
