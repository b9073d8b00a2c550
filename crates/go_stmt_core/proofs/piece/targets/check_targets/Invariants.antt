use Rattle.std.proofs.Common.{◌≡◌, ◌++◌, ◌∷◌, drop}
use Rattle.go_tree_nodes.specs.Shapes.{shape}
use Rattle.go_expr_core.specs.Looks.{everywhere}
use Rattle.go_stmt_core.specs.piece.Targets.{target, target_uses, target_faults}
use Rattle.go_stmt_core.specs.piece.mirrors.Later.{later_targets, later_uses, later_faults}
use Rattle.go_stmt_core.proofs.piece.targets.check_targets.Given as goal

abbrev pub invariant-loop-next : goal.invariant-loop-next
invariant-loop-next g l =
    let looks = everywhere (g.E.TypeLooks.types l.env) (g.E.Names.names l.env) (g.E.Literals.literals l.env) (g.E.Exprs.written l.env) in
    record {
      made : l.all.items ++ later_targets looks l.several (drop l.next-index l.next-items) ≡ target looks l.several (shape l.exprs.first) ∷ later_targets looks l.several l.next-items;
      used : l.notes.uses.items ++ later_uses looks (drop l.next-index l.next-items) ≡ (l.fn.notes.uses.items ++ target_uses looks (shape l.exprs.first)) ++ later_uses looks l.next-items;
      noted : l.notes.faults.items ++ later_faults looks l.several (drop l.next-index l.next-items) ≡ (l.fn.notes.faults.items ++ target_faults looks l.several (shape l.exprs.first)) ++ later_faults looks l.several l.next-items;
    }
