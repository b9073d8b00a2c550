use Rattle.std.proofs.Common.{◌≡◌, ◌++◌, ◌∷◌, drop}
use Rattle.go_tree_nodes.specs.Shapes.{shape}
use Rattle.go_denote_core.specs.declared.things.Stand.TheVariants as stands
use Rattle.go_expr_core.specs.Looks.{everywhere}
use Rattle.go_expr_core.specs.Denoting.{denoted}
use Rattle.go_expr_core.specs.Uses.{uses}
use Rattle.go_expr_core.specs.Faults.{member_faults}
use Rattle.go_expr_core.specs.mirrors.Later.{later_denoted, later_uses, later_faults}
use Rattle.go_expr_core.proofs.lists.check_exprs.Given as goal

abbrev pub invariant-loop-next : goal.invariant-loop-next
invariant-loop-next g l =
    let looks = everywhere (g.E.TypeLooks.types l.env) (g.E.Names.names l.env) (g.E.Literals.literals l.env) (g.E.Exprs.written l.env) in
    record {
      made : l.members.items ++ later_denoted looks (drop l.next-index l.next-items) ≡ denoted looks stands.«Value» (shape l.exprs.first) ∷ later_denoted looks l.next-items;
      used : l.notes.uses.items ++ later_uses looks (drop l.next-index l.next-items) ≡ (l.fn.notes.uses.items ++ uses looks stands.«Value» (shape l.exprs.first)) ++ later_uses looks l.next-items;
      noted : l.notes.faults.items ++ later_faults looks l.several (drop l.next-index l.next-items) ≡ (l.fn.notes.faults.items ++ member_faults looks l.several (shape l.exprs.first)) ++ later_faults looks l.several l.next-items;
    }
