use Rattle.std.proofs.Common.{◌↔◌, map, drop}
use Rattle.go_term_core.specs.Shapes.{shape, sign_of, line_shapes, method_shapes}
use Rattle.go_term_core.specs.Identity.{HasAllBy}
use Rattle.go_term_core.specs.mirrors.Alike.{HasAlike}
use Rattle.go_term_core.proofs.SameLists.{KnowsLines, KnowsTerms, AreSameFields, AreSameTerms}
use Rattle.go_term_core.proofs.same.+same.Given as goal

abbrev pub invariant-has_alike-loop-n : goal.invariant-has_alike-loop-n
invariant-has_alike-loop-n l = HasAlike l.tags l.p l.m.name (sign_of l.m.signature) l.q (method_shapes (drop l.n-index l.ns)) ↔ HasAlike l.tags l.p l.m.name (sign_of l.m.signature) l.q (method_shapes l.ns)

abbrev pub invariant-same_fields-loop-i : goal.invariant-same_fields-loop-i
invariant-same_fields-loop-i l =
    (AreSameFields l.tags l.p l.q (line_shapes l.ls.items) (line_shapes l.ks.items) (drop l.i l.fs.items) (drop l.i l.gs.items) ↔ AreSameFields l.tags l.p l.q (line_shapes l.ls.items) (line_shapes l.ks.items) l.fs.items l.gs.items)
    × KnowsLines l.tags (line_shapes l.ls.items) (line_shapes l.ks.items) l.met

abbrev pub invariant-same_methods-loop-i : goal.invariant-same_methods-loop-i
invariant-same_methods-loop-i l = HasAllBy l.tags l.p (method_shapes (drop l.i l.ms.items)) l.q (method_shapes l.ns.items) ↔ HasAllBy l.tags l.p (method_shapes l.ms.items) l.q (method_shapes l.ns.items)

abbrev pub invariant-same_terms-loop-i : goal.invariant-same_terms-loop-i
invariant-same_terms-loop-i l =
    (AreSameTerms l.tags (map shape l.ts.items) (map shape l.us.items) (drop l.i l.ns.items) (drop l.i l.ms.items) ↔ AreSameTerms l.tags (map shape l.ts.items) (map shape l.us.items) l.ns.items l.ms.items)
    × KnowsTerms l.tags (map shape l.ts.items) (map shape l.us.items) l.met
