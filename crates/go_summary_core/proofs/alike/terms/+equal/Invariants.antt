use Rattle.std.proofs.Common.{◌↔◌, map, drop}
use Rattle.go_term_core.specs.Shapes.{shape, line_shapes}
use Rattle.go_summary_core.proofs.AlikeEqualLists.{KnowsLines, KnowsTerms, AreEqualFields, AreEqualMethods, AreEqualTerms}
use Rattle.go_summary_core.proofs.alike.terms.+equal.Given as goal

abbrev pub invariant-equal_fields-loop-i : goal.invariant-equal_fields-loop-i
invariant-equal_fields-loop-i l =
    (AreEqualFields (line_shapes l.ls.items) (line_shapes l.ks.items) (drop l.i l.fs.items) (drop l.i l.gs.items) ↔ AreEqualFields (line_shapes l.ls.items) (line_shapes l.ks.items) l.fs.items l.gs.items)
    × KnowsLines (line_shapes l.ls.items) (line_shapes l.ks.items) l.met

abbrev pub invariant-equal_methods-loop-i : goal.invariant-equal_methods-loop-i
invariant-equal_methods-loop-i l = AreEqualMethods (drop l.i l.ms.items) (drop l.i l.ns.items) ↔ AreEqualMethods l.ms.items l.ns.items

abbrev pub invariant-equal_terms-loop-i : goal.invariant-equal_terms-loop-i
invariant-equal_terms-loop-i l =
    (AreEqualTerms (map shape l.ts.items) (map shape l.us.items) (drop l.i l.ns.items) (drop l.i l.ms.items) ↔ AreEqualTerms (map shape l.ts.items) (map shape l.us.items) l.ns.items l.ms.items)
    × KnowsTerms (map shape l.ts.items) (map shape l.us.items) l.met
