use Rattle.std.proofs.Common.{◌≡◌, [], drop, map}
use Rattle.go_term_core.specs.Terms.{NoMethod}
use Rattle.go_term_core.specs.Shapes.{shape, line_shapes, method_shapes}
use Rattle.go_term_core.specs.settling.Settled.{settled, settled_methods}
use Rattle.go_term_core.specs.settling.mirrors.Kept.{settled_line, put_method, make_method}
use Rattle.go_term_core.proofs.SettlingLoops.{onto, masked, made}
use Rattle.go_term_core.proofs.SettlingMasks.{put_line, make_line, put_term, make_term}
use Rattle.go_term_core.proofs.settling.terms.+settling.Given as goal

abbrev pub invariant-settle_lines-loop-line : goal.invariant-settle_lines-loop-line
invariant-settle_lines-loop-line g l =
    let kind = g.K.Kinds.kinds l.kinds in
    onto put_line (make_line kind) [] l.settled.items (made put_line (make_line kind) [] (drop l.line-index l.line-items)) ≡ map (settled_line kind) (line_shapes l.line-items)

abbrev pub invariant-settle_methods-loop-i : goal.invariant-settle_methods-loop-i
invariant-settle_methods-loop-i g l =
    let make = make_method (g.K.Kinds.kinds l.kinds) in
    onto put_method make NoMethod l.settled.items (masked put_method make NoMethod (drop l.i l.kept.items) (drop l.i l.method-items)) ≡ settled_methods (g.K.Kinds.kinds l.kinds) [] (method_shapes l.method-items)

abbrev pub invariant-settle_terms-loop-term : goal.invariant-settle_terms-loop-term
invariant-settle_terms-loop-term g l =
    let kind = g.K.Kinds.kinds l.kinds in
    onto put_term (make_term kind) [] l.settled.items (made put_term (make_term kind) [] (drop l.term-index l.term-items)) ≡ map (settled kind) (map shape l.term-items)
