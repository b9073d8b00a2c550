use Rattle.std.proofs.Common.{◌≡◌, ◌++◌, map, drop}
use Rattle.std.specs.Vec.Iter.{into_iter_items}
use Rattle.go_body_core.specs.Rules.{locals_of}
use Rattle.go_body_core.proofs.locals.locals.Given as goal

abbrev pub invariant-loop-ident : goal.invariant-loop-ident
invariant-loop-ident l = l.means.items ++ locals_of (map (λ i. i.now) (drop l.ident-index l.idents)) (into_iter_items l.left) ≡ locals_of (map (λ i. i.now) l.fn.idents) l.fn.values.items
