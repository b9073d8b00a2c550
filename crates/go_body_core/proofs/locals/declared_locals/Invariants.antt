use Rattle.std.proofs.Common.{◌≡◌, ◌++◌}
use Rattle.go_body_core.specs.Rules.{declared_among}
use Rattle.go_body_core.proofs.locals.declared_locals.Given as goal

abbrev pub invariant-loop-first : goal.invariant-loop-first
invariant-loop-first l = l.declared.items ++ declared_among l.first-iterator.a.rest.now l.first-iterator.b.rest.now ≡ declared_among l.fn.firsts l.fn.means
