use Rattle.std.proofs.Common.{inl, refl}
use Rattle.go_graph_core.proofs.Numbers.{path_is_utf8}
use Rattle.go_graph_core.proofs.imports.target.Goals as goal

pub returns-in_default : goal.returns-in_default
returns-in_default c = inl (record { is = refl; malformed = λ p. c.in_default.ensures.cases.0 (path_is_utf8 c.args.text.now p) })
