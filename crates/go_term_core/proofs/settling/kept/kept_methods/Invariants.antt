use Rattle.std.proofs.Common.{drop}
use Rattle.go_term_core.specs.settling.mirrors.Kept.{keeps_method, kept_methods}
use Rattle.go_term_core.proofs.SettlingLoops.{Keeps}
use Rattle.go_term_core.proofs.settling.kept.kept_methods.Given as goal

abbrev pub invariant-loop-method : goal.invariant-loop-method
invariant-loop-method l = Keeps keeps_method (λ x. x.name) l.seen l.kept.items (drop l.method-index l.methods) (kept_methods l.methods)
