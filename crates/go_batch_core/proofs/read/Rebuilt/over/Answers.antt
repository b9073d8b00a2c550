use Rattle.std.proofs.Common.{sym, subst}
use Rattle.go_package_core.specs.package_part.Inputs.{InputModel}
use Rattle.go_batch_core.specs.seen.Local.{IsLocal}
use Rattle.go_batch_core.specs.seen.Sights.{Agrees, AreSeenBy}
use Rattle.go_batch_core.proofs.read.Rebuilt.over.Goals as goal

pub compile-requires-clause-local : goal.compile-requires-clause-local
compile-requires-clause-local g c κs within = subst IsLocal (sym c.get.ensures.value) c.get.ensures.local

pub compile-requires-clause-agrees : goal.compile-requires-clause-agrees
compile-requires-clause-agrees g c κs within = subst (λ (i : InputModel). Agrees c.args.sight i.reached) (sym c.get.ensures.value) c.requires.agrees

pub returns-clause-seen : goal.returns-clause-seen
returns-clause-seen g c = subst (λ (i : InputModel). AreSeenBy c.args.sight i c.in_ok-compiled.compiled.sight) c.get.ensures.value c.in_ok-compiled.ensures.seen
