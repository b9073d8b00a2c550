use Rattle.std.proofs.Common.{sym, subst}
use Rattle.go_hall_core.specs.mirrors.Known.{IsKnown}
use Rattle.go_hall_core.proofs.known.Known.new.Goals as goal

pub invariant_of-result : goal.invariant_of-result
invariant_of-result g c = subst (IsKnown c.args.is_listed c.args.seal) (sym c.of.ensures) (record { there = c.requires.listed; known = c.requires.known })
