use Rattle.std.proofs.Common.{◌∷◌, [], slice_index_or, subst}
use Rattle.go_recovery_core.specs.declared.standin.part.Interval.{Interval}
use Rattle.go_recovery_core.specs.standin.Standing.{IsTried}
use Rattle.go_recovery_core.proofs.StandinTried.{none_more}
use Rattle.go_recovery_core.proofs.standin.standing.first_of.Goals as goal

abbrev nowhere : Interval
nowhere = record { start = 0; end = 0 }

pub loop-part-preserved : goal.loop-part-preserved
loop-part-preserved c = λ h.
    (let part : Interval = slice_index_or c.args.parts.now c.loop-part.part-index nowhere in
    c.loop-part.invariant (none_more c.args.text.now c.args.parts.now c.loop-part.part-index nowhere c.loop-part-test.true (subst (IsTried c.args.text.now (part ∷ [])) c.in_default.is c.in_ok-found.ensures) h))
