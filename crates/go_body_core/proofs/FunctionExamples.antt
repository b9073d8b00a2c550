-- The function that was worked out by hand.
use Rattle.std.proofs.Common.{refl}
use Rattle.go_universe_core.specs.Universe.{spelling_of, found}
use Rattle.go_names_core.specs.scope_core.Scopes.{universe}
use Rattle.go_body_core.specs.function.Worked.{WorkedFunctionTypes}

pub worked_types : WorkedFunctionTypes
unfolding universe spelling_of found
worked_types = record { uses_walked = refl; faults_walked = refl; locals_are = refl; locals_walked = refl; uses_given = refl; faults_given = refl }
