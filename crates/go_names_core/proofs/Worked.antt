-- What each name of a function denotes, computed.
use Rattle.std.proofs.Common.{refl}
use Rattle.go_universe_core.specs.Universe.{spelling_of}
use Rattle.go_scope_core.specs.Scopes.{universe}
use Rattle.go_names_core.specs.Worked.{WorkedNames}

pub worked : WorkedNames
unfolding universe spelling_of
worked = record { uses_walked = refl; uses_given = refl; faults_walked = refl; faults_given = refl }
