-- Where the declarations of a workspace are.
use Rattle.std.specs.Prelude.{ℕ, List, Option, Some, None}
use Rattle.go_term_core.specs.declared.term.MemberPlace.{MemberPlace}
use Rattle.go_term_core.specs.declared.term.MemberPlace.TheVariants as places
use Rattle.go_handle_core.specs.Declarations.{Declaration, Universe, OfError, Package, InFile}
use Rattle.go_machine_core.specs.link.Functions.{PlaceModel}

-- the place of an identifier of the package of a path, if it is declared outside functions
abbrev pub place_in : List ℕ → MemberPlace → Option PlaceModel
place_in path (places.Declared d) = Some (record { path = path; file = d.file; number = d.number })
place_in path (places.Local l) = None

abbrev pub place_declared : Declaration → Option PlaceModel
place_declared (Universe name) = None
place_declared OfError = None
place_declared (Package path) = None
place_declared (InFile path place) = place_in path place
