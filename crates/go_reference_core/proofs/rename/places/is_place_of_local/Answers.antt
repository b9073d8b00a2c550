use Rattle.std.proofs.Common.{false}
use Rattle.go_term_core.specs.declared.term.MemberPlace.{MemberPlace}
use Rattle.go_reference_core.specs.rename.Moving.{IsMovedPlaceOfLocal, moves_of}
use Rattle.go_reference_core.proofs.RenameKept.{at_value, nothing}
use Rattle.go_reference_core.proofs.rename.places.is_place_of_local.Goals as goal

pub returns-in-Declared : goal.returns-in-Declared
returns-in-Declared c = at_value false (λ (p : MemberPlace). IsMovedPlaceOfLocal (moves_of c.args.names.now) c.args.packages.now c.args.path.now c.args.old p) c.args.new _ c.in-Declared.is nothing

pub returns-in-Local : goal.returns-in-Local
returns-in-Local c = at_value c.is_moved_local.result (λ (p : MemberPlace). IsMovedPlaceOfLocal (moves_of c.args.names.now) c.args.packages.now c.args.path.now c.args.old p) c.args.new _ c.in-Local.is c.is_moved_local.ensures
