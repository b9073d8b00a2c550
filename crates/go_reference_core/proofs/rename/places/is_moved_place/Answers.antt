use Rattle.go_term_core.specs.declared.term.MemberPlace.{MemberPlace}
use Rattle.go_reference_core.specs.rename.Moving.{IsMovedPlace, moves_of}
use Rattle.go_reference_core.proofs.RenameKept.{at_value}
use Rattle.go_reference_core.proofs.rename.places.is_moved_place.Goals as goal

pub returns-in-Declared : goal.returns-in-Declared
returns-in-Declared c = at_value c.is_declared.result (λ (p : MemberPlace). IsMovedPlace (moves_of c.args.names.now) c.args.packages.now c.args.path.now p c.args.new) c.args.old _ c.in-Declared.is c.is_declared.ensures

pub returns-in-Local : goal.returns-in-Local
returns-in-Local c = at_value c.is_place_of_local.result (λ (p : MemberPlace). IsMovedPlace (moves_of c.args.names.now) c.args.packages.now c.args.path.now p c.args.new) c.args.old _ c.in-Local.is c.is_place_of_local.ensures
