use Rattle.std.proofs.Common.{◌≡◌, Option, None, sym, subst}
use Rattle.std.specs.Prelude.{MatchOption}
use Rattle.go_query_core.specs.package_core.PackagePartParts.{PartModel}
use Rattle.go_reference_core.specs.rename.Moving.{IsMovedPart, moves_of}
use Rattle.go_reference_core.proofs.RenameKept.{none_moved}
use Rattle.go_reference_core.proofs.RenamePaired.{told_same}
use Rattle.go_reference_core.proofs.rename.comparing.first_in_part.Goals as goal

pub returns-in-Some : goal.returns-in-Some
returns-in-Some c =
    let m = moves_of c.args.names.now in
    let ps = c.args.packages.now in
    let n = c.args.«package» in
    let r = c.first_in_its.result in
    subst (λ (p : Option PartModel). MatchOption r (IsMovedPart m ps n p c.args.new.now) (λ at. ¬ IsMovedPart m ps n p c.args.new.now)) (sym c.in-Some.is) c.first_in_its.ensures

pub returns-in-None : goal.returns-in-None
returns-in-None c =
    let m = moves_of c.args.names.now in
    let ps = c.args.packages.now in
    let n = c.args.«package» in
    let r = c.front_if_some.result in
    let new = c.args.new.now in
    subst (λ (p : Option PartModel). MatchOption r (IsMovedPart m ps n p new) (λ at. ¬ IsMovedPart m ps n p new)) (sym c.in-None.is) (told_same r (new ≡ None) (IsMovedPart m ps n None new) (none_moved m ps n new) c.front_if_some.ensures)
