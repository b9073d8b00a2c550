use Rattle.std.proofs.Common.{Option, Some, sym, subst}
use Rattle.std.specs.Prelude.{MatchOption}
use Rattle.go_query_core.specs.package_core.PackagePartParts.{PartModel}
use Rattle.go_reference_core.specs.rename.Moving.{AllPaired, IsMovedFile, IsMovedPart, moves_of}
use Rattle.go_reference_core.proofs.RenamePaired.{told_of}
use Rattle.go_reference_core.proofs.rename.comparing.first_in_its.Goals as goal

pub returns-in-Some : goal.returns-in-Some
returns-in-Some c =
    let m = moves_of c.args.names.now in
    let ps = c.args.packages.now in
    let n = c.args.«package» in
    let r = c.first_in_files.result in
    subst (λ (q : Option PartModel). MatchOption r (IsMovedPart m ps n (Some c.args.old.now) q) (λ at. ¬ IsMovedPart m ps n (Some c.args.old.now) q)) (sym c.in-Some.is)
    (told_of r (AllPaired (IsMovedFile m ps n)) _ _ _ _ c.files_of-had.ensures c.files_of-has.ensures c.first_in_files.ensures)

pub returns-in-None : goal.returns-in-None
returns-in-None c = λ h. subst (IsMovedPart (moves_of c.args.names.now) c.args.packages.now c.args.«package» (Some c.args.old.now)) c.in-None.is h
