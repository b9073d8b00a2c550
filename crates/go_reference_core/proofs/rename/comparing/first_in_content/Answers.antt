use Rattle.std.proofs.Common.{sym, subst}
use Rattle.go_reference_core.specs.rename.Moving.{AllPaired, IsMovedFault, IsMovedPart, moves_of}
use Rattle.go_reference_core.proofs.RenamePaired.{faults_decide, told_of}
use Rattle.go_reference_core.proofs.rename.comparing.first_in_content.Goals as goal

pub returns-in-Some : goal.returns-in-Some
returns-in-Some c =
    let R = AllPaired (IsMovedPart (moves_of c.args.names.now) c.args.packages.now) in
    λ stay. c.in-Some.ensures (subst (λ xs. R xs c.parts-its.result.now) (sym c.parts-own.ensures) (subst (R c.args.old.now.parts) (sym c.parts-its.ensures) stay.parts))

pub returns-in-None : goal.returns-in-None
returns-in-None c =
    let m = moves_of c.args.names.now in
    let R = AllPaired (IsMovedPart m c.args.packages.now) in
    let parts = subst (R c.args.old.now.parts) c.parts-its.ensures (subst (λ xs. R xs c.parts-its.result.now) c.parts-own.ensures c.in-None.ensures) in
    faults_decide c.first_fault.result m c.args.packages.now c.args.old.now c.args.new.now parts (told_of c.first_fault.result (AllPaired (λ _. IsMovedFault m)) _ _ _ _ c.faults-had.ensures c.faults-has.ensures c.first_fault.ensures)
