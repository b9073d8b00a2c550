use Rattle.std.proofs.Common.{◌<◌, ◌≤◌, length, arith}
use Rattle.go_reference_core.specs.rename.Moving.{IsMovedFault, moves_of}
use Rattle.go_reference_core.proofs.RenameMoved.{off}
use Rattle.go_reference_core.proofs.RenamePaired.{all_paired, differ, fault_at, fault_is, none_paired, not_as_many, one_paired}
use Rattle.go_reference_core.proofs.rename.comparing.first_fault.Goals as goal

pub loop-number-init : goal.loop-number-init
loop-number-init c = none_paired (λ _. IsMovedFault (moves_of c.args.names.now)) c.args.old.now c.args.new.now

pub returns-then-new-old : goal.returns-then-new-old
returns-then-new-old c = not_as_many (λ _. IsMovedFault (moves_of c.args.names.now)) c.args.old.now c.args.new.now (λ same. absurd (omega (arith, same, c.if-new-old.true)))

pub loop-number-preserved : goal.loop-number-preserved
loop-number-preserved c =
    let low : c.loop-number.number < length c.args.old.now = omega (arith, c.loop-number-test.true) in
    let high : c.loop-number.number < length c.args.new.now = omega (arith, c.loop-number-test.true, c.if-new-old.false) in
    one_paired (λ _. IsMovedFault (moves_of c.args.names.now)) c.args.old.now c.args.new.now c.loop-number.number (fault_at c.args.old.now c.loop-number.number) (fault_at c.args.new.now c.loop-number.number) low (fault_is c.args.old.now c.loop-number.number low) high (fault_is c.args.new.now c.loop-number.number high) (c.is_moved_fault.ensures.0 c.if-not-is_moved_fault.false) c.loop-number.invariant

pub returns-then-not-is_moved_fault : goal.returns-then-not-is_moved_fault
returns-then-not-is_moved_fault c =
    let low : c.loop-number.number < length c.args.old.now = omega (arith, c.loop-number-test.true) in
    let high : c.loop-number.number < length c.args.new.now = omega (arith, c.loop-number-test.true, c.if-new-old.false) in
    differ (λ _. IsMovedFault (moves_of c.args.names.now)) c.args.old.now c.args.new.now c.loop-number.number (fault_at c.args.old.now c.loop-number.number) (fault_at c.args.new.now c.loop-number.number) low (fault_is c.args.old.now c.loop-number.number low) high (fault_is c.args.new.now c.loop-number.number high) (off _ _ c.is_moved_fault.ensures c.if-not-is_moved_fault.true)

pub returns-then-old-new : goal.returns-then-old-new
returns-then-old-new c = not_as_many (λ _. IsMovedFault (moves_of c.args.names.now)) c.args.old.now c.args.new.now (λ same. absurd (omega (arith, same, c.if-old-new.true)))

pub returns : goal.returns
returns c =
    let le : length c.args.old.now ≤ c.loop-number.number = omega (arith, c.loop-number-test.false) in
    all_paired (λ _. IsMovedFault (moves_of c.args.names.now)) c.args.old.now c.args.new.now c.loop-number.number (omega (arith, c.if-new-old.false, c.if-old-new.false)) le c.loop-number.invariant
