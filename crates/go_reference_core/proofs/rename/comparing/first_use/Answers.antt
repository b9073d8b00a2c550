use Rattle.std.proofs.Common.{◌<◌, ◌≤◌, length, arith}
use Rattle.go_reference_core.specs.rename.Moving.{IsMovedUse, moves_of}
use Rattle.go_reference_core.proofs.RenameMoved.{off}
use Rattle.go_reference_core.proofs.RenamePaired.{all_paired, differ, none_paired, not_as_many, one_paired}
use Rattle.go_reference_core.proofs.rename.comparing.first_use.Goals as goal

pub loop-number-init : goal.loop-number-init
loop-number-init c = none_paired (λ _. IsMovedUse (moves_of c.args.names.now) c.args.packages.now c.args.«package» c.args.file) c.args.old.now c.args.new.now

pub returns-then-new-old : goal.returns-then-new-old
returns-then-new-old c = not_as_many (λ _. IsMovedUse (moves_of c.args.names.now) c.args.packages.now c.args.«package» c.args.file) c.args.old.now c.args.new.now c.if-new-old.true

pub loop-number-preserved : goal.loop-number-preserved
loop-number-preserved c =
    let low : c.loop-number.number < length c.args.old.now = omega (arith, c.loop-number-test.true) in
    let high : c.loop-number.number < length c.args.new.now = omega (arith, c.loop-number-test.true, c.if-new-old.false) in
    one_paired (λ _. IsMovedUse (moves_of c.args.names.now) c.args.packages.now c.args.«package» c.args.file) c.args.old.now c.args.new.now c.loop-number.number c.index-old-number.result c.index-new-number.result low c.index-old-number.is high c.index-new-number.is (c.is_moved_use.ensures.0 c.if-not-is_moved_use.false) c.loop-number.invariant

pub returns-then-not-is_moved_use : goal.returns-then-not-is_moved_use
returns-then-not-is_moved_use c =
    let low : c.loop-number.number < length c.args.old.now = omega (arith, c.loop-number-test.true) in
    let high : c.loop-number.number < length c.args.new.now = omega (arith, c.loop-number-test.true, c.if-new-old.false) in
    differ (λ _. IsMovedUse (moves_of c.args.names.now) c.args.packages.now c.args.«package» c.args.file) c.args.old.now c.args.new.now c.loop-number.number c.index-old-number.result c.index-new-number.result low c.index-old-number.is high c.index-new-number.is (off _ _ c.is_moved_use.ensures c.if-not-is_moved_use.true)

pub returns : goal.returns
returns c =
    let le : length c.args.old.now ≤ c.loop-number.number = omega (arith, c.loop-number-test.false) in
    all_paired (λ _. IsMovedUse (moves_of c.args.names.now) c.args.packages.now c.args.«package» c.args.file) c.args.old.now c.args.new.now c.loop-number.number c.if-new-old.false le c.loop-number.invariant
