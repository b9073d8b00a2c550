use Rattle.std.proofs.Common.{◌<◌, ◌≤◌, length, arith}
use Rattle.go_reference_core.specs.rename.Moving.{IsMovedPart, moves_of}
use Rattle.go_reference_core.proofs.RenamePaired.{all_paired, differ, none_paired, not_as_many, one_paired}
use Rattle.go_reference_core.proofs.rename.comparing.first_in_parts.Goals as goal

pub loop-package-init : goal.loop-package-init
loop-package-init c = none_paired (IsMovedPart (moves_of c.args.names.now) c.args.packages.now) c.args.old.now c.args.new.now

pub returns-then-new-old : goal.returns-then-new-old
returns-then-new-old c = not_as_many (IsMovedPart (moves_of c.args.names.now) c.args.packages.now) c.args.old.now c.args.new.now c.if-new-old.true

pub loop-package-preserved : goal.loop-package-preserved
loop-package-preserved c =
    let low : c.loop-package.«package» < length c.args.old.now = omega (arith, c.loop-package-test.true) in
    let high : c.loop-package.«package» < length c.args.new.now = omega (arith, c.loop-package-test.true, c.if-new-old.false) in
    one_paired (IsMovedPart (moves_of c.args.names.now) c.args.packages.now) c.args.old.now c.args.new.now c.loop-package.«package» c.index-old-package.result c.index-new-package.result low c.index-old-package.is high c.index-new-package.is c.in-None.ensures c.loop-package.invariant

pub returns-in-Some : goal.returns-in-Some
returns-in-Some c =
    let low : c.loop-package.«package» < length c.args.old.now = omega (arith, c.loop-package-test.true) in
    let high : c.loop-package.«package» < length c.args.new.now = omega (arith, c.loop-package-test.true, c.if-new-old.false) in
    differ (IsMovedPart (moves_of c.args.names.now) c.args.packages.now) c.args.old.now c.args.new.now c.loop-package.«package» c.index-old-package.result c.index-new-package.result low c.index-old-package.is high c.index-new-package.is c.in-Some.ensures

pub returns : goal.returns
returns c =
    let le : length c.args.old.now ≤ c.loop-package.«package» = omega (arith, c.loop-package-test.false) in
    all_paired (IsMovedPart (moves_of c.args.names.now) c.args.packages.now) c.args.old.now c.args.new.now c.loop-package.«package» c.if-new-old.false le c.loop-package.invariant
