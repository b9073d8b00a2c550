use Rattle.std.proofs.Common.{◌<◌, ◌≤◌, length, arith}
use Rattle.go_reference_core.specs.rename.Moving.{IsSamePath}
use Rattle.go_reference_core.proofs.RenameMoved.{off}
use Rattle.go_reference_core.proofs.RenamePaired.{all_paired, differ, none_paired, not_as_many, one_paired}
use Rattle.go_reference_core.proofs.rename.comparing.first_path.Goals as goal

pub loop-package-init : goal.loop-package-init
loop-package-init c = none_paired IsSamePath c.args.old.now c.args.new.now

pub returns-then-new-old : goal.returns-then-new-old
returns-then-new-old c = not_as_many IsSamePath c.args.old.now c.args.new.now c.if-new-old.true

pub loop-package-preserved : goal.loop-package-preserved
loop-package-preserved c =
    let low : c.loop-package.«package» < length c.args.old.now = omega (arith, c.loop-package-test.true) in
    let high : c.loop-package.«package» < length c.args.new.now = omega (arith, c.loop-package-test.true, c.if-new-old.false) in
    one_paired IsSamePath c.args.old.now c.args.new.now c.loop-package.«package» c.index-old-package.result c.index-new-package.result low c.index-old-package.is high c.index-new-package.is (c.has_same_path.ensures.0 c.if-not-has_same_path.false) c.loop-package.invariant

pub returns-then-not-has_same_path : goal.returns-then-not-has_same_path
returns-then-not-has_same_path c =
    let low : c.loop-package.«package» < length c.args.old.now = omega (arith, c.loop-package-test.true) in
    let high : c.loop-package.«package» < length c.args.new.now = omega (arith, c.loop-package-test.true, c.if-new-old.false) in
    differ IsSamePath c.args.old.now c.args.new.now c.loop-package.«package» c.index-old-package.result c.index-new-package.result low c.index-old-package.is high c.index-new-package.is (off _ _ c.has_same_path.ensures c.if-not-has_same_path.true)

pub returns : goal.returns
returns c =
    let le : length c.args.old.now ≤ c.loop-package.«package» = omega (arith, c.loop-package-test.false) in
    all_paired IsSamePath c.args.old.now c.args.new.now c.loop-package.«package» c.if-new-old.false le c.loop-package.invariant
