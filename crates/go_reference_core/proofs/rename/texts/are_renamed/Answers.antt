use Rattle.std.proofs.Common.{◌<◌, ◌≤◌, length, refl, arith}
use Rattle.go_reference_core.specs.rename.Moving.{moves_of}
use Rattle.go_reference_core.specs.rename.Renaming.{IsRenamedPackage}
use Rattle.go_reference_core.proofs.RenameMoved.{never, off}
use Rattle.go_reference_core.proofs.RenamePaired.{all_paired, differ, none_paired, not_as_many, one_paired}
use Rattle.go_reference_core.proofs.rename.texts.are_renamed.Goals as goal

pub loop-package-init : goal.loop-package-init
loop-package-init c = none_paired (IsRenamedPackage (moves_of c.args.names.now) c.args.new.now) c.args.old.now c.args.renamed.now

pub returns-then-renamed-old : goal.returns-then-renamed-old
returns-then-renamed-old c = never _ (not_as_many (IsRenamedPackage (moves_of c.args.names.now) c.args.new.now) c.args.old.now c.args.renamed.now c.if-renamed-old.true)

pub loop-package-preserved : goal.loop-package-preserved
loop-package-preserved c =
    let low : c.loop-package.«package» < length c.args.old.now = omega (arith, c.loop-package-test.true) in
    let high : c.loop-package.«package» < length c.args.renamed.now = omega (arith, c.loop-package-test.true, c.if-renamed-old.false) in
    one_paired (IsRenamedPackage (moves_of c.args.names.now) c.args.new.now) c.args.old.now c.args.renamed.now c.loop-package.«package» c.index-old-package.result c.index-renamed-package.result low c.index-old-package.is high c.index-renamed-package.is (c.in_ok-is.ensures.0 c.if-not-is.false) c.loop-package.invariant

pub returns-then-not-is : goal.returns-then-not-is
returns-then-not-is c =
    let low : c.loop-package.«package» < length c.args.old.now = omega (arith, c.loop-package-test.true) in
    let high : c.loop-package.«package» < length c.args.renamed.now = omega (arith, c.loop-package-test.true, c.if-renamed-old.false) in
    never _ (differ (IsRenamedPackage (moves_of c.args.names.now) c.args.new.now) c.args.old.now c.args.renamed.now c.loop-package.«package» c.index-old-package.result c.index-renamed-package.result low c.index-old-package.is high c.index-renamed-package.is (off _ _ c.in_ok-is.ensures c.if-not-is.true))

pub returns : goal.returns
returns c =
    let le : length c.args.old.now ≤ c.loop-package.«package» = omega (arith, c.loop-package-test.false) in
    let all = all_paired (IsRenamedPackage (moves_of c.args.names.now) c.args.new.now) c.args.old.now c.args.renamed.now c.loop-package.«package» c.if-renamed-old.false le c.loop-package.invariant in
    (λ on. all, λ h. refl)
