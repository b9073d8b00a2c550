use Rattle.std.proofs.Common.{◌<◌, ◌≤◌, length, refl, arith}
use Rattle.go_reference_core.specs.rename.Moving.{moves_of}
use Rattle.go_reference_core.specs.rename.Renaming.{IsRenamedFile}
use Rattle.go_reference_core.proofs.RenameMoved.{never, off}
use Rattle.go_reference_core.proofs.RenamePaired.{all_paired, differ, none_paired, not_as_many, one_paired}
use Rattle.go_reference_core.proofs.rename.texts.are_renamed_files.Goals as goal

pub loop-file-init : goal.loop-file-init
loop-file-init c = none_paired (IsRenamedFile (moves_of c.args.names.now) c.args.new.now c.args.«package») c.args.own.now c.args.its.now

pub returns-then-its-own : goal.returns-then-its-own
returns-then-its-own c = never _ (not_as_many (IsRenamedFile (moves_of c.args.names.now) c.args.new.now c.args.«package») c.args.own.now c.args.its.now c.if-its-own.true)

pub loop-file-preserved : goal.loop-file-preserved
loop-file-preserved c =
    let low : c.loop-file.file < length c.args.own.now = omega (arith, c.loop-file-test.true) in
    let high : c.loop-file.file < length c.args.its.now = omega (arith, c.loop-file-test.true, c.if-its-own.false) in
    one_paired (IsRenamedFile (moves_of c.args.names.now) c.args.new.now c.args.«package») c.args.own.now c.args.its.now c.loop-file.file c.index-own-file.result c.index-its-file.result low c.index-own-file.is high c.index-its-file.is (c.in_ok-is.ensures.0 c.if-not-is.false) c.loop-file.invariant

pub returns-then-not-is : goal.returns-then-not-is
returns-then-not-is c =
    let low : c.loop-file.file < length c.args.own.now = omega (arith, c.loop-file-test.true) in
    let high : c.loop-file.file < length c.args.its.now = omega (arith, c.loop-file-test.true, c.if-its-own.false) in
    never _ (differ (IsRenamedFile (moves_of c.args.names.now) c.args.new.now c.args.«package») c.args.own.now c.args.its.now c.loop-file.file c.index-own-file.result c.index-its-file.result low c.index-own-file.is high c.index-its-file.is (off _ _ c.in_ok-is.ensures c.if-not-is.true))

pub returns : goal.returns
returns c =
    let le : length c.args.own.now ≤ c.loop-file.file = omega (arith, c.loop-file-test.false) in
    let all = all_paired (IsRenamedFile (moves_of c.args.names.now) c.args.new.now c.args.«package») c.args.own.now c.args.its.now c.loop-file.file c.if-its-own.false le c.loop-file.invariant in
    (λ on. all, λ h. refl)
