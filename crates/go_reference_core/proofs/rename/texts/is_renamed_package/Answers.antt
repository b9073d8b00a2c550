use Rattle.std.proofs.lemmas.Result.{IfOk-weaker}
use Rattle.go_reference_core.specs.rename.Moving.{AllPaired, moves_of}
use Rattle.go_reference_core.specs.rename.Renaming.{IsRenamedFile}
use Rattle.go_reference_core.proofs.RenameRetold.{other_package, tested_of, whole_package}
use Rattle.go_reference_core.proofs.rename.texts.is_renamed_package.Goals as goal

pub returns-then-not-has_same_path : goal.returns-then-not-has_same_path
returns-then-not-has_same_path c = other_package (moves_of c.args.names.now) c.args.new.now c.args.«package» c.args.own.now c.args.its.now c.has_same_path.result c.if-not-has_same_path.true c.has_same_path.ensures

pub returns : goal.returns
returns c =
    let m = moves_of c.args.names.now in
    let new = c.args.new.now in
    IfOk-weaker c.are_renamed_files.result _ _
    (λ b h.
    whole_package m new c.args.«package» c.args.own.now c.args.its.now c.has_same_path.result b c.if-not-has_same_path.false c.has_same_path.ensures
    (tested_of b (AllPaired (IsRenamedFile m new c.args.«package»)) c.files-had.result.now c.args.own.now.1 c.files-has.result.now c.args.its.now.1 c.files-had.ensures.files c.files-has.ensures.files h))
    c.are_renamed_files.ensures
