use Rattle.go_lsp_core.specs.edits.Edits.{Fits, Stand, part_of}
use Rattle.std.proofs.Common.{map}
use Rattle.go_lsp_core.proofs.EditsEditing.{edit_at, edit_is, holds, refused, stand_end, stand_fails, stand_step}
use Rattle.go_lsp_core.proofs.edits.edits.stand.Goals as goal

pub loop-edit-init : goal.loop-edit-init
loop-edit-init c = (λ h. h, λ h. h)

pub returns-then-not-fits : goal.returns-then-not-fits
returns-then-not-fits c =
    stand_fails c.args.text.now c.args.edits.now c.loop-edit.edit-index c.loop-edit.from (edit_at c.args.edits.now c.loop-edit.edit-index) c.loop-edit-test.true (edit_is c.args.edits.now c.loop-edit.edit-index c.loop-edit-test.true) (Stand c.args.text.now 0 (map part_of c.args.edits.now))
    (refused (Fits c.args.text.now c.loop-edit.from (part_of (edit_at c.args.edits.now c.loop-edit.edit-index))) c.fits.result c.if-not-fits.true c.fits.ensures) c.loop-edit.invariant

pub loop-edit-preserved : goal.loop-edit-preserved
loop-edit-preserved c =
    stand_step c.args.text.now c.args.edits.now c.loop-edit.edit-index c.loop-edit.from (edit_at c.args.edits.now c.loop-edit.edit-index) c.loop-edit-test.true (edit_is c.args.edits.now c.loop-edit.edit-index c.loop-edit-test.true) (Stand c.args.text.now 0 (map part_of c.args.edits.now))
    (holds (Fits c.args.text.now c.loop-edit.from (part_of (edit_at c.args.edits.now c.loop-edit.edit-index))) c.fits.result c.if-not-fits.false c.fits.ensures) c.loop-edit.invariant

pub returns : goal.returns
returns c = stand_end c.args.text.now c.args.edits.now c.loop-edit.edit-index c.loop-edit.from (Stand c.args.text.now 0 (map part_of c.args.edits.now)) c.loop-edit-test.false c.loop-edit.invariant
