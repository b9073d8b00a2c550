use Rattle.std.proofs.Common.{◌++◌, ℕ, List, map, ap}
use Rattle.std.specs.Prelude.{string_bytes}
use Rattle.std.proofs.lemmas.Str.{IsCharBoundary-start}
use Rattle.go_lsp_core.specs.edits.Edits.{edited, part_of}
use Rattle.go_lsp_core.proofs.EditsEditing.{edit_at, edit_is, fits_there, splice_step, stands_on}
use Rattle.go_lsp_core.proofs.edits.edits.spliced.Goals as goal

pub loop-edit-init : goal.loop-edit-init
loop-edit-init c = record {
  stands = c.requires;
  boundary = IsCharBoundary-start c.args.text.now c.utf8.text;
  is = ap (λ (l : List ℕ). l ++ edited c.args.text.now (map part_of c.args.edits.now)) c.new-all.ensures.bytes;
}

pub put-requires : goal.put-requires
put-requires c =
    let fits = fits_there c.args.text.now c.args.edits.now c.loop-edit.edit-index c.loop-edit.from (edit_at c.args.edits.now c.loop-edit.edit-index) c.loop-edit-test.true (edit_is c.args.edits.now c.loop-edit.edit-index c.loop-edit-test.true) c.loop-edit.invariant.stands in
    record { from = c.loop-edit.invariant.boundary; to = fits.begins; order = fits.after }

pub loop-edit-preserved : goal.loop-edit-preserved
loop-edit-preserved c =
    let text = c.args.text.now in
    let es = c.args.edits.now in
    let i = c.loop-edit.edit-index in
    let from = c.loop-edit.from in
    let x = edit_at es i in
    let stands = c.loop-edit.invariant.stands in
    let fits = fits_there text es i from x c.loop-edit-test.true (edit_is c.args.edits.now c.loop-edit.edit-index c.loop-edit-test.true) stands in
    record {
      stands = stands_on text es i from x c.loop-edit-test.true (edit_is c.args.edits.now c.loop-edit.edit-index c.loop-edit-test.true) stands;
      boundary = fits.ends;
      is = splice_step text es i from x (string_bytes c.loop-edit.all) (string_bytes c.put.new.all) _ c.loop-edit-test.true (edit_is c.args.edits.now c.loop-edit.edit-index c.loop-edit-test.true) stands c.in_ok-put.ensures c.loop-edit.invariant.is;
    }
