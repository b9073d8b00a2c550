use Rattle.std.proofs.Common.{IsCharBoundary, arith}
use Rattle.go_lsp_core.specs.edits.Edits.{part_of}
use Rattle.go_lsp_core.proofs.EditsEditing.{holds, no_fit, refused, whole_fit}
use Rattle.go_lsp_core.proofs.edits.edits.fits.Goals as goal

pub returns-then-edit-from : goal.returns-then-edit-from
returns-then-edit-from c = no_fit c.args.text.now c.args.from (part_of c.args.edit) (λ h. (let after = h.after in omega (arith, after)))

pub returns-then-edit : goal.returns-then-edit
returns-then-edit c = no_fit c.args.text.now c.args.from (part_of c.args.edit) (λ h. (let order = h.order in omega (arith, order)))

pub returns-then-not-is_char_boundary : goal.returns-then-not-is_char_boundary
returns-then-not-is_char_boundary c = no_fit c.args.text.now c.args.from (part_of c.args.edit) (λ h. refused (IsCharBoundary c.args.text.now c.args.edit.start) c.is_char_boundary.result c.if-not-is_char_boundary.true c.is_char_boundary.ensures.test h.begins)

pub returns : goal.returns
returns c = whole_fit c.args.text.now c.args.from (part_of c.args.edit) c.is_char_boundary-2.result (omega arith) (omega arith) (holds (IsCharBoundary c.args.text.now c.args.edit.start) c.is_char_boundary.result c.if-not-is_char_boundary.false c.is_char_boundary.ensures.test) c.is_char_boundary-2.ensures.test
