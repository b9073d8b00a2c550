use Rattle.go_program_laws.proofs.CallsParts.{parts_clear}
use Rattle.go_program_laws.proofs.calls.laws.parts_are_clear.Goals as goal

pub returns : goal.returns
returns c =
    parts_clear c.pieces_are_clear.ensures c.functions_keep_types.ensures c.parts_tell_kept.ensures c.parts_are_fit.ensures c.parts_are_read.ensures
