use Rattle.go_program_laws.proofs.FaultlessRuns.{parts_among}
use Rattle.go_program_laws.proofs.faultless.laws.parts_are_among.Goals as goal

pub returns : goal.returns
returns c = parts_among c.parts_are_fit.ensures c.parts_are_read.ensures c.parts_are_seen_alike.ensures c.parts_show_their_types.ensures
