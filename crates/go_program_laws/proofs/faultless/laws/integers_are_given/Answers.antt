use Rattle.go_program_laws.proofs.FaultlessServed.{integers_given}
use Rattle.go_program_laws.proofs.faultless.laws.integers_are_given.Goals as goal

pub returns : goal.returns
returns c = integers_given c.integers_have_values.ensures.texts c.integers_have_values.ensures.pieces c.parts_are_read.ensures
