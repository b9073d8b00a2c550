use Rattle.go_reference_core.proofs.Found.{answers_told, no_file_of}
use Rattle.go_reference_core.proofs.finding.answers_in.Goals as goal

pub returns-in-Some : goal.returns-in-Some
returns-in-Some c = answers_told c.args.snapshot.now c.args.«package» c.args.file c.parts.result.now c.in-Some.part.now c.answers_at.result c.parts.ensures c.in-Some.ensures c.answers_at.ensures

pub returns-in-None : goal.returns-in-None
returns-in-None c = no_file_of c.args.snapshot.now c.args.«package» c.args.file c.parts.result.now c.parts.ensures c.in-None.ensures
