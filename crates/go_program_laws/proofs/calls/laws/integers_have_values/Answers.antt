use Rattle.go_program_laws.proofs.CallsIntegers.{pieces_have_values, sources_have_values, texts_have_values}
use Rattle.go_program_laws.proofs.calls.laws.integers_have_values.Goals as goal

pub returns : goal.returns
returns c = record { texts = texts_have_values; sources = sources_have_values; pieces = pieces_have_values }
