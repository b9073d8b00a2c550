use Rattle.go_parse_reader.proofs.TypesCodeEntries.{TypesSoFar}
use Rattle.go_parse_reader.proofs.types.entries.types_from.Given as goal

abbrev pub invariant-turns : goal.invariant-turns
invariant-turns l = TypesSoFar l.yielded l.params.items
