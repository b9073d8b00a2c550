use Rattle.go_parse_reader.proofs.TypesCodeEntries.{GroupsSoFar}
use Rattle.go_parse_reader.proofs.types.entries.groups_from.Given as goal

abbrev pub invariant-turns : goal.invariant-turns
invariant-turns l = GroupsSoFar l.yielded l.params.items l.names
