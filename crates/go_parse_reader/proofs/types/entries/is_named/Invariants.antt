use Rattle.std.proofs.Common.{◌≡◌, map, drop}
use Rattle.go_parse_reader.specs.types.mirrors.EntryShapes.{entry_of}
use Rattle.go_parse_reader.specs.types.mirrors.TypeReading.{has_name}
use Rattle.go_parse_reader.proofs.types.entries.is_named.Given as goal

abbrev pub invariant-turns : goal.invariant-turns
invariant-turns l = has_name (map entry_of l.entries) ≡ has_name (map entry_of (drop l.entry-index l.entries))
