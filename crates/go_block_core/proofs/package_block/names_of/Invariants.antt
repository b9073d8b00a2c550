use Rattle.std.proofs.Common.{◌≡◌, ◌++◌, map, drop}
use Rattle.go_block_core.specs.Exports.{name_and_decl}
use Rattle.go_block_core.specs.Tables.{block_of}
use Rattle.go_block_core.proofs.TableLemmas.{entry_of}
use Rattle.go_block_core.proofs.package_block.names_of.Given as goal

abbrev pub invariant-loop-name : goal.invariant-loop-name
invariant-loop-name l = map name_and_decl l.names.items ++ map entry_of (drop l.name-index l.name-items) ≡ block_of l.table
