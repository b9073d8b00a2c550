use Rattle.std.proofs.Common.{◌≡◌, ◌++◌, map, drop}
use Rattle.go_block_core.specs.Exports.{name_and_decl, exported_names}
use Rattle.go_block_core.specs.Tables.{block_of}
use Rattle.go_block_core.proofs.TableLemmas.{entry_of}
use Rattle.go_block_core.proofs.package_block.exported_of.Given as goal

abbrev pub invariant-loop-name : goal.invariant-loop-name
invariant-loop-name l = map name_and_decl l.names.items ++ exported_names (map entry_of (drop l.name-index l.name-items)) ≡ exported_names (block_of l.table)
