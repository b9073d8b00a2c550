use Rattle.std.proofs.Common.{◌≡◌, ◌++◌, map, drop}
use Rattle.go_block_core.specs.Tables.{block_of, names_in}
use Rattle.go_block_core.proofs.TableLemmas.{entry_of}
use Rattle.go_block_core.proofs.table.names_in.Given as goal

abbrev pub invariant-loop-name : goal.invariant-loop-name
invariant-loop-name g l = map (λ n. n.now) l.names.items ++ names_in (map entry_of (drop l.name-index l.name-items)) ≡ names_in (block_of l.table)
