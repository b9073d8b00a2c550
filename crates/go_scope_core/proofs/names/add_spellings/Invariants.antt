use Rattle.std.proofs.Common.{◌≡◌, map, drop}
use Rattle.go_universe_core.specs.Universe.{spelling_of}
use Rattle.go_block_core.specs.scope_stack.Blocks.{list_names}
use Rattle.go_scope_core.proofs.names.add_spellings.Given as goal

abbrev pub invariant-loop-name : goal.invariant-loop-name
invariant-loop-name l = list_names l.names (map spelling_of (drop l.name-index l.predeclared)) ≡ list_names l.fn.names (map spelling_of l.predeclared)
