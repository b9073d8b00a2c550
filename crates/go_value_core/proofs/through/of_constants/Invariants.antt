use Rattle.std.proofs.Common.{◌≡◌, ◌++◌, map, drop}
use Rattle.go_value_core.specs.Package.{placed_shown}
use Rattle.go_value_core.specs.mirrors.Kept.{constant_flags}
use Rattle.go_value_core.proofs.through.of_constants.Given as goal

abbrev pub invariant-loop-at : goal.invariant-loop-at
invariant-loop-at l = l.kept.items ++ constant_flags (drop l.at l.flags) (map placed_shown (drop l.at l.decls)) ≡ constant_flags l.flags (map placed_shown l.decls)
