use Rattle.std.proofs.Common.{◌≡◌, ◌++◌, drop, map}
use Rattle.go_term_core.specs.Shapes.{method_shapes}
use Rattle.go_embed_core.specs.Owners.{methods_found}
use Rattle.go_embed_core.specs.OwnersShown.{named_shown}
use Rattle.go_embed_core.proofs.members.add_interface.Given as goal

abbrev pub invariant-loop-method : goal.invariant-loop-method
invariant-loop-method l = map named_shown l.members.items ++ methods_found l.path (method_shapes (drop l.method-index l.methods)) ≡ map named_shown l.fn.members.items ++ methods_found l.path (method_shapes l.methods)
