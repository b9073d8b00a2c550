use Rattle.std.proofs.Common.{◌≡◌, ◌++◌, drop, map}
use Rattle.go_type_core.specs.table_core.Shown.{member_shown}
use Rattle.go_embed_core.specs.Owners.{declared_found}
use Rattle.go_embed_core.specs.OwnersShown.{named_shown}
use Rattle.go_embed_core.proofs.members.add_methods.Given as goal

abbrev pub invariant-loop-method : goal.invariant-loop-method
invariant-loop-method l = map named_shown l.members.items ++ declared_found l.path (map member_shown (drop l.method-index l.methods)) ≡ map named_shown l.fn.members.items ++ declared_found l.path (map member_shown l.methods)
