use Rattle.std.proofs.Common.{◌≡◌, ◌++◌, drop, map}
use Rattle.go_type_core.specs.table_core.Shown.{member_shown}
use Rattle.go_embed_core.specs.Faults.{declared_faults}
use Rattle.go_embed_core.proofs.faults.add_declared.Given as goal

abbrev pub invariant-loop-method : goal.invariant-loop-method
invariant-loop-method g l = l.faults.items ++ declared_faults (g.K.Kinds.kinds l.kinds) l.path l.fields l.passed (map member_shown (drop l.method-index l.methods)) ≡ l.fn.faults.items ++ declared_faults (g.K.Kinds.kinds l.kinds) l.path l.fields l.fn.passed (map member_shown l.methods)
