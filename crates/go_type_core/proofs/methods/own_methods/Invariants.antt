use Rattle.std.proofs.Common.{◌≡◌, ◌++◌, [], drop, map}
use Rattle.go_table_core.specs.Shown.{member_shown}
use Rattle.go_type_core.specs.Built.{unrepeated_methods}
use Rattle.go_type_core.proofs.methods.own_methods.Given as goal

abbrev pub invariant-loop-method : goal.invariant-loop-method
invariant-loop-method g l = map member_shown l.own.items ++ unrepeated_methods (g.K.Kinds.kinds l.kinds) l.path l.fields l.seen (map member_shown (drop l.method-index l.methods)) ≡ unrepeated_methods (g.K.Kinds.kinds l.kinds) l.path l.fields [] (map member_shown l.methods)
