use Rattle.std.proofs.Common.{◌≡◌, drop, map}
use Rattle.go_type_core.specs.table_core.Shown.{member_shown}
use Rattle.go_embed_core.specs.mirrors.Passing.{is_one_hiding}
use Rattle.go_embed_core.proofs.hidden.is_one_hiding.Given as goal

abbrev pub invariant-loop-method : goal.invariant-loop-method
invariant-loop-method l = is_one_hiding l.path l.fields (map member_shown (drop l.method-index l.methods)) ≡ is_one_hiding l.path l.fields (map member_shown l.methods)
