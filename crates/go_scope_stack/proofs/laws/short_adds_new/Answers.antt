use Rattle.go_scope_stack.proofs.Shorts.{short_adds_new}
use Rattle.go_scope_stack.proofs.laws.short_adds_new.Goals as goal

pub returns : goal.returns
returns g c = short_adds_new _
