use Rattle.std.proofs.Common.{◌∙◌}
use Rattle.go_scope_stack.proofs.find_hashed.Goals as goal

pub returns : goal.returns
returns c = c.copied.ensures ∙ c.find.ensures
