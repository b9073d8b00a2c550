use Rattle.std.proofs.Common.{sym, ◌∙◌}
use Rattle.go_branch_core.proofs.laws.branches_give_one.Goals as goal

pub returns : goal.returns
returns c = λ s file known written f one other h k. (k.0 ∙ sym h.0, k.1 ∙ sym h.1, k.2 ∙ sym h.2)
