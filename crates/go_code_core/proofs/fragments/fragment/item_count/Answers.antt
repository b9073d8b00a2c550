use Rattle.std.proofs.Common.{sym, ◌∙◌}
use Rattle.go_code_core.proofs.FragmentsLoops.{counted}
use Rattle.go_code_core.proofs.fragments.fragment.item_count.Goals as goal

pub returns : goal.returns
returns c = c.len.ensures ∙ (c.args.items.now.ok.0 ∙ sym (counted c.args.items.now.items))
