use Rattle.std.proofs.Common.{◌∙◌}
use Rattle.go_select_core.proofs.ListedNames.{found_by}
use Rattle.go_select_core.proofs.names.Names.find.Goals as goal

pub returns : goal.returns
returns c = c.copied.ensures ∙ (c.get.ensures.value ∙ found_by c.args.self.now.known.entries c.args.id)
