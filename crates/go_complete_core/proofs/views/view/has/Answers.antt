use Rattle.std.proofs.Common.{◌∙◌}
use Rattle.go_complete_core.proofs.ViewsPaths.{any_path}
use Rattle.go_complete_core.proofs.views.view.has.Goals as goal

pub returns : goal.returns
returns c = c.contains.ensures ∙ any_path c.args.path.now c.args.paths.now.keys
