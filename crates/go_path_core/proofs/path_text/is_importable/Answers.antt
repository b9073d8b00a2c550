use Rattle.std.proofs.Common.{true, sym, ◌∙◌}
use Rattle.go_path_core.specs.Path.{elements}
use Rattle.go_path_core.proofs.Paths.{open_is}
use Rattle.go_path_core.proofs.path_text.is_importable.Goals as goal

pub returns-then-not-has_internal : goal.returns-then-not-has_internal
returns-then-not-has_internal c = sym (open_is true (elements c.args.from.now) (elements c.args.path.now) (sym c.has_internal.ensures ∙ c.if-not-has_internal.true))
