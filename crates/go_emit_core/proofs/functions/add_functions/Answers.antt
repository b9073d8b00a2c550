use Rattle.std.proofs.Common.{refl}
use Rattle.go_emit_core.proofs.Passing.{none_before}
use Rattle.go_emit_core.proofs.functions.add_functions.Goals as goal

pub loop-decl-init : goal.loop-decl-init
loop-decl-init c = (none_before c.args.file.now.answers.now, refl)
