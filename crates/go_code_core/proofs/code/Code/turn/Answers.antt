use Rattle.std.proofs.Common.{◌∙◌}
use Rattle.go_object_core.specs.declared.instructions.instruction.Distance.TheVariants as distances
use Rattle.go_object_core.specs.declared.instructions.instruction.Instruction.TheVariants as instructions
use Rattle.go_code_core.proofs.Turning.{turned}
use Rattle.go_code_core.proofs.code.Code.turn.Goals as goal

pub returns : goal.returns
returns c front rest i e n = turned c.self.inside.instructions.items front rest i (instructions.Jump (distances.Back c.args.back)) c.args.behind (c.self.view_is ∙ e) n
