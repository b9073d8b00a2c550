use Rattle.std.proofs.Common.{arith}
use Rattle.std.proofs.lemmas.Grind.{common_steps}
use Rattle.go_block_core.proofs.DeclLemmas.{procedure_parts}
use Rattle.go_block_core.proofs.decls.is_procedure.Goals as goal

pub returns-then-is_empty : goal.returns-then-is_empty
returns-then-is_empty c = let e = procedure_parts c.args.signature.now in grind (arith, common_steps, e)

pub returns-else-is_empty : goal.returns-else-is_empty
returns-else-is_empty c = let e = procedure_parts c.args.signature.now in grind (arith, common_steps, e)
