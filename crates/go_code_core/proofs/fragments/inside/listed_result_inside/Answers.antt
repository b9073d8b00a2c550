use Rattle.go_code_core.proofs.FragmentsLoops.{several_results}
use Rattle.go_code_core.proofs.fragments.inside.listed_result_inside.Goals as goal

pub returns-in_default : goal.returns-in_default
returns-in_default g c = several_results (g.N.CodeNames.looks c.args.names.now) c.as_slice.result.now c.args.params.now.items c.as_slice.ensures.value c.in_default.len_at_least
