use Rattle.std.proofs.Common.{◌∙◌}
use Rattle.go_code_core.proofs.FragmentsForms.{signature_with, signature_without}
use Rattle.go_code_core.proofs.fragments.inside.signature_inside.Goals as goal

pub returns-then-params_inside : goal.returns-then-params_inside
returns-then-params_inside g c =
    signature_with (g.N.CodeNames.looks c.args.names.now) c.args.signature.now c.params_inside.result c.results_inside.result c.params_inside.ensures c.if-params_inside.true c.results_inside.ensures

pub returns-else-params_inside : goal.returns-else-params_inside
returns-else-params_inside g c = c.if-params_inside.false ∙ signature_without (g.N.CodeNames.looks c.args.names.now) c.args.signature.now c.params_inside.result c.params_inside.ensures c.if-params_inside.false
