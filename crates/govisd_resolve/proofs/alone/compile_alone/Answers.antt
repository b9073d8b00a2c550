use Rattle.std.proofs.Common.{map, ap, ◌∙◌}
use Rattle.std.proofs.lemmas.Result.{IfOk-weaker}
use Rattle.go_block_core.specs.Naming.{imported_in}
use Rattle.go_package_core.specs.package_part.Inputs.{input_with}
use Rattle.govisd_resolve.proofs.Putting.{none_reached}
use Rattle.govisd_resolve.proofs.alone.compile_alone.Goals as goal

pub new-requires-clause-reached : goal.new-requires-clause-reached
new-requires-clause-reached c = none_reached c.args.«package».0 c.none-reached.result c.none-reached.ensures

pub returns : goal.returns
returns c =
    IfOk-weaker c.compile_part.result _ _
    (λ p same. same ∙ (c.in_ok-input.ensures ∙ ap (λ l. input_with c.args.«package» (map imported_in c.args.imports.items) l) c.none-reached.ensures)) c.compile_part.ensures.input
